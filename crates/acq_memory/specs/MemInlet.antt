-- What an input in memory shows.
use Rattle.std.specs.Prelude.{ℕ, List, drop, Option, Some}
use Rattle.acq_memory.specs.declared.failing.Failing.{Failing}
use Rattle.acq_memory.specs.declared.mem_inlet.MemInlet.{MemInlet}

-- the bytes still to come
abbrev pub left_of : MemInlet → List ℕ
left_of inlet = drop inlet.at inlet.bytes

-- it tells them
abbrev pub told_left : MemInlet → Option (List ℕ)
told_left inlet = Some (left_of inlet)

abbrev pub failing_of : MemInlet → Failing
failing_of inlet = inlet.failing

-- how often it failed
abbrev pub faults_of : MemInlet → ℕ
faults_of inlet = inlet.failing.faults

-- how often the end was given
abbrev pub ends_of : MemInlet → ℕ
ends_of inlet = inlet.ends
