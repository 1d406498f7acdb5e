-- What a real input shows.
use Rattle.std.specs.Prelude.{ℕ}
use Rattle.acq_real.specs.declared.inlet.RealInlet.{RealInlet}

abbrev pub faults_of : {R : Type 0} → RealInlet R → ℕ
faults_of inlet = inlet.faults

-- how often the end was given
abbrev pub ends_of : {R : Type 0} → RealInlet R → ℕ
ends_of inlet = inlet.ends

-- what it reads from
abbrev pub reader_of : {R : Type 0} → RealInlet R → R
reader_of inlet = inlet.reader
