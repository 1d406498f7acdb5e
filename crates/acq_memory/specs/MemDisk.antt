-- What a disk in memory shows.
use Rattle.std.specs.Prelude.{ℕ, Bool, List}
use Rattle.acq_outside.specs.Disk.{Files}
use Rattle.acq_outside.specs.Crash.{State, trace_of}
use Rattle.acq_outside.specs.History.{Past, files_of}
use Rattle.acq_memory.specs.declared.failing.Failing.{Failing}
use Rattle.acq_memory.specs.declared.mem_disk.MemDisk.{MemDisk}

abbrev pub past_of : MemDisk → Past
past_of disk = disk.history

abbrev pub failing_of : MemDisk → Failing
failing_of disk = disk.failing

-- how often it failed
abbrev pub faults_of : MemDisk → ℕ
faults_of disk = disk.failing.faults

-- its files as reads give them, and the states that it has had
abbrev pub files_in : MemDisk → Files
files_in disk = files_of (past_of disk)

abbrev pub trace_in : MemDisk → List State
trace_in disk = trace_of (past_of disk)

-- whether another process holds it
abbrev pub held_of : MemDisk → Bool
held_of disk = disk.held

-- how often a call found it held
abbrev pub times_held : MemDisk → ℕ
times_held disk = disk.times_held
