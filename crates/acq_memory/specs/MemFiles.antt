-- What written files in memory show.
use Rattle.std.specs.Prelude.{ℕ, Option, Some, None}
use Rattle.acq_outside.specs.Disk.{Files}
use Rattle.acq_memory.specs.Held.{files_in}
use Rattle.acq_memory.specs.declared.failing.Failing.{Failing}
use Rattle.acq_memory.specs.declared.mem_files.MemFiles.{MemFiles}

-- no name has a file
abbrev pub no_files : Files
no_files = λ name. None

-- its files by name
abbrev pub files_of : MemFiles → Files
files_of files = files_in files.held

-- it tells them
abbrev pub told_files : MemFiles → Option Files
told_files files = Some (files_of files)

abbrev pub failing_of : MemFiles → Failing
failing_of files = files.failing

-- how often it failed
abbrev pub faults_of : MemFiles → ℕ
faults_of files = files.failing.faults
