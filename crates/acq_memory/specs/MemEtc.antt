-- What a configuration folder in memory shows.
use Rattle.std.specs.Prelude.{ℕ, Option, Some}
use Rattle.acq_outside.specs.Etc.{EtcFiles}
use Rattle.acq_memory.specs.declared.failing.Failing.{Failing}
use Rattle.acq_memory.specs.declared.mem_etc.MemEtc.{MemEtc}

abbrev pub files_of : MemEtc → EtcFiles
files_of etc = etc.files

abbrev pub failing_of : MemEtc → Failing
failing_of etc = etc.failing

-- how often it failed, and the files that it tells
abbrev pub faults_of : MemEtc → ℕ
faults_of etc = etc.failing.faults

abbrev pub told_files : MemEtc → Option EtcFiles
told_files etc = Some etc.files
