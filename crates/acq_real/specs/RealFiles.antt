-- What real written files show.
use Rattle.std.specs.Prelude.{ℕ}
use Rattle.acq_real.specs.declared.files.RealFiles.{RealFiles}

abbrev pub faults_of : {R : Type 0} → RealFiles R → ℕ
faults_of files = files.faults
