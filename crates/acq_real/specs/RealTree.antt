-- What a real tree shows.
use Rattle.std.specs.Prelude.{ℕ}
use Rattle.acq_real.specs.declared.tree.RealTree.{RealTree}

abbrev pub faults_of : {R : Type 0} → RealTree R → ℕ
faults_of tree = tree.faults
