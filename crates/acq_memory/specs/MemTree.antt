-- What a tree in memory shows.
use Rattle.std.specs.Prelude.{ℕ, Option, Some}
use Rattle.acq_outside.specs.Tree.{TreeFiles}
use Rattle.acq_memory.specs.declared.failing.Failing.{Failing}
use Rattle.acq_memory.specs.declared.mem_tree.MemTree.{MemTree}

abbrev pub files_of : MemTree → TreeFiles
files_of tree = tree.files

abbrev pub failing_of : MemTree → Failing
failing_of tree = tree.failing

-- how often it failed, and the files that it tells
abbrev pub faults_of : MemTree → ℕ
faults_of tree = tree.failing.faults

abbrev pub told_files : MemTree → Option TreeFiles
told_files tree = Some tree.files
