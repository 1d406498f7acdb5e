use Rattle.std.proofs.Common.{◌≡◌, drop}
use Rattle.acq_outside.specs.Tree.{file_at}
use Rattle.acq_memory.proofs.mem_tree.find.Given as goal

-- none of the files before is the one
abbrev pub invariant-loop-file : goal.invariant-loop-file
invariant-loop-file l = file_at (drop l.file-index l.files) l.path ≡ file_at l.files l.path
