use Rattle.std.proofs.Common.{◌≡◌, length}
use Rattle.acq_outside.specs.Tree.{paths_differ}
use Rattle.acq_memory.proofs.mem_tree.paths_differ.Given as goal

abbrev pub invariant-loop-file : goal.invariant-loop-file
invariant-loop-file l = paths_differ l.rest ≡ paths_differ l.files

abbrev pub decreases-loop-file : goal.decreases-loop-file
decreases-loop-file l = length l.rest
