use Rattle.std.proofs.Common.{◌≡◌, length}
use Rattle.acq_outside.specs.History.{names_differ}
use Rattle.acq_memory.proofs.start.names_differ.Given as goal

abbrev pub invariant-loop-file : goal.invariant-loop-file
invariant-loop-file l = names_differ l.rest ≡ names_differ l.files

abbrev pub decreases-loop-file : goal.decreases-loop-file
decreases-loop-file l = length l.rest
