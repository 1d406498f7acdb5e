use Rattle.std.proofs.Common.{◌≡◌, map, take}
use Rattle.target_plan.proofs.ManyNames.{folder_digest}
use Rattle.target_plan.proofs.overfull.are_alone.Given as goal

abbrev pub invariant-loop-entry : goal.invariant-loop-entry
invariant-loop-entry l = l.digests.items ≡ map folder_digest (take l.entry-index l.entries)
