use Rattle.std.proofs.Common.{take}
use Rattle.target_plan.specs.Marks.{MarksLists}
use Rattle.target_plan.proofs.overfull.mark_lists.Given as goal

abbrev pub invariant-loop-tail : goal.invariant-loop-tail
invariant-loop-tail l = MarksLists l.front (take l.tail-index l.tails) l.fn.digests.items l.digests.items
