use Rattle.std.proofs.Common.{take}
use Rattle.target_plan.specs.Marks.{MarksFiles}
use Rattle.target_plan.proofs.overfull.mark_files.Given as goal

abbrev pub invariant-loop-component : goal.invariant-loop-component
invariant-loop-component l = MarksFiles l.folder (take l.component-index l.components) l.tails l.fn.digests.items l.digests.items
