use Rattle.std.proofs.Common.{◌≡◌, take}
use Rattle.std.specs.Prelude.{fold}
use Rattle.target_plan.specs.Marks.{step}
use Rattle.target_plan.proofs.marks.over.Given as goal

abbrev pub invariant-loop-byte : goal.invariant-loop-byte
invariant-loop-byte l = l.mark ≡ fold step l.fn.front (take l.byte-index l.bytes)
