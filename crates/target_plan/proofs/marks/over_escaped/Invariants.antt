use Rattle.std.proofs.Common.{◌≡◌, take}
use Rattle.std.specs.Prelude.{fold}
use Rattle.target_plan.specs.Marks.{step, escaped}
use Rattle.target_plan.proofs.marks.over_escaped.Given as goal

abbrev pub invariant-loop-byte : goal.invariant-loop-byte
invariant-loop-byte l = l.mark ≡ fold step l.fn.front (escaped (take l.byte-index l.bytes))
