use Rattle.std.proofs.Common.{◌≡◌, drop}
use Rattle.target_plan.specs.Marks.{plain_from, is_plain}
use Rattle.target_plan.proofs.marks.is_plain.Given as goal

abbrev pub invariant-loop-byte : goal.invariant-loop-byte
invariant-loop-byte l = plain_from l.after_slash (drop l.byte-index l.path) ≡ is_plain l.path
