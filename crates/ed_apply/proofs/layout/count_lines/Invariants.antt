use Rattle.std.proofs.Common.{◌≡◌, length, take}
use Rattle.ed_apply.specs.Segments.{numbers}
use Rattle.ed_apply.proofs.layout.count_lines.Given as goal

abbrev pub invariant-loop-segment : goal.invariant-loop-segment
invariant-loop-segment l = l.lines ≡ length (numbers (take l.segment-index l.segments))
