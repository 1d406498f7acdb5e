use Rattle.std.proofs.Common.{◌≡◌, ◌+◌, length, take, arith}
use Rattle.ed_apply.specs.Segments.{numbers}
use Rattle.ed_apply.specs.declared.segment.Segment.{Segment}
use Rattle.ed_apply.proofs.Layouts.{length-more}
use Rattle.ed_apply.proofs.layout.count_lines.Goals as goal

pub loop-segment-preserved : goal.loop-segment-preserved
loop-segment-preserved c =
    let d : Segment = record { from = 0; to = 0 } in
    let loop = c.loop-segment in
    let here = c.len.ensures in
    let sum = c.in-Some.ensures in
    let so_far = loop.invariant in
    let more = length-more c.args.segments.now loop.segment-index d c.loop-segment-test.true in
    let total : c.in-Some.sum ≡ length (numbers (take (loop.segment-index + 1) c.args.segments.now)) = omega (arith, here, sum, so_far, more) in
    total
