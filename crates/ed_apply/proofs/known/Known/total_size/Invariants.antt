use Rattle.std.proofs.Common.{◌≡◌, take}
use Rattle.std.specs.List.{sum_by}
use Rattle.ed_apply.specs.Segments.{segment_size}
use Rattle.ed_apply.proofs.known.Known.total_size.Given as goal

abbrev pub invariant-loop-segment : goal.invariant-loop-segment
invariant-loop-segment l = l.total ≡ sum_by (segment_size l.self.ends.items) (take l.segment-index l.segments)
