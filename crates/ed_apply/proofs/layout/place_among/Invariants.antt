use Rattle.std.proofs.Common.{◌≡◌, nat_eq, length, take}
use Rattle.std.specs.List.{position_or_len}
use Rattle.ed_apply.specs.Segments.{numbers}
use Rattle.ed_apply.proofs.layout.place_among.Given as goal

abbrev pub invariant-loop-segment : goal.invariant-loop-segment
invariant-loop-segment l =
    (l.before ≡ length (numbers (take l.segment-index l.segments)))
    × (position_or_len (λ number. nat_eq number l.line) (numbers (take l.segment-index l.segments)) ≡ l.before)
