use Rattle.std.proofs.Common.{◌<◌, ◌^◌, reverse}
use Rattle.ed_apply.specs.Segments.{numbers}
use Rattle.ed_apply.proofs.Changes.{IsAt}
use Rattle.ed_apply.proofs.changing.rearranged.Given as goal

abbrev pub invariant-loop-hunk : goal.invariant-loop-hunk
invariant-loop-hunk l =
    IsAt l.layout.joined l.hunks l.hunk-index l.fn.known.ends.items l.fn.known.texts.items (numbers l.layout.segments.items) l.known.ends.items l.known.texts.items (numbers l.rows.left.items) (numbers (reverse l.rows.kept.items)) l.lines
    × (l.lines < 2 ^ 64)
