use Rattle.std.proofs.Common.{◌≡◌, ◌-◌, ◌++◌, length, reverse, vec_len}
use Rattle.ed_apply.specs.Segments.{numbers}
use Rattle.ed_apply.proofs.segment.move_back.Given as goal

abbrev pub invariant-loop-count : goal.invariant-loop-count
invariant-loop-count l =
    (numbers l.left.items ++ numbers (reverse l.kept.items) ≡ numbers l.initial.left.items ++ numbers (reverse l.initial.kept.items))
    × (length (numbers l.left.items) - l.count ≡ length (numbers l.initial.left.items) - l.fn.count)

abbrev pub decreases-loop-count : goal.decreases-loop-count
decreases-loop-count l = vec_len l.left
