use Rattle.std.proofs.Common.{◌≡◌, ◌+◌, ◌++◌, length, take}
use Rattle.ed_apply.specs.Edits.{file_lines}
use Rattle.ed_apply.specs.Segments.{ends_from}
use Rattle.ed_apply.proofs.known.add_ends.Given as goal

abbrev pub invariant-loop-rest : goal.invariant-loop-rest
invariant-loop-rest l =
    (l.at + length l.rest ≡ l.base + length l.text)
    × (l.ends.items ++ ends_from l.at (file_lines l.rest) ≡ l.initial.ends.items ++ ends_from l.base (file_lines l.text))
    × (take (length l.initial.ends.items) l.ends.items ≡ l.initial.ends.items)

abbrev pub decreases-loop-rest : goal.decreases-loop-rest
decreases-loop-rest l = length l.rest
