use Rattle.std.proofs.Common.{◌≡◌, ◌-◌, ◌≤◌, length, drop, nat_cmp}
use Rattle.std.specs.Cmp.Lexicographic.{slice_cmp}
use Rattle.std.specs.Str.{str_to_ascii_lowercase}
use Rattle.deb822_text.proofs.names.compare.Given as goal

abbrev pub invariant-loop-at : goal.invariant-loop-at
invariant-loop-at l =
    (l.at ≤ length l.a) × (l.at ≤ length l.b)
    × (slice_cmp nat_cmp (str_to_ascii_lowercase (drop l.at l.a)) (str_to_ascii_lowercase (drop l.at l.b)) ≡ slice_cmp nat_cmp (str_to_ascii_lowercase l.a) (str_to_ascii_lowercase l.b))

abbrev pub decreases-loop-at : goal.decreases-loop-at
decreases-loop-at l = length l.a - l.at
