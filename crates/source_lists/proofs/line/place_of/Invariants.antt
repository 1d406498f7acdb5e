-- No byte so far is the one that is looked for.
use Rattle.std.proofs.Common.{◌≡◌, ◌+◌, ◌-◌, ◌≤◌, nat_eq, length, drop}
use Rattle.std.specs.List.{position_or_len}
use Rattle.source_lists.proofs.line.place_of.Given as goal

abbrev pub invariant-loop-at : goal.invariant-loop-at
invariant-loop-at l = (l.at ≤ length l.text) × (l.at + position_or_len (λ c. nat_eq c l.byte) (drop l.at l.text) ≡ position_or_len (λ c. nat_eq c l.byte) l.text)

abbrev pub decreases-loop-at : goal.decreases-loop-at
decreases-loop-at l = length l.text - l.at
