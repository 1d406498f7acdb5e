use Rattle.std.proofs.Common.{◌≡◌, ◌++◌, length, map}
use Rattle.report_text.proofs.whole.copies.Given as goal

abbrev pub invariant-loop-name : goal.invariant-loop-name
invariant-loop-name l = l.copies.items ++ map (λ name. name.0) l.rest ≡ map (λ name. name.0) l.names

abbrev pub decreases-loop-name : goal.decreases-loop-name
decreases-loop-name l = length l.rest
