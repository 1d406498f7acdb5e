use Rattle.std.proofs.Common.{◌≡◌, length}
use Rattle.deb822_text.specs.Written.{are_distinct}
use Rattle.deb822_text.proofs.judging.distinct.Given as goal

abbrev pub invariant-loop-first : goal.invariant-loop-first
invariant-loop-first l = are_distinct l.rest ≡ are_distinct l.fields

abbrev pub decreases-loop-first : goal.decreases-loop-first
decreases-loop-first l = length l.rest
