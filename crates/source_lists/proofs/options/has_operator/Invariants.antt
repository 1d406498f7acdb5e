-- No operator stands before the rest.
use Rattle.std.proofs.Common.{◌≡◌, length}
use Rattle.source_lists.specs.OneLine.{has_operator}
use Rattle.source_lists.proofs.options.has_operator.Given as goal

abbrev pub invariant-loop-rest : goal.invariant-loop-rest
invariant-loop-rest l = has_operator l.rest ≡ has_operator l.word

abbrev pub decreases-loop-rest : goal.decreases-loop-rest
decreases-loop-rest l = length l.rest
