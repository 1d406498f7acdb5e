-- What is written so far, and what the rest gives.
use Rattle.std.proofs.Common.{◌≡◌, ◌++◌, length}
use Rattle.source_lists.specs.Values.{replaced}
use Rattle.source_lists.proofs.suites.replaced.Given as goal

abbrev pub invariant-loop-rest : goal.invariant-loop-rest
invariant-loop-rest l = l.whole ++ replaced l.arch l.rest ≡ replaced l.arch l.text

abbrev pub decreases-loop-rest : goal.decreases-loop-rest
decreases-loop-rest l = length l.rest
