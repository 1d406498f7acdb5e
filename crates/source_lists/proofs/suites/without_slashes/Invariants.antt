-- Only slashes are dropped so far.
use Rattle.std.proofs.Common.{◌≡◌, length}
use Rattle.source_lists.specs.Values.{without_slashes}
use Rattle.source_lists.proofs.suites.without_slashes.Given as goal

abbrev pub invariant-loop-rest : goal.invariant-loop-rest
invariant-loop-rest l = without_slashes l.rest ≡ without_slashes l.text

abbrev pub decreases-loop-rest : goal.decreases-loop-rest
decreases-loop-rest l = length l.rest
