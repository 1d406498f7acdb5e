use Rattle.std.proofs.Common.{◌≡◌, vec_len}
use Rattle.lane_pool.proofs.tests.gates.Given as goal

abbrev pub invariant-loop-number : goal.invariant-loop-number
invariant-loop-number l = vec_len l.gates ≡ l.number
