use Rattle.std.proofs.Common.{◌≡◌, vec_len}
use Rattle.lane_pool.proofs.tests.map_methods.Given as goal

abbrev pub invariant-loop : goal.invariant-loop
invariant-loop l = vec_len l.methods ≡ l.counter
