use Rattle.std.proofs.Common.{◌≡◌, true, IsSome}
use Rattle.lane_pool.specs.Pool.{own_fetch}
use Rattle.lane_pool.specs.Working.{is_piece}
use Rattle.lane_pool.proofs.tests.own.Given as goal

abbrev pub invariant-loop : goal.invariant-loop
invariant-loop g l = is_piece l.word ≡ true → IsSome (own_fetch l.lanes)
