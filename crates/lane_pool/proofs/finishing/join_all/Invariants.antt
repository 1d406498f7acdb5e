use Rattle.std.proofs.Common.{◌≡◌, ◌≤◌, ◌++◌, vec_capacity, length}
use Rattle.lane_pool.proofs.Joins.{AreJoined}
use Rattle.lane_pool.proofs.finishing.join_all.Given as goal

abbrev pub invariant-loop-lane : goal.invariant-loop-lane
invariant-loop-lane g l = record {
  joined : AreJoined g.M.Method.world g.M.Method.faults g.M.Method.begins l.fn.replies l.desk l.fn.all.items l.yielded l.all.items;
  rest : l.fn.lanes.items ≡ l.yielded ++ l.lane-iterator.rest.items;
  len : l.lane-iterator.rest.len ≡ length l.lane-iterator.rest.items;
  room : vec_capacity l.fn.all ≤ vec_capacity l.all;
}
