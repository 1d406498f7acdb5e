use Rattle.std.proofs.Common.{◌≡◌, ◌+◌, ◌≤◌, ◌++◌, All, None, map, length, vec_len, vec_capacity}
use Rattle.crossbeam_channel.specs.Ends.{sends_on}
use Rattle.lane_pool.specs.Counting.{counted_on}
use Rattle.lane_pool.specs.Refinement.{AreLanes}
use Rattle.lane_pool.proofs.starting.open_lanes.Given as goal

abbrev pub invariant-loop-method : goal.invariant-loop-method
invariant-loop-method g l = record {
  opened : AreLanes g.M.Method.world l.replies l.lanes.items;
  sends : l.replies.sends ≡ l.fn.replies.sends;
  number : l.number ≡ length l.yielded + 1;
  len : vec_len l.lanes ≡ length l.yielded;
  rest : l.fn.methods.items ≡ l.yielded ++ l.method-iterator.rest.items;
  left : l.method-iterator.rest.len ≡ length l.method-iterator.rest.items;
  room : vec_capacity l.fn.lanes ≤ vec_capacity l.lanes;
  kits : length l.kits.items ≡ length l.method-iterator.rest.items;
  each : All (λ kit. (sends_on kit.sends ≡ sends_on l.fn.replies.sends) × (kit.slot ≡ None)) l.kits.items;
  worlds : map (λ lane. g.M.Method.world lane.worker.promise.method.value) l.lanes.items ≡ map g.M.Method.world l.yielded;
  counts : map (λ lane. lane.last) l.lanes.items ≡ map g.M.Method.faults l.yielded;
  begins : map (λ lane. counted_on (g.M.Method.begins lane.worker.promise.method.value) lane.worker.handed) l.lanes.items ≡ map g.M.Method.begins l.yielded;
  outs : map (λ lane. lane.slot) l.lanes.items ≡ map (λ method. None) l.yielded;
}
