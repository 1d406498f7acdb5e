use Rattle.std.proofs.Common.{◌≡◌}
use Rattle.acq_outside.specs.Count.{NoneFell}
use Rattle.lane_pool.proofs.lanes.Lanes.drain.Given as goal

abbrev pub invariant-loop : goal.invariant-loop
invariant-loop g l = record {
  worlds : l.self.worlds ≡ l.fn.self.worlds;
  counts : NoneFell l.fn.self.counts l.self.counts;
  begins : l.self.begins ≡ l.fn.self.begins;
}
