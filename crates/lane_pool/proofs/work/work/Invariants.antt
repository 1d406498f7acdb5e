use Rattle.std.proofs.Common.{◌≡◌}
use Rattle.crossbeam_channel.specs.Claims.{view, IsSeatAt}
use Rattle.crossbeam_channel.specs.Ends.{sends_on}
use Rattle.acq_outside.specs.Fetches.{Fetches}
use Rattle.lane_pool.specs.Counting.{counted_on}
use Rattle.lane_pool.specs.Working.{IsWorker}
use Rattle.lane_pool.proofs.work.work.Given as goal

abbrev pub invariant-loop : goal.invariant-loop
invariant-loop g l = record {
  seat : IsSeatAt (sends_on l.sends) l.pass;
  pass : IsWorker l.lane (view l.pass) (g.M.Method.world l.method) (g.M.Method.faults l.method);
  frame : Fetches g.M.Method l.fn.method l.method;
  receives : l.jobs.receives ≡ l.fn.jobs.receives;
  begins : g.M.Method.begins l.method ≡ counted_on (g.M.Method.begins l.fn.method) (view l.jobs.pass).received;
}
