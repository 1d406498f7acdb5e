use Rattle.std.proofs.Common.{◌≡◌}
use Rattle.crossbeam_channel.specs.Claims.{view, IsSeatAt}
use Rattle.crossbeam_channel.specs.Ends.{sends_on}
use Rattle.acq_outside.specs.Count.{one_more}
use Rattle.acq_outside.specs.Fetches.{Fetches}
use Rattle.lane_pool.specs.Working.{IsWorker}
use Rattle.lane_pool.proofs.Heard.{IsNext}
use Rattle.lane_pool.proofs.work.answer.Given as goal

abbrev pub invariant-loop : goal.invariant-loop
invariant-loop g l = record {
  seat : IsSeatAt (sends_on l.sends) l.pass;
  pass : IsWorker l.lane (view l.pass) (g.M.Method.world l.method) (g.M.Method.faults l.method);
  next : IsNext (view l.pass).last (g.M.Method.faults l.method) (g.M.Method.world l.method) l.job (g.M.Method.under l.method) l.word;
  frame : Fetches g.M.Method l.fn.method l.method;
  begins : g.M.Method.begins l.method ≡ one_more (g.M.Method.begins l.fn.method);
}
