use Rattle.std.proofs.Common.{ℤ, w64, arith, subst, sym}
use Rattle.std.proofs.lemmas.Int.{to_z-of_z}
use Rattle.update_engine.specs.Run.{KeepsMethods, RunsBetween, engine, engine_over, run_of}
use Rattle.update_engine.proofs.Begins.{none_told_back, told_back}
use Rattle.update_engine.proofs.Over.{keeps_back, keeps_same, new_pool, runs_back, unstarted}
use Rattle.update_engine.proofs.top.run_update.Goals as goal

pub run_over-result-requires-clause-lanes : goal.run_over-result-requires-clause-lanes
run_over-result-requires-clause-lanes g c κs within = new_pool g.M.Method.world g.M.Method.faults g.M.Method.under c.args.methods.now.items c.in_ok-lanes.lanes (omega (arith, c.requires.methods.0, c.args.methods.now.ok.0)) c.in_ok-lanes.ensures.worlds c.in_ok-lanes.ensures.counts c.in_ok-lanes.ensures.outs

pub returns-in_err-lanes-clause-methods : goal.returns-in_err-lanes-clause-methods
returns-in_err-lanes-clause-methods g c = subst (λ (ms : _). KeepsMethods (engine g.D.Disk g.M.Method c.args.disk.now c.args.methods.now.items) (engine g.D.Disk g.M.Method c.args.disk.now ms.items)) (sym c.in_err-lanes.ensures.unchanged) (keeps_same _ _ _ _)

pub returns-in_err-lanes-clause-run : goal.returns-in_err-lanes-clause-run
returns-in_err-lanes-clause-run g c = record { between = unstarted _ _ _ _ _ _ _ _ c.from_residual.ensures.1; begins = none_told_back _ _ _ c.from_residual.ensures.1 }

pub returns-clause-methods : goal.returns-clause-methods
returns-clause-methods g c = keeps_back c.in_ok-lanes.lanes c.run_over-result.new.lanes _ _ _ _ _ _ c.in_ok-lanes.ensures.worlds c.in_ok-lanes.ensures.counts c.run_over-result.ensures.methods c.finish.ensures.worlds c.finish.ensures.counts

pub returns-clause-run : goal.returns-clause-run
returns-clause-run g c = record {
  between = runs_back _ _ _ _ c.in_ok-lanes.lanes c.run_over-result.new.lanes _ _ _ _ _ c.in_ok-lanes.ensures.worlds c.in_ok-lanes.ensures.counts c.finish.ensures.counts
      (subst (λ (z : ℤ). RunsBetween g.D.Disk (run_of c.args.plan c.args.settings c.args.judge.now.change z c.args.together) c.args.disk.now c.run_over-result.new.disk (engine_over g.D.Disk c.args.disk.now c.in_ok-lanes.lanes)
      (engine_over g.D.Disk c.run_over-result.new.disk c.run_over-result.new.lanes) c.run_over-result.result) (to_z-of_z w64 c.args.now c.ranges.now) c.run_over-result.ensures.run);
  begins = told_back c.in_ok-lanes.lanes c.run_over-result.new.lanes _ _ _ c.in_ok-lanes.ensures.begins c.finish.ensures.begins c.run_over-result.ensures.begins;
}
