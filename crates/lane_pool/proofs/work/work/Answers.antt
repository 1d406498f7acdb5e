use Rattle.std.proofs.Common.{◌∙◌, Option, ap, arith}
use Rattle.crossbeam_channel.specs.Claims.{view, Pass}
use Rattle.acq_base.specs.declared.fetch.Job.{Job}
use Rattle.lane_pool.specs.declared.job_rule.Tally.{Tally}
use Rattle.lane_pool.specs.declared.jobs.JobsIn.{JobsIn}
use Rattle.lane_pool.proofs.Counted.{same_begun, next_begun}
use Rattle.lane_pool.proofs.work.work.Goals.{in-None, in-Some+in_default, in-Some+in-Some-next+then-not-answer}
use Rattle.lane_pool.proofs.work.work.Goals as goal

pub loop-preserved : goal.loop-preserved
loop-preserved g c =
    let i = c.loop.invariant in
    let a = c.answer.ensures in
    record {
      seat = a.seat;
      pass = a.pass;
      frame = record { count = let m = i.frame.count in let n = a.frame.count in omega arith; same = a.frame.same ∙ i.frame.same };
      receives = c.next-in-loop.ensures.receives ∙ i.receives;
      begins = next_begun _ _ _ _ _ a.begins c.in-Some-next.ensures.some i.begins;
    }

pub returns-clause-begins : goal.returns-clause-begins
returns-clause-begins g c =
    let i = c.loop.invariant in
    let s = ap (λ (p : Pass (Option Job) Tally). (view p).received) c.close-jobs.ensures.same in
    elim c.match-next.branch [
      | in-None w ↦ same_begun _ _ _ _ _ (ap g.M.Method.begins w.method-is) (s ∙ ap (λ (j : JobsIn). (view j.pass).received) w.jobs-is) i.begins
      | in-Some+in_default w ↦ same_begun _ _ _ _ _ (ap g.M.Method.begins w.method-is) (s ∙ ap (λ (j : JobsIn). (view j.pass).received) w.jobs-is ∙ w.in_default.ensures.none) i.begins
      | in-Some+in-Some-next+then-not-answer w ↦ next_begun _ _ _ _ _ (ap g.M.Method.begins w.method-is ∙ w.answer.ensures.begins) (s ∙ ap (λ (j : JobsIn). (view j.pass).received) w.jobs-is ∙ w.in-Some-next.ensures.some) i.begins
    ]
