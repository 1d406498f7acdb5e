use Rattle.std.proofs.Common.{◌∙◌, ap}
use Rattle.std.proofs.lemmas.Result.{on_ok_weaker}
use Rattle.lane_jobs.proofs.Begun.{begun_alone}
use Rattle.lane_jobs.proofs.Steps.{goes_alone}
use Rattle.lane_jobs.proofs.taking.take_word.Goals as goal
use Rattle.lane_jobs.proofs.taking.take_word.Goals.{then-not-is_alone+in_default, else-not-is_alone}
use Rattle.lane_pool.specs.Pool.{Pool}
use Rattle.lane_jobs.specs.Going.{run_lanes}
use Rattle.update_core.specs.BoardRefinement.{board_of}

pub returns-clause-begins : goal.returns-clause-begins
returns-clause-begins g c = λ first has. elim c.if-not-is_alone.branch [
  | then-not-is_alone+in_default w ↦
      c.fetch_rest.ensures.begins first
      (begun_alone c.args.lanes.now c.if-not-is_alone.lanes c.args.jobs.now c.if-not-is_alone.jobs (board_of c.args.board.now) (ap (λ (p : Pool). p.begins) w.lanes-is ∙ w.take.ensures.begins) (w.jobs-is ∙ w.go_alone.ensures) first has)
  | else-not-is_alone w ↦ c.fetch_rest.ensures.begins first (rw (w.lanes-is, w.jobs-is) has)
]

pub returns-clause-goes : goal.returns-clause-goes
returns-clause-goes g c = elim c.if-not-is_alone.branch [
  | then-not-is_alone+in_default w ↦
      let same = rw w.in_default.is at w.take.ensures.none in
      on_ok_weaker c.fetch_rest.result
      (goes_alone c.args.lanes.now c.if-not-is_alone.lanes c.args.jobs.now c.if-not-is_alone.jobs (board_of c.args.board.now) (run_lanes c.fetch_rest.new.lanes c.fetch_rest.new.jobs (board_of c.fetch_rest.new.board))
      (g.D.Disk.trace c.args.disk.now) (g.D.Disk.trace c.fetch_rest.new.disk) (w.lanes-is ∙ same) (w.jobs-is ∙ w.go_alone.ensures))
      c.fetch_rest.ensures.goes
  | else-not-is_alone w ↦ rw (w.lanes-is, w.jobs-is) at c.fetch_rest.ensures.goes
]
