use Rattle.std.proofs.Common.{◌∙◌, suc, Bool, None, refl, ap, subst, sym}
use Rattle.acq_base.specs.Uri.{IsSound}
use Rattle.acq_base.specs.declared.fetch.Job.{Job}
use Rattle.acq_outside.specs.Word.{CanBegin, begun}
use Rattle.board_model.proofs.Theorems.{jobs_always_stand}
use Rattle.board_model.specs.Boards.{Board}
use Rattle.lane_jobs.proofs.Begun.{begun_left, begun_out, begun_still, same_out}
use Rattle.lane_jobs.proofs.Given.{given_of, goes_out_given, goes_out_refused, issued_sound, put_is, ready_refused, refused_of, rows_len, unused_refused}
use Rattle.lane_jobs.proofs.Handed.{none_issued}
use Rattle.lane_jobs.proofs.Known.{known}
use Rattle.lane_jobs.proofs.Over.{handed_keeps, keeps_same, keeps_then}
use Rattle.lane_jobs.proofs.Steps.{goes_then}
use Rattle.lane_jobs.proofs.handing.hand_out.Goals as goal
use Rattle.lane_jobs.specs.Begins.{AsksOwn}
use Rattle.lane_jobs.specs.Going.{WasGiven, run_lanes}
use Rattle.lane_jobs.specs.JobsOut.{JobsOut, with_row}
use Rattle.update_core.specs.BoardRefinement.{board_of}

pub returns-in_err-job-clause-methods : goal.returns-in_err-job-clause-methods
returns-in_err-job-clause-methods g c = keeps_same c.args.lanes.now

pub returns-in_default-clause-methods : goal.returns-in_default-clause-methods
returns-in_default-clause-methods g c = keeps_same c.args.lanes.now

pub returns-in_default-clause-goes : goal.returns-in_default-clause-goes
returns-in_default-clause-goes g c =
    rw c.in_ok-job.ensures.board (none_issued known (run_lanes c.args.lanes.now c.args.jobs.now (board_of c.args.board.now)) (g.D.Disk.trace c.args.disk.now) c.args.lane (sym c.in_ok-job.ensures.job ∙ c.in_default.is))

pub returns-in_err-copy-clause-methods : goal.returns-in_err-copy-clause-methods
returns-in_err-copy-clause-methods g c = keeps_same c.args.lanes.now

pub returns-in_err-intake-clause-methods : goal.returns-in_err-intake-clause-methods
returns-in_err-intake-clause-methods g c = keeps_same c.args.lanes.now

pub hand_over-requires-clause-sound : goal.hand_over-requires-clause-sound
hand_over-requires-clause-sound g c κs within =
    let sound = issued_sound known (run_lanes c.args.lanes.now c.args.jobs.now (board_of c.args.board.now)) (g.D.Disk.trace c.args.disk.now) c.args.lane c.in-Some.job c.requires.ready (sym c.in_ok-job.ensures.job ∙ c.in-Some.is) in
    subst (λ (j : Job). IsSound j.uri) (sym c.in_ok-copy.ensures) sound.0

pub hand_over-requires-clause-from : goal.hand_over-requires-clause-from
hand_over-requires-clause-from g c κs within =
    let sound = issued_sound known (run_lanes c.args.lanes.now c.args.jobs.now (board_of c.args.board.now)) (g.D.Disk.trace c.args.disk.now) c.args.lane c.in-Some.job c.requires.ready (sym c.in_ok-job.ensures.job ∙ c.in-Some.is) in
    subst (λ (j : Job). CanBegin j) (sym c.in_ok-copy.ensures) sound.1

pub fetch_left-requires-clause-ready : goal.fetch_left-requires-clause-ready
fetch_left-requires-clause-ready g c κs within =
    let state = run_lanes c.args.lanes.now c.args.jobs.now (board_of c.args.board.now) in
    let jobs_is = put_is state c.args.lane c.in-Some.job (board_of c.issue.new.self) c.in_ok-intake.intake c.put.new.self c.in_ok-job.ensures.board c.in_ok-intake.ensures c.put.ensures in
    let was = refused_of c.put.new.self.alone (suc c.args.lane) (begun c.in_ok-copy.copy) c.args.lanes.now c.hand_over.new.lanes c.hand_over.result c.hand_over.ensures c.if-not-hand_over.true in
    rw (jobs_is, c.in_ok-job.ensures.board) (ready_refused known jobs_always_stand state c.hand_over.new.lanes (g.D.Disk.trace c.args.disk.now) c.args.lane c.in-Some.job c.requires.ready (sym c.in_ok-job.ensures.job ∙ c.in-Some.is) was)

pub fetch_left-requires-clause-unused : goal.fetch_left-requires-clause-unused
fetch_left-requires-clause-unused g c κs within =
    let state = run_lanes c.args.lanes.now c.args.jobs.now (board_of c.args.board.now) in
    let jobs_is = put_is state c.args.lane c.in-Some.job (board_of c.issue.new.self) c.in_ok-intake.intake c.put.new.self c.in_ok-job.ensures.board c.in_ok-intake.ensures c.put.ensures in
    let was = refused_of c.put.new.self.alone (suc c.args.lane) (begun c.in_ok-copy.copy) c.args.lanes.now c.hand_over.new.lanes c.hand_over.result c.hand_over.ensures c.if-not-hand_over.true in
    λ used. unused_refused jobs_always_stand state c.hand_over.new.lanes (g.D.Disk.trace c.args.disk.now) c.args.lane c.in-Some.job c.requires.ready (sym c.in_ok-job.ensures.job ∙ c.in-Some.is) was (ap (λ (jobs : JobsOut). jobs.alone) (sym jobs_is) ∙ used)

pub returns-in_ok-fetch_left-clause-rows : goal.returns-in_ok-fetch_left-clause-rows
returns-in_ok-fetch_left-clause-rows g c = rows_len c.args.lane None c.put.new.self c.fetch_left.new.jobs c.in_ok-fetch_left.ensures.rows ∙ rows_len c.args.lane _ c.args.jobs.now c.put.new.self c.put.ensures

pub returns-in_ok-fetch_left-clause-goes : goal.returns-in_ok-fetch_left-clause-goes
returns-in_ok-fetch_left-clause-goes g c =
    let state = run_lanes c.args.lanes.now c.args.jobs.now (board_of c.args.board.now) in
    let now = g.D.Disk.trace c.args.disk.now in
    let jobs_is = put_is state c.args.lane c.in-Some.job (board_of c.issue.new.self) c.in_ok-intake.intake c.put.new.self c.in_ok-job.ensures.board c.in_ok-intake.ensures c.put.ensures in
    let was = refused_of c.put.new.self.alone (suc c.args.lane) (begun c.in_ok-copy.copy) c.args.lanes.now c.hand_over.new.lanes c.hand_over.result c.hand_over.ensures c.if-not-hand_over.true in
    goes_then state (run_lanes c.hand_over.new.lanes c.put.new.self (board_of c.issue.new.self)) (run_lanes c.fetch_left.new.lanes c.fetch_left.new.jobs (board_of c.fetch_left.new.board)) now now (g.D.Disk.trace c.fetch_left.new.disk) c.fetch_left.ensures.moments
    (rw (jobs_is, c.in_ok-job.ensures.board) (goes_out_refused known jobs_always_stand state c.hand_over.new.lanes now c.args.lane c.in-Some.job (sym c.in_ok-job.ensures.job ∙ c.in-Some.is) was))
    c.in_ok-fetch_left.ensures.goes

pub returns-in_ok-fetch_left-clause-methods : goal.returns-in_ok-fetch_left-clause-methods
returns-in_ok-fetch_left-clause-methods g c =
    keeps_then c.args.lanes.now c.hand_over.new.lanes c.fetch_left.new.lanes (handed_keeps c.put.new.self.alone (suc c.args.lane) (begun c.in_ok-copy.copy) c.args.lanes.now c.hand_over.new.lanes c.hand_over.result c.hand_over.ensures) c.fetch_left.ensures.methods

pub returns-in_err-fetch_left-clause-methods : goal.returns-in_err-fetch_left-clause-methods
returns-in_err-fetch_left-clause-methods g c =
    keeps_then c.args.lanes.now c.hand_over.new.lanes c.fetch_left.new.lanes (handed_keeps c.put.new.self.alone (suc c.args.lane) (begun c.in_ok-copy.copy) c.args.lanes.now c.hand_over.new.lanes c.hand_over.result c.hand_over.ensures) c.fetch_left.ensures.methods

pub returns-else-not-hand_over-clause-methods : goal.returns-else-not-hand_over-clause-methods
returns-else-not-hand_over-clause-methods g c = handed_keeps c.put.new.self.alone (suc c.args.lane) (begun c.in_ok-copy.copy) c.args.lanes.now c.hand_over.new.lanes c.hand_over.result c.hand_over.ensures

pub returns-else-not-hand_over-clause-rows : goal.returns-else-not-hand_over-clause-rows
returns-else-not-hand_over-clause-rows g c = rows_len c.args.lane _ c.args.jobs.now c.put.new.self c.put.ensures

pub returns-else-not-hand_over-clause-goes : goal.returns-else-not-hand_over-clause-goes
returns-else-not-hand_over-clause-goes g c =
    let state = run_lanes c.args.lanes.now c.args.jobs.now (board_of c.args.board.now) in
    let jobs_is = put_is state c.args.lane c.in-Some.job (board_of c.issue.new.self) c.in_ok-intake.intake c.put.new.self c.in_ok-job.ensures.board c.in_ok-intake.ensures c.put.ensures in
    let was = given_of c.put.new.self.alone (suc c.args.lane) (begun c.in_ok-copy.copy) c.args.lanes.now c.hand_over.new.lanes c.hand_over.result c.hand_over.ensures c.if-not-hand_over.false in
    let own = subst (λ (j : Job). WasGiven c.args.jobs.now.alone (suc c.args.lane) (begun j) c.args.lanes.now c.hand_over.new.lanes) c.in_ok-copy.ensures
    (subst (λ (a : Bool). WasGiven a (suc c.args.lane) (begun c.in_ok-copy.copy) c.args.lanes.now c.hand_over.new.lanes) (ap (λ (jobs : JobsOut). jobs.alone) jobs_is) was) in
    rw (jobs_is, c.in_ok-job.ensures.board) (goes_out_given known jobs_always_stand state c.hand_over.new.lanes (g.D.Disk.trace c.args.disk.now) c.args.lane c.in-Some.job c.requires.few (sym c.in_ok-job.ensures.job ∙ c.in-Some.is) own)

pub returns-in_default-clause-begins : goal.returns-in_default-clause-begins
returns-in_default-clause-begins g c = λ first has.
    begun_still first (run_lanes c.args.lanes.now c.args.jobs.now (board_of c.args.board.now)) (run_lanes c.args.lanes.now c.args.jobs.now (board_of c.issue.new.self)) refl (ap (λ (b : Board). b.asks) c.in_ok-job.ensures.board) (same_out c.args.jobs.now) has

pub returns-in_ok-fetch_left-clause-begins : goal.returns-in_ok-fetch_left-clause-begins
returns-in_ok-fetch_left-clause-begins g c = λ first has.
    let state = run_lanes c.args.lanes.now c.args.jobs.now (board_of c.args.board.now) in
    let jobs_is = put_is state c.args.lane c.in-Some.job (board_of c.issue.new.self) c.in_ok-intake.intake c.put.new.self c.in_ok-job.ensures.board c.in_ok-intake.ensures c.put.ensures in
    let was = refused_of c.put.new.self.alone (suc c.args.lane) (begun c.in_ok-copy.copy) c.args.lanes.now c.hand_over.new.lanes c.hand_over.result c.hand_over.ensures c.if-not-hand_over.true in
    let asked = subst (λ (b : Board). AsksOwn c.hand_over.new.lanes c.fetch_left.new.lanes b.asks (board_of c.fetch_left.new.board).asks) c.in_ok-job.ensures.board c.in_ok-fetch_left.ensures.asks in
    begun_left jobs_always_stand state c.hand_over.new.lanes c.fetch_left.new.lanes (g.D.Disk.trace c.args.disk.now) c.args.lane c.in-Some.job c.fetch_left.new.jobs (board_of c.fetch_left.new.board)
    c.requires.ready (sym c.in_ok-job.ensures.job ∙ c.in-Some.is) was asked (c.in_ok-fetch_left.ensures.rows ∙ ap (with_row c.args.lane None) jobs_is) first has

pub returns-else-not-hand_over-clause-begins : goal.returns-else-not-hand_over-clause-begins
returns-else-not-hand_over-clause-begins g c = λ first has.
    let state = run_lanes c.args.lanes.now c.args.jobs.now (board_of c.args.board.now) in
    let jobs_is = put_is state c.args.lane c.in-Some.job (board_of c.issue.new.self) c.in_ok-intake.intake c.put.new.self c.in_ok-job.ensures.board c.in_ok-intake.ensures c.put.ensures in
    let was = given_of c.put.new.self.alone (suc c.args.lane) (begun c.in_ok-copy.copy) c.args.lanes.now c.hand_over.new.lanes c.hand_over.result c.hand_over.ensures c.if-not-hand_over.false in
    let own = subst (λ (a : Bool). WasGiven a (suc c.args.lane) (begun c.in_ok-copy.copy) c.args.lanes.now c.hand_over.new.lanes) (ap (λ (jobs : JobsOut). jobs.alone) jobs_is) was in
    rw (jobs_is, c.in_ok-job.ensures.board) (begun_out jobs_always_stand state c.hand_over.new.lanes (g.D.Disk.trace c.args.disk.now) c.args.lane c.in-Some.job (begun c.in_ok-copy.copy) c.requires.ready (sym c.in_ok-job.ensures.job ∙ c.in-Some.is) own first has)
