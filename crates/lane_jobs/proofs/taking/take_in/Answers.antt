use Rattle.std.proofs.Common.{◌≡◌, ◌∙◌, ◌-◌, true, Some, None, ap, subst}
use Rattle.acq_outside.specs.Word.{CanBegin, IsWithinLimit}
use Rattle.board_model.proofs.Theorems.{jobs_always_stand}
use Rattle.board_model.specs.Boards.{is_out}
use Rattle.job_fetch.specs.Hearing.{CanHear, fetch_of, name_of}
use Rattle.lane_jobs.proofs.Anew.{same_taken}
use Rattle.lane_jobs.proofs.Begun.{begun_last, begun_piece}
use Rattle.lane_jobs.proofs.Changes.{change_moments, change_whole, none_taken, one_there, row_twice, taken_there}
use Rattle.lane_jobs.proofs.Known.{known}
use Rattle.lane_jobs.proofs.OwnFetch.{word_changes}
use Rattle.lane_jobs.proofs.Steps.{same_board}
use Rattle.lane_jobs.proofs.Taken.{due_at, goes_last, goes_piece, row_of}
use Rattle.lane_jobs.proofs.taking.take_in.Goals as goal
use Rattle.lane_jobs.proofs.taking.take_in.Goals.{in-More, in-Last+in_ok-absorb-in-Last}
use Rattle.lane_jobs.specs.JobsOut.{with_row}
use Rattle.lane_jobs.specs.declared.transfers.Transfer.{Transfer}
use Rattle.update_core.specs.BoardRefinement.{board_of}

pub unreachable-requires : goal.unreachable-requires
unreachable-requires g c =
    let due = due_at known jobs_always_stand c.args.told c.args.lanes.now c.args.jobs.now (board_of c.args.board.now) (g.D.Disk.trace c.args.disk.now) c.requires.due in
    none_taken c.args.jobs.now (c.args.told.lane - 1) c.take.result c.take.ensures.transfer c.in_default.is due.transfer due.at

pub hear-requires-clause-can : goal.hear-requires-clause-can
hear-requires-clause-can g c =
    let due = due_at known jobs_always_stand c.args.told c.args.lanes.now c.args.jobs.now (board_of c.args.board.now) (g.D.Disk.trace c.args.disk.now) c.requires.due in
    let same = one_there c.args.jobs.now (c.args.told.lane - 1) due.transfer c.in-Some.field-0 due.at (taken_there c.args.jobs.now (c.args.told.lane - 1) c.take.result c.in-Some.field-0 c.take.ensures.transfer c.in-Some.is) in
    subst (λ (t : Transfer). CanHear t.job (g.D.Disk.trace c.args.disk.now) t.intake) same due.can

pub hear-requires-clause-begin : goal.hear-requires-clause-begin
hear-requires-clause-begin g c =
    let due = due_at known jobs_always_stand c.args.told c.args.lanes.now c.args.jobs.now (board_of c.args.board.now) (g.D.Disk.trace c.args.disk.now) c.requires.due in
    let same = one_there c.args.jobs.now (c.args.told.lane - 1) due.transfer c.in-Some.field-0 due.at (taken_there c.args.jobs.now (c.args.told.lane - 1) c.take.result c.in-Some.field-0 c.take.ensures.transfer c.in-Some.is) in
    subst (λ (t : Transfer). CanBegin t.job) same due.begin

pub hear-requires-clause-fits : goal.hear-requires-clause-fits
hear-requires-clause-fits g c =
    let due = due_at known jobs_always_stand c.args.told c.args.lanes.now c.args.jobs.now (board_of c.args.board.now) (g.D.Disk.trace c.args.disk.now) c.requires.due in
    let same = one_there c.args.jobs.now (c.args.told.lane - 1) due.transfer c.in-Some.field-0 due.at (taken_there c.args.jobs.now (c.args.told.lane - 1) c.take.result c.in-Some.field-0 c.take.ensures.transfer c.in-Some.is) in
    subst (λ (t : Transfer). IsWithinLimit (fetch_of t.job t.intake) c.args.told.word) same due.fits

pub absorb-requires-clause-out : goal.absorb-requires-clause-out
absorb-requires-clause-out g c =
    let due = due_at known jobs_always_stand c.args.told c.args.lanes.now c.args.jobs.now (board_of c.args.board.now) (g.D.Disk.trace c.args.disk.now) c.requires.due in
    let same = one_there c.args.jobs.now (c.args.told.lane - 1) due.transfer c.in-Some.field-0 due.at (taken_there c.args.jobs.now (c.args.told.lane - 1) c.take.result c.in-Some.field-0 c.take.ensures.transfer c.in-Some.is) in
    subst (λ (t : Transfer). is_out (board_of c.args.board.now) t.job.no ≡ true) same due.out

pub returns-in_err-heard-clause-moments : goal.returns-in_err-heard-clause-moments
returns-in_err-heard-clause-moments g c = change_moments (name_of c.in-Some.field-0.intake) _ _ (word_changes c.args.told.word (name_of c.in-Some.field-0.intake) _ _ c.hear.ensures.touches)

pub returns-in_err-heard-clause-others : goal.returns-in_err-heard-clause-others
returns-in_err-heard-clause-others g c = change_whole (name_of c.in-Some.field-0.intake) (g.D.Disk.trace c.args.disk.now) (g.D.Disk.trace c.hear.new.disk) (word_changes c.args.told.word (name_of c.in-Some.field-0.intake) _ _ c.hear.ensures.touches)

pub returns-in_err-absorb-in-Last-clause-moments : goal.returns-in_err-absorb-in-Last-clause-moments
returns-in_err-absorb-in-Last-clause-moments g c =
    rw c.absorb.ensures.frame.still (change_moments (name_of c.in-Some.field-0.intake) (g.D.Disk.trace c.args.disk.now) (g.D.Disk.trace c.hear.new.disk) (word_changes c.args.told.word (name_of c.in-Some.field-0.intake) _ _ c.hear.ensures.touches))

pub returns-in_err-absorb-in-Last-clause-others : goal.returns-in_err-absorb-in-Last-clause-others
returns-in_err-absorb-in-Last-clause-others g c =
    rw c.absorb.ensures.frame.still (change_whole (name_of c.in-Some.field-0.intake) (g.D.Disk.trace c.args.disk.now) (g.D.Disk.trace c.hear.new.disk) (word_changes c.args.told.word (name_of c.in-Some.field-0.intake) _ _ c.hear.ensures.touches))

pub returns-clause-moments : goal.returns-clause-moments
returns-clause-moments g c =
    let moments = change_moments (name_of c.in-Some.field-0.intake) (g.D.Disk.trace c.args.disk.now) (g.D.Disk.trace c.hear.new.disk) (word_changes c.args.told.word (name_of c.in-Some.field-0.intake) _ _ c.hear.ensures.touches) in
    elim c.match-heard.branch [
      | in-More w ↦ rw w.disk-is moments
      | in-Last+in_ok-absorb-in-Last w ↦ rw (w.disk-is, w.absorb.ensures.frame.still) moments
    ]

pub returns-clause-others : goal.returns-clause-others
returns-clause-others g c =
    let others = change_whole (name_of c.in-Some.field-0.intake) (g.D.Disk.trace c.args.disk.now) (g.D.Disk.trace c.hear.new.disk) (word_changes c.args.told.word (name_of c.in-Some.field-0.intake) _ _ c.hear.ensures.touches) in
    elim c.match-heard.branch [
      | in-More w ↦ rw w.disk-is others
      | in-Last+in_ok-absorb-in-Last w ↦ rw (w.disk-is, w.absorb.ensures.frame.still) others
    ]

pub returns-clause-same : goal.returns-clause-same
returns-clause-same g c = elim c.match-heard.branch [
  | in-More w ↦ rw w.board-is (same_board (board_of c.args.board.now))
  | in-Last+in_ok-absorb-in-Last w ↦
      let same = same_taken (g.D.Disk.tells c.hear.new.disk) (g.D.Disk.files c.hear.new.disk) (board_of c.args.board.now) (board_of w.absorb.new.self) c.args.told.lane c.in-Some.field-0.job.no w.in-Last.closed w.in_ok-absorb-in-Last.ensures.takes in
      rw w.board-is same
]

pub returns-clause-goes : goal.returns-clause-goes
returns-clause-goes g c = λ before taken used.
    let told = c.args.told in
    let jobs = c.args.jobs.now in
    let k = told.lane - 1 in
    let t = c.in-Some.field-0 in
    let at = taken_there jobs k c.take.result t c.take.ensures.transfer c.in-Some.is in
    let old = g.D.Disk.trace c.args.disk.now in
    let new = g.D.Disk.trace c.hear.new.disk in
    elim c.match-heard.branch [
      | in-More w ↦
          let leads = rw w.in-More.is at c.in_ok-heard.ensures.leads in
          let hears = rw w.in-More.is at c.in_ok-heard.ensures.hears in
          let goes = goes_piece known jobs_always_stand before c.args.lanes.now jobs (board_of c.args.board.now) old new told k t w.in-More.intake (row_of told.lane taken.worker) at used taken c.hear.ensures.touches c.in_ok-heard.ensures.kept leads hears in
          let jobs_is = w.jobs-is ∙ w.put.ensures ∙ ap (with_row k (Some (record { job = t.job; intake = w.in-More.intake }))) c.take.ensures.rows ∙ row_twice k None (Some (record { job = t.job; intake = w.in-More.intake })) jobs in
          rw (jobs_is, w.board-is, w.disk-is) goes
      | in-Last+in_ok-absorb-in-Last w ↦
          let leads = rw w.in-Last.is at c.in_ok-heard.ensures.leads in
          let ends = rw w.in-Last.is at c.in_ok-heard.ensures.ends in
          let hears = rw w.in-Last.is at c.in_ok-heard.ensures.hears in
          let goes = goes_last known jobs_always_stand (g.D.Disk.tells c.hear.new.disk) (g.D.Disk.files c.hear.new.disk) before c.args.lanes.now jobs (board_of c.args.board.now) (board_of w.absorb.new.self) old new told k t w.in-Last.closed (row_of told.lane taken.worker) at used taken c.hear.ensures.touches c.in_ok-heard.ensures.kept leads ends hears (g.met.D.Disk.shown c.hear.new.disk) w.in_ok-absorb-in-Last.ensures.takes in
          let jobs_is = w.jobs-is ∙ c.take.ensures.rows in
          rw (jobs_is, w.board-is, w.disk-is, w.absorb.ensures.frame.still) goes
    ]

pub returns-clause-begins : goal.returns-clause-begins
returns-clause-begins g c = λ before taken used first has.
    let told = c.args.told in
    let jobs = c.args.jobs.now in
    let k = told.lane - 1 in
    let t = c.in-Some.field-0 in
    let at = taken_there jobs k c.take.result t c.take.ensures.transfer c.in-Some.is in
    elim c.match-heard.branch [
      | in-More w ↦
          let begins = begun_piece before c.args.lanes.now jobs (board_of c.args.board.now) told k t w.in-More.intake at taken first has in
          let jobs_is = w.jobs-is ∙ w.put.ensures ∙ ap (with_row k (Some (record { job = t.job; intake = w.in-More.intake }))) c.take.ensures.rows ∙ row_twice k None (Some (record { job = t.job; intake = w.in-More.intake })) jobs in
          rw (jobs_is, w.board-is) begins
      | in-Last+in_ok-absorb-in-Last w ↦
          let begins = begun_last known jobs_always_stand (g.D.Disk.tells c.hear.new.disk) (g.D.Disk.files c.hear.new.disk) before c.args.lanes.now jobs (board_of c.args.board.now) (board_of w.absorb.new.self) (g.D.Disk.trace c.args.disk.now) told k t w.in-Last.closed c.requires.due
          (row_of told.lane taken.worker) at used taken w.in_ok-absorb-in-Last.ensures.takes first has in
          let jobs_is = w.jobs-is ∙ c.take.ensures.rows in
          rw (jobs_is, w.board-is) begins
    ]
