use Rattle.std.proofs.Common.{rules, ◌≡◌, ◌∙◌, ℕ, ℤ, w64, refl, subst, sym, List}
use Rattle.std.proofs.lemmas.Int.{to_z-of_z}
use Rattle.acq_outside.specs.Crash.{State}
use Rattle.update_core.specs.BoardRefinement.{board_of}
use Rattle.lane_jobs.specs.Going.{run_lanes}
use Rattle.update_engine.proofs.Begins.{new_begun, tells_begun}
use Rattle.update_engine.proofs.Known.{commits_known}
use Rattle.update_engine.proofs.Over.{HasAsked, far_stands, is_open, logged, none_found, none_told, safe_asking, safe_ended, safe_ending, starts_change, starts_ready, stays_unopened, still_told, stopped_run, verdicts_told}
use Rattle.update_engine.specs.Run.{Run, run_of}
use Rattle.update_engine.specs.Session.{StartsRun}
use Rattle.update_engine.proofs.top.run_over.Goals as goal

-- the run begins where `begin` has left the disk
starts_there : (run : ℤ → Run) (lanes : ℕ) (m n : ℤ) (old now : List State) (b : _) → m ≡ n → now ≡ old → StartsRun (run m) lanes old b → StartsRun (run n) lanes now b
starts_there run lanes m n old now b same still starts = subst (λ (t : List State). StartsRun (run n) lanes t b) (sym still) (subst (λ (z : ℤ). StartsRun (run z) lanes old b) same starts)

pub ask_until_done-requires-clause-ready : goal.ask_until_done-requires-clause-ready
ask_until_done-requires-clause-ready g c κs within = starts_ready _ _ _ _ _ _ (board_of c.in_ok-board.board) (c.in_ok-board.ensures.starts c.args.together) c.requires.lanes c.in_ok-jobs.ensures c.begin_run.ensures.frame.still c.in_ok-journal.ensures.opens.idle

pub ask_until_done-requires-clause-change : goal.ask_until_done-requires-clause-change
ask_until_done-requires-clause-change g c κs within = starts_change _ c.args.lanes.now _ _ (board_of c.in_ok-board.board) (c.in_ok-board.ensures.starts c.args.together) c.requires.lanes

pub end_run-requires-clause-stands : goal.end_run-requires-clause-stands
end_run-requires-clause-stands g c = far_stands _ _ _ _ (board_of c.in_ok-board.board) (board_of c.ask_until_done.new.board) _ _
    (starts_ready _ _ _ _ _ _ (board_of c.in_ok-board.board) (c.in_ok-board.ensures.starts c.args.together) c.requires.lanes c.in_ok-jobs.ensures c.begin_run.ensures.frame.still c.in_ok-journal.ensures.opens.idle)
    c.in_ok-ask_until_done.ensures.goes c.in_ok-ask_until_done.ensures.idle

pub returns-in_err-journal-clause-run : goal.returns-in_err-journal-clause-run
returns-in_err-journal-clause-run g c = stopped_run _ _ _ _ _ _ _ _ _ _ c.from_residual.ensures.1
    (stays_unopened _ _ _ _ _ c.open_journal.ensures.opens.recovers c.open_journal.ensures.synced refl)
    (search rules) (search rules)

pub returns-in_err-board-clause-run : goal.returns-in_err-board-clause-run
returns-in_err-board-clause-run g c = stopped_run _ _ _ _ _ _ _ _ _ _ c.from_residual-in_err-board.ensures.1
    (stays_unopened _ _ _ _ _ c.open_journal.ensures.opens.recovers c.open_journal.ensures.synced c.begin_run.ensures.frame.still)
    (search rules) (search rules)

pub returns-in_err-jobs-clause-run : goal.returns-in_err-jobs-clause-run
returns-in_err-jobs-clause-run g c = stopped_run _ _ _ _ _ _ _ _ _ _ c.from_residual-in_err-jobs.ensures.1
    (stays_unopened _ _ _ _ _ c.open_journal.ensures.opens.recovers c.open_journal.ensures.synced c.begin_run.ensures.frame.still)
    (search rules) (search rules)

pub returns-in_err-ask_until_done-clause-run : goal.returns-in_err-ask_until_done-clause-run
returns-in_err-ask_until_done-clause-run g c = stopped_run _ _ _ _ _ _ _ _ _ _ c.from_residual-in_err-ask_until_done.ensures.1
    (safe_asking commits_known _ (run_of c.args.plan c.args.settings c.args.judge.now.change c.args.now c.args.together)
    c.args.lanes.now _ c.args.queues _ c.in_ok-jobs.jobs _ _ _ (board_of c.in_ok-board.board)
    (is_open (g.D.Disk.tells c.args.disk.now) (g.D.Disk.files c.args.disk.now) _ _ _ (g.met.D.Disk.shown c.args.disk.now) c.open_journal.ensures.opens.recovers c.open_journal.ensures.opens.others c.in_ok-journal.ensures.rests c.in_ok-journal.ensures.opens.idle c.begin_run.ensures.frame.still)
    (starts_there (λ (z : ℤ). run_of c.args.plan c.args.settings c.args.judge.now.change z c.args.together) c.args.queues _ _ _ _ (board_of c.in_ok-board.board) (to_z-of_z w64 c.args.now c.ranges.now) c.begin_run.ensures.frame.still (c.in_ok-board.ensures.starts c.args.together))
    c.requires.lanes c.in_ok-jobs.ensures
    (still_told _ _ _ _ _ _ (g.met.D.Disk.shown c.args.disk.now) (g.met.D.Disk.shown c.ask_until_done.new.disk) (c.ask_until_done.ensures.frame.telling ∙ (c.begin_run.ensures.frame.telling ∙ c.open_journal.ensures.frame.telling)))
    c.in_err-ask_until_done.ensures.stops c.ask_until_done.ensures.bare)
    (search rules) (λ tells. none_told _ c.in_ok-journal.journal _ _ _ (c.in_ok-journal.ensures.opens.damage tells) c.in_err-ask_until_done.was c.ask_until_done.ensures.undamaged c.from_residual-in_err-ask_until_done.ensures.1)

pub returns-in_err-log-clause-run : goal.returns-in_err-log-clause-run
returns-in_err-log-clause-run g c = stopped_run _ _ _ _ _ _ _ _ _ _ c.from_residual-in_err-log.ensures.1
    (safe_ending _ (run_of c.args.plan c.args.settings c.args.judge.now.change c.args.now c.args.together) c.args.lanes.now c.ask_until_done.new.lanes c.args.queues c.in_ok-jobs.jobs c.ask_until_done.new.jobs _ _ _ _
    (board_of c.in_ok-board.board) (board_of c.ask_until_done.new.board) c.args.settings.cleanup
    (is_open (g.D.Disk.tells c.args.disk.now) (g.D.Disk.files c.args.disk.now) _ _ _ (g.met.D.Disk.shown c.args.disk.now) c.open_journal.ensures.opens.recovers c.open_journal.ensures.opens.others c.in_ok-journal.ensures.rests c.in_ok-journal.ensures.opens.idle c.begin_run.ensures.frame.still)
    (record {
      starts = starts_there (λ (z : ℤ). run_of c.args.plan c.args.settings c.args.judge.now.change z c.args.together) c.args.queues _ _ _ _ (board_of c.in_ok-board.board) (to_z-of_z w64 c.args.now c.ranges.now) c.begin_run.ensures.frame.still (c.in_ok-board.ensures.starts c.args.together);
      new = c.requires.lanes;
      none_yet = c.in_ok-jobs.ensures;
      goes = c.in_ok-ask_until_done.ensures.goes;
      quiet = c.in_ok-ask_until_done.ensures.quiet;
      unsettled = c.in_ok-ask_until_done.ensures.unsettled;
    })
    (still_told _ _ _ _ _ _ (g.met.D.Disk.shown c.args.disk.now) (g.met.D.Disk.shown c.end_run.new.disk) (c.end_run.ensures.frame.telling ∙ (c.ask_until_done.ensures.frame.telling ∙ (c.begin_run.ensures.frame.telling ∙ c.open_journal.ensures.frame.telling))))
    refl c.in_err-log.ensures.stops)
    (search rules) (search rules)

pub returns-clause-run : goal.returns-clause-run
returns-clause-run g c =
    let run = run_of c.args.plan c.args.settings c.args.judge.now.change c.args.now c.args.together in
    let open_at = is_open (g.D.Disk.tells c.args.disk.now) (g.D.Disk.files c.args.disk.now) _ _ _ (g.met.D.Disk.shown c.args.disk.now) c.open_journal.ensures.opens.recovers c.open_journal.ensures.opens.others c.in_ok-journal.ensures.rests
    c.in_ok-journal.ensures.opens.idle c.begin_run.ensures.frame.still in
    let asked : HasAsked run c.args.lanes.now c.ask_until_done.new.lanes c.args.queues c.in_ok-jobs.jobs c.ask_until_done.new.jobs (g.D.Disk.trace c.begin_run.new.disk) (g.D.Disk.trace c.ask_until_done.new.disk) (board_of c.in_ok-board.board) (board_of c.ask_until_done.new.board) = record {
      starts = starts_there (λ (z : ℤ). run_of c.args.plan c.args.settings c.args.judge.now.change z c.args.together) c.args.queues _ _ _ _ (board_of c.in_ok-board.board) (to_z-of_z w64 c.args.now c.ranges.now) c.begin_run.ensures.frame.still (c.in_ok-board.ensures.starts c.args.together);
      new = c.requires.lanes;
      none_yet = c.in_ok-jobs.ensures;
      goes = c.in_ok-ask_until_done.ensures.goes;
      quiet = c.in_ok-ask_until_done.ensures.quiet;
      unsettled = c.in_ok-ask_until_done.ensures.unsettled;
    } in
    let told = still_told _ _ _ _ _ _ (g.met.D.Disk.shown c.args.disk.now) (g.met.D.Disk.shown c.end_run.new.disk) (c.end_run.ensures.frame.telling ∙ (c.ask_until_done.ensures.frame.telling ∙ (c.begin_run.ensures.frame.telling ∙ c.open_journal.ensures.frame.telling))) in
    let back = still_told _ _ _ _ _ _ (g.met.D.Disk.shown c.end_run.new.disk) (g.met.D.Disk.shown c.ask_until_done.new.disk) (sym c.end_run.ensures.frame.telling) in
    record {
      unchanged = search rules;
      damage = λ tells. none_found _ c.in_ok-journal.journal c.in_ok-log.log (c.in_ok-journal.ensures.opens.damage tells);
      verdicts = verdicts_told run _ _ _ _ _ _ _ (board_of c.in_ok-board.board) (board_of c.ask_until_done.new.board) c.args.settings.cleanup c.in_ok-log.log asked refl c.in_ok-log.ensures.ends;
      log = logged commits_known run _ _ _ _ _ _ _ _ _ (board_of c.in_ok-board.board) (board_of c.ask_until_done.new.board) c.args.settings.cleanup c.in_ok-log.log open_at asked told back refl c.in_ok-log.ensures.ended c.in_ok-log.ensures.ends
          c.in_ok-log.ensures.asks;
      crash = safe_ended commits_known run _ _ _ _ _ _ _ _ _ (board_of c.in_ok-board.board) (board_of c.ask_until_done.new.board) c.args.settings.cleanup c.in_ok-log.log open_at asked told back refl c.in_ok-log.ensures.ended;
      dry = λ is. absurd (cc);
    }

pub returns-clause-begins : goal.returns-clause-begins
returns-clause-begins g c =
    tells_begun c.args.lanes.now.begins (run_lanes c.ask_until_done.new.lanes c.ask_until_done.new.jobs (board_of c.ask_until_done.new.board)) c.in_ok-log.log.asks c.in_ok-log.ensures.asks
    (c.in_ok-ask_until_done.ensures.begins c.args.lanes.now.begins (new_begun c.args.lanes.now c.args.queues c.in_ok-jobs.jobs (board_of c.in_ok-board.board) c.in_ok-jobs.ensures c.in_ok-board.ensures.unasked))
