use Rattle.std.proofs.Common.{◌∙◌, All, Err, List, ap, sym, subst}
use Rattle.acq_outside.specs.Crash.{State}
use Rattle.acq_outside.specs.States.{IsNow}
use Rattle.commit_journal.specs.Changes.{AreAllStaged}
use Rattle.acq_base.specs.declared.plan.Source.{Source}
use Rattle.list_commits.specs.Loose.{IsLoose}
use Rattle.update_core.specs.BoardRefinement.{board_of}
use Rattle.update_engine.specs.Session.{MayCommit}
use Rattle.update_engine.proofs.Committing.{handed_on, on_err}
use Rattle.update_engine.proofs.Ended.{ends_all, leaves_on, shown_on, stops_between, stops_last}
use Rattle.update_engine.proofs.Known.{commits_known}
use Rattle.update_engine.proofs.LastCommit.{can_last, ends_told, last_stands, staged_last}
use Rattle.update_engine.proofs.Over.{still_told}
use Rattle.update_engine.proofs.ending.end_run.Goals as goal

pub end_board-log-requires-clause-stands : goal.end_board-log-requires-clause-stands
end_board-log-requires-clause-stands g c = subst (λ (t : List State). MayCommit (board_of c.settle_last.new.board) t) (sym c.loose_names.ensures.frame.still)
    (last_stands _ (board_of c.args.board) (board_of c.settle_last.new.board) _ _ c.in_ok-groups.groups c.requires.stands c.in_ok-groups.ensures.leaves c.in_ok-groups.ensures.idle)

pub commit_last-requires-clause-changes : goal.commit_last-requires-clause-changes
commit_last-requires-clause-changes g c = can_last commits_known _ (board_of c.args.board) (board_of c.settle_last.new.board) _ _ c.in_ok-groups.groups c.add_clean_up.new.groups c.args.cleanup c.end_board-log.result.verdicts c.in_ok-loose.loose c.requires.stands
    c.in_ok-groups.ensures.leaves c.in_ok-loose.ensures.sorted (subst (λ (sources : List Source). All (IsLoose sources) c.in_ok-loose.loose) c.sources.ensures c.in_ok-loose.ensures.loose) c.in_ok-loose.ensures.named c.in_ok-loose.ensures.few c.in_ok-add_clean_up.ensures.groups

pub commit_last-requires-clause-staged : goal.commit_last-requires-clause-staged
commit_last-requires-clause-staged g c = subst (λ (t : List State). IsNow (AreAllStaged c.add_clean_up.new.groups) t) (sym c.loose_names.ensures.frame.still)
    (staged_last commits_known _ (board_of c.args.board) (board_of c.settle_last.new.board) _ _ c.in_ok-groups.groups c.add_clean_up.new.groups c.args.cleanup c.end_board-log.result.verdicts c.in_ok-loose.loose c.requires.stands c.in_ok-groups.ensures.leaves
    c.in_ok-add_clean_up.ensures.groups)

pub returns-clause-ends : goal.returns-clause-ends
returns-clause-ends g c = ends_told _ (board_of c.args.board) (board_of c.settle_last.new.board) _ _ c.in_ok-groups.groups c.args.cleanup c.in_ok-loose.loose c.end_board-log.result c.add_clean_up.new.log
    (still_told _ _ _ _ _ _ (g.met.D.Disk.shown c.args.disk.now) (g.met.D.Disk.shown c.settle_last.new.disk) c.settle_last.ensures.frame.telling) c.in_ok-groups.ensures.leaves
    c.end_board-log.ensures.finished c.end_board-log.ensures.log c.in_ok-add_clean_up.ensures.log

pub returns-in_err-groups-clause-stops : goal.returns-in_err-groups-clause-stops
returns-in_err-groups-clause-stops g c = handed_on _ _ _ c.from_residual.ensures.1 (c.in_err-groups.ensures.stops c.args.cleanup)

pub returns-in_err-loose-clause-stops : goal.returns-in_err-loose-clause-stops
returns-in_err-loose-clause-stops g c = on_err _ _ (λ error. stops_between commits_known error _ _ (board_of c.args.board) (board_of c.settle_last.new.board) _ _ _ c.in_ok-groups.groups c.in_ok-groups.ensures.leaves c.loose_names.ensures.frame.still)

pub returns-in_err-add_clean_up-clause-stops : goal.returns-in_err-add_clean_up-clause-stops
returns-in_err-add_clean_up-clause-stops g c = on_err _ _ (λ error. stops_between commits_known error _ _ (board_of c.args.board) (board_of c.settle_last.new.board) _ _ _ c.in_ok-groups.groups c.in_ok-groups.ensures.leaves c.loose_names.ensures.frame.still)

pub returns-in_err-commit_last-clause-stops : goal.returns-in_err-commit_last-clause-stops
returns-in_err-commit_last-clause-stops g c = handed_on _ _ _ c.from_residual-in_err-commit_last.ensures.1 (stops_last commits_known _ _ _ (board_of c.args.board) (board_of c.settle_last.new.board) _ (g.D.Disk.trace c.loose_names.new.disk) _ (g.D.Disk.files c.settle_last.new.disk)
    (g.D.Disk.tells c.settle_last.new.disk) c.in_ok-groups.groups c.add_clean_up.new.groups c.in_ok-loose.loose c.sources.result.now c.end_board-log.result
    (leaves_on _ (board_of c.args.board) (board_of c.settle_last.new.board) _ _ _ c.in_ok-groups.groups c.loose_names.ensures.frame.still c.in_ok-groups.ensures.leaves) c.end_board-log.ensures.finished c.sources.ensures c.in_ok-loose.ensures.told
    (shown_on _ _ _ _ c.loose_names.ensures.frame.still (g.met.D.Disk.shown c.settle_last.new.disk)) c.in_ok-add_clean_up.ensures.groups c.end_board-log.ensures.log c.in_err-commit_last.ensures.some c.in_err-commit_last.ensures.stopped (λ is. c.commit_last.ensures.dry (c.in_err-commit_last.was ∙ ap Err is)) c.commit_last.ensures.synced)

pub returns-clause-ended : goal.returns-clause-ended
returns-clause-ended g c = ends_all commits_known _ _ (board_of c.args.board) (board_of c.settle_last.new.board) _ (g.D.Disk.trace c.loose_names.new.disk) _ (g.D.Disk.files c.settle_last.new.disk)
    (g.D.Disk.tells c.settle_last.new.disk) c.in_ok-groups.groups c.add_clean_up.new.groups c.in_ok-loose.loose c.sources.result.now c.end_board-log.result c.add_clean_up.new.log
    (leaves_on _ (board_of c.args.board) (board_of c.settle_last.new.board) _ _ _ c.in_ok-groups.groups c.loose_names.ensures.frame.still c.in_ok-groups.ensures.leaves) c.end_board-log.ensures.finished c.sources.ensures c.in_ok-loose.ensures.told
    (shown_on _ _ _ _ c.loose_names.ensures.frame.still (g.met.D.Disk.shown c.settle_last.new.disk)) c.in_ok-add_clean_up.ensures.groups c.end_board-log.ensures.log c.in_ok-add_clean_up.ensures.log c.commit_last.ensures.none c.in_ok-commit_last.ensures.done
    (can_last commits_known _ (board_of c.args.board) (board_of c.settle_last.new.board) _ _ c.in_ok-groups.groups c.add_clean_up.new.groups c.args.cleanup c.end_board-log.result.verdicts c.in_ok-loose.loose c.requires.stands
    c.in_ok-groups.ensures.leaves c.in_ok-loose.ensures.sorted (subst (λ (sources : List Source). All (IsLoose sources) c.in_ok-loose.loose) c.sources.ensures c.in_ok-loose.ensures.loose) c.in_ok-loose.ensures.named c.in_ok-loose.ensures.few c.in_ok-add_clean_up.ensures.groups)
    c.commit_last.ensures.others c.in_ok-commit_last.ensures.gone
