use Rattle.std.proofs.Common.{◌∙◌, Err, ap, sym}
use Rattle.update_core.specs.BoardRefinement.{board_of}
use Rattle.update_engine.proofs.Committing.{commit_can, commit_staged, goes_committed, goes_settled, groups_of, handed_on, memory_of, on_err, stops_here, stops_in_commit}
use Rattle.update_engine.proofs.Known.{commits_known}
use Rattle.update_engine.proofs.settling.install_ready.Goals as goal

pub returns-in_err-settled-clause-stops : goal.returns-in_err-settled-clause-stops
returns-in_err-settled-clause-stops g c = on_err _ _ (λ error. stops_here commits_known error _ _)

pub returns-then-not-is_new-clause-goes : goal.returns-then-not-is_new-clause-goes
returns-then-not-is_new-clause-goes g c = goes_settled commits_known _ (board_of c.settle.new.self) _ c.in_ok-settled.settled _ c.requires.ready c.in_ok-settled.ensures.settled c.in_ok-settled.ensures.board
    (sym c.is_new.ensures ∙ c.if-not-is_new.true)

pub returns-in_err-changes-clause-stops : goal.returns-in_err-changes-clause-stops
returns-in_err-changes-clause-stops g c = on_err _ _ (λ error. stops_here commits_known error _ _)

pub returns-in_err-groups-clause-stops : goal.returns-in_err-groups-clause-stops
returns-in_err-groups-clause-stops g c = on_err _ _ (λ error. stops_here commits_known error _ _)

pub commit_groups-requires-clause-changes : goal.commit_groups-requires-clause-changes
commit_groups-requires-clause-changes g c = commit_can commits_known (board_of c.args.board.now) _ c.in_ok-settled.settled c.in_ok-groups.groups _ c.requires.stands c.requires.ready c.in_ok-settled.ensures.settled
    (groups_of (board_of c.args.board.now) (board_of c.settle.new.self) _ c.in_ok-settled.settled c.in_ok-changes.changes c.in_ok-groups.groups c.in_ok-settled.ensures.board c.in_ok-changes.ensures c.in_ok-groups.ensures)

pub commit_groups-requires-clause-staged : goal.commit_groups-requires-clause-staged
commit_groups-requires-clause-staged g c = commit_staged commits_known (board_of c.args.board.now) _ c.in_ok-settled.settled c.in_ok-groups.groups _ c.requires.stands c.requires.ready c.in_ok-settled.ensures.settled
    (groups_of (board_of c.args.board.now) (board_of c.settle.new.self) _ c.in_ok-settled.settled c.in_ok-changes.changes c.in_ok-groups.groups c.in_ok-settled.ensures.board c.in_ok-changes.ensures c.in_ok-groups.ensures)

pub returns-in_err-commit_groups-clause-stops : goal.returns-in_err-commit_groups-clause-stops
returns-in_err-commit_groups-clause-stops g c = handed_on _ _ _ c.from_residual-in_err-commit_groups.ensures.1 (stops_in_commit commits_known _ (board_of c.args.board.now) _ c.in_ok-settled.settled c.in_ok-groups.groups _ _ c.requires.ready c.in_ok-settled.ensures.settled
    (sym c.is_new.ensures ∙ c.if-not-is_new.false)
    (groups_of (board_of c.args.board.now) (board_of c.settle.new.self) _ c.in_ok-settled.settled c.in_ok-changes.changes c.in_ok-groups.groups c.in_ok-settled.ensures.board c.in_ok-changes.ensures c.in_ok-groups.ensures)
    c.in_err-commit_groups.ensures.stopped (λ is. c.in_err-commit_groups.ensures.dry (ap Err (memory_of c.in_err-commit_groups.field-0.0 is))) c.commit_groups.ensures.synced)

pub returns-clause-goes : goal.returns-clause-goes
returns-clause-goes g c = goes_committed commits_known (board_of c.args.board.now) (board_of c.settle.new.self) _ c.in_ok-settled.settled c.in_ok-groups.groups _ _ c.requires.ready c.in_ok-settled.ensures.settled
    c.in_ok-settled.ensures.board (sym c.is_new.ensures ∙ c.if-not-is_new.false)
    (groups_of (board_of c.args.board.now) (board_of c.settle.new.self) _ c.in_ok-settled.settled c.in_ok-changes.changes c.in_ok-groups.groups c.in_ok-settled.ensures.board c.in_ok-changes.ensures c.in_ok-groups.ensures)
    c.commit_groups.ensures.others c.in_ok-commit_groups.ensures.done
