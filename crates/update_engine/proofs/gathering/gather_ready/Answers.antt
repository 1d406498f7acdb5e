use Rattle.std.proofs.Common.{◌∙◌, sym}
use Rattle.update_core.specs.BoardRefinement.{board_of}
use Rattle.update_engine.proofs.Gathered.{gathers_kept, gathers_new}
use Rattle.update_engine.proofs.gathering.gather_ready.Goals as goal

pub returns-then-not-is_new-clause-goes : goal.returns-then-not-is_new-clause-goes
returns-then-not-is_new-clause-goes c = gathers_kept _ (board_of c.settle.new.self) _ c.in_ok-settled.settled _ c.in_ok-settled.ensures.settled c.in_ok-settled.ensures.board (sym c.is_new.ensures ∙ c.if-not-is_new.true)

pub returns-clause-goes : goal.returns-clause-goes
returns-clause-goes c = gathers_new (board_of c.args.board.now) (board_of c.settle.new.self) _ c.in_ok-settled.settled c.in_ok-changes.changes _ _ c.in_ok-settled.ensures.settled c.in_ok-settled.ensures.board
    (sym c.is_new.ensures ∙ c.if-not-is_new.false) c.in_ok-changes.ensures c.in_ok-push.ensures
