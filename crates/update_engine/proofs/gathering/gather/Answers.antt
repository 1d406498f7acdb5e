use Rattle.std.proofs.Common.{◌∙◌, sym}
use Rattle.update_core.specs.BoardRefinement.{board_of}
use Rattle.update_engine.proofs.Gathered.{gathers_more}
use Rattle.update_engine.proofs.Known.{commits_known}
use Rattle.update_engine.proofs.OnBoards.{fewer_settled, only_more, only_settled}
use Rattle.update_engine.proofs.gathering.gather.Goals as goal

pub ready-preserved : goal.ready-preserved
ready-preserved c = record {
  goes = gathers_more commits_known _ (board_of c.ready.board) (board_of c.gather_ready.new.board) _ c.ready.groups c.gather_ready.new.groups c.ready.invariant.goes (sym c.ready-in-ready.ensures ∙ c.in-Some.is) c.in_ok-gather_ready.ensures.goes;
  only = only_more _ (board_of c.ready.board) _ c.ready.invariant.only (only_settled (board_of c.ready.board) _ _ c.in_ok-gather_ready.ensures.settled);
}

pub ready-smaller : goal.ready-smaller
ready-smaller c = fewer_settled (board_of c.ready.board) (board_of c.gather_ready.new.board) _ (sym c.ready-in-ready.ensures ∙ c.in-Some.is) c.in_ok-gather_ready.ensures.settled
