use Rattle.std.proofs.Common.{◌∙◌, sym}
use Rattle.acq_outside.proofs.Framed.{stayed_on_counting}
use Rattle.update_core.specs.BoardRefinement.{board_of}
use Rattle.update_engine.proofs.Committing.{handed_on}
use Rattle.update_engine.proofs.OnBoards.{fewer_settled, only_more, only_settled}
use Rattle.update_engine.proofs.Stepping.{goes_aside, stands_aside, stops_aside}
use Rattle.update_engine.proofs.settling.install_all.Goals as goal

pub returns-in_err-install_ready-clause-stops : goal.returns-in_err-install_ready-clause-stops
returns-in_err-install_ready-clause-stops g c = handed_on _ _ _ c.from_residual.ensures.1 (stops_aside _ _ (board_of c.ready.board) _ _ _ c.ready.invariant.goes c.in_err-install_ready.ensures.stops)

pub ready-preserved : goal.ready-preserved
ready-preserved g c = record {
  goes = goes_aside _ (board_of c.ready.board) _ _ _ _ c.ready.invariant.goes c.in_ok-install_ready.ensures.goes;
  stands = stands_aside (board_of c.ready.board) _ _ _ c.ready.invariant.stands c.in_ok-install_ready.ensures.goes c.in_ok-install_ready.ensures.idle;
  only = only_more _ (board_of c.ready.board) _ c.ready.invariant.only (only_settled (board_of c.ready.board) _ _ c.in_ok-install_ready.ensures.settled);
  frame = stayed_on_counting c.ready.invariant.frame c.in_ok-install_ready.ensures.frame;
}

pub ready-smaller : goal.ready-smaller
ready-smaller g c = fewer_settled (board_of c.ready.board) (board_of c.install_ready.new.board) _ (sym c.ready-in-ready.ensures ∙ c.in-Some.is) c.in_ok-install_ready.ensures.settled
