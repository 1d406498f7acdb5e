use Rattle.update_core.specs.BoardRefinement.{board_of}
use Rattle.update_engine.specs.Session.{GathersChanges, OnlySettles}
use Rattle.update_engine.proofs.OnBoards.{ready_count}
use Rattle.update_engine.proofs.gathering.gather.Given as goal

abbrev pub invariant-ready : goal.invariant-ready
invariant-ready l = record {
  goes : GathersChanges (board_of l.fn.board) (board_of l.board) l.groups;
  only : OnlySettles (board_of l.fn.board) (board_of l.board);
}

abbrev pub decreases-ready : goal.decreases-ready
decreases-ready l = ready_count (board_of l.board).slots
