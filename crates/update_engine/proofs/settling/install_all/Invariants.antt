use Rattle.acq_outside.specs.Stays.{HasStayed}
use Rattle.update_core.specs.BoardRefinement.{board_of}
use Rattle.update_engine.specs.Session.{KeepsRunGoing, MayCommit, OnlySettles}
use Rattle.update_engine.proofs.OnBoards.{ready_count}
use Rattle.update_engine.proofs.settling.install_all.Given as goal

abbrev pub invariant-ready : goal.invariant-ready
invariant-ready g l = record {
  goes : KeepsRunGoing (board_of l.fn.board) (board_of l.board) (g.D.Disk.trace l.fn.disk) (g.D.Disk.trace l.disk);
  stands : MayCommit (board_of l.board) (g.D.Disk.trace l.disk);
  only : OnlySettles (board_of l.fn.board) (board_of l.board);
  frame : HasStayed g.D.Disk l.fn.disk l.disk;
}

abbrev pub decreases-ready : goal.decreases-ready
decreases-ready g l = ready_count (board_of l.board).slots
