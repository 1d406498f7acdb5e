use Rattle.std.proofs.Common.{◌≡◌, ℕ, List, length, true}
use Rattle.acq_outside.specs.States.{Since}
use Rattle.acq_outside.specs.Stays.{HasStayed}
use Rattle.journal_model.specs.Rest.{KeptAtRestSince}
use Rattle.update_core.specs.BoardRefinement.{board_of}
use Rattle.run_jobs.specs.Running.{SameBoard}
use Rattle.lane_jobs.specs.Begins.{HasBegun}
use Rattle.lane_jobs.specs.Going.{JobsGoOn, KeepsLanes, KeepsWholeFiles, MayAskOver, run_lanes}
use Rattle.lane_jobs.proofs.Gone.{NoneOutBelow}
use Rattle.lane_jobs.proofs.answering.fetch_rest.Given as goal

abbrev pub invariant-loop-lane : goal.invariant-loop-lane
invariant-loop-lane g l = record {
  alone : l.jobs.alone ≡ true;
  len : length l.jobs.rows ≡ length l.fn.jobs.rows;
  gone : NoneOutBelow l.lane l.jobs;
  methods : KeepsLanes l.fn.lanes l.lanes;
  frame : HasStayed g.D.Disk l.fn.disk l.disk;
  same : SameBoard (board_of l.fn.board) (board_of l.board);
  moments : Since (g.D.Disk.trace l.fn.disk) (g.D.Disk.trace l.disk) (KeptAtRestSince (g.D.Disk.trace l.fn.disk));
  others : KeepsWholeFiles (g.D.Disk.trace l.fn.disk) (g.D.Disk.trace l.disk);
  ready : MayAskOver (run_lanes l.lanes l.jobs (board_of l.board)) (g.D.Disk.trace l.disk);
  goes : JobsGoOn (run_lanes l.fn.lanes l.fn.jobs (board_of l.fn.board)) (run_lanes l.lanes l.jobs (board_of l.board)) (g.D.Disk.trace l.fn.disk) (g.D.Disk.trace l.disk);
  begins : (first : List ℕ) → HasBegun first (run_lanes l.fn.lanes l.fn.jobs (board_of l.fn.board)) → HasBegun first (run_lanes l.lanes l.jobs (board_of l.board));
}
