use Rattle.std.proofs.Common.{◌≡◌, ℕ, List, true}
use Rattle.acq_outside.specs.States.{Since}
use Rattle.acq_outside.specs.Stays.{HasStayed}
use Rattle.journal_model.specs.Rest.{KeptAtRestSince}
use Rattle.update_core.specs.BoardRefinement.{board_of}
use Rattle.lane_jobs.specs.Begins.{HasBegun}
use Rattle.lane_jobs.specs.Going.{KeepsLanes, MayAskOver, run_lanes}
use Rattle.update_engine.specs.Session.{RunGoesOn}
use Rattle.update_engine.proofs.looping.ask_until_done.Given as goal

abbrev pub invariant-loop : goal.invariant-loop
invariant-loop g l = record {
  goes : RunGoesOn (run_lanes l.fn.lanes l.fn.jobs (board_of l.fn.board)) (run_lanes l.lanes l.jobs (board_of l.board)) (g.D.Disk.trace l.fn.disk) (g.D.Disk.trace l.disk);
  ready : MayAskOver (run_lanes l.lanes l.jobs (board_of l.board)) (g.D.Disk.trace l.disk);
  bare : l.together ≡ true → Since (g.D.Disk.trace l.fn.disk) (g.D.Disk.trace l.disk) (KeptAtRestSince (g.D.Disk.trace l.fn.disk));
  unsettled : l.together ≡ true → (board_of l.board).settled ≡ (board_of l.fn.board).settled;
  config : (board_of l.board).config ≡ (board_of l.fn.board).config;
  frame : HasStayed g.D.Disk l.fn.disk l.disk;
  methods : KeepsLanes l.fn.lanes l.lanes;
  begins : (first : List ℕ) → HasBegun first (run_lanes l.fn.lanes l.fn.jobs (board_of l.fn.board)) → HasBegun first (run_lanes l.lanes l.jobs (board_of l.board));
}
