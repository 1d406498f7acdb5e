use Rattle.std.proofs.Common.{◌≡◌}
use Rattle.board_model.specs.Boards as model
use Rattle.update_core.proofs.Waiting.{lane_from}
use Rattle.update_core.proofs.jobs.lane_with.Given as goal

abbrev pub invariant-loop-lane : goal.invariant-loop-lane
invariant-loop-lane l = model.lane_with l.out l.number ≡ lane_from l.out l.number l.lane
