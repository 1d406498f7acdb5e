-- No turn changes what the run was begun with.
use Rattle.std.proofs.Common.{◌≡◌}
use Rattle.update_core.specs.BoardRefinement.{board_of}
use Rattle.scenarios.proofs.board.steps.Given as goal

abbrev pub invariant-loop-turn : goal.invariant-loop-turn
invariant-loop-turn g l = (board_of l.board).config.change ≡ (board_of l.fn.board).config.change
