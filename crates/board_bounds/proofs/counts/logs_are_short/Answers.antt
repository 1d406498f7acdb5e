use Rattle.board_bounds.proofs.Theorems.{asks_are_few}
use Rattle.board_bounds.proofs.counts.logs_are_short.Goals as goal

pub returns : goal.returns
returns c = asks_are_few
