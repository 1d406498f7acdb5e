use Rattle.board_model.proofs.Theorems.{asks_are_few_by_reading}
use Rattle.board_model.proofs.calls.asks_are_few.Goals as goal

pub returns : goal.returns
returns c = asks_are_few_by_reading
