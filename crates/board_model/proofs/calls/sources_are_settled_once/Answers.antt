use Rattle.board_model.proofs.Theorems.{sources_are_settled_once}
use Rattle.board_model.proofs.calls.sources_are_settled_once.Goals as goal

pub returns : goal.returns
returns c = sources_are_settled_once
