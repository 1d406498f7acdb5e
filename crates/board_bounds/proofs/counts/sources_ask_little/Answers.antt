use Rattle.board_bounds.proofs.Theorems.{source_asks_are_few}
use Rattle.board_bounds.proofs.counts.sources_ask_little.Goals as goal

pub returns : goal.returns
returns c = source_asks_are_few
