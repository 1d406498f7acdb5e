use Rattle.board_bounds.proofs.Theorems.{chains_are_short, listed_sizes_fit, listed_sums_are_written}
use Rattle.board_bounds.proofs.counts.readings_are_small.Goals as goal

pub returns-clause-chains : goal.returns-clause-chains
returns-clause-chains c = chains_are_short

pub returns-clause-sums : goal.returns-clause-sums
returns-clause-sums c = listed_sums_are_written

pub returns-clause-sizes : goal.returns-clause-sizes
returns-clause-sizes c = listed_sizes_fit
