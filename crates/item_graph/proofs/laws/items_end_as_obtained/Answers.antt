use Rattle.item_graph.proofs.Theorems.{items_end_as_obtained, release_items_end_as_obtained}
use Rattle.item_graph.proofs.laws.items_end_as_obtained.Goals as goal

pub returns-clause-lists : goal.returns-clause-lists
returns-clause-lists c = items_end_as_obtained

pub returns-clause-releases : goal.returns-clause-releases
returns-clause-releases c = release_items_end_as_obtained
