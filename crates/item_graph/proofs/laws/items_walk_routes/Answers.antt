use Rattle.item_graph.proofs.Theorems.{items_end_in_routes, items_stand_in_routes, points_end_in_routes}
use Rattle.item_graph.proofs.laws.items_walk_routes.Goals as goal

pub returns-clause-stand : goal.returns-clause-stand
returns-clause-stand c = items_stand_in_routes

pub returns-clause-ended : goal.returns-clause-ended
returns-clause-ended c = items_end_in_routes

pub returns-clause-walks : goal.returns-clause-walks
returns-clause-walks c = points_end_in_routes
