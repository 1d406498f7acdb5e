use Rattle.update_model.proofs.Theorems.{lists_end_as_obtained, mirrors_give_routes, releases_end_as_obtained}
use Rattle.update_model.proofs.laws.routes_end_as_obtained.Goals as goal

pub returns-clause-lists : goal.returns-clause-lists
returns-clause-lists c = lists_end_as_obtained

pub returns-clause-releases : goal.returns-clause-releases
returns-clause-releases c = releases_end_as_obtained

pub returns-clause-given : goal.returns-clause-given
returns-clause-given c = mirrors_give_routes
