use Rattle.update_model.proofs.Theorems.{lists_end_as_listed, releases_end_as_served, sets_are_as_listed}
use Rattle.update_model.proofs.laws.routes_end_as_listed.Goals as goal

pub returns-clause-lists : goal.returns-clause-lists
returns-clause-lists c = lists_end_as_listed

pub returns-clause-releases : goal.returns-clause-releases
returns-clause-releases c = releases_end_as_served

pub returns-clause-sets : goal.returns-clause-sets
returns-clause-sets c = sets_are_as_listed
