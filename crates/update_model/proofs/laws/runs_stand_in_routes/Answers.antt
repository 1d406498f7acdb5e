use Rattle.update_model.proofs.Theorems.{runs_stand_in_routes}
use Rattle.update_model.proofs.laws.runs_stand_in_routes.Goals as goal

pub returns : goal.returns
returns c = runs_stand_in_routes
