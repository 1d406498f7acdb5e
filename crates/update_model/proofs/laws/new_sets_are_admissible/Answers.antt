use Rattle.update_model.proofs.Theorems.{new_sets_fit, sets_are_admissible}
use Rattle.update_model.proofs.laws.new_sets_are_admissible.Goals as goal

pub returns-clause-exactly : goal.returns-clause-exactly
returns-clause-exactly c = sets_are_admissible

pub returns-clause-fit : goal.returns-clause-fit
returns-clause-fit c = new_sets_fit
