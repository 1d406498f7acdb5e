use Rattle.update_model.proofs.Theorems.{routes_are_enough, routes_make_new_sets}
use Rattle.update_model.proofs.laws.routes_make_new_sets.Goals as goal

pub returns-clause-made : goal.returns-clause-made
returns-clause-made c = routes_make_new_sets

pub returns-clause-enough : goal.returns-clause-enough
returns-clause-enough c = routes_are_enough
