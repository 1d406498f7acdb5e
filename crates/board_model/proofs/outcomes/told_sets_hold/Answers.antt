use Rattle.board_model.proofs.Theorems.{told_sets_are_listed, told_sets_are_mirrors}
use Rattle.board_model.proofs.outcomes.told_sets_hold.Goals as goal

pub returns-clause-listed : goal.returns-clause-listed
returns-clause-listed c = told_sets_are_listed

pub returns-clause-mirrors : goal.returns-clause-mirrors
returns-clause-mirrors c = told_sets_are_mirrors
