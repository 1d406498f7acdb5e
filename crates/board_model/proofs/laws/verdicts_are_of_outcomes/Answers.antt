use Rattle.board_model.proofs.Theorems.{sets_there_are_held, settled_sources_come, verdicts_are_mirrors}
use Rattle.board_model.proofs.laws.verdicts_are_of_outcomes.Goals as goal

pub returns-clause-come : goal.returns-clause-come
returns-clause-come c = settled_sources_come

pub returns-clause-mirrors : goal.returns-clause-mirrors
returns-clause-mirrors c = verdicts_are_mirrors

pub returns-clause-there : goal.returns-clause-there
returns-clause-there c = sets_there_are_held
