use Rattle.update_model.proofs.Theorems.{lists_had_are_obtained, releases_had_are_obtained, sets_made_are_new}
use Rattle.update_model.proofs.laws.faults_change_no_file.Goals as goal

pub returns-clause-lists : goal.returns-clause-lists
returns-clause-lists c = lists_had_are_obtained

pub returns-clause-releases : goal.returns-clause-releases
returns-clause-releases c = releases_had_are_obtained

pub returns-clause-sets : goal.returns-clause-sets
returns-clause-sets c = sets_made_are_new
