use Rattle.list_commits.proofs.Theorems.{drops_clean_up, loose_names_are_loose}
use Rattle.list_commits.proofs.laws.drops_clean_up.Goals as goal

pub returns-clause-gone : goal.returns-clause-gone
returns-clause-gone c = drops_clean_up

pub returns-clause-loose : goal.returns-clause-loose
returns-clause-loose c = loose_names_are_loose
