use Rattle.list_commits.proofs.Theorems.{changes_make_sets, made_sets_are_installed}
use Rattle.list_commits.proofs.laws.changes_make_sets.Goals as goal

pub returns-clause-made : goal.returns-clause-made
returns-clause-made c = changes_make_sets

pub returns-clause-installed : goal.returns-clause-installed
returns-clause-installed c = made_sets_are_installed
