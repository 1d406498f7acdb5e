use Rattle.update_model.proofs.Theorems.{nexts_are_alike, nexts_are_clean, nexts_keep}
use Rattle.update_model.proofs.laws.nexts_are_alike.Goals as goal

pub returns-clause-alike : goal.returns-clause-alike
returns-clause-alike c = nexts_are_alike

pub returns-clause-clean : goal.returns-clause-clean
returns-clause-clean c = nexts_are_clean

pub returns-clause-kept : goal.returns-clause-kept
returns-clause-kept c = nexts_keep
