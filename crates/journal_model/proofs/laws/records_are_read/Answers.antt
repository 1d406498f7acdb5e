use Rattle.journal_model.proofs.Again.{new_again, old_again}
use Rattle.journal_model.proofs.laws.records_are_read.Goals as goal

pub returns-clause-new : goal.returns-clause-new
returns-clause-new c = new_again

pub returns-clause-old : goal.returns-clause-old
returns-clause-old c = old_again
