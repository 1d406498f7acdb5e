use Rattle.journal_model.proofs.Resting.{closed, idle_again}
use Rattle.journal_model.proofs.laws.idle_is_shut.Goals as goal

pub returns-clause-shut : goal.returns-clause-shut
returns-clause-shut c = closed

pub returns-clause-idle : goal.returns-clause-idle
returns-clause-idle c = idle_again
