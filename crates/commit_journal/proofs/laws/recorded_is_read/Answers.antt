use Rattle.commit_journal.proofs.Allowed.{recordable}
use Rattle.commit_journal.proofs.Recordable.{all_allowed, read_again}
use Rattle.commit_journal.proofs.laws.recorded_is_read.Goals as goal

pub returns-clause-read : goal.returns-clause-read
returns-clause-read c = read_again

pub returns-clause-allowed : goal.returns-clause-allowed
returns-clause-allowed c = all_allowed

pub returns-clause-recordable : goal.returns-clause-recordable
returns-clause-recordable c = recordable
