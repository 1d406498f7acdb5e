use Rattle.acq_outside.proofs.Crashes.{may_be_lost, leaves_within}
use Rattle.acq_outside.proofs.crash.calls_may_be_lost.Goals as goal

pub returns-clause-lost : goal.returns-clause-lost
returns-clause-lost c = may_be_lost

pub returns-clause-within : goal.returns-clause-within
returns-clause-within c = leaves_within
