use Rattle.acq_outside.proofs.Crashes.{sync_lasts, names_last, syncs_shrink}
use Rattle.acq_outside.proofs.crash.syncs_last.Goals as goal

pub returns-clause-file : goal.returns-clause-file
returns-clause-file c = sync_lasts

pub returns-clause-names : goal.returns-clause-names
returns-clause-names c = names_last

pub returns-clause-shrink : goal.returns-clause-shrink
returns-clause-shrink c = syncs_shrink
