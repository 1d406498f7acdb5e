use Rattle.acq_outside.proofs.Crashes.{reads_left, leaves_apart}
use Rattle.acq_outside.proofs.crash.crash_leaves.Goals as goal

pub returns-clause-reads : goal.returns-clause-reads
returns-clause-reads c = reads_left

pub returns-clause-apart : goal.returns-clause-apart
returns-clause-apart c = leaves_apart
