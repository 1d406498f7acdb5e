use Rattle.acq_outside.proofs.Crashes.{leaves_as_done}
use Rattle.acq_outside.proofs.crash.torn_is_done.Goals as goal

pub returns : goal.returns
returns c = leaves_as_done
