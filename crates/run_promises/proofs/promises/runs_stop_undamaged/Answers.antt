use Rattle.run_promises.proofs.Theorems.{runs_stop_undamaged}
use Rattle.run_promises.proofs.promises.runs_stop_undamaged.Goals as goal

pub returns : goal.returns
returns c = runs_stop_undamaged
