use Rattle.run_promises.proofs.Theorems.{runs_stop_as_served}
use Rattle.run_promises.proofs.promises.runs_stop_as_served.Goals as goal

pub returns : goal.returns
returns c = runs_stop_as_served
