use Rattle.run_promises.proofs.Theorems.{runs_stop_with_sets}
use Rattle.run_promises.proofs.promises.runs_stop_with_sets.Goals as goal

pub returns : goal.returns
returns c = runs_stop_with_sets
