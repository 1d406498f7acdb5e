use Rattle.run_promises.proofs.Theorems.{runs_stop_on_same_lists}
use Rattle.run_promises.proofs.promises.runs_stop_on_same_lists.Goals as goal

pub returns : goal.returns
returns c = runs_stop_on_same_lists
