use Rattle.run_promises.proofs.Theorems.{logs_show_runs}
use Rattle.run_promises.proofs.promises.logs_show_runs.Goals as goal

pub returns : goal.returns
returns c = logs_show_runs
