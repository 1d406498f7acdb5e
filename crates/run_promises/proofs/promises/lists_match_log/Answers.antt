use Rattle.run_promises.proofs.Theorems.{runs_end_as_told}
use Rattle.run_promises.proofs.promises.lists_match_log.Goals as goal

pub returns : goal.returns
returns c = runs_end_as_told
