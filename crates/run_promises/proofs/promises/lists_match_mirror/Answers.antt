use Rattle.run_promises.proofs.Theorems.{runs_end_as_served}
use Rattle.run_promises.proofs.promises.lists_match_mirror.Goals as goal

pub returns : goal.returns
returns c = runs_end_as_served
