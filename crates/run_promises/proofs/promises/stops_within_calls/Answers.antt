use Rattle.run_promises.proofs.Theorems.{stops_within_calls}
use Rattle.run_promises.proofs.promises.stops_within_calls.Goals as goal

pub returns : goal.returns
returns c = stops_within_calls
