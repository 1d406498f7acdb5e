use Rattle.run_promises.proofs.Theorems.{runs_tell_served, served_sources_have_sets}
use Rattle.run_promises.proofs.promises.runs_tell_served.Goals as goal

pub returns-clause-logs : goal.returns-clause-logs
returns-clause-logs c = runs_tell_served

pub returns-clause-sets : goal.returns-clause-sets
returns-clause-sets c = served_sources_have_sets
