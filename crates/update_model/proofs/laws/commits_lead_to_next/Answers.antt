use Rattle.update_model.proofs.Theorems.{commits_do_the_same, commits_lead_to_next, together_is_one_commit}
use Rattle.update_model.proofs.laws.commits_lead_to_next.Goals as goal

pub returns-clause-same : goal.returns-clause-same
returns-clause-same c = commits_do_the_same

pub returns-clause-once : goal.returns-clause-once
returns-clause-once c = together_is_one_commit

pub returns-clause-next : goal.returns-clause-next
returns-clause-next c = commits_lead_to_next
