use Rattle.commit_journal.proofs.Theorems.{commits_are_whole_now, commits_are_whole_since}
use Rattle.commit_journal.proofs.laws.commits_are_whole.Goals as goal

pub returns-clause-now : goal.returns-clause-now
returns-clause-now c = commits_are_whole_now

pub returns-clause-since : goal.returns-clause-since
returns-clause-since c = commits_are_whole_since
