use Rattle.list_commits.proofs.Theorems.{commits_keep_lists, gathered_are_carried, lists_are_alone}
use Rattle.list_commits.proofs.laws.gathered_are_carried.Goals as goal

pub returns-clause-carried : goal.returns-clause-carried
returns-clause-carried c = gathered_are_carried

pub returns-clause-alone : goal.returns-clause-alone
returns-clause-alone c = commits_keep_lists

pub returns-clause-lists : goal.returns-clause-lists
returns-clause-lists c = lists_are_alone
