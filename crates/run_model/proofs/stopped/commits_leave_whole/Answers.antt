use Rattle.run_model.proofs.Theorems.{commits_leave_whole, crashes_leave_whole, groups_make_sets, new_sets_are_admissible, new_sets_are_mirrors}
use Rattle.run_model.proofs.stopped.commits_leave_whole.Goals as goal

pub returns : goal.returns
returns c = record { sets = groups_make_sets; commits = commits_leave_whole; crashes = crashes_leave_whole; admissible = new_sets_are_admissible; mirrors = new_sets_are_mirrors }
