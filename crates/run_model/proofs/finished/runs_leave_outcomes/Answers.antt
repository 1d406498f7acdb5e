use Rattle.run_model.proofs.Theorems.{runs_clean_up, runs_have_begun, runs_hold_as_told, runs_keep_others, runs_leave_outcomes, runs_tell_removed}
use Rattle.run_model.proofs.finished.runs_leave_outcomes.Goals as goal

pub returns : goal.returns
returns c = record { outcomes = runs_leave_outcomes; told = runs_hold_as_told; others = runs_keep_others; cleans = runs_clean_up; removed = runs_tell_removed; begun = runs_have_begun }
