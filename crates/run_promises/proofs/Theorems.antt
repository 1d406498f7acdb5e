-- What holds of the definitions of this crate, for the proofs of the crates above.
use Rattle.board_bounds.proofs.Theorems.{source_asks_are_few}
use Rattle.board_model.proofs.Theorems.{boards_stand, finished_boards_tell, last_answers_show_outcomes}
use Rattle.commit_journal.proofs.Theorems.{commits_are_whole_now}
use Rattle.run_model.proofs.Theorems.{commits_leave_whole, crashes_leave_whole, new_sets_are_admissible, new_sets_are_mirrors, notes_are_of_items, others_hear_nothing, runs_are_complete, runs_hold_as_told, runs_keep_others, runs_lead_to_next, runs_leave_mirrored}
use Rattle.run_promises.proofs.Claiming.{logs_show_runs as logs_show_runs-from, runs_tell_served as runs_tell_served-from, served_sources_have_sets as served_sources_have_sets-from}
use Rattle.run_promises.proofs.Memory.{runs_stop_on_same_lists as runs_stop_on_same_lists-from}
use Rattle.run_promises.proofs.Midst.{runs_stop_undamaged as runs_stop_undamaged-from, stops_within_calls as stops_within_calls-from}
use Rattle.run_promises.proofs.Serving.{ends_as_told, serves}
use Rattle.run_promises.proofs.Stopping.{stops_as_served, stops_with_sets}
use Rattle.run_promises.specs.Claims.{LogsShowRuns, RunsStopOnSameLists, RunsStopUndamaged, RunsTellServed, ServedSourcesHaveSets, StopsWithinCalls}
use Rattle.run_promises.specs.Promise.{RunsEndAsServed, RunsEndAsTold, RunsStopAsServed, RunsStopWithSets}
use Rattle.update_model.proofs.Theorems.{files_are_obtained, sets_are_admissible}

pub runs_end_as_served : RunsEndAsServed
runs_end_as_served = serves boards_stand runs_lead_to_next runs_leave_mirrored

pub runs_end_as_told : RunsEndAsTold
runs_end_as_told = ends_as_told runs_hold_as_told runs_keep_others

pub runs_stop_with_sets : RunsStopWithSets
runs_stop_with_sets = stops_with_sets crashes_leave_whole new_sets_are_admissible

pub runs_stop_as_served : RunsStopAsServed
runs_stop_as_served = stops_as_served crashes_leave_whole new_sets_are_mirrors

pub logs_show_runs : LogsShowRuns
logs_show_runs = logs_show_runs-from boards_stand finished_boards_tell last_answers_show_outcomes notes_are_of_items others_hear_nothing source_asks_are_few

pub served_sources_have_sets : ServedSourcesHaveSets
served_sources_have_sets = served_sources_have_sets-from sets_are_admissible files_are_obtained

pub runs_tell_served : RunsTellServed
runs_tell_served = runs_tell_served-from boards_stand runs_are_complete served_sources_have_sets

pub runs_stop_undamaged : RunsStopUndamaged
runs_stop_undamaged = runs_stop_undamaged-from runs_stop_with_sets

pub runs_stop_on_same_lists : RunsStopOnSameLists
runs_stop_on_same_lists = runs_stop_on_same_lists-from commits_are_whole_now crashes_leave_whole commits_leave_whole new_sets_are_admissible

pub stops_within_calls : StopsWithinCalls
stops_within_calls = stops_within_calls-from
