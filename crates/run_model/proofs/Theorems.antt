-- What holds of the definitions of this crate, for the proofs of the crates above.
use Rattle.board_bounds.proofs.Theorems.{partial_names_are_others, planned_names_are_lists, planned_names_are_put_names}
use Rattle.board_model.proofs.Theorems.{boards_stand, changes_leave_outcomes, finished_boards_tell, finished_boards_tell_mirrors, finished_exactly, sets_there_are_held, settled_sources_come, sources_are_settled_once, told_sets_are_mirrors, touched_are_apart, touched_are_own}
use Rattle.commit_journal.proofs.Theorems.{commits_are_whole_now, commits_are_whole_since}
use Rattle.list_commits.proofs.Theorems.{changes_make_sets, loose_names_are_loose}
use Rattle.run_model.proofs.Always.{runs_hold_as_told as runs_hold_as_told-from, runs_keep_others as runs_keep_others-from}
use Rattle.run_model.proofs.Asking.{logs_tell_notes as logs_tell_notes-from, notes_are_of_items as notes_are_of_items-from, others_hear_nothing as others_hear_nothing-from}
use Rattle.run_model.proofs.Cleaning.{runs_clean_up as runs_clean_up-from}
use Rattle.run_model.proofs.Finishing.{Finished, runs_leave_outcomes as runs_leave_outcomes-from}
use Rattle.run_model.proofs.Following.{installed_are_in_turn as installed_are_in_turn-from, installed_are_once as installed_are_once-from, installed_follow as installed_follow-from, lists_are_read as lists_are_read-from, loose_lists_stay as loose_lists_stay-from, next_is_in_turn as next_is_in_turn-from, none_is_in_turn as none_is_in_turn-from}
use Rattle.run_model.proofs.Installed.{installed_lists_begin, opened_lists_are_alone as opened_lists_are_alone-from}
use Rattle.run_model.proofs.Mirrors.{Heard, runs_are_complete as runs_are_complete-from, runs_hold_mirrored as runs_hold_mirrored-from, runs_lead_to_next as runs_lead_to_next-from, runs_leave_alike as runs_leave_alike-from, runs_leave_mirrored as runs_leave_mirrored-from, runs_tell_the_same as runs_tell_the_same-from}
use Rattle.run_model.proofs.Moments.{commits_are_in_turn as commits_are_in_turn-from}
use Rattle.run_model.proofs.Ready.{Below}
use Rattle.run_model.proofs.Removing.{runs_have_begun as runs_have_begun-from, runs_tell_removed as runs_tell_removed-from}
use Rattle.run_model.proofs.Routes.{new_sets_are_admissible as new_sets_are_admissible-from, new_sets_are_mirrors as new_sets_are_mirrors-from}
use Rattle.run_model.proofs.Stopping.{commits_leave_whole as commits_leave_whole-from, crashes_leave_whole as crashes_leave_whole-from, groups_make_sets as groups_make_sets-from, groups_stay as groups_stay-from}
use Rattle.run_model.specs.Asked.{LogsTellNotes, NotesAreOfItems, OthersHearNothing}
use Rattle.run_model.specs.Beginnings.{InstalledAreInTurn, InstalledAreOnce, InstalledFollow, InstalledListsAreRunInput, ListsAreRead, LooseListsStay, NextIsInTurn, NoneIsInTurn, OpenedListsAreAlone}
use Rattle.run_model.specs.InTurn.{CommitsAreInTurn}
use Rattle.run_model.specs.Laws.{CommitsLeaveWhole, CrashesLeaveWhole, GroupsMakeSets, GroupsStay, NewSetsAreAdmissible, NewSetsAreMirrors, RunsAreComplete, RunsCleanUp, RunsHaveBegun, RunsHoldAsTold, RunsHoldMirrored, RunsKeepOthers, RunsLeadToNext, RunsLeaveAlike, RunsLeaveMirrored, RunsLeaveOutcomes, RunsTellRemoved, RunsTellTheSame}
use Rattle.update_model.proofs.Theorems.{held_sets_are_found, nexts_are_alike, releases_had_are_obtained, sets_are_admissible, sets_made_are_new}

below : Below
below = record {
  stand = boards_stand;
  come = settled_sources_come;
  leave = changes_leave_outcomes;
  own = touched_are_own;
  apart = touched_are_apart;
  make = changes_make_sets;
  puts = planned_names_are_put_names;
  lists = planned_names_are_lists;
  others = partial_names_are_others;
  loose = loose_names_are_loose;
}

finished : Finished
finished = record {
  below = below;
  tell = finished_boards_tell;
  exactly = finished_exactly;
  once = sources_are_settled_once;
  there = sets_there_are_held;
  found = held_sets_are_found;
}

heard : Heard
heard = record {
  finished = finished;
  admissible = sets_are_admissible;
  told = finished_boards_tell_mirrors;
  sets = told_sets_are_mirrors;
  releases = releases_had_are_obtained;
  alike = nexts_are_alike;
}

pub runs_hold_mirrored : RunsHoldMirrored
runs_hold_mirrored = runs_hold_mirrored-from heard

pub runs_leave_mirrored : RunsLeaveMirrored
runs_leave_mirrored = runs_leave_mirrored-from heard

pub runs_are_complete : RunsAreComplete
runs_are_complete = runs_are_complete-from heard

pub runs_lead_to_next : RunsLeadToNext
runs_lead_to_next = runs_lead_to_next-from heard

pub runs_leave_alike : RunsLeaveAlike
runs_leave_alike = runs_leave_alike-from heard

pub runs_tell_the_same : RunsTellTheSame
runs_tell_the_same = runs_tell_the_same-from heard

pub commits_are_in_turn : CommitsAreInTurn
commits_are_in_turn = commits_are_in_turn-from

pub notes_are_of_items : NotesAreOfItems
notes_are_of_items = notes_are_of_items-from

pub logs_tell_notes : LogsTellNotes
logs_tell_notes = logs_tell_notes-from boards_stand

pub others_hear_nothing : OthersHearNothing
others_hear_nothing = others_hear_nothing-from boards_stand finished_exactly

pub runs_leave_outcomes : RunsLeaveOutcomes
runs_leave_outcomes = runs_leave_outcomes-from finished

pub runs_hold_as_told : RunsHoldAsTold
runs_hold_as_told = runs_hold_as_told-from finished sets_are_admissible

pub runs_keep_others : RunsKeepOthers
runs_keep_others = runs_keep_others-from finished

pub runs_clean_up : RunsCleanUp
runs_clean_up = runs_clean_up-from below

pub runs_tell_removed : RunsTellRemoved
runs_tell_removed = runs_tell_removed-from below

pub runs_have_begun : RunsHaveBegun
runs_have_begun = runs_have_begun-from

pub installed_lists_are_run_input : InstalledListsAreRunInput
installed_lists_are_run_input = installed_lists_begin

pub opened_lists_are_alone : OpenedListsAreAlone
opened_lists_are_alone = opened_lists_are_alone-from

pub installed_are_once : InstalledAreOnce
installed_are_once = installed_are_once-from sources_are_settled_once

pub installed_follow : InstalledFollow
installed_follow = installed_follow-from boards_stand sources_are_settled_once

pub none_is_in_turn : NoneIsInTurn
none_is_in_turn = none_is_in_turn-from

pub next_is_in_turn : NextIsInTurn
next_is_in_turn = next_is_in_turn-from

pub installed_are_in_turn : InstalledAreInTurn
installed_are_in_turn = installed_are_in_turn-from

pub lists_are_read : ListsAreRead
lists_are_read = lists_are_read-from below

pub loose_lists_stay : LooseListsStay
loose_lists_stay = loose_lists_stay-from below

pub groups_stay : GroupsStay
groups_stay = groups_stay-from

pub groups_make_sets : GroupsMakeSets
groups_make_sets = groups_make_sets-from below

pub commits_leave_whole : CommitsLeaveWhole
commits_leave_whole = commits_leave_whole-from below sources_are_settled_once

pub crashes_leave_whole : CrashesLeaveWhole
crashes_leave_whole = crashes_leave_whole-from below sources_are_settled_once commits_are_whole_now commits_are_whole_since

pub new_sets_are_admissible : NewSetsAreAdmissible
new_sets_are_admissible = new_sets_are_admissible-from sets_are_admissible

pub new_sets_are_mirrors : NewSetsAreMirrors
new_sets_are_mirrors = new_sets_are_mirrors-from sets_made_are_new
