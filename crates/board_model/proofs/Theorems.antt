-- What holds of the definitions of this crate, for the proofs of the crates above.
use Rattle.board_model.proofs.Agreement.{finished-mirrors, finished-tell, ready-leave, runs-agree, told-listed, told-mirrors}
use Rattle.board_model.proofs.CallsAfter.{idle-boards, none-exactly, out-asks, quiet-boards}
use Rattle.board_model.proofs.Ends.{asks-next, sets-there, sources-come, verdicts-are}
use Rattle.board_model.proofs.Events.{boards-stand}
use Rattle.board_model.proofs.Few.{asks-few}
use Rattle.board_model.proofs.Finished.{finished-exactly}
use Rattle.board_model.proofs.JobWorlds.{jobs-stand}
use Rattle.board_model.proofs.Making.{changes-leave}
use Rattle.board_model.proofs.Naming.{puts-rest, sources-free, staged-rest}
use Rattle.board_model.proofs.Once.{settled-once}
use Rattle.board_model.proofs.Reaching.{absorbed-reached, issued-reached, new-reached, settled-reached}
use Rattle.board_model.proofs.ReadAnew.{read-anew-reached}
use Rattle.board_model.proofs.Resting.{absorbed-rest, asks-begin, new-rest, settled-rest}
use Rattle.board_model.proofs.Showing.{causes-shown, outcomes-shown, releases-shown}
use Rattle.board_model.proofs.Touching.{touched-apart, touched-own}
use Rattle.board_model.specs.CallLaws.{AbsorbedBoardsWantParts, AsksBeginWell, BoardsWithoutJobsAskNothing, JobsAlwaysStand, NewBoardsWantParts, NoneGoesOutExactly, OutNumbersAsk, QuietBoardsAreReady, SettledBoardsWantParts, SourcesAreSettledOnce}
use Rattle.board_model.specs.CauseLaws.{LastAnswersShowCauses, LastAnswersShowOutcomes, LastAnswersShowReleases}
use Rattle.board_model.specs.CountLaws.{AsksAreFewByReading}
use Rattle.board_model.specs.Laws.{BoardsStand, FinishedExactly, ItemsAskNext, SetsThereAreHeld, SettledSourcesCome, VerdictsAreMirrors}
use Rattle.board_model.specs.NameLaws.{SettledPutsAreWanted, SettledSourcesFree, StagedAsksAreWanted}
use Rattle.board_model.specs.Reached.{AbsorbedBoardsAreReached, IssuedBoardsAreReached, NewBoardsAreReached, SettledBoardsAreReached}
use Rattle.board_model.specs.ReadAnew.{ReadAnewAreReached}
use Rattle.board_model.specs.RunLaws.{FinishedBoardsTell, FinishedBoardsTellMirrors, FinishedRunsAgree, ReadySourcesLeaveOutcomes, ToldSetsAreListed, ToldSetsAreMirrors}
use Rattle.board_model.specs.SetLaws.{ChangesLeaveOutcomes, TouchedAreApart, TouchedAreOwn}
use Rattle.host_queues.proofs.Theorems.{hosts_keep_lanes}
use Rattle.item_graph.proofs.Theorems.{points_end_in_routes}
use Rattle.update_model.proofs.Theorems.{held_sets_are_found, lists_ask_little, lists_end_as_listed, releases_ask_little, routes_make_new_sets, runs_stand_in_routes, sets_are_admissible, sets_are_as_listed, sets_made_are_new}

pub boards_stand : BoardsStand
boards_stand = boards-stand

pub items_ask_next : ItemsAskNext
items_ask_next = asks-next runs_stand_in_routes

pub finished_exactly : FinishedExactly
finished_exactly = finished-exactly

pub settled_sources_come : SettledSourcesCome
settled_sources_come = sources-come points_end_in_routes

pub verdicts_are_mirrors : VerdictsAreMirrors
verdicts_are_mirrors = verdicts-are routes_make_new_sets

pub sets_there_are_held : SetsThereAreHeld
sets_there_are_held = sets-there

pub new_boards_are_reached : NewBoardsAreReached
new_boards_are_reached = new-reached

pub issued_boards_are_reached : IssuedBoardsAreReached
issued_boards_are_reached = issued-reached

pub absorbed_boards_are_reached : AbsorbedBoardsAreReached
absorbed_boards_are_reached = absorbed-reached

pub settled_boards_are_reached : SettledBoardsAreReached
settled_boards_are_reached = settled-reached

pub jobs_always_stand : JobsAlwaysStand
jobs_always_stand = jobs-stand hosts_keep_lanes

pub out_numbers_ask : OutNumbersAsk
out_numbers_ask = out-asks hosts_keep_lanes

pub none_goes_out_exactly : NoneGoesOutExactly
none_goes_out_exactly = none-exactly hosts_keep_lanes

pub boards_without_jobs_ask_nothing : BoardsWithoutJobsAskNothing
boards_without_jobs_ask_nothing = idle-boards hosts_keep_lanes

pub quiet_boards_are_ready : QuietBoardsAreReady
quiet_boards_are_ready = quiet-boards

pub asks_begin_well : AsksBeginWell
asks_begin_well = asks-begin

pub new_boards_want_parts : NewBoardsWantParts
new_boards_want_parts = new-rest

pub absorbed_boards_want_parts : AbsorbedBoardsWantParts
absorbed_boards_want_parts = absorbed-rest

pub settled_boards_want_parts : SettledBoardsWantParts
settled_boards_want_parts = settled-rest

pub staged_asks_are_wanted : StagedAsksAreWanted
staged_asks_are_wanted = staged-rest

pub settled_puts_are_wanted : SettledPutsAreWanted
settled_puts_are_wanted = puts-rest

pub settled_sources_free : SettledSourcesFree
settled_sources_free = sources-free

pub sources_are_settled_once : SourcesAreSettledOnce
sources_are_settled_once = settled-once

pub asks_are_few_by_reading : AsksAreFewByReading
asks_are_few_by_reading =
    λ short fit. asks-few (record {
      stand = runs_stand_in_routes;
      lists = lists_ask_little;
      releases = releases_ask_little;
      sets = sets_are_admissible;
      short = short;
      fit = fit;
    })

pub finished_boards_tell : FinishedBoardsTell
finished_boards_tell = finished-tell points_end_in_routes

pub finished_boards_tell_mirrors : FinishedBoardsTellMirrors
finished_boards_tell_mirrors = finished-mirrors points_end_in_routes routes_make_new_sets

pub finished_runs_agree : FinishedRunsAgree
finished_runs_agree = runs-agree points_end_in_routes routes_make_new_sets

pub changes_leave_outcomes : ChangesLeaveOutcomes
changes_leave_outcomes = changes-leave points_end_in_routes lists_end_as_listed sets-there held_sets_are_found

pub ready_sources_leave_outcomes : ReadySourcesLeaveOutcomes
ready_sources_leave_outcomes = ready-leave points_end_in_routes lists_end_as_listed held_sets_are_found

pub touched_are_own : TouchedAreOwn
touched_are_own = touched-own

pub touched_are_apart : TouchedAreApart
touched_are_apart = touched-apart

pub told_sets_are_listed : ToldSetsAreListed
told_sets_are_listed = told-listed points_end_in_routes sets_are_as_listed

pub told_sets_are_mirrors : ToldSetsAreMirrors
told_sets_are_mirrors = told-mirrors points_end_in_routes sets_made_are_new

pub last_answers_show_causes : LastAnswersShowCauses
last_answers_show_causes = causes-shown

pub last_answers_show_releases : LastAnswersShowReleases
last_answers_show_releases = releases-shown

pub last_answers_show_outcomes : LastAnswersShowOutcomes
last_answers_show_outcomes = outcomes-shown

pub read_anew_are_reached : ReadAnewAreReached
read_anew_are_reached = read-anew-reached
