-- What the crates below say, as far as a run rests on it.
use Rattle.board_bounds.proofs.Theorems.{partial_names_are_others, planned_names_are_lists, planned_names_are_put_names}
use Rattle.board_bounds.specs.Names.{PartialNamesAreOthers, PlannedNamesAreLists, PlannedNamesArePutNames}
use Rattle.board_model.proofs.Theorems.{boards_stand, finished_exactly, new_boards_are_reached, new_boards_want_parts, quiet_boards_are_ready, settled_boards_are_reached, settled_boards_want_parts, settled_puts_are_wanted, settled_sources_free, sources_are_settled_once, touched_are_apart, touched_are_own}
use Rattle.board_model.specs.CallLaws.{NewBoardsWantParts, QuietBoardsAreReady, SettledBoardsWantParts, SourcesAreSettledOnce}
use Rattle.board_model.specs.Laws.{BoardsStand, FinishedExactly}
use Rattle.board_model.specs.NameLaws.{SettledPutsAreWanted, SettledSourcesFree}
use Rattle.board_model.specs.Reached.{NewBoardsAreReached, SettledBoardsAreReached}
use Rattle.board_model.specs.SetLaws.{TouchedAreApart, TouchedAreOwn}
use Rattle.lane_jobs.proofs.Known.{lists_known}
use Rattle.list_commits.proofs.Theorems.{begun_commit_is_progress, gathered_are_staged, gathered_can_be_recorded, gathered_keep_others, made_commits_are_progress, made_leaves_lists, no_commit_is_progress}
use Rattle.list_commits.specs.Made.{BegunCommitIsProgress, MadeCommitsAreProgress, MadeLeavesLists, NoCommitIsProgress}
use Rattle.list_commits.specs.RecordLaws.{GatheredAreStaged, GatheredCanBeRecorded, GatheredKeepOthers}
use Rattle.run_jobs.proofs.Lists.{ListLaws}
use Rattle.run_model.proofs.Theorems.{groups_stay, installed_are_once, installed_lists_are_run_input, lists_are_read, loose_lists_stay, opened_lists_are_alone}
use Rattle.run_model.specs.Beginnings.{InstalledAreOnce, InstalledListsAreRunInput, ListsAreRead, LooseListsStay, OpenedListsAreAlone}
use Rattle.run_model.specs.Laws.{GroupsStay}

-- of a source that is settled
pub record SettlingLaws : Type 0 where
  pub stand : BoardsStand
  pub reached : SettledBoardsAreReached
  pub rest : SettledBoardsWantParts
  pub once : SourcesAreSettledOnce
  pub own : TouchedAreOwn
  pub apart : TouchedAreApart
  pub lists : ListLaws

-- and of commits of sources that were settled
pub record CommittingLaws : Type 0 where
  pub settling : SettlingLaws
  pub puts : SettledPutsAreWanted
  pub free : SettledSourcesFree
  pub put_names : PlannedNamesArePutNames
  pub list_names : PlannedNamesAreLists
  pub other_names : PartialNamesAreOthers
  pub can : GatheredCanBeRecorded
  pub others : GatheredKeepOthers
  pub staged : GatheredAreStaged
  pub once : InstalledAreOnce
  pub made : MadeCommitsAreProgress
  pub unbegun : NoCommitIsProgress
  pub begun : BegunCommitIsProgress
  pub leaves : MadeLeavesLists
  pub stay : GroupsStay
  pub loose : LooseListsStay

-- and of boards on which nothing is asked
pub record FinishingLaws : Type 0 where
  pub ready : QuietBoardsAreReady
  pub exactly : FinishedExactly

-- and of a board that is new, over the lists that a disk at rest has
pub record BeginningLaws : Type 0 where
  pub reached : NewBoardsAreReached
  pub rest : NewBoardsWantParts
  pub over : InstalledListsAreRunInput
  pub alone : OpenedListsAreAlone
  pub read : ListsAreRead
  pub lists : ListLaws

pub settlings_known : SettlingLaws
settlings_known = record {
  stand = boards_stand;
  reached = settled_boards_are_reached;
  rest = settled_boards_want_parts;
  once = sources_are_settled_once;
  own = touched_are_own;
  apart = touched_are_apart;
  lists = lists_known;
}

pub commits_known : CommittingLaws
commits_known = record {
  settling = settlings_known;
  puts = settled_puts_are_wanted;
  free = settled_sources_free;
  put_names = planned_names_are_put_names;
  list_names = planned_names_are_lists;
  other_names = partial_names_are_others;
  can = gathered_can_be_recorded;
  others = gathered_keep_others;
  staged = gathered_are_staged;
  once = installed_are_once;
  made = made_commits_are_progress;
  unbegun = no_commit_is_progress;
  begun = begun_commit_is_progress;
  leaves = made_leaves_lists;
  stay = groups_stay;
  loose = loose_lists_stay;
}

pub ends_known : FinishingLaws
ends_known = record {
  ready = quiet_boards_are_ready;
  exactly = finished_exactly;
}

pub beginnings_known : BeginningLaws
beginnings_known = record {
  reached = new_boards_are_reached;
  rest = new_boards_want_parts;
  over = installed_lists_are_run_input;
  alone = opened_lists_are_alone;
  read = lists_are_read;
  lists = lists_known;
}
