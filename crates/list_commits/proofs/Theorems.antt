-- What holds of the definitions of this crate, for the proofs of the crates above.
use Rattle.list_commits.proofs.Carrying.{alone_all, carried_all, lists_alone}
use Rattle.list_commits.proofs.Gone.{are_loose, cleans_up}
use Rattle.list_commits.proofs.Owned.{installed, sets_made}
use Rattle.list_commits.proofs.Recording.{all_staged, can_record, keep_others}
use Rattle.list_commits.proofs.Turns.{begun_moment, made_in_turn as made_in_turn-from, made_lists, made_moment, unbegun_moment}
use Rattle.list_commits.specs.CarryLaws.{CommitsKeepLists, GatheredAreCarried, ListsAreAlone}
use Rattle.list_commits.specs.Made.{BegunCommitIsProgress, MadeCommitsAreProgress, MadeInTurn, MadeLeavesLists, NoCommitIsProgress}
use Rattle.list_commits.specs.RecordLaws.{GatheredAreStaged, GatheredCanBeRecorded, GatheredKeepOthers}
use Rattle.list_commits.specs.SetLaws.{ChangesMakeSets, DropsCleanUp, LooseNamesAreLoose, MadeSetsAreInstalled}

pub made_commits_are_progress : MadeCommitsAreProgress
made_commits_are_progress = made_moment

pub no_commit_is_progress : NoCommitIsProgress
no_commit_is_progress = unbegun_moment

pub begun_commit_is_progress : BegunCommitIsProgress
begun_commit_is_progress = begun_moment

pub made_in_turn : MadeInTurn
made_in_turn = made_in_turn-from

pub made_leaves_lists : MadeLeavesLists
made_leaves_lists = made_lists

pub changes_make_sets : ChangesMakeSets
changes_make_sets = sets_made

pub made_sets_are_installed : MadeSetsAreInstalled
made_sets_are_installed = installed

pub drops_clean_up : DropsCleanUp
drops_clean_up = cleans_up

pub loose_names_are_loose : LooseNamesAreLoose
loose_names_are_loose = are_loose

pub gathered_can_be_recorded : GatheredCanBeRecorded
gathered_can_be_recorded = can_record

pub gathered_keep_others : GatheredKeepOthers
gathered_keep_others = keep_others

pub gathered_are_staged : GatheredAreStaged
gathered_are_staged = all_staged

pub gathered_are_carried : GatheredAreCarried
gathered_are_carried = carried_all

pub commits_keep_lists : CommitsKeepLists
commits_keep_lists = alone_all

pub lists_are_alone : ListsAreAlone
lists_are_alone = lists_alone
