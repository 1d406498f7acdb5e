-- What holds of the definitions of this crate, for the proofs of the crates above.
use Rattle.board_bounds.proofs.Asking.{asks-fetched, issued-handed, out-handed}
use Rattle.board_bounds.proofs.Chains.{chains-short}
use Rattle.board_bounds.proofs.Counting.{source-few}
use Rattle.board_bounds.proofs.Listed.{listed-sizes, listed-written}
use Rattle.board_bounds.proofs.Naming.{are-lists, partials-others, put-names}
use Rattle.board_bounds.specs.Fetching.{AsksMayBeFetched, IssuedJobsMayBeHanded, JobsOutMayBeHanded}
use Rattle.board_bounds.specs.Names.{PartialNamesAreOthers, PlannedNamesAreLists, PlannedNamesArePutNames}
use Rattle.board_bounds.specs.Readings.{ListedSumsAreWritten}
use Rattle.board_bounds.specs.Sources.{SourceAsksAreFew}
use Rattle.board_model.proofs.Theorems.{asks_are_few_by_reading, asks_begin_well, boards_stand}
use Rattle.board_model.specs.CountLaws.{AsksAreFew, ChainsAreShort, ListedSizesFit}
use Rattle.item_graph.proofs.Theorems.{lists_ask_soundly}
use Rattle.lists_dir.proofs.Theorems.{names_are_of_a_disk}
use Rattle.update_model.proofs.Theorems.{sets_are_admissible}

pub chains_are_short : ChainsAreShort
chains_are_short = chains-short

pub listed_sums_are_written : ListedSumsAreWritten
listed_sums_are_written = listed-written

pub listed_sizes_fit : ListedSizesFit
listed_sizes_fit = listed-sizes

pub asks_are_few : AsksAreFew
asks_are_few = asks_are_few_by_reading chains_are_short listed_sizes_fit

pub source_asks_are_few : SourceAsksAreFew
source_asks_are_few = source-few boards_stand

pub asks_may_be_fetched : AsksMayBeFetched
asks_may_be_fetched = asks-fetched (record { stand = boards_stand; lists = lists_ask_soundly; sets = sets_are_admissible; begin = asks_begin_well })

pub issued_jobs_may_be_handed : IssuedJobsMayBeHanded
issued_jobs_may_be_handed = issued-handed (record { stand = boards_stand; lists = lists_ask_soundly; sets = sets_are_admissible; begin = asks_begin_well })

pub jobs_out_may_be_handed : JobsOutMayBeHanded
jobs_out_may_be_handed = out-handed (record { stand = boards_stand; lists = lists_ask_soundly; sets = sets_are_admissible; begin = asks_begin_well })

pub planned_names_are_put_names : PlannedNamesArePutNames
planned_names_are_put_names = put-names names_are_of_a_disk

pub planned_names_are_lists : PlannedNamesAreLists
planned_names_are_lists = are-lists

pub partial_names_are_others : PartialNamesAreOthers
partial_names_are_others = partials-others
