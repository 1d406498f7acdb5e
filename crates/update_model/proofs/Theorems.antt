-- What holds of the definitions of this crate, for the proofs of the crates above.
use Rattle.release_file.proofs.Theorems.{judged_is_admissible}
use Rattle.update_model.proofs.Asks.{asks-sound}
use Rattle.update_model.proofs.Carried.{deeds-lead}
use Rattle.update_model.proofs.Commits.{commits-lead, commits-once, commits-same}
use Rattle.update_model.proofs.Counts.{lists-few, releases-few, sources-few}
use Rattle.update_model.proofs.Ends.{lists-listed, releases-served}
use Rattle.update_model.proofs.Existence.{next-there}
use Rattle.update_model.proofs.Faults.{lists-had, releases-had}
use Rattle.update_model.proofs.FaultySets.{sets-listed, sets-made}
use Rattle.update_model.proofs.Fronts.{runs-stand}
use Rattle.update_model.proofs.Mirrors.{mirrors-give}
use Rattle.update_model.proofs.Nexts.{nexts-alike, nexts-clean, nexts-keep, sets-found}
use Rattle.update_model.proofs.Obtained.{files-fit, files-obtained, parts-help, patches-help}
use Rattle.update_model.proofs.PatchUris.{patches-short, patches-sound}
use Rattle.update_model.proofs.Routes.{lists-end, releases-end}
use Rattle.update_model.proofs.Sets.{sets-admissible}
use Rattle.update_model.proofs.Sources.{routes-enough, routes-make, sets-fit}
use Rattle.update_model.specs.Carried.{CommitsDoTheSame, CommitsLeadToNext, DeedsLeadToNext, NextIsThere, TogetherIsOneCommit}
use Rattle.update_model.specs.Faults.{ListsEndAsListed, ListsHadAreObtained, ReleasesEndAsServed, ReleasesHadAreObtained, SetsAreAsListed, SetsMadeAreNew}
use Rattle.update_model.specs.Laws.{AsksAreSound, FilesAreObtained, HeldSetsAreFound, ListsAskLittle, ListsEndAsObtained, MirrorsGiveRoutes, NewSetsFit, NextsAreAlike, NextsAreClean, NextsKeep, ObtainedFilesFit, PartsOnlyHelp, PatchesOnlyHelp, PatchUrisAreShort, PatchUrisAreSound, ReleasesAskLittle, ReleasesEndAsObtained, RoutesAreEnough, RoutesMakeNewSets, RunsStandInRoutes, SetsAreAdmissible, SourcesAskLittle}

pub lists_end_as_obtained : ListsEndAsObtained
lists_end_as_obtained = lists-end

pub releases_end_as_obtained : ReleasesEndAsObtained
releases_end_as_obtained = releases-end

pub mirrors_give_routes : MirrorsGiveRoutes
mirrors_give_routes = mirrors-give

pub runs_stand_in_routes : RunsStandInRoutes
runs_stand_in_routes = runs-stand

pub lists_ask_little : ListsAskLittle
lists_ask_little = lists-few

pub releases_ask_little : ReleasesAskLittle
releases_ask_little = releases-few

pub sources_ask_little : SourcesAskLittle
sources_ask_little = sources-few

pub patch_uris_are_sound : PatchUrisAreSound
patch_uris_are_sound = patches-sound

pub patch_uris_are_short : PatchUrisAreShort
patch_uris_are_short = patches-short

pub asks_are_sound : AsksAreSound
asks_are_sound = asks-sound

pub obtained_files_fit : ObtainedFilesFit
obtained_files_fit = files-fit

pub files_are_obtained : FilesAreObtained
files_are_obtained = files-obtained

pub patches_only_help : PatchesOnlyHelp
patches_only_help = patches-help

pub parts_only_help : PartsOnlyHelp
parts_only_help = parts-help

pub sets_are_admissible : SetsAreAdmissible
sets_are_admissible = sets-admissible judged_is_admissible

pub new_sets_fit : NewSetsFit
new_sets_fit = sets-fit

pub routes_make_new_sets : RoutesMakeNewSets
routes_make_new_sets = routes-make

pub routes_are_enough : RoutesAreEnough
routes_are_enough = routes-enough

pub lists_end_as_listed : ListsEndAsListed
lists_end_as_listed = lists-listed

pub releases_end_as_served : ReleasesEndAsServed
releases_end_as_served = releases-served

pub sets_are_as_listed : SetsAreAsListed
sets_are_as_listed = sets-listed judged_is_admissible

pub lists_had_are_obtained : ListsHadAreObtained
lists_had_are_obtained = lists-had

pub releases_had_are_obtained : ReleasesHadAreObtained
releases_had_are_obtained = releases-had

pub sets_made_are_new : SetsMadeAreNew
sets_made_are_new = sets-made

pub nexts_are_alike : NextsAreAlike
nexts_are_alike = nexts-alike

pub nexts_are_clean : NextsAreClean
nexts_are_clean = nexts-clean

pub nexts_keep : NextsKeep
nexts_keep = nexts-keep

pub held_sets_are_found : HeldSetsAreFound
held_sets_are_found = sets-found

pub deeds_lead_to_next : DeedsLeadToNext
deeds_lead_to_next = deeds-lead

pub commits_do_the_same : CommitsDoTheSame
commits_do_the_same = commits-same

pub together_is_one_commit : TogetherIsOneCommit
together_is_one_commit = commits-once

pub commits_lead_to_next : CommitsLeadToNext
commits_lead_to_next = commits-lead

pub next_is_there : NextIsThere
next_is_there = next-there
