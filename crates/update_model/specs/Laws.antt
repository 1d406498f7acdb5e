-- What the laws of this crate say.
use Rattle.std.specs.Prelude.{◌≡◌, ◌≤◌, ◌+◌, ◌*◌, ◌↔◌, ℕ, ℤ, List, [], ◌∷◌, ◌++◌, Any, Contains, length, map, true, Option, Some, None, option_and_then, Ok, Err, IsTrue, IfSome}
use Rattle.std.specs.List.{flat_map, sum_by, AllByRecursion as Each}
use Rattle.std.specs.Option.{option_map_or}
use Rattle.acq_base.specs.Mirror.{MirrorMap}
use Rattle.acq_base.specs.Plan.{plan_names}
use Rattle.acq_base.specs.Sum.{Fits}
use Rattle.acq_base.specs.Uri.{IsSound, list_name, uri_text}
use Rattle.acq_base.specs.declared.plan.Plan.{Plan}
use Rattle.acq_base.specs.declared.plan.Source.{Source}
use Rattle.acq_base.specs.declared.settings.Settings.{Settings}
use Rattle.acq_base.specs.declared.sum.Sum.{Sum}
use Rattle.pdiff_index.specs.Index.{is_name}
use Rattle.release_file.specs.Release.{release_of}
use Rattle.release_file.specs.declared.changing.Change.{Change}
use Rattle.update_model.specs.Files.{served, fitting, sum_of_body}
use Rattle.update_model.specs.Mirrored.{over, trails_over}
use Rattle.update_model.specs.Next.{IsNext, Alike, Keeps, HasWholeSet, has_whole_set, lets_clean_up}
use Rattle.update_model.specs.Obtained.{patched, resumed, reached_files, obtain}
use Rattle.update_model.specs.Outcomes.{AdmittedRelease, Staying, Directory, PartFiles, admitted, bytes_of, outcome, wanted_by, obtained, new_set}
use Rattle.update_model.specs.Points.{start, run, ran, AsksFirst}
use Rattle.update_model.specs.Releases.{IsAdmissible, installed_release, obtain_release}
use Rattle.update_model.specs.Trails.{LaneAnswer, Trail, Agrees, Lives, entries}
use Rattle.update_model.specs.Walks.{Walk, IsRoute, target_walk, release_walk}
use Rattle.update_model.specs.Wanted.{chain, patch_uri}
use Rattle.update_model.specs.declared.wanted.Wanted.{Wanted}
use Rattle.update_model.specs.declared.ask.Body.TheVariants.{Bytes, Staged}
use Rattle.update_model.specs.declared.end.End.{End}
use Rattle.update_model.specs.declared.end.End.TheVariants.{Got, Stands, Ended}
use Rattle.update_model.specs.declared.log.Asked.{Asked}

-- ---- routes

-- an end, in which a file is known by its sum
abbrev pub by_sum : End → End
by_sum (Got body) = Got (Staged (sum_of_body body))
by_sum other = other

-- a list's route that agrees with a mirror and holds no dead position ends as the list is obtained
abbrev pub ListsEndAsObtained : Type 0
ListsEndAsObtained =
    (world : MirrorMap) (installed : Option (List ℕ)) (part : List ℕ) (w : Wanted) (retries : ℕ) (trails : List Trail) (end : End)
    → IsRoute retries (target_walk installed (length part) w) trails end → Agrees world part trails → Lives trails
    → by_sum end ≡ by_sum (obtain world installed part w)

-- and a Release's route as the Release is
abbrev pub ReleasesEndAsObtained : Type 0
ReleasesEndAsObtained =
    (world : MirrorMap) (source : Source) (retries : ℕ) (trails : List Trail) (end : End)
    → IsRoute retries (release_walk source) trails end → Agrees world [] trails → Lives trails
    → end ≡ obtain_release world source

-- over each mirror each walk has such a route
abbrev pub MirrorsGiveRoutes : Type 0
MirrorsGiveRoutes =
    (world : MirrorMap) (part : List ℕ) (walk : Walk) (retries : ℕ)
    → IsRoute retries walk (trails_over world part walk) (over world part walk)
    × Agrees world part (trails_over world part walk)
    × Lives (trails_over world part walk)

-- Whatever is answered, the entries so far are the front of a route, and what is asked is the next of it.
abbrev pub RunsStandInRoutes : Type 0
RunsStandInRoutes =
    (walk : Walk) (retries source : ℕ) (path : List ℕ) (ts : List LaneAnswer)
    → (trails : List Trail) × (end : End) × (rest : List Asked)
    × IsRoute retries walk trails end
    × (entries source path trails ≡ ran retries source path (start retries walk) ts ++ rest)
    × AsksFirst (run retries (start retries walk) ts) rest end

-- ---- how much is asked

-- how many patches the Index of these trails leads by, none where it leads nowhere
abbrev pub links_in : Option (List ℕ) → Wanted → List Trail → ℕ
links_in (Some file) w (t ∷ trails) =
    option_map_or length (option_and_then (λ sum. option_and_then (chain w file) (fitting sum (served t.ending))) w.index) 0
links_in installed w trails = 0

abbrev pub ListsAskLittle : Type 0
ListsAskLittle =
    (installed : Option (List ℕ)) (part : ℕ) (w : Wanted) (retries source : ℕ) (path : List ℕ) (trails : List Trail) (end : End)
    → IsRoute retries (target_walk installed part w) trails end
    → length (entries source path trails) ≤ 11 * (retries + 1) * (4 + links_in installed w trails)

abbrev pub ReleasesAskLittle : Type 0
ReleasesAskLittle =
    (source : Source) (retries no : ℕ) (path : List ℕ) (trails : List Trail) (end : End)
    → IsRoute retries (release_walk source) trails end
    → length (entries no path trails) ≤ 11 * (retries + 1) * 2

-- a list with its installed file, the size of its partial file, and its trails
pub record ListRoute : Type 0 where
  pub installed : Option (List ℕ)
  pub part : ℕ
  pub wanted : Wanted
  pub trails : List Trail

abbrev pub lists_entries : ℕ → List ListRoute → List Asked
lists_entries source = flat_map (λ l. entries source l.wanted.path l.trails)

abbrev pub links_of_lists : List ListRoute → ℕ
links_of_lists = sum_by (λ l. 4 + links_in l.installed l.wanted l.trails)

-- the entries of a whole source: its Release's, and each list's
abbrev pub SourcesAskLittle : Type 0
SourcesAskLittle =
    (source : Source) (retries n : ℕ) (path : List ℕ) (trails : List Trail) (end : End) (lists : List ListRoute)
    → IsRoute retries (release_walk source) trails end
    → Each (λ l. (e : End) × IsRoute retries (target_walk l.installed l.part l.wanted) l.trails e) lists
    → length (entries n path trails ++ lists_entries n lists) ≤ 11 * (retries + 1) * (2 + links_of_lists lists)

-- ---- where lists and patches lie

-- the patch Index of a list, and each patch that it may name, lies at a sound URI where that isn't too long
abbrev pub PatchUrisAreSound : Type 0
PatchUrisAreSound =
    (w : Wanted) (name : List ℕ) → IsSound w.uri → IsTrue (is_name name) → length (uri_text (patch_uri w name)) ≤ 16384
    → IsSound (patch_uri w name)

-- as it isn't where the list is installed under a name of at most 240 bytes
abbrev pub PatchUrisAreShort : Type 0
PatchUrisAreShort =
    (w : Wanted) (name : List ℕ) → length (list_name w.uri) ≤ 240 → IsTrue (is_name name)
    → length (uri_text (patch_uri w name)) ≤ 16384

-- So each ask for a list is for a sound URI, whatever was answered before it and whatever an Index names, where the list's
-- own URI and the one under its digest are sound and its name is short.
abbrev pub AsksAreSound : Type 0
AsksAreSound =
    (installed : Option (List ℕ)) (part : ℕ) (w : Wanted) (retries : ℕ) (trails : List Trail) (end : End)
    → IsSound w.uri → IfSome w.hashed IsSound → length (list_name w.uri) ≤ 240
    → IsRoute retries (target_walk installed part w) trails end → Each (λ t. IsSound t.ask.uri) trails

-- ---- what is obtained

-- a list that has a file
abbrev pub IsHad : End → Type 0
IsHad (Ended cause) = ⊥
IsHad end = Unit {0}

-- the file that an end stands for, beside the installed one
abbrev pub file_of : Option (List ℕ) → End → Option (List ℕ)
file_of installed Stands = installed
file_of installed (Got (Bytes bytes)) = Some bytes
file_of installed other = None

-- a file that is there is the one of the sum
abbrev pub IsFileOf : Sum → Option (List ℕ) → Type 0
IsFileOf sum None = ⊥
IsFileOf sum (Some bytes) = Fits bytes sum

-- the file that a list comes to is the listed one
abbrev pub ObtainedFilesFit : Type 0
ObtainedFilesFit =
    (world : MirrorMap) (installed : Option (List ℕ)) (part : List ℕ) (w : Wanted)
    → IsHad (obtain world installed part w) → IsFileOf w.sum (file_of installed (obtain world installed part w))

-- a list has a file exactly where the installed, the patched or the resumed file, or one that is reached, is the listed one
abbrev pub FilesAreObtained : Type 0
FilesAreObtained =
    (world : MirrorMap) (installed : Option (List ℕ)) (part : List ℕ) (w : Wanted)
    → IsHad (obtain world installed part w)
    ↔ Any (IsFileOf w.sum) (installed ∷ patched world installed w ∷ resumed world part w ∷ reached_files world w)

-- patches that don't lead to the list change nothing
abbrev pub PatchesOnlyHelp : Type 0
PatchesOnlyHelp =
    (world : MirrorMap) (installed : Option (List ℕ)) (part : List ℕ) (w : Wanted)
    → (IsFileOf w.sum (patched world installed w) → ⊥)
    → obtain world installed part w ≡ obtain world installed part (record w { index = None })

-- nor does a partial file whose rest doesn't make the list
abbrev pub PartsOnlyHelp : Type 0
PartsOnlyHelp =
    (world : MirrorMap) (installed : Option (List ℕ)) (part : List ℕ) (w : Wanted)
    → (IsFileOf w.sum (resumed world part w) → ⊥)
    → obtain world installed part w ≡ obtain world installed [] w

-- ---- new sets

-- a new set comes exactly from a Release that is admissible, each of whose lists has a file
abbrev pub SetsAreAdmissible : Type 0
SetsAreAdmissible =
    (r : End) (ends : List End) (old : Option (List ℕ)) (settings : Settings) (change : Change) (now : ℤ) (set : AdmittedRelease)
    → (outcome r ends old settings change now ≡ Ok set)
    ↔ ((bytes_of r ≡ Ok set.bytes) × (release_of set.bytes ≡ Ok set.release)
    × IsAdmissible set.release (installed_release old) settings.dates change now × Each IsHad ends)

-- over a mirror, each list that the Release of a new set names has a file of the sum that it lists
abbrev pub NewSetsFit : Type 0
NewSetsFit =
    (world : MirrorMap) (dir : Directory) (parts : PartFiles) (source : Source) (settings : Settings) (change : Change) (now : ℤ) (set : AdmittedRelease)
    → new_set world dir parts source settings change now ≡ Ok set
    → Each (λ w. IsFileOf w.sum (file_of (dir w.name.0) (obtained world dir parts w))) (wanted_by source settings (Ok set))

-- a list with its trails and their end
pub record ListEnd : Type 0 where
  pub wanted : Wanted
  pub trails : List Trail
  pub end : End

-- these are routes of the lists that a source asks, and they agree with a mirror and hold no dead position
abbrev pub AreRoutesOver : MirrorMap → Directory → PartFiles → ℕ → List ListEnd → Type 0
AreRoutesOver world dir parts retries =
    Each (λ l. IsRoute retries (target_walk (dir l.wanted.name.0) (length (parts l.wanted.name.0)) l.wanted) l.trails l.end
    × Agrees world (parts l.wanted.name.0) l.trails × Lives l.trails)

-- routes of a source that agree with a mirror and hold no dead position come to its new set, or to why there is none
abbrev pub RoutesMakeNewSets : Type 0
RoutesMakeNewSets =
    (world : MirrorMap) (dir : Directory) (parts : PartFiles) (source : Source) (settings : Settings) (change : Change) (now : ℤ) (retries : ℕ)
    (trails : List Trail) (r : End) (lists : List ListEnd)
    → IsRoute retries (release_walk source) trails r → Agrees world [] trails → Lives trails
    → map (λ l. l.wanted) lists ≡ wanted_by source settings (admitted r (dir source.release_name.0) settings change now)
    → AreRoutesOver world dir parts retries lists
    → outcome r (map (λ l. l.end) lists) (dir source.release_name.0) settings change now ≡ new_set world dir parts source settings change now

-- so two mirrors with which the same routes agree have the same for a source: it depends on the URIs of the routes alone
abbrev pub RoutesAreEnough : Type 0
RoutesAreEnough =
    (world other : MirrorMap) (dir : Directory) (parts : PartFiles) (source : Source) (settings : Settings) (change : Change) (now : ℤ) (retries : ℕ)
    (trails : List Trail) (r : End) (lists : List ListEnd)
    → IsRoute retries (release_walk source) trails r → Agrees world [] trails → Agrees other [] trails → Lives trails
    → map (λ l. l.wanted) lists ≡ wanted_by source settings (admitted r (dir source.release_name.0) settings change now)
    → AreRoutesOver world dir parts retries lists → AreRoutesOver other dir parts retries lists
    → new_set world dir parts source settings change now ≡ new_set other dir parts source settings change now

-- ---- what a run leaves

-- what a run leaves is determined, bytes of equal sums aside
abbrev pub NextsAreAlike : Type 0
NextsAreAlike =
    (world : MirrorMap) (dir : Directory) (parts : PartFiles) (plan : Plan) (settings : Settings) (change : Change) (now : ℤ) (a b : Directory)
    → IsNext world dir parts plan settings change now a → IsNext world dir parts plan settings change now b → Alike plan a b

-- where clean-up is on and each source has a new set or keeps a newer one, no name of no source is left
abbrev pub NextsAreClean : Type 0
NextsAreClean =
    (world : MirrorMap) (dir : Directory) (parts : PartFiles) (plan : Plan) (settings : Settings) (change : Change) (now : ℤ) (after : Directory)
    → IsNext world dir parts plan settings change now after → settings.cleanup ≡ true
    → Each (λ source. lets_clean_up (new_set world dir parts source settings change now) ≡ true) plan.sources
    → (name : List ℕ) → (Contains (plan_names plan) name → ⊥) → after name ≡ None

-- a source without a new set keeps all that lies under its names
abbrev pub NextsKeep : Type 0
NextsKeep =
    (world : MirrorMap) (dir : Directory) (parts : PartFiles) (plan : Plan) (settings : Settings) (change : Change) (now : ℤ) (after : Directory)
    → IsNext world dir parts plan settings change now after
    → (source : Source) (why : Staying) → Contains plan.sources source → new_set world dir parts source settings change now ≡ Err why
    → Keeps source dir after

-- the test of a set that is there already
abbrev pub HeldSetsAreFound : Type 0
HeldSetsAreFound = (dir : Directory) (source : Source) (set : AdmittedRelease) → (has_whole_set dir source set ≡ true) ↔ HasWholeSet dir source set
