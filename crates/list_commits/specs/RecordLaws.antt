-- Which changes of settled sources, and of a clean-up behind them, make one commit.
use Rattle.std.specs.Prelude.{◌≢◌, ℕ, ◌<◌, ◌≤◌, ◌^◌, All, List, [], ◌∷◌, ◌++◌, length, map, AllPairs, Contains, Option, Some, None, IfSome}
use Rattle.std.specs.List.{AllByRecursion as Each}
use Rattle.acq_base.specs.declared.plan.Source.{Source}
use Rattle.acq_base.specs.declared.uri.ListName.{ListName}
use Rattle.acq_outside.specs.Crash.{State}
use Rattle.acq_outside.specs.Disk.{IsName}
use Rattle.journal_model.specs.Names.{partial}
use Rattle.journal_model.specs.Rest.{IsPartSynced}
use Rattle.update_model.specs.Carried.{all_names}
use Rattle.update_model.specs.declared.ask.Body.{Body}
use Rattle.update_model.specs.declared.ask.Body.TheVariants.{Bytes, Staged}
use Rattle.update_model.specs.declared.settled.Settled.{Settled}
use Rattle.commit_journal.specs.declared.changing.Change.{Change}
use Rattle.commit_journal.specs.Changes.{IsNone, AreAllStaged, CanRecord, all_changed_names}
use Rattle.list_commits.specs.Changes.{changes_for, drops_for}
use Rattle.list_commits.specs.Loose.{AreSorted, IsLoose}
use Rattle.list_commits.specs.SetLaws.{HasPutNames, OwnsChanges}

-- the names of all lists of the sources that are gathered
abbrev pub names_gathered : List (Source × Settled) → List (List ℕ)
names_gathered gathered = all_names (map (λ s. s.0) gathered)

-- settled sources whose changes go into one commit, each of these sources at most once
pub record AreGathered (sources : List Source) (gathered : List (Source × Settled)) : Type 0 where
  pub put : Each (λ s. HasPutNames s.0) gathered
  pub own : Each (λ s. OwnsChanges s.0 s.1) gathered
  pub among : (name : List ℕ) → Contains (names_gathered gathered) name → Contains (all_names sources) name
  pub distinct : AllPairs (λ a b. a ≢ b) (names_gathered gathered)
  pub few : length (names_gathered gathered) ≤ 4096

-- names that a clean-up takes
pub record MayBeRemoved (sources : List Source) (names : List (List ℕ)) : Type 0 where
  pub sorted : AreSorted names
  pub loose : All (IsLoose sources) names
  pub named : All IsName names
  pub few : length names < 2 ^ 31

-- the group of the clean-up, where there is one
abbrev pub group_of : Option (List (List ℕ)) → List (List Change)
group_of None = []
group_of (Some names) = drops_for names ∷ []

-- a group for each source, and that of the clean-up behind them
abbrev pub groups_of : List (Source × Settled) → Option (List (List ℕ)) → List (List Change)
groups_of gathered loose = map (λ s. changes_for s.0 s.1) gathered ++ group_of loose

abbrev pub names_of_group : Option (List (List ℕ)) → List (List ℕ)
names_of_group None = []
names_of_group (Some names) = names

-- what is put from its way is there, and lasts
abbrev pub IsSyncedPart : State → ListName → Body → Type 0
IsSyncedPart s name (Bytes bytes) = Unit {0}
IsSyncedPart s name (Staged sum) = (bytes : List ℕ) × IsPartSynced name.0 bytes s

abbrev pub AllSynced : State → List (Source × Settled) → Type 0
AllSynced s gathered = Each (λ one. Each (λ put. IsSyncedPart s put.0 put.1) one.1.puts) gathered

-- ---- laws

-- they can be recorded
abbrev pub GatheredCanBeRecorded : Type 0
GatheredCanBeRecorded =
    (sources : List Source) (gathered : List (Source × Settled)) (loose : Option (List (List ℕ)))
    → AreGathered sources gathered → IfSome loose (MayBeRemoved sources) → CanRecord (groups_of gathered loose)

-- and they change no file but the lists of their sources, installed or on their way, and what the clean-up takes
abbrev pub GatheredKeepOthers : Type 0
GatheredKeepOthers =
    (sources : List Source) (gathered : List (Source × Settled)) (loose : Option (List (List ℕ))) (other : List ℕ)
    → AreGathered sources gathered
    → (Contains (names_gathered gathered) other → ⊥) → ((name : List ℕ) → Contains (names_gathered gathered) name → partial name ≢ other)
    → (Contains (names_of_group loose) other → ⊥) → IsNone other (all_changed_names (groups_of gathered loose))

-- they are staged where each file that is put from its way is there and lasts
abbrev pub GatheredAreStaged : Type 0
GatheredAreStaged =
    (gathered : List (Source × Settled)) (loose : Option (List (List ℕ))) (s : State) → AllSynced s gathered → AreAllStaged (groups_of gathered loose) s
