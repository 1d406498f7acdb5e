-- A disk in memory whose calls are done again.
use Rattle.std.specs.Prelude.{◌≡◌, ℕ, List, [], ◌∷◌, map, get_or, Some, None}
use Rattle.std.specs.Ordering.{nat_cmp}
use Rattle.std.specs.Cmp.Lexicographic.{slice_cmp}
use Rattle.std.specs.BTreeMap.{BTreeMap, get}
use Rattle.acq_outside.specs.Disk.{IsName}
use Rattle.acq_outside.specs.History.{FileRows}
use Rattle.acq_outside.specs.Crash.{State, Names, names_of, all_renamed, synced, file_written, file_cut}
use Rattle.acq_memory.specs.declared.replay.Replay.{Replay}
use Rattle.acq_outside.specs.declared.change.DiskCall.{DiskCall}
use Rattle.acq_outside.specs.declared.change.DiskCall.TheVariants.{Write, Cut, Sync, Rename, Remove, SyncNames}
use Rattle.acq_outside.specs.declared.state.FileState.{FileState}
use Rattle.acq_outside.specs.declared.state.NameChange.{NameChange}
use Rattle.acq_outside.specs.declared.state.NameChange.TheVariants.{Made, Moved, Removed}

-- which files the names of a sorted map lead to
abbrev pub names_in : BTreeMap (List ℕ) ℕ → Names
names_in names = λ name. get (slice_cmp nat_cmp) names name

-- what a call does to the file that it is on
abbrev pub file_after : FileState → DiskCall → FileState
file_after file (Write name at bytes) = file_written file at bytes
file_after file (Cut name len) = file_cut file len
file_after file (Sync name) = synced file.seen
file_after file (Rename from to) = synced file.seen
file_after file (Remove name) = synced file.seen
file_after file SyncNames = synced file.seen

abbrev pub nowhere : Names
nowhere = λ name. None

-- the disk that a replay stands at
abbrev pub state_of : Replay → State
state_of standing = record { files = standing.files.items; base = all_renamed nowhere standing.settled.items; pending = standing.pending.items }

-- the map leads where the changes of names do
abbrev pub IsAtNames : Replay → Type 0
IsAtNames standing = names_in standing.names ≡ names_of (state_of standing)

-- a change that gives a name gives one that a disk may have
abbrev pub GivesName : NameChange → Type 0
GivesName (Made name i) = IsName name
GivesName (Moved from to) = IsName to
GivesName (Removed name) = Unit {0}

abbrev pub AllGiveNames : List NameChange → Type 0
AllGiveNames [] = Unit {0}
AllGiveNames (change ∷ changes) = GivesName change × AllGiveNames changes

-- each name that leads to a file is one that a disk may have
pub record LeadsFromNames (names : Names) : Type 0 where
  pub named : (name : List ℕ) (i : ℕ) → names name ≡ Some i → IsName name

-- and so it is in whatever a crash leaves
pub record HasOnlyNames (s : State) : Type 0 where
  pub base : LeadsFromNames s.base
  pub pending : AllGiveNames s.pending

-- the files of a map of names to numbers, by their contents
abbrev pub rows_in : BTreeMap (List ℕ) ℕ → List (List ℕ) → FileRows
rows_in names contents = map (λ (entry : List ℕ × ℕ). (entry.0, get_or contents entry.1 [])) names.entries
