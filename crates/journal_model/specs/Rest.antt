-- A disk between two commits, and the lists on their way.
use Rattle.std.specs.Prelude.{◌≡◌, ◌≢◌, ◌⊎◌, ℕ, ◌≤◌, true, nat_lt, if◌then◌else◌, List, [], ◌∷◌, Option, Some, None, option_map}
use Rattle.acq_outside.specs.Disk.{Files}
use Rattle.acq_outside.specs.Crash.{State, IsOutcome, IsImage, reads, names_of, file_at, synced}
use Rattle.acq_outside.specs.States.{From}
use Rattle.acq_outside.specs.declared.state.FileState.{FileState}
use Rattle.acq_outside.specs.declared.state.NameChange.{NameChange}
use Rattle.acq_outside.specs.declared.state.NameChange.TheVariants.{Made, Moved, Removed}
use Rattle.journal_model.specs.Names.{journal, partial, is_own_name, is_installed_name}
use Rattle.journal_model.specs.Reading.{journal_state_of, journal_state_in}
use Rattle.journal_model.specs.Reopen.{CrashLeaves}
use Rattle.journal_model.specs.declared.step.Step.{Step}
use Rattle.journal_model.specs.declared.step.Step.TheVariants.{Put, Drop}
use Rattle.journal_model.specs.declared.step.JournalState.TheVariants.{Open, Shut}

-- a change of names that changes no list and no journal
abbrev pub ChangesNoInstalledName : NameChange → Type 0
ChangesNoInstalledName (Made name i) = is_own_name name ≡ true
ChangesNoInstalledName (Moved from to) = (is_own_name from ≡ true) × (is_own_name to ≡ true)
ChangesNoInstalledName (Removed name) = is_own_name name ≡ true

abbrev pub AllChangeNoInstalledName : List NameChange → Type 0
AllChangeNoInstalledName [] = Unit {0}
AllChangeNoInstalledName (change ∷ changes) = ChangesNoInstalledName change × AllChangeNoInstalledName changes

-- whatever a crash leaves of a file, its first byte is there and 0
pub record IsShut (file : FileState) : Type 0 where
  pub rest : List (Option ℕ)
  pub cells : file.cells ≡ Some 0 ∷ rest
  pub least : 1 ≤ file.least

-- A commit may be prepared: no change of a list's name or of the journal's is pending, and a crash leaves a journal whose
-- gate is 0.
pub record IsIdle (s : State) : Type 0 where
  pub aside : AllChangeNoInstalledName s.pending
  pub number : ℕ
  pub leads : s.base journal ≡ Some number
  pub shut : IsShut (file_at s.files number)

-- no change of a list's name or of the journal's is pending, and a crash leaves no gate open
pub record IsQuiet (s : State) : Type 0 where
  pub aside : AllChangeNoInstalledName s.pending
  pub shut : (i : ℕ) → s.base journal ≡ Some i → (bytes : List ℕ) → IsOutcome (file_at s.files i) bytes → journal_state_of bytes ≡ Shut

-- whatever a crash leaves, the journal is there and its gate is 0
abbrev pub LeavesShut : State → Type 0
LeavesShut s = (image : Files) → IsImage s image → (rest : List ℕ) × (image journal ≡ Some (0 ∷ rest))

-- these steps put a list that is on its way under this name
abbrev pub PutsPart : List Step → List ℕ → Type 0
PutsPart [] name = ⊥
PutsPart (Put list ∷ steps) name = (name ≡ partial list) ⊎ PutsPart steps name
PutsPart (Drop list ∷ steps) name = PutsPart steps name

-- a record whose gate a crash may leave open puts a list that is on its way under this name
pub record MayBePutByRecord (s : State) (name : List ℕ) : Type 0 where
  pub image : Files
  pub left : IsImage s image
  pub steps : List Step
  pub gate : journal_state_in (image journal) ≡ Open steps
  pub puts : PutsPart steps name

-- no list, and none that is on its way and that a record names whose gate may be open, was written or cut since its last
-- sync
abbrev pub IsSynced : State → Type 0
IsSynced s = (name : List ℕ) (i : ℕ) → (is_installed_name name ≡ true) ⊎ MayBePutByRecord s name → names_of s name ≡ Some i → file_at s.files i ≡ synced (file_at s.files i).seen

-- between two commits the disk has these lists, and a crash leaves them
pub record IsAtRest (folder : Files) (s : State) : Type 0 where
  pub leaves : CrashLeaves folder s
  pub synced : IsSynced s
  pub lists_are : (name : List ℕ) → is_installed_name name ≡ true → reads s name ≡ folder name

-- where a commit might be prepared, one still may, and what was at rest is so with its lists
pub record KeepsAtRest (s t : State) : Type 0 where
  pub rest : IsIdle s → (folder : Files) → IsAtRest folder s → IsAtRest folder t
  pub idle : IsIdle s → IsIdle t

abbrev pub KeptAtRestSince : List State → State → Type 0
KeptAtRestSince = From KeepsAtRest

-- Files by their names.

abbrev pub file_named : State → List ℕ → Option FileState
file_named s name = option_map (file_at s.files) (names_of s name)

-- the file that a name leads to, whole, with what lasts of it; none where the disk tells nothing
abbrev pub file_now : List State → List ℕ → Option FileState
file_now [] name = None
file_now (s ∷ past) name = file_named s name

-- The lists on their way.

-- the file in which a list is on its way
abbrev pub part_file : List State → List ℕ → Option FileState
part_file trace name = file_now trace (partial name)

abbrev pub bytes_in : Option FileState → List ℕ
bytes_in None = []
bytes_in (Some file) = file.seen

-- what reads give of it
abbrev pub part_bytes : List State → List ℕ → List ℕ
part_bytes trace name = bytes_in (part_file trace name)

-- the files of all other names stay, and so does what lasts of them
abbrev pub KeepsOtherFiles : List ℕ → List State → List State → Type 0
KeepsOtherFiles name old new = (other : List ℕ) → other ≢ partial name → file_now new other ≡ file_now old other

-- a list is on its way
pub record IsPartThere (name : List ℕ) (s : State) : Type 0 where
  pub file : FileState
  pub is : file_named s (partial name) ≡ Some file

-- it is there with these bytes, and they last
pub record IsPartSynced (name bytes : List ℕ) (s : State) : Type 0 where
  pub is : file_named s (partial name) ≡ Some (synced bytes)

-- a size that a fetch may go on from
abbrev pub size_below : ℕ → ℕ → ℕ
size_below max n = if nat_lt n max then n else 0
