-- The changes of a commit: what they make of the lists, which steps of a record they are, and when they may be prepared.
use Rattle.std.specs.Prelude.{◌≡◌, ◌≢◌, ℕ, ◌<◌, ◌^◌, true, if◌then◌else◌, List, [], ◌∷◌, ◌++◌, length, Some, None}
use Rattle.acq_outside.specs.Disk.{Files, IsName, with_file}
use Rattle.acq_outside.specs.Crash.{State}
use Rattle.journal_model.specs.Names.{lock, journal, partial, is_file_name, is_inside, is_installed_name, IsPutName}
use Rattle.journal_model.specs.Rest.{IsPartSynced}
use Rattle.journal_model.specs.declared.step.Step.{Step}
use Rattle.journal_model.specs.declared.step.Step.TheVariants as steps
use Rattle.commit_journal.specs.declared.changing.Change.{Change}
use Rattle.commit_journal.specs.declared.changing.Change.TheVariants.{Put, Drop}
use Rattle.commit_journal.specs.declared.changing.Content.{Content}
use Rattle.commit_journal.specs.declared.changing.Content.TheVariants.{Held, Staged}

-- A change with the bytes that it puts: those given, or those on their way under the list's name.
pub data Filled : Type 0 where
  PutFile : (name : List ℕ) → (bytes : List ℕ) → Filled
  DropFile : (name : List ℕ) → Filled

abbrev pub content_of : (List ℕ → List ℕ) → List ℕ → Content → List ℕ
content_of part name (Held bytes) = bytes
content_of part name Staged = part name

abbrev pub filled_one : (List ℕ → List ℕ) → Change → Filled
filled_one part (Put name content) = PutFile name.0 (content_of part name.0 content)
filled_one part (Drop name) = DropFile name

abbrev pub filled : (List ℕ → List ℕ) → List Change → List Filled
filled part [] = []
filled part (change ∷ changes) = filled_one part change ∷ filled part changes

unfoldable pub filled_all : (List ℕ → List ℕ) → List (List Change) → List (List Filled)
filled_all part [] = []
filled_all part (group ∷ groups) = filled part group ∷ filled_all part groups

-- The lists after it. A name that is no list's changes none.
abbrev pub folder_step : Files → Filled → Files
folder_step folder (PutFile name bytes) = if is_installed_name name then with_file folder name (Some bytes) else folder
folder_step folder (DropFile name) = if is_installed_name name then with_file folder name None else folder

abbrev pub folder_steps : List Filled → Files → Files
folder_steps [] folder = folder
folder_steps (change ∷ changes) folder = folder_steps changes (folder_step folder change)

-- after all groups, in order
unfoldable pub after_commit : List (List Filled) → Files → Files
after_commit [] folder = folder
after_commit (group ∷ groups) folder = after_commit groups (folder_steps group folder)

-- The steps of the record.
abbrev pub step_of : Change → Step
step_of (Put name content) = steps.Put name.0
step_of (Drop name) = steps.Drop name

abbrev pub steps_of : List Change → List Step
steps_of [] = []
steps_of (change ∷ changes) = step_of change ∷ steps_of changes

abbrev pub steps_in : List (List Change) → List (List Step)
steps_in [] = []
steps_in (group ∷ groups) = steps_of group ∷ steps_in groups

abbrev pub all_changes : List (List Change) → List Change
all_changes [] = []
all_changes (group ∷ groups) = group ++ all_changes groups

-- The names that they change: a Put its own, and that under which it is on its way.
abbrev pub touched_one : Change → List (List ℕ)
touched_one (Put name content) = name.0 ∷ partial name.0 ∷ []
touched_one (Drop name) = name ∷ []

abbrev pub changed_names : List Change → List (List ℕ)
changed_names [] = []
changed_names (change ∷ changes) = touched_one change ++ changed_names changes

abbrev pub all_changed_names : List (List Change) → List (List ℕ)
all_changed_names groups = changed_names (all_changes groups)

-- the name is none of these
abbrev pub IsNone : List ℕ → List (List ℕ) → Type 0
IsNone name [] = Unit {0}
IsNone name (other ∷ others) = (other ≢ name) × IsNone name others

-- no two are one
abbrev pub AreApart : List (List ℕ) → Type 0
AreApart [] = Unit {0}
AreApart (name ∷ names) = IsNone name names × AreApart names

-- a name under which a record may put a list: that of a file in the folder
pub record IsListPut (name : List ℕ) : Type 0 where
  pub put : IsPutName name
  pub file : is_file_name name ≡ true

-- a name that a record may remove: it stays in the folder
pub record IsDropName (name : List ℕ) : Type 0 where
  pub named : IsName name
  pub inside : is_inside name ≡ true
  pub not_lock : name ≢ lock
  pub not_journal : name ≢ journal

abbrev pub IsAllowed : Change → Type 0
IsAllowed (Put name content) = IsListPut name.0
IsAllowed (Drop name) = IsDropName name

abbrev pub AllAllowed : List Change → Type 0
AllAllowed [] = Unit {0}
AllAllowed (change ∷ changes) = IsAllowed change × AllAllowed changes

-- A record of these groups can be written: they and their changes are few enough to be counted in four bytes, each name is
-- allowed, and no name is changed twice.
pub record CanRecord (groups : List (List Change)) : Type 0 where
  pub few : length groups < 2 ^ 32
  pub short : length (all_changes groups) < 2 ^ 32
  pub allowed : AllAllowed (all_changes groups)
  pub apart : AreApart (all_changed_names groups)

-- what a staged Put puts is there, and lasts
abbrev pub IsStaged : State → Change → Type 0
IsStaged s (Put name (Held bytes)) = Unit {0}
IsStaged s (Put name Staged) = (bytes : List ℕ) × IsPartSynced name.0 bytes s
IsStaged s (Drop name) = Unit {0}

abbrev pub AreStaged : List Change → State → Type 0
AreStaged [] s = Unit {0}
AreStaged (change ∷ changes) s = IsStaged s change × AreStaged changes s

abbrev pub AreAllStaged : List (List Change) → State → Type 0
AreAllStaged groups s = AreStaged (all_changes groups) s
