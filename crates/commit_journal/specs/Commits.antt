-- What a preparation and a commit leave at each moment.
use Rattle.std.specs.Prelude.{◌≡◌, ◌≢◌, ℕ, ◌+◌, ◌<◌, ◌≤◌, List, [], ◌∷◌, length, Some, None}
use Rattle.acq_outside.specs.Disk.{Files}
use Rattle.acq_outside.specs.Crash.{State, file_at, reads, synced}
use Rattle.acq_outside.specs.States.{IsNow, Since}
use Rattle.journal_model.specs.Names.{journal, partial}
use Rattle.journal_model.specs.Spelling.{body_of}
use Rattle.journal_model.specs.Reopen.{CrashLeaves, CrashLeavesEither}
use Rattle.journal_model.specs.Rest.{IsIdle, IsSynced, IsAtRest, IsPartSynced, file_named, file_now, bytes_in}
use Rattle.commit_journal.specs.declared.changing.Change.{Change}
use Rattle.commit_journal.specs.declared.changing.Change.TheVariants.{Put, Drop}
use Rattle.commit_journal.specs.Changes.{Filled, content_of, steps_in, after_commit, all_changes, all_changed_names, IsNone, CanRecord, AreAllStaged}

-- a prepared commit: its changes, in groups
pub record PreparedOf : Type 0 where
  pub groups : List (List Change)

-- A commit of these groups may be prepared: they can be recorded, each staged file is there and lasts, and the disk is idle:
-- a crash leaves the gate shut.
pub record CanPrepare (groups : List (List Change)) (trace : List State) : Type 0 where
  pub changes : CanRecord groups
  pub staged : IsNow (AreAllStaged groups) trace
  pub idle : IsNow IsIdle trace

-- what reads give of a list on its way; nothing where there is none
abbrev pub parts_of : State → List ℕ → List ℕ
parts_of s name = bytes_in (file_named s (partial name))

-- what a Put puts is there under the name on its way, and lasts
abbrev pub IsPutPrepared : State → Change → Type 0
IsPutPrepared s (Put name content) = IsPartSynced name.0 (content_of (parts_of s) name.0 content) s
IsPutPrepared s (Drop name) = Unit {0}

abbrev pub ArePutsPrepared : List Change → State → Type 0
ArePutsPrepared [] s = Unit {0}
ArePutsPrepared (change ∷ changes) s = IsPutPrepared s change × ArePutsPrepared changes s

-- A commit may be made: no change of names is pending, and the record of these groups lasts behind a gate that is 0, with
-- all that it puts.
pub record IsPrepared (groups : List (List Change)) (s : State) : Type 0 where
  pub can : CanRecord groups
  pub unmoved : s.pending ≡ []
  pub number : ℕ
  pub leads : s.base journal ≡ Some number
  pub file : file_at s.files number ≡ synced (0 ∷ body_of (steps_in groups))
  pub laid_out : ArePutsPrepared (all_changes groups) s

-- and a crash leaves these lists
pub record IsPreparedOver (groups : List (List Change)) (folder : Files) (s : State) : Type 0 where
  pub ready : IsPrepared groups s
  pub leaves : CrashLeaves folder s
  pub synced : IsSynced s

-- what was at rest keeps its lists
abbrev pub CrashKeepsInstalled : List State → State → Type 0
CrashKeepsInstalled old s = (folder : Files) → IsNow (IsAtRest folder) old → CrashLeaves folder s

-- and a commit may be made
abbrev pub PreparedAfter : List (List Change) → List State → State → Type 0
PreparedAfter groups old s = (folder : Files) → IsNow (IsAtRest folder) old → IsPreparedOver groups folder s

-- within a commit a crash leaves the lists before it or those after it, whole
abbrev pub CrashLeavesBeforeOrAfter : List (List Change) → List (List Filled) → List State → State → Type 0
CrashLeavesBeforeOrAfter groups steps old s = (folder : Files) → IsNow (IsPreparedOver groups folder) old → CrashLeavesEither folder (after_commit steps folder) s

-- Only while the gate's byte is written it may leave either; from the first sync on it leaves those after the commit.
pub record CommitsAtOneWrite (former new : Files) (old now : List State) : Type 0 where
  pub written : List State
  pub either : Since old written (CrashLeavesEither former new)
  pub once : length written ≤ length old + 1
  pub since : Since written now (CrashLeaves new)

abbrev pub CommitsAtWrite : List (List Change) → List (List Filled) → List State → List State → Type 0
CommitsAtWrite groups steps old now = (folder : Files) → IsNow (IsPreparedOver groups folder) old → CommitsAtOneWrite folder (after_commit steps folder) old now

-- after it, it is at rest with those after it
abbrev pub IsAtRestAfter : List (List Change) → List (List Filled) → List State → State → Type 0
IsAtRestAfter groups steps old s = (folder : Files) → IsNow (IsPreparedOver groups folder) old → IsAtRest (after_commit steps folder) s

-- the files of all names stay that are neither the journal nor changed, and so does what lasts of them
abbrev pub KeepsUnchangedFiles : List (List Change) → List State → List State → Type 0
KeepsUnchangedFiles groups old new = (other : List ℕ) → other ≢ journal → IsNone other (all_changed_names groups) → file_now new other ≡ file_now old other

-- what these changes move to its name or remove is no file's any more
abbrev pub AreGone : List Change → Files → Type 0
AreGone [] files = Unit {0}
AreGone (Put name content ∷ changes) files = (files (partial name.0) ≡ None) × AreGone changes files
AreGone (Drop name ∷ changes) files = (files name ≡ None) × AreGone changes files

-- so it is of all groups, as reads give it
abbrev pub ReadsAllGone : List (List Change) → State → Type 0
ReadsAllGone groups s = AreGone (all_changes groups) (reads s)

-- the disk's clock has gone on, where it is told
abbrev pub HasMoreStates : List State → List State → Type 0
HasMoreStates [] new = Unit {0}
HasMoreStates (s ∷ past) new = length past + 1 < length new
