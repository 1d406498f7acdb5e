-- The states between the calls of a commit, until its record is carried out.
use Rattle.std.specs.Prelude.{◌≡◌, ℕ, List, [], ◌∷◌, Some}
use Rattle.acq_outside.specs.Disk.{Files}
use Rattle.acq_outside.specs.Crash.{State, IsImage, file_at, synced, file_written}
use Rattle.acq_outside.specs.States.{IsNow}
use Rattle.journal_model.specs.Names.{journal}
use Rattle.journal_model.specs.Spelling.{body_of}
use Rattle.journal_model.specs.Reopen.{installed_files, CrashLeaves}
use Rattle.commit_journal.specs.declared.changing.Change.{Change}
use Rattle.commit_journal.specs.Changes.{Filled, filled_all, after_commit, steps_in, all_changes, CanRecord}
use Rattle.commit_journal.specs.Commits.{parts_of, ArePutsPrepared, IsPreparedOver}

-- the gate's byte is being written as 1
pub record IsOpening (groups : List (List Change)) (s : State) : Type 0 where
  pub can : CanRecord groups
  pub unmoved : s.pending ≡ []
  pub number : ℕ
  pub leads : s.base journal ≡ Some number
  pub file : file_at s.files number ≡ file_written (synced (0 ∷ body_of (steps_in groups))) 0 (1 ∷ [])
  pub laid_out : ArePutsPrepared (all_changes groups) s

-- The lists' names hold these, whatever a crash leaves, and with the record carried out they hold the new ones.
pub record IsOpeningTo (groups : List (List Change)) (folder new : Files) (s : State) : Type 0 where
  pub opening : IsOpening groups s
  pub over : (image : Files) → IsImage s image → installed_files image ≡ folder
  pub to : after_commit (filled_all (parts_of s) groups) folder ≡ new

-- once it lasts, a crash leaves the new ones
abbrev pub CommitsOnceSynced : List (List Change) → List State → State → Type 0
CommitsOnceSynced groups old s = (folder new : Files) → IsNow (IsOpeningTo groups folder new) old → CrashLeaves new s

-- Between the gate's write and the end of its sync.
abbrev pub IsGateWritten : List (List Change) → List (List Filled) → List State → State → Type 0
IsGateWritten groups steps old s = (folder : Files) → IsNow (IsPreparedOver groups folder) old → IsOpeningTo groups folder (after_commit steps folder) s

abbrev pub IsGateSynced : List (List Change) → List (List Filled) → List State → State → Type 0
IsGateSynced groups steps old s = (folder : Files) → IsNow (IsPreparedOver groups folder) old → CrashLeaves (after_commit steps folder) s
