-- Commits one after another, and what a stop at any moment leaves of them.
use Rattle.std.specs.Prelude.{◌≡◌, ℕ, zero, suc, ◌≤◌, List, [], ◌∷◌, Some}
use Rattle.acq_outside.specs.Disk.{Files}
use Rattle.acq_outside.specs.Crash.{State, IsImage}
use Rattle.acq_outside.specs.States.{IsNow, Since}
use Rattle.journal_model.specs.Reopen.{reopened}
use Rattle.journal_model.specs.Rest.{IsIdle, IsAtRest, KeptAtRestSince, part_bytes}
use Rattle.commit_journal.specs.declared.changing.Change.{Change}
use Rattle.commit_journal.specs.Changes.{Filled, filled_all, after_commit}
use Rattle.commit_journal.specs.Commits.{CrashKeepsInstalled, PreparedAfter, CrashLeavesBeforeOrAfter, HasMoreStates, IsAtRestAfter}

-- a commit: its groups of changes, with the bytes that they put
abbrev pub Commit : Type 0
Commit = List (List Filled)

-- what `prepare` and `commit` promise of a commit that is begun, from the moment before the one to any moment of the other
pub record CommitHasBegun (commit : Commit) (old now : List State) : Type 0 where
  pub groups : List (List Change)
  pub prepared : List State
  pub before : Since old prepared (CrashKeepsInstalled old)
  pub ready : IsNow (PreparedAfter groups old) prepared
  pub puts : filled_all (part_bytes prepared) groups ≡ commit
  pub during : Since prepared now (CrashLeavesBeforeOrAfter groups commit prepared)

-- and what they promise once both have answered Ok: it is acknowledged at a later moment than it was begun at
pub record HasCommitted (commit : Commit) (old now : List State) : Type 0 where
  pub begun : CommitHasBegun commit old now
  pub later : HasMoreStates begun.prepared now
  pub rests : IsNow (IsAtRestAfter begun.groups commit begun.prepared) now

-- How far a run has got that makes these commits in turn: so many are acknowledged and so many begun, from one state of the
-- disk to another. Between commits it does what keeps a disk at rest, and prepares the next.
pub data CommitProgress : List Commit → ℕ → ℕ → List State → List State → Type 0 where
  rests : {commits : List Commit} {now : List State} → CommitProgress commits 0 0 now now
  waits : {commits : List Commit} {acknowledged begun : ℕ} {old mid now : List State} → IsNow IsIdle old → Since old mid (KeptAtRestSince old) → CommitProgress commits acknowledged begun mid now → CommitProgress commits acknowledged begun old now
  prepares : {commits : List Commit} {old now : List State} → Since old now (CrashKeepsInstalled old) → CommitProgress commits 0 0 old now
  begins : {commits : List Commit} {old now : List State} → (commit : Commit) → CommitHasBegun commit old now → CommitProgress (commit ∷ commits) 0 1 old now
  acknowledges : {commits : List Commit} {acknowledged begun : ℕ} {old mid now : List State} → (commit : Commit) → HasCommitted commit old mid → CommitProgress commits acknowledged begun mid now
      → CommitProgress (commit ∷ commits) (suc acknowledged) (suc begun) old now

-- the lists after the first so many of the commits
abbrev pub after_first : ℕ → List Commit → Files → Files
after_first zero commits folder = folder
after_first (suc count) [] folder = folder
after_first (suc count) (commit ∷ commits) folder = after_first count commits (after_commit commit folder)

-- opened again, it has the lists after the first so many, at least so many and at most so many
pub record ReopensToFirstCommits (commits : List Commit) (folder : Files) (least most : ℕ) (image : Files) : Type 0 where
  pub count : ℕ
  pub no_fewer : least ≤ count
  pub no_more : count ≤ most
  pub is : reopened image ≡ Some (after_first count commits folder)

abbrev pub CrashLeavesFirstCommits : List Commit → Files → ℕ → ℕ → State → Type 0
CrashLeavesFirstCommits commits folder least most s = (image : Files) → IsImage s image → ReopensToFirstCommits commits folder least most image

-- at this moment of a run over these lists
abbrev pub CrashLeavesWholeNow : List Commit → ℕ → ℕ → List State → List State → Type 0
CrashLeavesWholeNow commits acknowledged begun old now = (folder : Files) → IsNow (IsAtRest folder) old → IsNow (CrashLeavesFirstCommits commits folder acknowledged begun) now

-- and at each moment before
abbrev pub CrashLeavesWholeSince : List Commit → ℕ → List State → List State → Type 0
CrashLeavesWholeSince commits begun old now = (folder : Files) → IsNow (IsAtRest folder) old → Since old now (CrashLeavesFirstCommits commits folder 0 begun)
