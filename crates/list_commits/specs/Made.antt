-- Commits that were made one after another.
use Rattle.std.specs.Prelude.{◌⊎◌, suc, List, [], ◌∷◌, ◌++◌, length}
use Rattle.acq_outside.specs.Disk.{Files}
use Rattle.acq_outside.specs.Crash.{State}
use Rattle.acq_outside.specs.States.{IsNow, Since}
use Rattle.journal_model.specs.Rest.{IsIdle, IsAtRest, KeptAtRestSince}
use Rattle.commit_journal.specs.Changes.{after_commit}
use Rattle.commit_journal.specs.Commits.{CrashKeepsInstalled}
use Rattle.commit_journal.specs.Runs.{Commit, CommitHasBegun, HasCommitted, CommitProgress}

-- no commit was begun: what was at rest has its lists, and stays at rest
pub record NoCommitBegun (old now : List State) : Type 0 where
  pub lists : Since old now (CrashKeepsInstalled old)
  pub rest : Since old now (KeptAtRestSince old)

-- a commit that wasn't made: it was not begun, or a crash leaves the lists before it or those after it
abbrev pub IsCommitStopped : Commit → List State → List State → Type 0
IsCommitStopped commit old now = NoCommitBegun old now ⊎ CommitHasBegun commit old now

-- These commits were made in turn, from one state of the disk to another. Between them it does what keeps a disk at rest.
pub data CommitsMade : List Commit → List State → List State → Type 0 where
  none : {now : List State} → CommitsMade [] now now
  rests : {commits : List Commit} {old mid now : List State} → CommitsMade commits old mid → IsNow IsIdle mid → Since mid now (KeptAtRestSince mid) → CommitsMade commits old now
  makes : {commits : List Commit} {old mid now : List State} → CommitsMade commits old mid → (commit : Commit) → HasCommitted commit mid now → CommitsMade (commits ++ commit ∷ []) old now

-- the lists after all of them
abbrev pub after_all : List Commit → Files → Files
after_all [] folder = folder
after_all (commit ∷ commits) folder = after_all commits (after_commit commit folder)

-- ---- laws

-- the progress of a run that has made commits: all are acknowledged and none more is begun
abbrev pub MadeCommitsAreProgress : Type 0
MadeCommitsAreProgress = (commits : List Commit) (old now : List State) → CommitsMade commits old now → CommitProgress commits (length commits) (length commits) old now

-- where the next is not begun, neither is more begun of the run
abbrev pub NoCommitIsProgress : Type 0
NoCommitIsProgress =
    (commits : List Commit) (old mid now : List State) → CommitsMade commits old mid → NoCommitBegun mid now
    → CommitProgress commits (length commits) (length commits) old now

-- and where it is begun, one more is
abbrev pub BegunCommitIsProgress : Type 0
BegunCommitIsProgress =
    (commits : List Commit) (commit : Commit) (old mid now : List State) → CommitsMade commits old mid → CommitHasBegun commit mid now
    → CommitProgress (commits ++ commit ∷ []) (length commits) (suc (length commits)) old now

-- commits made in turn, and others behind them, are made in turn
abbrev pub MadeInTurn : Type 0
MadeInTurn =
    (commits later : List Commit) (old mid now : List State) → CommitsMade commits old mid → CommitsMade later mid now → CommitsMade (commits ++ later) old now

-- a disk at rest then is so with the lists after all of them
abbrev pub MadeLeavesLists : Type 0
MadeLeavesLists =
    (commits : List Commit) (folder : Files) (old now : List State) → CommitsMade commits old now → IsNow (IsAtRest folder) old → IsNow (IsAtRest (after_all commits folder)) now
