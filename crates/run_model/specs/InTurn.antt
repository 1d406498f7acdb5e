-- When the commits of a run are begun and acknowledged, and which lists a crash leaves between.
use Rattle.std.specs.Prelude.{ℕ, suc, List, ◌∷◌}
use Rattle.acq_outside.specs.Crash.{State}
use Rattle.acq_outside.specs.Disk.{Files}
use Rattle.acq_outside.specs.States.{Since, IsNow}
use Rattle.commit_journal.specs.Changes.{after_commit}
use Rattle.commit_journal.specs.Commits.{HasMoreStates}
use Rattle.commit_journal.specs.Runs.{Commit, CommitProgress}
use Rattle.journal_model.specs.Reopen.{CrashLeaves, CrashLeavesEither}
use Rattle.journal_model.specs.Rest.{IsAtRest}

-- From one moment of the disk to another, over these lists: until the first commit begins a crash leaves them; from then on
-- them, or those after it; once it is acknowledged, which is at a later moment, those after it, over which the others are
-- made. So many commits are acknowledged, and so many begun.
pub data CommitsOneByOne : List Commit → Files → ℕ → ℕ → List State → List State → Type 0 where
  none : {commits : List Commit} {lists : Files} {old now : List State} → Since old now (CrashLeaves lists) → CommitsOneByOne commits lists 0 0 old now
  within : {commits : List Commit} {lists : Files} {old now : List State} → (commit : Commit) (began : List State)
      → Since old began (CrashLeaves lists) → Since began now (CrashLeavesEither lists (after_commit commit lists)) → CommitsOneByOne (commit ∷ commits) lists 0 1 old now
  behind : {commits : List Commit} {lists : Files} {acknowledged begun : ℕ} {old now : List State} → (commit : Commit) (began done : List State)
      → Since old began (CrashLeaves lists) → HasMoreStates began done → Since began done (CrashLeavesEither lists (after_commit commit lists)) → IsNow (CrashLeaves (after_commit commit lists)) done
      → CommitsOneByOne commits (after_commit commit lists) acknowledged begun done now → CommitsOneByOne (commit ∷ commits) lists (suc acknowledged) (suc begun) old now

-- so it is at any moment of a run that began at rest
abbrev pub CommitsAreInTurn : Type 0
CommitsAreInTurn =
    (commits : List Commit) (lists : Files) (acknowledged begun : ℕ) (old now : List State)
    → IsNow (IsAtRest lists) old → CommitProgress commits acknowledged begun old now → CommitsOneByOne commits lists acknowledged begun old now
