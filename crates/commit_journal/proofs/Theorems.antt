-- What holds of the definitions of this crate, for the proofs of the crates above.
use Rattle.acq_outside.specs.Crash.{State}
use Rattle.commit_journal.proofs.Running.{stopped_now, stopped_since}
use Rattle.commit_journal.specs.Runs.{Commit, CommitProgress, CrashLeavesWholeNow, CrashLeavesWholeSince}
use Rattle.std.specs.Prelude.{List, ℕ}

pub commits_are_whole_now : (commits : List Commit) (acknowledged begun : ℕ) (old now : List State) → CommitProgress commits acknowledged begun old now → CrashLeavesWholeNow commits acknowledged begun old now
commits_are_whole_now = λ commits acknowledged begun old now moment folder rest. stopped_now commits acknowledged begun old now folder moment rest

pub commits_are_whole_since : (commits : List Commit) (acknowledged begun : ℕ) (old now : List State) → CommitProgress commits acknowledged begun old now → CrashLeavesWholeSince commits begun old now
commits_are_whole_since = λ commits acknowledged begun old now moment folder rest. stopped_since commits acknowledged begun old now folder moment rest
