-- Where memory runs out, whatever a crash leaves is the same lists.
use Rattle.std.proofs.Common.{◌≡◌, ◌≤◌, ◌⊎◌, ℕ, List, [], ◌∷◌, Some, arith, inl, inr, subst}
use Rattle.acq_outside.specs.Crash.{State}
use Rattle.acq_outside.specs.Disk.{Files}
use Rattle.acq_outside.specs.States.{From, IsNow, IsTold, ToldAs}
use Rattle.commit_journal.specs.Opening.{Recovers}
use Rattle.commit_journal.specs.Runs.{Commit, CommitProgress, CrashLeavesFirstCommits, CrashLeavesWholeNow, after_first}
use Rattle.journal_model.specs.Reopen.{installed_now, reopened}
use Rattle.journal_model.specs.Rest.{IsSynced}
use Rattle.run_model.specs.Coming.{CrashLeavesWholeSets}
use Rattle.run_model.specs.Groups.{commits_of}
use Rattle.run_model.specs.Laws.{CommitsLeaveWhole, CrashesLeaveWhole, NewSetsAreAdmissible}
use Rattle.run_promises.proofs.Stopping.{as_at, each_of, kept_or_new, may_be_installed}
use Rattle.run_promises.specs.Claims.{LeavesSameLists, RunsStopOnSameLists, StopsOnSameLists}
use Rattle.run_promises.specs.Promise.{HasNew, MayBeInstalled}
use Rattle.update_engine.proofs.Lists.{told_on}
use Rattle.update_engine.specs.Run.{Engine, Run, StopsAmongCommits, StopsForMemory}
use Rattle.update_model.specs.Next.{Keeps}

-- what `commits_are_whole` says of the disk as it is
abbrev CommitsAreWhole : Type 0
CommitsAreWhole = (commits : List Commit) (acknowledged begun : ℕ) (old now : List State) → CommitProgress commits acknowledged begun old now → CrashLeavesWholeNow commits acknowledged begun old now

no_other : (least most count : ℕ) → least ≡ most → least ≤ count → count ≤ most → count ≡ least
no_other least most count same no_fewer no_more = omega arith

told_first : (now : List State) → ToldAs IsSynced now → IsTold now
told_first [] is = absurd is
told_first (s ∷ past) is = tt

module _ (whole_now : CommitsAreWhole) (crashes : CrashesLeaveWhole) (whole : CommitsLeaveWhole) (admissible : NewSetsAreAdmissible) (run : Run) (before after : Engine) where
  same_lists : (stop : StopsAmongCommits run before.mirrors before.trace after.trace) → stop.acknowledged ≡ stop.started → (s : State)
      → CrashLeavesFirstCommits (commits_of stop.commits) (installed_now before.trace) stop.acknowledged stop.started s → LeavesSameLists run (installed_now before.trace) s
  same_lists stop all s leaves =
      let lists : Files = installed_now before.trace in
      let last : Files = after_first stop.acknowledged (commits_of stop.commits) lists in
      record {
        lists = last;
        leaves = λ image is.
            let left = leaves image is in
            subst (λ (n : ℕ). reopened image ≡ Some (after_first n (commits_of stop.commits) lists)) (no_other stop.acknowledged stop.started left.count all left.no_fewer left.no_more) left.is;
        sources = each_of (λ source. Keeps source lists last ⊎ HasNew (MayBeInstalled run lists) source last) run.plan.sources
            (λ n source there. kept_or_new stop.begun stop.has.heard lists (MayBeInstalled run lists) (may_be_installed admissible run before after stop) last n source
            (whole run.together stop.begun lists stop.commits stop.has stop.acknowledged stop.read.begins n source (rw stop.of_run.sources there)));
      }

  now_same : (stop : StopsAmongCommits run before.mirrors before.trace after.trace) → stop.acknowledged ≡ stop.started → (now : List State)
      → IsNow (CrashLeavesFirstCommits (commits_of stop.commits) (installed_now before.trace) stop.acknowledged stop.started) now → IsTold now → ToldAs (LeavesSameLists run (installed_now before.trace)) now
  now_same stop all [] leaves told = told
  now_same stop all (s ∷ past) leaves told = same_lists stop all s leaves

  still_told : (stop : StopsAmongCommits run before.mirrors before.trace after.trace) → IsTold before.trace → IsTold after.trace
  still_told stop told =
      let lists : Files = installed_now before.trace in
      let since = crashes run.together stop.begun lists stop.commits stop.has stop.acknowledged stop.started stop.opened after.trace stop.read.begins stop.opens.rests stop.progress in
      told_on (CrashLeavesWholeSets stop.begun stop.has.heard lists) stop.opened after.trace since.0 (told_on (From Recovers before.trace) before.trace stop.opened stop.opens.recovers told)

  stops : StopsForMemory run before.mirrors before.trace after.trace → IsTold before.trace → StopsOnSameLists run before after
  stops (inl never) told = inl (as_at before.trace after.trace never)
  stops (inr stop) told =
      let at = stop.among in
      inr (now_same at stop.whole after.trace (whole_now (commits_of at.commits) at.acknowledged at.started at.opened after.trace at.progress (installed_now before.trace) at.opens.rests) (still_told at told))

pub runs_stop_on_same_lists : CommitsAreWhole → CrashesLeaveWhole → CommitsLeaveWhole → NewSetsAreAdmissible → RunsStopOnSameLists
runs_stop_on_same_lists whole_now crashes whole admissible run before after stop synced = stops whole_now crashes whole admissible run before after stop (told_first before.trace synced)
