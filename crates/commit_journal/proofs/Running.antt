-- A run of commits, from its moments.
use Rattle.std.proofs.Common.{◌≡◌, ⊎_elim, refl, arith, ℕ, suc, ◌≤◌, List, [], ◌∷◌, Some, None}
use Rattle.acq_outside.specs.Disk.{Files}
use Rattle.acq_outside.specs.Crash.{State}
use Rattle.acq_outside.specs.States.{IsNow, Since}
use Rattle.acq_outside.proofs.Going.{no_time, since_map, newest_of}
use Rattle.journal_model.specs.Names.{journal}
use Rattle.journal_model.specs.Reading.{journal_state_in}
use Rattle.journal_model.specs.Reopen.{opened, reopened, CrashLeaves, CrashLeavesEither}
use Rattle.journal_model.specs.Rest.{IsAtRest}
use Rattle.journal_model.specs.declared.step.JournalState.{JournalState}
use Rattle.journal_model.specs.declared.step.JournalState.TheVariants.{Open, Damaged, Shut}
use Rattle.commit_journal.specs.Changes.{after_commit}
use Rattle.commit_journal.specs.Commits.{IsPreparedOver, CrashKeepsInstalled, PreparedAfter, CrashLeavesBeforeOrAfter, IsAtRestAfter}
use Rattle.commit_journal.specs.Opening.{damage_at, damage_of}
use Rattle.commit_journal.specs.Runs.{Commit, CommitHasBegun, HasCommitted, CommitProgress, rests, waits, prepares, begins, acknowledges, CrashLeavesFirstCommits}
use Rattle.commit_journal.proofs.Prepares.{rest_on, keeps_lists}
use Rattle.commit_journal.proofs.Turned.{since_more}

pub stands_as : (P Q : State → Type 0) (now : List State) → ((s : State) → P s → Q s) → IsNow P now → IsNow Q now
stands_as P Q [] change stands = tt
stands_as P Q (s ∷ past) change stands = change s stands

-- the lists that it began with
none_yet : (commits : List Commit) (folder : Files) (most : ℕ) (s : State) → CrashLeaves folder s → CrashLeavesFirstCommits commits folder 0 most s
none_yet commits folder most s leaves image is = record { count = 0; no_fewer = omega arith; no_more = omega arith; is = leaves image is }

-- those, or the ones after the first commit
first_or_none : (commit : Commit) (commits : List Commit) (folder : Files) (s : State) → CrashLeavesEither folder (after_commit commit folder) s → CrashLeavesFirstCommits (commit ∷ commits) folder 0 1 s
first_or_none commit commits folder s leaves image is = ⊎_elim
    (λ former. record { count = 0; no_fewer = omega arith; no_more = omega arith; is = former })
    (λ new. record { count = 1; no_fewer = omega arith; no_more = omega arith; is = new })
    (leaves image is)

-- one commit before
one_before : (commit : Commit) (commits : List Commit) (folder : Files) (least most : ℕ) (s : State) → CrashLeavesFirstCommits commits (after_commit commit folder) least most s → CrashLeavesFirstCommits (commit ∷ commits) folder (suc least) (suc most) s
one_before commit commits folder least most s leaves image is =
    let later = leaves image is in
    record { count = suc later.count; no_fewer = omega (arith, later.no_fewer); no_more = omega (arith, later.no_more); is = later.is }

wider : (commits : List Commit) (folder : Files) (least most : ℕ) (s : State) → CrashLeavesFirstCommits commits folder least most s → CrashLeavesFirstCommits commits folder 0 most s
wider commits folder least most s leaves image is =
    let has = leaves image is in
    record { count = has.count; no_fewer = omega arith; no_more = has.no_more; is = has.is }

more_begun : (commits : List Commit) (folder : Files) (least most greater : ℕ) (s : State) → most ≤ greater → CrashLeavesFirstCommits commits folder least most s → CrashLeavesFirstCommits commits folder least greater s
more_begun commits folder least most greater s grows leaves image is =
    let has = leaves image is in
    record { count = has.count; no_fewer = has.no_fewer; no_more = omega (arith, has.no_more, grows); is = has.is }

-- within a preparation
pub prepared_since : (folder : Files) (old now : List State) → IsNow (IsAtRest folder) old → Since old now (CrashKeepsInstalled old) → Since old now (CrashLeaves folder)
prepared_since folder old now rest since = since_map (CrashKeepsInstalled old) (CrashLeaves folder) old now (λ s keeps. keeps folder rest) since

pub newest : (P : State → Type 0) (old now : List State) → Since old now P → IsNow P old → IsNow P now
newest P old now since stands = newest_of P old since.states now since.joined since.each stands

-- within a commit
over_prepared : (commit : Commit) (folder : Files) (old now : List State) (begun : CommitHasBegun commit old now) → IsNow (IsAtRest folder) old → IsNow (IsPreparedOver begun.groups folder) begun.prepared
over_prepared commit folder old now begun rest = stands_as (PreparedAfter begun.groups old) (IsPreparedOver begun.groups folder) begun.prepared (λ s after. after folder rest) begun.ready

during_since : (commit : Commit) (folder : Files) (old now : List State) (begun : CommitHasBegun commit old now) → IsNow (IsAtRest folder) old → Since begun.prepared now (CrashLeavesEither folder (after_commit commit folder))
during_since commit folder old now begun rest =
    since_map (CrashLeavesBeforeOrAfter begun.groups commit begun.prepared) (CrashLeavesEither folder (after_commit commit folder)) begun.prepared now (λ s keeps. keeps folder (over_prepared commit folder old now begun rest)) begun.during

begun_since : (commit : Commit) (commits : List Commit) (folder : Files) (old now : List State) (begun : CommitHasBegun commit old now) → IsNow (IsAtRest folder) old → Since old now (CrashLeavesFirstCommits (commit ∷ commits) folder 0 1)
begun_since commit commits folder old now begun rest =
    since_more (CrashLeavesFirstCommits (commit ∷ commits) folder 0 1) old begun.prepared now
    (since_map (CrashLeaves folder) (CrashLeavesFirstCommits (commit ∷ commits) folder 0 1) old begun.prepared (none_yet (commit ∷ commits) folder 1) (prepared_since folder old begun.prepared rest begun.before))
    (since_map (CrashLeavesEither folder (after_commit commit folder)) (CrashLeavesFirstCommits (commit ∷ commits) folder 0 1) begun.prepared now (first_or_none commit commits folder) (during_since commit folder old now begun rest))

committed_rests : (commit : Commit) (folder : Files) (old now : List State) (done : HasCommitted commit old now) → IsNow (IsAtRest folder) old → IsNow (IsAtRest (after_commit commit folder)) now
committed_rests commit folder old now done rest =
    stands_as (IsAtRestAfter done.begun.groups commit done.begun.prepared) (IsAtRest (after_commit commit folder)) now (λ s after. after folder (over_prepared commit folder old now done.begun rest)) done.rests

none_stands : (commits : List Commit) (folder : Files) (most : ℕ) (now : List State) → IsNow (IsAtRest folder) now → IsNow (CrashLeavesFirstCommits commits folder 0 most) now
none_stands commits folder most now rest = stands_as (IsAtRest folder) (CrashLeavesFirstCommits commits folder 0 most) now (λ s at_rest. none_yet commits folder most s at_rest.leaves) rest

pub stopped_now : (commits : List Commit) (acknowledged begun : ℕ) (old now : List State) (folder : Files) → CommitProgress commits acknowledged begun old now → IsNow (IsAtRest folder) old → IsNow (CrashLeavesFirstCommits commits folder acknowledged begun) now
stopped_now commits _ _ old _ folder rests rest = none_stands commits folder 0 old rest
stopped_now commits acknowledged begun old now folder (waits {mid = mid} idle since moment) rest = stopped_now commits acknowledged begun mid now folder moment (rest_on folder old mid idle since rest)
stopped_now commits _ _ old now folder (prepares since) rest =
    newest (CrashLeavesFirstCommits commits folder 0 0) old now (since_map (CrashLeaves folder) (CrashLeavesFirstCommits commits folder 0 0) old now (none_yet commits folder 0) (prepared_since folder old now rest since)) (none_stands commits folder 0 old rest)
stopped_now _ _ _ old now folder (begins {commits = commits} commit has) rest =
    newest (CrashLeavesFirstCommits (commit ∷ commits) folder 0 1) old now (begun_since commit commits folder old now has rest) (none_stands (commit ∷ commits) folder 1 old rest)
stopped_now _ _ _ old now folder (acknowledges {commits = commits} {acknowledged = acknowledged} {begun = begun} {mid = mid} commit done moment) rest =
    stands_as (CrashLeavesFirstCommits commits (after_commit commit folder) acknowledged begun) (CrashLeavesFirstCommits (commit ∷ commits) folder (suc acknowledged) (suc begun)) now (one_before commit commits folder acknowledged begun)
    (stopped_now commits acknowledged begun mid now (after_commit commit folder) moment (committed_rests commit folder old mid done rest))

pub stopped_since : (commits : List Commit) (acknowledged begun : ℕ) (old now : List State) (folder : Files) → CommitProgress commits acknowledged begun old now → IsNow (IsAtRest folder) old → Since old now (CrashLeavesFirstCommits commits folder 0 begun)
stopped_since commits _ _ old _ folder rests rest = no_time old old (CrashLeavesFirstCommits commits folder 0 0) refl
stopped_since commits acknowledged begun old now folder (waits {mid = mid} idle since moment) rest =
    since_more (CrashLeavesFirstCommits commits folder 0 begun) old mid now
    (since_map (CrashLeaves folder) (CrashLeavesFirstCommits commits folder 0 begun) old mid (none_yet commits folder begun) (prepared_since folder old mid rest (keeps_lists old mid idle since)))
    (stopped_since commits acknowledged begun mid now folder moment (rest_on folder old mid idle since rest))
stopped_since commits _ _ old now folder (prepares since) rest = since_map (CrashLeaves folder) (CrashLeavesFirstCommits commits folder 0 0) old now (none_yet commits folder 0) (prepared_since folder old now rest since)
stopped_since _ _ _ old now folder (begins {commits = commits} commit has) rest = begun_since commit commits folder old now has rest
stopped_since _ _ _ old now folder (acknowledges {commits = commits} {acknowledged = acknowledged} {begun = begun} {mid = mid} commit done moment) rest =
    since_more (CrashLeavesFirstCommits (commit ∷ commits) folder 0 (suc begun)) old mid now
    (since_map (CrashLeavesFirstCommits (commit ∷ commits) folder 0 1) (CrashLeavesFirstCommits (commit ∷ commits) folder 0 (suc begun)) old mid (λ s. more_begun (commit ∷ commits) folder 0 1 (suc begun) s (omega arith)) (begun_since commit commits folder old mid done.begun rest))
    (since_map (CrashLeavesFirstCommits commits (after_commit commit folder) 0 begun) (CrashLeavesFirstCommits (commit ∷ commits) folder 0 (suc begun)) mid now
    (λ s leaves. wider (commit ∷ commits) folder 1 (suc begun) s (one_before commit commits folder 0 begun s leaves))
    (stopped_since commits acknowledged begun mid now (after_commit commit folder) moment (committed_rests commit folder old mid done rest)))

-- what stands for lists is no damage
undamaged_at : (files folder : Files) (gate : JournalState) → opened files gate ≡ Some folder → damage_at gate ≡ None
undamaged_at files folder (Open steps) is = refl
undamaged_at files folder (Damaged at) is = absurd cc
undamaged_at files folder Shut is = refl

pub undamaged : (files folder : Files) → reopened files ≡ Some folder → damage_of files ≡ None
undamaged files folder is = undamaged_at files folder (journal_state_in (files journal)) is
