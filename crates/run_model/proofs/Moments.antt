-- Commits in turn, moment by moment.
use Rattle.std.proofs.Common.{◌≡◌, ◌∙◌, refl, sym, subst, ℕ, List, [], ◌∷◌, ◌++◌}
use Rattle.acq_outside.specs.Crash.{State}
use Rattle.acq_outside.specs.Disk.{Files}
use Rattle.acq_outside.specs.States.{Each, Since, IsNow}
use Rattle.acq_outside.proofs.Going.{since_map, no_time}
use Rattle.commit_journal.specs.Changes.{after_commit}
use Rattle.commit_journal.specs.Commits.{IsPreparedOver, CrashLeavesBeforeOrAfter, PreparedAfter, IsAtRestAfter}
use Rattle.commit_journal.specs.Runs.{Commit, CommitHasBegun, rests, waits, prepares, begins, acknowledges}
use Rattle.journal_model.specs.Reopen.{CrashLeaves, CrashLeavesEither}
use Rattle.journal_model.specs.Rest.{IsAtRest, IsIdle, KeptAtRestSince, KeepsAtRest}
use Rattle.commit_journal.proofs.Running.{prepared_since, stands_as, newest}
use Rattle.commit_journal.proofs.Turned.{since_more}
use Rattle.run_model.specs.InTurn.{CommitsOneByOne, CommitsAreInTurn, none, within, behind}

-- ---- moments since another

-- where a disk tells nothing, nothing is told of it
no_states : (states : List State) → states ++ [] ≡ [] → states ≡ []
no_states [] is = refl
no_states (s ∷ states) is = absurd (cc)

since_untold : (P Q : State → Type 0) (now : List State) → Since [] now P → Since [] now Q
since_untold P Q now since =
    let none_there : since.states ≡ [] = no_states since.states (sym since.joined ∙ since.untold refl) in
    record { states = since.states; joined = since.joined; untold = since.untold; each = subst (Each Q) (sym none_there) tt }

-- ---- a disk at rest

stays : (lists : Files) (old now : List State) → IsNow IsIdle old → IsNow (IsAtRest lists) old → Since old now (KeptAtRestSince old) → Since old now (IsAtRest lists)
stays lists [] now idle rest since = since_untold (KeptAtRestSince []) (IsAtRest lists) now since
stays lists (s ∷ past) now idle rest since = since_map (KeptAtRestSince (s ∷ past)) (IsAtRest lists) (s ∷ past) now (λ t keeps. one t keeps) since
  where
    one : (t : State) → KeepsAtRest s t → IsAtRest lists t
    one t keeps = keeps.rest idle lists rest

leaves_of : (lists : Files) (old now : List State) → Since old now (IsAtRest lists) → Since old now (CrashLeaves lists)
leaves_of lists old now since = since_map (IsAtRest lists) (CrashLeaves lists) old now (λ t rest. one t rest) since
  where
    one : (t : State) → IsAtRest lists t → CrashLeaves lists t
    one t rest = rest.leaves

-- ---- in turn

earlier : (commits : List Commit) (lists : Files) (a b : ℕ) (old mid now : List State) → Since old mid (CrashLeaves lists) → CommitsOneByOne commits lists a b mid now → CommitsOneByOne commits lists a b old now
earlier commits lists _ _ old mid now first (none since) = none (since_more (CrashLeaves lists) old mid now first since)
earlier _ lists _ _ old mid now first (within commit began since during) = within commit began (since_more (CrashLeaves lists) old mid began first since) during
earlier _ lists _ _ old mid now first (behind commit began done since later during stands rest) = behind commit began done (since_more (CrashLeaves lists) old mid began first since) later during stands rest

ready : (commit : Commit) (lists : Files) (old now : List State) → IsNow (IsAtRest lists) old → (h : CommitHasBegun commit old now) → IsNow (IsPreparedOver h.groups lists) h.prepared
ready commit lists old now rest h = stands_as (PreparedAfter h.groups old) (IsPreparedOver h.groups lists) h.prepared (λ s after. after lists rest) h.ready

either : (commit : Commit) (lists : Files) (old now : List State) → IsNow (IsAtRest lists) old → (h : CommitHasBegun commit old now) → Since h.prepared now (CrashLeavesEither lists (after_commit commit lists))
either commit lists old now rest h =
    since_map (CrashLeavesBeforeOrAfter h.groups commit h.prepared) (CrashLeavesEither lists (after_commit commit lists)) h.prepared now (λ s keeps. keeps lists (ready commit lists old now rest h)) h.during

pub commits_are_in_turn : CommitsAreInTurn
commits_are_in_turn commits lists _ _ _ now rest rests = none (no_time now now (CrashLeaves lists) refl)
commits_are_in_turn commits lists a b old now rest (waits {mid = mid} idle since moment) =
    let at_rest = stays lists old mid idle rest since in
    earlier commits lists a b old mid now (leaves_of lists old mid at_rest) (commits_are_in_turn commits lists a b mid now (newest (IsAtRest lists) old mid at_rest rest) moment)
commits_are_in_turn commits lists _ _ old now rest (prepares since) = none (prepared_since lists old now rest since)
commits_are_in_turn _ lists _ _ old now rest (begins commit h) = within commit h.prepared (prepared_since lists old h.prepared rest h.before) (either commit lists old now rest h)
commits_are_in_turn _ lists _ _ old now rest (acknowledges {commits = commits} {acknowledged = a} {begun = b} {mid = mid} commit h moment) =
    let after : IsNow (IsAtRest (after_commit commit lists)) mid =
    stands_as (IsAtRestAfter h.begun.groups commit h.begun.prepared) (IsAtRest (after_commit commit lists)) mid (λ s rests_after. rests_after lists (ready commit lists old mid rest h.begun)) h.rests in
    behind commit h.begun.prepared mid (prepared_since lists old h.begun.prepared rest h.begun.before) h.later (either commit lists old mid rest h.begun)
    (stands_as (IsAtRest (after_commit commit lists)) (CrashLeaves (after_commit commit lists)) mid (λ s r. r.leaves) after)
    (commits_are_in_turn commits (after_commit commit lists) a b mid now after moment)
