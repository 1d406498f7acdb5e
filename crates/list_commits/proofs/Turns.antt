-- Commits made in turn, and the moments of a run that makes them.
use Rattle.std.proofs.Common.{◌≡◌, refl, sym, subst, arith, ℕ, suc, ◌+◌, List, [], ◌∷◌, ◌++◌, length, length-append, append_assoc}
use Rattle.std.proofs.lemmas.List.{append-nil}
use Rattle.acq_outside.specs.Disk.{Files}
use Rattle.acq_outside.specs.Crash.{State}
use Rattle.acq_outside.specs.States.{IsNow}
use Rattle.journal_model.specs.Rest.{IsAtRest}
use Rattle.commit_journal.specs.Changes.{after_commit}
use Rattle.commit_journal.specs.Commits.{IsPreparedOver, PreparedAfter, IsAtRestAfter}
use Rattle.commit_journal.specs.Runs.{Commit, CommitHasBegun, HasCommitted, CommitProgress, rests as rest_now, waits, prepares, begins, acknowledges}
use Rattle.commit_journal.proofs.Prepares.{rest_on}
use Rattle.commit_journal.proofs.Running.{stands_as}
use Rattle.list_commits.specs.Made.{NoCommitBegun, CommitsMade, none, rests, makes, after_all}

moment_as : (commits commits' : List Commit) (a a' b b' : ℕ) (old now : List State) → commits ≡ commits' → a ≡ a' → b ≡ b' → CommitProgress commits a b old now → CommitProgress commits' a' b' old now
moment_as commits commits' a a' b b' old now same same_a same_b moment =
    subst (λ (n : ℕ). CommitProgress commits' a' n old now) same_b (subst (λ (n : ℕ). CommitProgress commits' n b old now) same_a (subst (λ (l : List Commit). CommitProgress l a b old now) same moment))

-- a run that goes on behind commits that are made
goes_on : (commits later : List Commit) (a b : ℕ) (old mid now : List State) → CommitsMade commits old mid → CommitProgress later a b mid now → CommitProgress (commits ++ later) (length commits + a) (length commits + b) old now
goes_on _ later a b _ _ now none moment = moment_as later later a (0 + a) b (0 + b) _ now refl (omega arith) (omega arith) moment
goes_on commits later a b old _ now (rests {mid = mid} made idle since) moment = goes_on commits later a b old mid now made (waits idle since moment)
goes_on _ later a b old _ now (makes {commits = commits} {mid = mid} made commit done) moment =
    moment_as (commits ++ commit ∷ later) ((commits ++ commit ∷ []) ++ later) (length commits + suc a) (length (commits ++ commit ∷ []) + a) (length commits + suc b) (length (commits ++ commit ∷ []) + b) old now
    (sym (append_assoc commits (commit ∷ []) later))
    (omega (arith, length-append commits (commit ∷ [])))
    (omega (arith, length-append commits (commit ∷ [])))
    (goes_on commits (commit ∷ later) (suc a) (suc b) old mid now made (acknowledges commit done moment))

pub made_moment : (commits : List Commit) (old now : List State) → CommitsMade commits old now → CommitProgress commits (length commits) (length commits) old now
made_moment commits old now made =
    moment_as (commits ++ []) commits (length commits + 0) (length commits) (length commits + 0) (length commits) old now (append-nil commits) (omega arith) (omega arith) (goes_on commits [] 0 0 old now now made rest_now)

pub unbegun_moment : (commits : List Commit) (old mid now : List State) → CommitsMade commits old mid → NoCommitBegun mid now → CommitProgress commits (length commits) (length commits) old now
unbegun_moment commits old mid now made unbegun =
    moment_as (commits ++ []) commits (length commits + 0) (length commits) (length commits + 0) (length commits) old now (append-nil commits) (omega arith) (omega arith) (goes_on commits [] 0 0 old mid now made (prepares unbegun.lists))

pub begun_moment : (commits : List Commit) (commit : Commit) (old mid now : List State) → CommitsMade commits old mid → CommitHasBegun commit mid now → CommitProgress (commits ++ commit ∷ []) (length commits) (suc (length commits)) old now
begun_moment commits commit old mid now made begun =
    moment_as (commits ++ commit ∷ []) (commits ++ commit ∷ []) (length commits + 0) (length commits) (length commits + 1) (suc (length commits)) old now refl (omega arith) (omega arith)
    (goes_on commits (commit ∷ []) 0 1 old mid now made (begins commit begun))

-- other commits made behind them
pub made_in_turn : (commits later : List Commit) (old mid now : List State) → CommitsMade commits old mid → CommitsMade later mid now → CommitsMade (commits ++ later) old now
made_in_turn commits _ old mid _ made none = subst (λ (l : List Commit). CommitsMade l old mid) (sym (append-nil commits)) made
made_in_turn commits later old mid _ made (rests {mid = between} others idle since) = rests (made_in_turn commits later old mid between made others) idle since
made_in_turn commits _ old mid now made (makes {commits = later} {mid = between} others commit done) =
    subst (λ (l : List Commit). CommitsMade l old now) (append_assoc commits later (commit ∷ [])) (makes (made_in_turn commits later old mid between made others) commit done)

committed_on : (commit : Commit) (folder : Files) (old now : List State) → HasCommitted commit old now → IsNow (IsAtRest folder) old → IsNow (IsAtRest (after_commit commit folder)) now
committed_on commit folder old now done rest =
    stands_as (IsAtRestAfter done.begun.groups commit done.begun.prepared) (IsAtRest (after_commit commit folder)) now
    (λ s after. after folder (stands_as (PreparedAfter done.begun.groups old) (IsPreparedOver done.begun.groups folder) done.begun.prepared (λ t ready. ready folder rest) done.begun.ready)) done.rests

after_more : (commits : List Commit) (commit : Commit) (folder : Files) → after_all (commits ++ commit ∷ []) folder ≡ after_commit commit (after_all commits folder)
after_more [] commit folder = refl
after_more (first ∷ commits) commit folder = after_more commits commit (after_commit first folder)

pub made_lists : (commits : List Commit) (folder : Files) (old now : List State) → CommitsMade commits old now → IsNow (IsAtRest folder) old → IsNow (IsAtRest (after_all commits folder)) now
made_lists _ folder _ _ none rest = rest
made_lists commits folder old now (rests {mid = mid} made idle since) rest = rest_on (after_all commits folder) mid now idle since (made_lists commits folder old mid made rest)
made_lists _ folder old now (makes {commits = commits} {mid = mid} made commit done) rest =
    subst (λ (f : Files). IsNow (IsAtRest f) now) (sym (after_more commits commit folder)) (committed_on commit (after_all commits folder) mid now done (made_lists commits folder old mid made rest))
