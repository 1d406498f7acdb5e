-- What a preparation and a commit promise, as one commit.
use Rattle.std.proofs.Common.{◌≡◌, sym, subst, List}
use Rattle.acq_outside.specs.Crash.{State}
use Rattle.acq_outside.specs.States.{IsNow, Since}
use Rattle.journal_model.specs.Rest.{part_bytes}
use Rattle.commit_journal.specs.declared.changing.Change.{Change}
use Rattle.commit_journal.specs.Changes.{filled_all}
use Rattle.commit_journal.specs.Commits.{IsPrepared, CrashKeepsInstalled, PreparedAfter, CrashLeavesBeforeOrAfter, HasMoreStates, IsAtRestAfter}
use Rattle.commit_journal.specs.Runs.{Commit, CommitHasBegun, HasCommitted}

pub is_ready : (groups prepared : List (List Change)) (mid : List State) → prepared ≡ groups → IsNow (IsPrepared groups) mid → IsNow (IsPrepared prepared) mid
is_ready groups prepared mid same ready = subst (λ (l : List (List Change)). IsNow (IsPrepared l) mid) (sym same) ready

pub has_begun : (groups prepared : List (List Change)) (old mid now : List State) → prepared ≡ groups → Since old mid (CrashKeepsInstalled old) → IsNow (PreparedAfter groups old) mid
    → filled_all (part_bytes mid) groups ≡ filled_all (part_bytes old) groups → Since mid now (CrashLeavesBeforeOrAfter prepared (filled_all (part_bytes mid) prepared) mid) → CommitHasBegun (filled_all (part_bytes old) groups) old now
has_begun groups prepared old mid now same before ready puts during = record {
  groups = groups;
  prepared = mid;
  before = before;
  ready = ready;
  puts = puts;
  during = subst (λ (c : Commit). Since mid now (CrashLeavesBeforeOrAfter groups c mid)) puts (subst (λ (l : List (List Change)). Since mid now (CrashLeavesBeforeOrAfter l (filled_all (part_bytes mid) l) mid)) same during);
}

pub has_committed : (groups prepared : List (List Change)) (old mid now : List State) → prepared ≡ groups → Since old mid (CrashKeepsInstalled old) → IsNow (PreparedAfter groups old) mid
    → filled_all (part_bytes mid) groups ≡ filled_all (part_bytes old) groups → Since mid now (CrashLeavesBeforeOrAfter prepared (filled_all (part_bytes mid) prepared) mid)
    → IsNow (IsAtRestAfter prepared (filled_all (part_bytes mid) prepared) mid) now → HasMoreStates mid now → HasCommitted (filled_all (part_bytes old) groups) old now
unfolding has_begun
has_committed groups prepared old mid now same before ready puts during rests later = record {
  begun = has_begun groups prepared old mid now same before ready puts during;
  later = later;
  rests = subst (λ (c : Commit). IsNow (IsAtRestAfter groups c mid) now) puts (subst (λ (l : List (List Change)). IsNow (IsAtRestAfter l (filled_all (part_bytes mid) l) mid) now) same rests);
}
