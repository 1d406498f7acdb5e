-- A commit as a whole, from its calls.
use Rattle.std.proofs.Common.{◌≡◌, ◌⊎◌, inl, inr, refl, sym, ap, ◌∙◌, subst, arith, ℕ, ◌+◌, ◌≤◌, List, [], ◌∷◌, ◌++◌, length, Option, Some, None, Result, Ok, Err, OnOk, append_assoc, length-append}
use Rattle.acq_outside.specs.Disk.{Files}
use Rattle.acq_outside.specs.Crash.{State, IsSound, AllSound, reads}
use Rattle.acq_outside.specs.States.{IsNow, Since, From}
use Rattle.acq_outside.proofs.Going.{no_time, since_map, handed_on, each_append, newest_of}
use Rattle.acq_outside.proofs.Crashes.{reads_left}
use Rattle.journal_model.specs.Names.{partial}
use Rattle.journal_model.specs.Spelling.{all_steps}
use Rattle.journal_model.specs.Reopen.{installed_files, CrashLeaves, CrashLeavesEither}
use Rattle.journal_model.specs.Rest.{IsIdle, IsSynced, IsAtRest}
use Rattle.journal_model.specs.Steps.{IsIn, Touches}
use Rattle.journal_model.specs.declared.step.Step.{Step}
use Rattle.commit_journal.specs.declared.changing.Change.{Change}
use Rattle.commit_journal.specs.declared.changing.Change.TheVariants.{Put, Drop}
use Rattle.commit_journal.specs.Changes.{Filled, after_commit, steps_of, steps_in, all_changes, changed_names, IsNone}
use Rattle.commit_journal.specs.Commits.{IsPreparedOver, CrashLeavesBeforeOrAfter, CommitsAtWrite, IsAtRestAfter, KeepsUnchangedFiles, HasMoreStates}
use Rattle.commit_journal.specs.Opening.{Recovers}
use Rattle.commit_journal.specs.Opening.{KeepsFilesBut}
use Rattle.commit_journal.specs.Phases.{IsOfCommit}
use Rattle.commit_journal.specs.Turning.{IsOpeningTo, CommitsOnceSynced, IsGateWritten, IsGateSynced}
use Rattle.commit_journal.proofs.Recordable.{all_in}
use Rattle.commit_journal.proofs.Lists.{idle_rests, reads_stand}
use Rattle.commit_journal.proofs.Opens.{since_first, KeepsSettled}

pub since_more : (P : State → Type 0) (old mid new : List State) → Since old mid P → Since mid new P → Since old new P
since_more P old mid new first later = record {
  states = later.states ++ first.states;
  joined = later.joined ∙ ap (λ (l : List State). later.states ++ l) first.joined ∙ sym (append_assoc later.states first.states old);
  untold = λ none. later.untold (first.untold none);
  each = each_append P later.states first.states later.each first.each;
}

-- the gate's write alone
at_folder : (groups : List (List Change)) (steps : List (List Filled)) (old new : List State) (folder : Files) → IsNow (IsPreparedOver groups folder) old → Since old new (CrashLeavesBeforeOrAfter groups steps old) → Since old new (CrashLeavesEither folder (after_commit steps folder))
at_folder groups steps old new folder ready since = since_map (CrashLeavesBeforeOrAfter groups steps old) (CrashLeavesEither folder (after_commit steps folder)) old new (λ s keeps. keeps folder ready) since

pub turns_first : (groups : List (List Change)) (steps : List (List Filled)) (old new : List State) → Since old new (CrashLeavesBeforeOrAfter groups steps old) → length new ≤ length old + 1 → CommitsAtWrite groups steps old new
turns_first groups steps old new keeps once folder ready = record { written = new; either = at_folder groups steps old new folder ready keeps; once = once; since = no_time new new _ refl }

written_to : (groups : List (List Change)) (steps : List (List Filled)) (old mid : List State) (folder : Files) → IsNow (IsGateWritten groups steps old) mid → IsNow (IsPreparedOver groups folder) old → IsNow (IsOpeningTo groups folder (after_commit steps folder)) mid
written_to groups steps old [] folder over ready = tt
written_to groups steps old (s ∷ past) folder over ready = over folder ready

-- and its sync
pub turns_second : (groups : List (List Change)) (steps : List (List Filled)) (old mid new : List State) → Since old mid (CrashLeavesBeforeOrAfter groups steps old) → length mid ≤ length old + 1 → IsNow (IsGateWritten groups steps old) mid → Since mid new (CommitsOnceSynced groups mid) → CommitsAtWrite groups steps old new
turns_second groups steps old mid new keeps once over opens folder ready =
    let to : Files = after_commit steps folder in
    record {
      written = mid;
      either = at_folder groups steps old mid folder ready keeps;
      once = once;
      since = since_map (CommitsOnceSynced groups mid) (CrashLeaves to) mid new (λ s opens_s. opens_s folder to (written_to groups steps old mid folder over ready)) opens;
    }

pub keeps_second : (groups : List (List Change)) (steps : List (List Filled)) (old mid new : List State) → Since old mid (CrashLeavesBeforeOrAfter groups steps old) → IsNow (IsGateWritten groups steps old) mid → Since mid new (CommitsOnceSynced groups mid) → Since old new (CrashLeavesBeforeOrAfter groups steps old)
keeps_second groups steps old mid new keeps over opens =
    since_more (CrashLeavesBeforeOrAfter groups steps old) old mid new keeps
    (since_map (CommitsOnceSynced groups mid) (CrashLeavesBeforeOrAfter groups steps old) mid new (λ s opens_s folder ready image is. inr (opens_s folder (after_commit steps folder) (written_to groups steps old mid folder over ready) image is)) opens)

pub opens_over : {T E : Type 0} (groups : List (List Change)) (steps : List (List Filled)) (old mid new : List State) (result : Result T E) → IsNow (IsGateWritten groups steps old) mid
    → OnOk result (IsNow (CommitsOnceSynced groups mid) new) → OnOk result (IsNow (IsGateSynced groups steps old) new)
opens_over groups steps old mid [] (Ok x) over opens = tt
opens_over groups steps old mid (s ∷ past) (Ok x) over opens = λ folder ready. opens folder (after_commit steps folder) (written_to groups steps old mid folder over ready)
opens_over groups steps old mid new (Err e) over opens = tt

leaves_after : (to : Files) (s t : State) → Recovers s t → CrashLeaves to s → CrashLeaves to t
leaves_after to s t recovers leaves image left = let earlier = recovers.images image left in earlier.same ∙ leaves earlier.before earlier.was

over_on : (groups : List (List Change)) (steps : List (List Filled)) (old mid new : List State) → IsNow (IsGateSynced groups steps old) mid → Since mid new (From Recovers mid) → Since mid new (IsGateSynced groups steps old)
over_on groups steps old mid new over since =
    since_first Recovers (IsGateSynced groups steps old) mid new since (λ s past is t recovers folder ready.
    leaves_after (after_commit steps folder) s t recovers ((subst (λ (l : List State). IsNow (IsGateSynced groups steps old) l) is over) folder ready))

pub turns_third : (groups : List (List Change)) (steps : List (List Filled)) (old mid new : List State) → CommitsAtWrite groups steps old mid → IsNow (IsGateSynced groups steps old) mid → Since mid new (From Recovers mid) → CommitsAtWrite groups steps old new
turns_third groups steps old mid new turns over since folder ready =
    let so_far = turns folder ready in
    let to : Files = after_commit steps folder in
    record {
      written = so_far.written;
      either = so_far.either;
      once = so_far.once;
      since = since_more (CrashLeaves to) so_far.written mid new so_far.since (since_map (IsGateSynced groups steps old) (CrashLeaves to) mid new (λ s over_s. over_s folder ready) (over_on groups steps old mid new over since));
    }

pub keeps_third : (groups : List (List Change)) (steps : List (List Filled)) (old mid new : List State) → Since old mid (CrashLeavesBeforeOrAfter groups steps old) → IsNow (IsGateSynced groups steps old) mid → Since mid new (From Recovers mid) → Since old new (CrashLeavesBeforeOrAfter groups steps old)
keeps_third groups steps old mid new keeps over since =
    since_more (CrashLeavesBeforeOrAfter groups steps old) old mid new keeps
    (since_map (IsGateSynced groups steps old) (CrashLeavesBeforeOrAfter groups steps old) mid new (λ s over_s folder ready image is. inr (over_s folder ready image is)) (over_on groups steps old mid new over since))

rest_at : (to : Files) (t : State) → IsSound t → IsIdle t → IsSynced t → CrashLeaves to t → IsAtRest to t
rest_at to t sound idle settled leaves =
    let same : installed_files (reads t) ≡ to = some_same (installed_files (reads t)) to (sym (reads_stand t sound idle) ∙ leaves (reads t) (reads_left t sound)) in
    subst (λ (f : Files). IsAtRest f t) same (idle_rests t sound idle settled)
  where
    some_same : (a b : Files) → Some a ≡ Some b → a ≡ b
    some_same a b is = ap get is
      where
        get : Option Files → Files
        get None = a
        get (Some f) = f

rests_case : (groups : List (List Change)) (steps : List (List Filled)) (old new : List State) → AllSound new → IsNow IsIdle new → (IsNow IsSynced old → IsNow IsSynced new) → IsNow (IsGateSynced groups steps old) new → IsNow (IsAtRestAfter groups steps old) new
rests_case groups steps old [] sound idle settled over = tt
rests_case groups steps old (t ∷ past) sound idle settled over = λ folder ready. rest_at (after_commit steps folder) t sound.0 idle (settled (settled_of old folder ready)) (over folder ready)
  where
    settled_of : (old : List State) (folder : Files) → IsNow (IsPreparedOver groups folder) old → IsNow IsSynced old
    settled_of [] folder ready = tt
    settled_of (s ∷ past) folder ready = ready.synced

pub rests_after : (groups : List (List Change)) (steps : List (List Filled)) (old mid new : List State) → AllSound new → IsNow IsIdle new → (IsNow IsSynced old → IsNow IsSynced new) → IsNow (IsGateSynced groups steps old) mid → Since mid new (From Recovers mid)
    → IsNow (IsAtRestAfter groups steps old) new
rests_after groups steps old mid new sound idle settled over since =
    let on = over_on groups steps old mid new over since in
    rests_case groups steps old new sound idle settled (newest_of (IsGateSynced groups steps old) mid on.states new on.joined on.each over)

-- what is synced stays so
pub settled_on : (old mid new : List State) → (IsNow IsSynced old → IsNow IsSynced mid) → Since mid new (From Recovers mid) → IsNow IsSynced old → IsNow IsSynced new
settled_on old mid new first since settled = handed_on Recovers IsSynced mid new (λ s t recovers. recovers.synced) since (first settled)

pub settled_first : (old new : List State) → Since old new (From KeepsSettled old) → IsNow IsSynced old → IsNow IsSynced new
settled_first old new since settled = handed_on KeepsSettled IsSynced old new (λ s t keeps. keeps) since settled

-- the clock
pub later_on : (P : State → Type 0) (old mid new : List State) → HasMoreStates old mid → Since mid new P → HasMoreStates old new
later_on P [] mid new later since = tt
later_on P (s ∷ past) mid new later since = let long : length new ≡ length (since.states ++ mid) = ap (λ (l : List State). length l) since.joined in omega (arith, later, long, length-append since.states mid)

-- lists on their way that no change names
touched_in : (changes : List Change) (step : Step) (name : List ℕ) → IsIn step (steps_of changes) → Touches step name → IsNone name (changed_names changes) → ⊥
touched_in [] step name is touch none = is
touched_in (Put own content ∷ changes) step name (inl same) touch none = at (subst (λ (s : Step). Touches s name) same touch)
  where
    at : (name ≡ own.0) ⊎ (name ≡ partial own.0) → ⊥
    at (inl is) = none.0 (sym is)
    at (inr is) = none.1.0 (sym is)
touched_in (Put own content ∷ changes) step name (inr later) touch none = touched_in changes step name later touch none.1.1
touched_in (Drop own ∷ changes) step name (inl same) touch none = none.0 (sym (subst (λ (s : Step). Touches s name) same touch))
touched_in (Drop own ∷ changes) step name (inr later) touch none = touched_in changes step name later touch none.1

pub unnamed_stay : (groups : List (List Change)) (old new : List State) → KeepsFilesBut (IsOfCommit (all_steps (steps_in groups))) old new → KeepsUnchangedFiles groups old new
unnamed_stay groups old new leaves other apart none = leaves.same other away
  where
    away : IsOfCommit (all_steps (steps_in groups)) other → ⊥
    away (inl is) = apart is
    away (inr touched_by) = touched_in (all_changes groups) touched_by.0 other (subst (λ (l : List Step). IsIn touched_by.0 l) (all_in groups) touched_by.1) touched_by.2 none
