-- A commit that is laid out is ready.
use Rattle.std.proofs.Common.{◌≡◌, ◌≢◌, inl, inr, refl, sym, ap, ◌∙◌, subst, ℕ, List, [], ◌∷◌, ◌++◌, Some, length, ◌<◌, ◌^◌, Result, Ok, Err, OnOk}
use Rattle.acq_outside.specs.Disk.{Files}
use Rattle.acq_outside.specs.Crash.{State, synced, reads}
use Rattle.acq_outside.specs.States.{IsNow, Since}
use Rattle.acq_outside.proofs.Going.{no_time, since_map, handed_on}
use Rattle.journal_model.specs.Names.{journal, partial}
use Rattle.journal_model.specs.Spelling.{body_of, all_steps, AreShort, AreAllowed}
use Rattle.journal_model.specs.Reopen.{installed_files}
use Rattle.journal_model.specs.Rest.{IsIdle, IsSynced, IsAtRest, KeepsAtRest, KeptAtRestSince, file_named, part_file, part_bytes, bytes_in}
use Rattle.journal_model.proofs.Resting.{rests}
use Rattle.journal_model.proofs.Views.{apart_names, partial_aside}
use Rattle.commit_journal.specs.declared.changing.Change.{Change}
use Rattle.commit_journal.specs.declared.changing.Change.TheVariants.{Put, Drop}
use Rattle.commit_journal.specs.declared.changing.Content.{Content}
use Rattle.commit_journal.specs.declared.changing.Content.TheVariants.{Held, Staged}
use Rattle.commit_journal.specs.Changes.{Filled, PutFile, DropFile, content_of, filled, filled_all, steps_in, all_changes, all_changed_names, CanRecord}
use Rattle.commit_journal.specs.Commits.{parts_of, ArePutsPrepared, IsPrepared, CrashKeepsInstalled, PreparedAfter, KeepsUnchangedFiles}
use Rattle.commit_journal.specs.Opening.{KeepsFilesBut}
use Rattle.commit_journal.specs.Phases.{IsOfCommit}
use Rattle.commit_journal.proofs.Recordable.{all_few, all_short, all_allowed}
use Rattle.journal_model.specs.declared.step.Step.{Step}
use Rattle.commit_journal.specs.Laying.{AreFilledFrom, KeepsUnnamedIn, HasRecordSynced}

-- what was laid stays while the record is written
own_names : (name : List ℕ) → name ≢ journal → IsOfCommit [] name → ⊥
own_names name away (inl is) = away is
own_names name away (inr none) = none.1

parts_kept : (mid new : List State) → KeepsFilesBut (IsOfCommit []) mid new → (name : List ℕ) → part_file new name ≡ part_file mid name
parts_kept mid new leaves name = leaves.same (partial name) (own_names (partial name) (apart_names (partial name) journal (partial_aside name) refl))

filled_kept : (part : List ℕ → List ℕ) (changes : List Change) (s t : State) → ((name : List ℕ) → file_named t (partial name) ≡ file_named s (partial name)) → AreFilledFrom part changes s → AreFilledFrom part changes t
filled_kept part [] s t same filled = tt
filled_kept part (Put name content ∷ changes) s t same filled = (record { is = same name.0 ∙ filled.0.is }, filled_kept part changes s t same filled.1)
filled_kept part (Drop name ∷ changes) s t same filled = (tt, filled_kept part changes s t same filled.1)

pub filled_on : (part : List ℕ → List ℕ) (changes : List Change) (mid new : List State) → (mid ≡ [] → new ≡ []) → KeepsFilesBut (IsOfCommit []) mid new → IsNow (AreFilledFrom part changes) mid → IsNow (AreFilledFrom part changes) new
filled_on part changes mid [] untold leaves filled = tt
filled_on part changes [] (t ∷ past) untold leaves filled = absurd (let clash = untold refl in cc)
filled_on part changes (s ∷ before) (t ∷ past) untold leaves filled = filled_kept part changes s t (parts_kept (s ∷ before) (t ∷ past) leaves) filled

-- at Ok
pub filled_at : {T E : Type 0} (result : Result T E) (part : List ℕ → List ℕ) (changes : List Change) (mid new : List State) → (mid ≡ [] → new ≡ []) → KeepsFilesBut (IsOfCommit []) mid new → IsNow (AreFilledFrom part changes) mid → OnOk result (IsNow (AreFilledFrom part changes) new)
filled_at (Ok x) part changes mid new untold leaves filled = filled_on part changes mid new untold leaves filled
filled_at (Err e) part changes mid new untold leaves filled = tt

pub unnamed_on : (groups : List (List Change)) (old mid new : List State) → KeepsUnnamedIn (all_changed_names groups) old mid → KeepsFilesBut (IsOfCommit []) mid new → KeepsUnchangedFiles groups old new
unnamed_on groups old mid new first later other away none = later.same other (own_names other away) ∙ first other none

-- all that the record puts is there
laid_out : (part : List ℕ → List ℕ) (changes : List Change) (s : State) → AreFilledFrom part changes s → ArePutsPrepared changes s
laid_out part [] s filled = tt
laid_out part (Put name content ∷ changes) s filled = (record { is = filled.0.is ∙ ap (λ (b : List ℕ). Some (synced b)) (content_now name.0 content filled.0.is) }, laid_out part changes s filled.1)
  where
    content_now : (own : List ℕ) (content : Content) → file_named s (partial own) ≡ Some (synced (content_of part own content)) → content_of part own content ≡ content_of (parts_of s) own content
    content_now own (Held bytes) is = refl
    content_now own Staged is = sym (ap bytes_in is)
laid_out part (Drop name ∷ changes) s filled = (tt, laid_out part changes s filled.1)

pub is_ready : (groups : List (List Change)) (part : List ℕ → List ℕ) (slice body : List ℕ) (changes : List Change) (new : List State) → CanRecord groups → body ≡ body_of (steps_in groups) → slice ≡ body → changes ≡ all_changes groups
    → IsNow (HasRecordSynced (0 ∷ slice)) new → IsNow (AreFilledFrom part changes) new → IsNow (IsPrepared groups) new
is_ready groups part slice body changes [] can is same all noted filled = tt
is_ready groups part slice body changes (t ∷ past) can is same all noted filled = record {
  can = can;
  unmoved = noted.unmoved;
  number = noted.number;
  leads = noted.leads;
  file = noted.file ∙ ap (λ (b : List ℕ). synced (0 ∷ b)) (same ∙ is);
  laid_out = laid_out part (all_changes groups) t (subst (λ (l : List Change). AreFilledFrom part l t) all filled);
}

-- at each moment the lists stay
pub keeps_lists : (old new : List State) → IsNow IsIdle old → Since old new (KeptAtRestSince old) → Since old new (CrashKeepsInstalled old)
keeps_lists [] new idle since = no_time [] new (CrashKeepsInstalled []) (since.untold refl)
keeps_lists (s ∷ past) new idle since = since_map (KeptAtRestSince (s ∷ past)) (CrashKeepsInstalled (s ∷ past)) (s ∷ past) new (λ t stays folder rest. (stays.rest idle folder rest).leaves) since

abbrev IsIdleAtRest : Files → State → Type 0
IsIdleAtRest folder s = IsIdle s × IsAtRest folder s

at_rest : (folder : Files) (now : List State) → IsNow (IsIdleAtRest folder) now → IsNow (IsAtRest folder) now
at_rest folder [] has = tt
at_rest folder (s ∷ past) has = has.1

pub rest_on : (folder : Files) (old new : List State) → IsNow IsIdle old → Since old new (KeptAtRestSince old) → IsNow (IsAtRest folder) old → IsNow (IsAtRest folder) new
rest_on folder [] new idle since rest = subst (λ (l : List State). IsNow (IsAtRest folder) l) (sym (since.untold refl)) tt
rest_on folder (s ∷ past) new idle since rest =
    at_rest folder new (handed_on KeepsAtRest (IsIdleAtRest folder) (s ∷ past) new (λ a b stays has. (stays.idle has.0, stays.rest has.0 folder has.1)) since (idle, rest))

pub ready_after : (groups : List (List Change)) (old new : List State) → IsNow IsIdle old → Since old new (KeptAtRestSince old) → IsNow (IsPrepared groups) new → IsNow (PreparedAfter groups old) new
ready_after groups old [] idle since ready = tt
ready_after groups old (t ∷ past) idle since ready = λ folder rest. let now = rest_on folder old (t ∷ past) idle since rest in record { ready = ready; leaves = now.leaves; synced = now.synced }

pub settled_at : (folder : Files) (now : List State) → IsNow (IsAtRest folder) now → IsNow IsSynced now
settled_at folder [] rest = tt
settled_at folder (s ∷ past) rest = rest.synced

pub settled_kept : (old new : List State) → Since old new (KeptAtRestSince old) → IsNow IsIdle old → IsNow IsSynced old → IsNow IsSynced new
settled_kept [] new since idle settled = subst (λ (l : List State). IsNow IsSynced l) (sym (since.untold refl)) tt
settled_kept (s ∷ past) new since idle settled = settled_at (installed_files (reads s)) new (rest_on (installed_files (reads s)) (s ∷ past) new idle since (rests s idle settled))

-- what the record puts is as it was
filled_same : (part : List ℕ → List ℕ) (t : State) (changes : List Change) → AreFilledFrom part changes t → filled (parts_of t) changes ≡ filled part changes
filled_same part t [] laid = refl
filled_same part t (Put name content ∷ changes) laid =
    ap (λ (b : List ℕ). PutFile name.0 b ∷ filled (parts_of t) changes) (content_now name.0 content laid.0.is) ∙ ap (λ (l : List Filled). PutFile name.0 (content_of part name.0 content) ∷ l) (filled_same part t changes laid.1)
  where
    content_now : (own : List ℕ) (content : Content) → file_named t (partial own) ≡ Some (synced (content_of part own content)) → content_of (parts_of t) own content ≡ content_of part own content
    content_now own (Held bytes) is = refl
    content_now own Staged is = ap bytes_in is
filled_same part t (Drop name ∷ changes) laid = ap (λ (l : List Filled). DropFile name ∷ l) (filled_same part t changes laid.1)

filled_parts : (part : List ℕ → List ℕ) (a b : List Change) (s : State) → AreFilledFrom part (a ++ b) s → AreFilledFrom part a s × AreFilledFrom part b s
filled_parts part [] b s laid = (tt, laid)
filled_parts part (c ∷ a) b s laid = let rest = filled_parts part a b s laid.1 in ((laid.0, rest.0), rest.1)

all_same : (part : List ℕ → List ℕ) (t : State) (groups : List (List Change)) → AreFilledFrom part (all_changes groups) t → filled_all (parts_of t) groups ≡ filled_all part groups
unfolding filled_all
all_same part t [] laid = refl
all_same part t (group ∷ groups) laid =
    let each = filled_parts part group (all_changes groups) t laid in
    ap (λ (g : List Filled). g ∷ filled_all (parts_of t) groups) (filled_same part t group each.0) ∙ ap (λ (l : List (List Filled)). filled part group ∷ l) (all_same part t groups each.1)

none_before : (old states : List State) → [] ≡ states ++ old → old ≡ []
none_before old [] is = sym is
none_before old (s ∷ states) is = absurd cc

pub bytes_same : (groups : List (List Change)) (changes : List Change) (old new : List State) → changes ≡ all_changes groups → Since old new (KeptAtRestSince old) → IsNow (AreFilledFrom (part_bytes old) changes) new → filled_all (part_bytes new) groups ≡ filled_all (part_bytes old) groups
bytes_same groups changes old [] all since laid = ap (λ (l : List State). filled_all (part_bytes l) groups) (sym (none_before old since.states since.joined))
bytes_same groups changes old (t ∷ past) all since laid = all_same (part_bytes old) t groups (subst (λ (l : List Change). AreFilledFrom (part_bytes old) l t) all laid)

-- the record that is written
pub record_few : (groups slice : List (List Change)) (record_steps rows : List (List Step)) → CanRecord groups → slice ≡ groups → record_steps ≡ steps_in slice → rows ≡ record_steps → (length rows < 2 ^ 32) × (AreShort rows × AreAllowed [] (all_steps rows))
record_few groups slice record_steps rows can same made is =
    subst (λ (l : List (List Step)). (length l < 2 ^ 32) × (AreShort l × AreAllowed [] (all_steps l))) (sym (is ∙ made ∙ ap steps_in same)) (all_few groups can, (all_short groups can, all_allowed groups can))
