-- What each call of an opening keeps, by what it is to the disk.
use Rattle.std.proofs.Common.{◌≡◌, ◌≢◌, ◌⊎◌, inl, inr, ⊎_elim, refl, sym, ap, ◌∙◌, subst, ℕ, ◌<◌, ◌≤◌, true, List, [], ◌∷◌, length, set, Option, Some, None, Result, OnOk}
use Rattle.std.proofs.lemmas.Bool.{cases_lt, cases_eq}
use Rattle.std.proofs.lemmas.List.{get_or-set_same, get_or-set_other, set_past}
use Rattle.acq_outside.specs.Disk.{Files}
use Rattle.acq_outside.specs.Crash.{State, Names, IsImage, IsSound, AllSound, IsTorn, Goes, after, on_file, file_at, no_file, names_of, all_renamed, synced}
use Rattle.acq_outside.specs.States.{IsNow, Since, From}
use Rattle.acq_outside.proofs.Crashes.{file_back, names_back, leaves_as_done}
use Rattle.acq_outside.proofs.Going.{goes, onward, IsBySteps}
use Rattle.acq_outside.specs.declared.change.DiskCall.TheVariants.{Sync, SyncNames}
use Rattle.acq_outside.specs.declared.state.FileState.{FileState}
use Rattle.acq_outside.specs.declared.state.NameChange.{NameChange}
use Rattle.journal_model.specs.Names.{journal, is_own_name, is_installed_name}
use Rattle.journal_model.specs.Rest.{MayBePutByRecord, IsSynced, PutsPart}
use Rattle.journal_model.proofs.Views.{as_self, as_by_steps, partial_aside, list_not_journal}
use Rattle.journal_model.specs.declared.step.Step.{Step}
use Rattle.journal_model.specs.declared.step.Step.TheVariants.{Put, Drop}
use Rattle.commit_journal.specs.Opening.{Recovers}

-- a name that counts for what is synced
abbrev pub Counts : State → List ℕ → Type 0
Counts s name = (is_installed_name name ≡ true) ⊎ MayBePutByRecord s name

pub by_steps : IsBySteps Recovers
by_steps a b c first later = record { images = as_by_steps a b c first.images later.images; synced = λ settled. later.synced (first.synced settled) }

pub recorded_back : (s t : State) (name : List ℕ) → ((image : Files) → IsImage t image → IsImage s image) → MayBePutByRecord t name → MayBePutByRecord s name
recorded_back s t name back recorded = record { image = recorded.image; left = back recorded.image recorded.left; steps = recorded.steps; gate = recorded.gate; puts = recorded.puts }

counts_back : (s t : State) (name : List ℕ) → ((image : Files) → IsImage t image → IsImage s image) → Counts t name → Counts s name
counts_back s t name back (inl list) = inl list
counts_back s t name back (inr recorded) = inr (recorded_back s t name back recorded)

pub puts_aside : (steps : List Step) (name : List ℕ) → PutsPart steps name → is_own_name name ≡ true
puts_aside [] name puts = absurd puts
puts_aside (Put list ∷ steps) name (inl is) = subst (λ (n : List ℕ). is_own_name n ≡ true) (sym is) (partial_aside list)
puts_aside (Put list ∷ steps) name (inr later) = puts_aside steps name later
puts_aside (Drop list ∷ steps) name puts = puts_aside steps name puts

pub counts_not_journal : (s : State) (name : List ℕ) → Counts s name → name ≢ journal
counts_not_journal s name (inl list) = list_not_journal name list
counts_not_journal s name (inr recorded) = λ same. let aside : is_own_name journal ≡ true = subst (λ (n : List ℕ). is_own_name n ≡ true) same (puts_aside recorded.steps name recorded.puts) in absurd cc

abbrev pub Lasts : FileState → Type 0
Lasts file = file ≡ synced file.seen

set_lasts : (files : List FileState) (j i : ℕ) (file : FileState) → Lasts file → Lasts (file_at files i) → Lasts (file_at (set files j file) i)
set_lasts files j i file new old = ⊎_elim within past (cases_lt j (length files))
  where
    same : j < length files → i ≡ j → Lasts (file_at (set files j file) i)
    same low eq = subst Lasts (sym (ap (λ (k : ℕ). file_at (set files j file) k) eq ∙ get_or-set_same files j file no_file low)) new

    other : i ≢ j → Lasts (file_at (set files j file) i)
    other differ = subst Lasts (sym (get_or-set_other files j i file no_file differ)) old

    within : j < length files → Lasts (file_at (set files j file) i)
    within low = ⊎_elim (same low) other (cases_eq i j)

    past : length files ≤ j → Lasts (file_at (set files j file) i)
    past high = subst (λ (l : List FileState). Lasts (file_at l i)) (sym (set_past files j file high)) old

-- Syncs.
sync_settled : (s : State) (o : Option ℕ) → IsSound s → IsSynced s → IsSynced (on_file s o (λ file. synced file.seen))
sync_settled s None sound settled name i counts leads = settled name i counts leads
sync_settled s (Some j) sound settled name i counts leads =
    let back : (image : Files) → IsImage (on_file s (Some j) (λ file. synced file.seen)) image → IsImage s image = λ image is. file_back s (Some j) image sound is in
    set_lasts s.files j i (synced (file_at s.files j).seen) refl (settled name i (counts_back s (on_file s (Some j) (λ file. synced file.seen)) name back counts) leads)

pub sync_recovers : (s : State) (name : List ℕ) → IsSound s → Recovers s (after s (Sync name))
sync_recovers s name sound = record { images = λ image is. as_self s image (file_back s (names_of s name) image sound is); synced = sync_settled s (names_of s name) sound }

pub names_recover : (s : State) → Recovers s (after s SyncNames)
names_recover s = record {
  images = λ image is. as_self s image (names_back s image is);
  synced = λ settled name i counts leads. settled name i (counts_back s (after s SyncNames) name (names_back s) counts) leads;
}

-- A torn call keeps what the call keeps that is done, where it tears no file that counts.
torn_names : (c : Option ℕ) (done torn : State) → IsTorn c done torn → names_of torn ≡ names_of done
torn_names c done torn part = ap (λ (l : List NameChange). all_renamed torn.base l) part.pending ∙ ap (λ (m : Names). all_renamed m done.pending) part.base

pub torn_recovers : (c : Option ℕ) (s done torn : State) → IsTorn c done torn → ((name : List ℕ) (i : ℕ) → Counts done name → names_of done name ≡ Some i → Some i ≢ c) → Recovers s done → Recovers s torn
torn_recovers c s done torn part away recovers = record {
  images = λ image is. recovers.images image (leaves_as_done done c torn image part is);
  synced = λ settled name i counts leads.
      let counts_done : Counts done name = counts_back done torn name (λ image is. leaves_as_done done c torn image part is) counts in
      let led : names_of done name ≡ Some i = ap (λ (m : Names). m name) (sym (torn_names c done torn part)) ∙ leads in
      subst Lasts (sym (part.others i (away name i counts_done led))) (recovers.synced settled name i counts_done led);
}

pub never : (i : ℕ) → Some i ≢ None
never i is = absurd cc

-- a sync, over all that a disk has been
pub sync_goes : {T E : Type 0} (P Q : State → Type 0) (name other : List ℕ) (old new : List State) (result : Result T E) → other ≡ name → AllSound old → ((s : State) → IsSound s → P s → Q (after s (Sync name)))
    → IsNow P old → Goes (Sync other) old new result → Since old new (From Recovers old) × OnOk result (IsNow Q new)
sync_goes P Q name other old new result same sound ends stands is =
    goes Recovers P Q (Sync name) old new result sound
    (λ s sound_s has. sync_recovers s name sound_s)
    (λ s torn sound_s has part. torn_recovers None s (after s (Sync name)) torn part (λ n i counts leads. never i) (sync_recovers s name sound_s))
    ends stands (subst (λ (n : List ℕ). Goes (Sync n) old new result) same is)

pub names_go : {T E : Type 0} (P Q : State → Type 0) (old new : List State) (result : Result T E) → AllSound old → ((s : State) → IsSound s → P s → Q (after s SyncNames))
    → IsNow P old → Goes SyncNames old new result → Since old new (From Recovers old) × OnOk result (IsNow Q new)
names_go P Q old new result sound ends stands is =
    goes Recovers P Q SyncNames old new result sound
    (λ s sound_s has. names_recover s)
    (λ s torn sound_s has part. torn_recovers None s (after s SyncNames) torn part (λ n i counts leads. never i) (names_recover s))
    ends stands is

-- one call after another
pub onwards : (old mid new : List State) → Since old mid (From Recovers old) → Since mid new (From Recovers mid) → Since old new (From Recovers old)
onwards old mid new first later = onward Recovers by_steps old mid new first later
