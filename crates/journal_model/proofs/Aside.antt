-- While no gate is open and neither a list nor the journal is touched, a crash leaves the lists that it left.
use Rattle.std.proofs.Common.{◌≡◌, ◌≢◌, ◌⊎◌, inl, inr, ⊎_elim, refl, sym, ap, ◌∙◌, subst, arith, ℕ, true, false, List, [], ◌∷◌, ◌++◌, length, Option, Some, None, option_map, Result, Ok, Err}
use Rattle.std.proofs.lemmas.Bool.{cases_eq}
use Rattle.std.proofs.lemmas.List.{get_or-set_other}
use Rattle.acq_outside.specs.Disk.{Files}
use Rattle.acq_outside.specs.Crash.{State, Names, IsOutcome, FitsAll, IsImage, IsSound, AllSound, IsTorn, Goes, after, changed_file, on_file, cut_or_made, file_at, no_file, names_of, synced, file_written, file_cut, all_renamed, reads, seen_at}
use Rattle.acq_outside.specs.States.{IsNow, Since, From}
use Rattle.acq_outside.proofs.Traces.{apart_now, all_push}
use Rattle.acq_outside.proofs.Crashes.{made_files}
use Rattle.acq_outside.proofs.Going.{goes}
use Rattle.acq_outside.specs.declared.change.DiskCall.{DiskCall}
use Rattle.acq_outside.specs.declared.change.DiskCall.TheVariants.{Write, Cut, Sync, Rename, Remove, SyncNames}
use Rattle.acq_outside.specs.declared.state.FileState.{FileState}
use Rattle.acq_outside.specs.declared.state.NameChange.{NameChange}
use Rattle.acq_outside.specs.declared.state.NameChange.TheVariants.{Made}
use Rattle.journal_model.specs.Names.{journal, partial, is_own_name, is_installed_name}
use Rattle.journal_model.specs.Reading.{journal_state_of, journal_state_in}
use Rattle.journal_model.specs.Reopen.{installed_files, opened, reopened, ReopensAsAt}
use Rattle.journal_model.specs.Rest.{AllChangeNoInstalledName, IsShut, IsIdle, IsQuiet, MayBePutByRecord, IsSynced, KeepsAtRest, KeepsOtherFiles, file_named, file_now}
use Rattle.journal_model.proofs.Twice.{with_same, with_other}
use Rattle.journal_model.proofs.Views.{view, image_view, view_image, apart_names, list_not_aside, off_all, part_aside, more_aside, lists_same, instead, instead_same, instead_other}
use Rattle.journal_model.specs.declared.step.JournalState.TheVariants.{Shut}

pub first_kept : (file : FileState) → IsShut file → (bytes : List ℕ) → IsOutcome file bytes → (later : List ℕ) × (bytes ≡ 0 ∷ later)
first_kept file closed [] outcome = absurd (omega (arith, closed.least, outcome.long))
first_kept file closed (b ∷ later) outcome =
    let fits : FitsAll (Some 0 ∷ closed.rest) (b ∷ later) = subst (λ (c : List (Option ℕ)). FitsAll c (b ∷ later)) closed.cells outcome.fits in
    (later, ap (λ (x : ℕ). x ∷ later) fits.0)

pub idle_quiet : (s : State) → IsIdle s → IsQuiet s
idle_quiet s rest = record {
  aside = rest.aside;
  shut = λ i leads bytes outcome.
      let same : i ≡ rest.number = (let both = sym leads ∙ rest.leads in cc) in
      let first = first_kept (file_at s.files rest.number) rest.shut bytes (subst (λ (k : ℕ). IsOutcome (file_at s.files k) bytes) same outcome) in
      ap journal_state_of first.1;
}

shut_in : (s : State) → IsQuiet s → (bytes : ℕ → List ℕ) → ((i : ℕ) → IsOutcome (file_at s.files i) (bytes i)) → (o : Option ℕ) → s.base journal ≡ o → journal_state_in (option_map bytes o) ≡ Shut
shut_in s quiet bytes outcomes None leads = refl
shut_in s quiet bytes outcomes (Some i) leads = quiet.shut i leads (bytes i) (outcomes i)

-- no gate is open in what a crash leaves
pub quiet_gate : (s : State) → IsQuiet s → (image : Files) → IsImage s image → journal_state_in (image journal) ≡ Shut
quiet_gate s quiet image is =
    ap journal_state_in (is.shows journal ∙ ap (option_map is.bytes) (off_all s.base is.some journal (part_aside is.some s.pending is.part quiet.aside) refl))
    ∙ shut_in s quiet is.bytes is.outcomes (s.base journal) refl

-- which then stands for its lists
pub quiet_view : (s : State) → IsQuiet s → (image : Files) (is : IsImage s image) → reopened image ≡ Some (installed_files (view s.base is.bytes))
quiet_view s quiet image is =
    let m : Names = all_renamed s.base is.some in
    let aside : AllChangeNoInstalledName is.some = part_aside is.some s.pending is.part quiet.aside in
    ap (opened image) (quiet_gate s quiet image is)
    ∙ ap (λ (f : Files). Some (installed_files f)) (image_view s image is)
    ∙ ap (λ (f : Files). Some f) (lists_same m s.base is.bytes is.bytes (λ name list. off_all s.base is.some name aside (list_not_aside name list)) (λ name i list leads. refl))

pub quiet_unrecorded : (s : State) (name : List ℕ) → IsQuiet s → MayBePutByRecord s name → ⊥
quiet_unrecorded s name quiet recorded = let clash = sym (quiet_gate s quiet recorded.image recorded.left) ∙ recorded.gate in cc

-- which file a name leads to that isn't aside
pub leads_now : (s : State) (name : List ℕ) → AllChangeNoInstalledName s.pending → is_own_name name ≡ false → names_of s name ≡ s.base name
leads_now s name aside outside = off_all s.base s.pending name aside outside

-- One file changes to which no list leads, and no gate is open before or after.
pub changed_by : (s t : State) (i : ℕ) → IsSound s → IsQuiet s → IsQuiet t → t.base ≡ s.base → ((k : ℕ) → k ≢ i → file_at t.files k ≡ file_at s.files k)
    → ((name : List ℕ) (k : ℕ) → is_installed_name name ≡ true → s.base name ≡ Some k → k ≢ i) → ReopensAsAt s t
changed_by s t i sound quiet_s quiet_t base files away image is = record {
  before = view s.base bytes;
  was = was;
  same = quiet_view t quiet_t image is ∙ ap (λ (f : Files). Some f) (lists_same t.base s.base is.bytes bytes (λ name list. ap (λ (m : Names). m name) base) (λ name k list leads. sym (instead_other i seen is.bytes k (away name k list leads)))) ∙ sym (quiet_view s quiet_s (view s.base bytes) was);
}
  where
    seen : List ℕ
    seen = (file_at s.files i).seen

    bytes : ℕ → List ℕ
    bytes = instead i seen is.bytes

    outcome : (k : ℕ) → IsOutcome (file_at s.files k) (bytes k)
    outcome k = ⊎_elim
        (λ same. subst (λ (n : ℕ). IsOutcome (file_at s.files n) (bytes n)) (sym same) (subst (λ (b : List ℕ). IsOutcome (file_at s.files i) b) (sym (instead_same i seen is.bytes)) (sound.outcomes i)))
        (λ differ. subst (λ (b : List ℕ). IsOutcome (file_at s.files k) b) (sym (instead_other i seen is.bytes k differ)) (subst (λ (f : FileState). IsOutcome f (is.bytes k)) (files k differ) (is.outcomes k)))
        (cases_eq k i)

    was : IsImage s (view s.base bytes)
    was = view_image s bytes outcome

-- The content of one name's file changes, or the file is made, and nothing else changes.
pub record ChangesOnly (name : List ℕ) (changed : Option ℕ) (s t : State) : Type 0 where
  pub base : t.base ≡ s.base
  pub number : ℕ
  pub files : (k : ℕ) → k ≢ number → file_at t.files k ≡ file_at s.files k
  pub pending : (t.pending ≡ s.pending) ⊎ (t.pending ≡ s.pending ++ Made name number ∷ [])
  pub own : (other : List ℕ) → other ≢ name → names_of s other ≢ Some number
  pub torn_at : (k : ℕ) → changed ≡ Some k → k ≡ number

-- a call on the content of this name's file
abbrev pub IsOn : List ℕ → DiskCall → Type 0
IsOn name (Write other at bytes) = other ≡ name
IsOn name (Cut other len) = other ≡ name
IsOn name (Sync other) = other ≡ name
IsOn name (Rename from to) = ⊥
IsOn name (Remove other) = ⊥
IsOn name SyncNames = ⊥

some_same : (i k : ℕ) → Some i ≡ Some k → k ≡ i
some_same i k is = cc

file_changes : (name : List ℕ) (changed : Option ℕ) (s : State) (i : ℕ) (change : FileState → FileState) → IsSound s → ((k : ℕ) → changed ≡ Some k → k ≡ i) → names_of s name ≡ Some i → ChangesOnly name changed s (on_file s (Some i) change)
file_changes name changed s i change sound at leads = record {
  base = refl;
  number = i;
  files = λ k differ. get_or-set_other s.files i k (change (file_at s.files i)) no_file differ;
  pending = inl refl;
  own = λ other differ other_leads. differ ((apart_now s sound).one other name i other_leads leads);
  torn_at = at;
}

on_changes : (name : List ℕ) (changed : Option ℕ) (s : State) (o : Option ℕ) (change : FileState → FileState) → IsSound s → ((k : ℕ) → changed ≡ Some k → o ≡ Some k) → names_of s name ≡ o → ChangesOnly name changed s (on_file s o change)
on_changes name changed s None change sound at leads = record {
  base = refl;
  number = length s.files;
  files = λ k differ. refl;
  pending = inl refl;
  own = λ other differ other_leads. absurd (omega (arith, (apart_now s sound).below other (length s.files) other_leads));
  torn_at = λ k is. absurd (let clash = at k is in cc);
}
on_changes name changed s (Some i) change sound at leads = file_changes name changed s i change sound (λ k is. some_same i k (at k is)) leads

made_leads : (name : List ℕ) (s : State) → names_of (cut_or_made s name 0 None) name ≡ Some (length s.files)
made_leads name s = ap (λ (m : Names). m name) (all_push s.base s.pending (Made name (length s.files))) ∙ with_same (names_of s) name (Some (length s.files)) name refl

cut_changes : (name : List ℕ) (s : State) (o : Option ℕ) (len : ℕ) → IsSound s → names_of s name ≡ o → ChangesOnly name (names_of (cut_or_made s name len o) name) s (cut_or_made s name len o)
cut_changes name s None len sound leads = record {
  base = refl;
  number = length s.files;
  files = λ k differ. made_files s.files k;
  pending = inr refl;
  own = λ other differ other_leads. absurd (omega (arith, (apart_now s sound).below other (length s.files) other_leads));
  torn_at = λ k is. some_same (length s.files) k (sym (made_leads name s) ∙ is);
}
cut_changes name s (Some i) len sound leads = file_changes name (names_of s name) s i (λ file. file_cut file len) sound (λ k is. some_same i k (sym leads ∙ is)) leads

pub call_changes : (name : List ℕ) (s : State) (call : DiskCall) → IsSound s → IsOn name call → ChangesOnly name (changed_file s call) s (after s call)
call_changes name s (Write other at bytes) sound on =
    subst (λ (n : List ℕ). ChangesOnly name (changed_file s (Write n at bytes)) s (after s (Write n at bytes))) (sym on) (on_changes name (names_of s name) s (names_of s name) (λ file. file_written file at bytes) sound (λ k is. is) refl)
call_changes name s (Cut other len) sound on =
    subst (λ (n : List ℕ). ChangesOnly name (changed_file s (Cut n len)) s (after s (Cut n len))) (sym on) (cut_changes name s (names_of s name) len sound refl)
call_changes name s (Sync other) sound on =
    subst (λ (n : List ℕ). ChangesOnly name None s (after s (Sync n))) (sym on) (on_changes name None s (names_of s name) (λ file. synced file.seen) sound (λ k is. absurd cc) refl)
call_changes name s (Rename from to) sound on = absurd on
call_changes name s (Remove other) sound on = absurd on
call_changes name s SyncNames sound on = absurd on

-- a torn call changes no more
pub torn_changes : (name : List ℕ) (changed : Option ℕ) (s done torn : State) → ChangesOnly name changed s done → IsTorn changed done torn → ChangesOnly name changed s torn
torn_changes name changed s done torn only part = record {
  base = part.base ∙ only.base;
  number = only.number;
  files = λ k differ. part.others k (λ is. differ (only.torn_at k (sym is))) ∙ only.files k differ;
  pending = ⊎_elim (λ is. inl (part.pending ∙ is)) (λ is. inr (part.pending ∙ is)) only.pending;
  own = only.own;
  torn_at = only.torn_at;
}

-- other names lead where they led
pub other_leads : (name : List ℕ) (changed : Option ℕ) (s t : State) → ChangesOnly name changed s t → (other : List ℕ) → other ≢ name → names_of t other ≡ names_of s other
other_leads name changed s t only other differ = ap (λ (m : Names). all_renamed m t.pending other) only.base ∙ ⊎_elim
    (λ is. ap (λ (l : List NameChange). all_renamed s.base l other) is)
    (λ is. ap (λ (l : List NameChange). all_renamed s.base l other) is ∙ ap (λ (m : Names). m other) (all_push s.base s.pending (Made name only.number)) ∙ with_other (names_of s) name (Some only.number) other (λ same. differ (sym same)))
    only.pending

-- and to the files that they led to
pub other_file : (name : List ℕ) (changed : Option ℕ) (s t : State) → ChangesOnly name changed s t → (other : List ℕ) → other ≢ name → file_named t other ≡ file_named s other
other_file name changed s t only other differ = ap (option_map (file_at t.files)) (other_leads name changed s t only other differ) ∙ at (names_of s other) refl
  where
    at : (o : Option ℕ) → names_of s other ≡ o → option_map (file_at t.files) o ≡ option_map (file_at s.files) o
    at None leads = refl
    at (Some k) leads = ap (λ (f : FileState). Some f) (only.files k (λ same. only.own other differ (leads ∙ ap (λ (n : ℕ). Some n) same)))

-- A call on the file of a name aside.
not_number : (name : List ℕ) (changed : Option ℕ) (s t : State) (only : ChangesOnly name changed s t) → is_own_name name ≡ true → AllChangeNoInstalledName s.pending → (other : List ℕ) (k : ℕ) → is_own_name other ≡ false → s.base other ≡ Some k → k ≢ only.number
not_number name changed s t only aside pending other k outside base same =
    only.own other (λ is. apart_names name other aside outside (sym is)) (leads_now s other pending outside ∙ base ∙ ap (λ (n : ℕ). Some n) same)

stays_aside : (name : List ℕ) (changed : Option ℕ) (s t : State) → ChangesOnly name changed s t → is_own_name name ≡ true → AllChangeNoInstalledName s.pending → AllChangeNoInstalledName t.pending
stays_aside name changed s t only aside pending = ⊎_elim
    (λ is. subst (λ (l : List NameChange). AllChangeNoInstalledName l) (sym is) pending)
    (λ is. subst (λ (l : List NameChange). AllChangeNoInstalledName l) (sym is) (more_aside s.pending (Made name only.number) pending aside))
    only.pending

journal_same : (name : List ℕ) (changed : Option ℕ) (s t : State) → (only : ChangesOnly name changed s t) → is_own_name name ≡ true → AllChangeNoInstalledName s.pending → (i : ℕ) → s.base journal ≡ Some i → file_at t.files i ≡ file_at s.files i
journal_same name changed s t only aside pending i leads = only.files i (not_number name changed s t only aside pending journal i refl leads)

pub stays_quiet : (name : List ℕ) (changed : Option ℕ) (s t : State) → ChangesOnly name changed s t → is_own_name name ≡ true → IsQuiet s → IsQuiet t
stays_quiet name changed s t only aside quiet = record {
  aside = stays_aside name changed s t only aside quiet.aside;
  shut = λ i leads bytes outcome.
      let base : s.base journal ≡ Some i = ap (λ (m : Names). m journal) (sym only.base) ∙ leads in
      quiet.shut i base bytes (subst (λ (f : FileState). IsOutcome f bytes) (journal_same name changed s t only aside quiet.aside i base) outcome);
}

pub stays_idle : (name : List ℕ) (changed : Option ℕ) (s t : State) → ChangesOnly name changed s t → is_own_name name ≡ true → IsIdle s → IsIdle t
stays_idle name changed s t only aside rest = record {
  aside = stays_aside name changed s t only aside rest.aside;
  number = rest.number;
  leads = ap (λ (m : Names). m journal) only.base ∙ rest.leads;
  shut = subst (λ (f : FileState). IsShut f) (sym (journal_same name changed s t only aside rest.aside rest.number rest.leads)) rest.shut;
}

pub leaves_as : (name : List ℕ) (changed : Option ℕ) (s t : State) → IsSound s → ChangesOnly name changed s t → is_own_name name ≡ true → IsQuiet s → ReopensAsAt s t
leaves_as name changed s t sound only aside quiet =
    changed_by s t only.number sound quiet (stays_quiet name changed s t only aside quiet) only.base only.files
    (λ list k is base. not_number name changed s t only aside quiet.aside list k (list_not_aside list is) base)

list_leads : (name : List ℕ) (changed : Option ℕ) (s t : State) → ChangesOnly name changed s t → is_own_name name ≡ true → (list : List ℕ) → is_installed_name list ≡ true → names_of t list ≡ names_of s list
list_leads name changed s t only aside list is = other_leads name changed s t only list (λ same. apart_names name list aside (list_not_aside list is) (sym same))

pub stays_settled : (name : List ℕ) (changed : Option ℕ) (s t : State) → ChangesOnly name changed s t → is_own_name name ≡ true → IsQuiet s → IsSynced s → IsSynced t
stays_settled name changed s t only aside quiet settled list i (inr recorded) leads = absurd (quiet_unrecorded t list (stays_quiet name changed s t only aside quiet) recorded)
stays_settled name changed s t only aside quiet settled list i (inl is) leads =
    let led : names_of s list ≡ Some i = sym (list_leads name changed s t only aside list is) ∙ leads in
    let differ : list ≢ name = λ same. apart_names name list aside (list_not_aside list is) (sym same) in
    let kept : file_at t.files i ≡ file_at s.files i = only.files i (λ same. only.own list differ (led ∙ ap (λ (n : ℕ). Some n) same)) in
    subst (λ (f : FileState). f ≡ synced f.seen) (sym kept) (settled list i (inl is) led)

pub reads_named : (s : State) (name : List ℕ) → reads s name ≡ option_map (λ (f : FileState). f.seen) (file_named s name)
reads_named s name = at (names_of s name)
  where
    at : (o : Option ℕ) → seen_at s.files o ≡ option_map (λ (f : FileState). f.seen) (option_map (file_at s.files) o)
    at None = refl
    at (Some i) = refl

pub stays_at_rest : (name : List ℕ) (changed : Option ℕ) (s t : State) → IsSound s → ChangesOnly name changed s t → is_own_name name ≡ true → KeepsAtRest s t
stays_at_rest name changed s t sound only aside = record {
  rest = λ idle folder rest. record {
    leaves = λ image is. let earlier = leaves_as name changed s t sound only aside (idle_quiet s idle) image is in earlier.same ∙ rest.leaves earlier.before earlier.was;
    synced = stays_settled name changed s t only aside (idle_quiet s idle) rest.synced;
    lists_are = λ list is.
        reads_named t list
        ∙ ap (option_map (λ (f : FileState). f.seen)) (other_file name changed s t only list (λ same. apart_names name list aside (list_not_aside list is) (sym same)))
        ∙ sym (reads_named s list)
        ∙ rest.lists_are list is;
  };
  idle = λ before. stays_idle name changed s t only aside before;
}

pub any_stands : (old : List State) → IsNow (λ s. Unit {0}) old
any_stands [] = tt
any_stands (s ∷ past) = tt

-- A call on the file of a name aside keeps what is at rest so, whatever it answers, and other names' files as they are.
pub aside_stays : {T E : Type 0} (name : List ℕ) (call : DiskCall) (old new : List State) (result : Result T E) → is_own_name name ≡ true → IsOn name call → AllSound old → Goes call old new result
    → Since old new (From KeepsAtRest old)
aside_stays name call old new result aside on sound is =
    (goes KeepsAtRest (λ s. Unit {0}) (λ s. Unit {0}) call old new result sound
    (λ s sound_s has. stays_at_rest name (changed_file s call) s (after s call) sound_s (call_changes name s call sound_s on) aside)
    (λ s torn sound_s has part. stays_at_rest name (changed_file s call) s torn sound_s (torn_changes name (changed_file s call) s (after s call) torn (call_changes name s call sound_s on) part) aside)
    (λ s sound_s has. tt) (any_stands old) is).0

-- the files of other names stay
pub parts_stay : {T E : Type 0} (name : List ℕ) (call : DiskCall) (old new : List State) (result : Result T E) → IsOn (partial name) call → AllSound old → Goes call old new result → KeepsOtherFiles name old new
parts_stay name call [] new (Ok x) on sound is other differ = ap (λ (l : List State). file_now l other) is
parts_stay name call [] new (Err e) on sound is other differ = ap (λ (l : List State). file_now l other) is
parts_stay name call (s ∷ past) new (Ok x) on sound is other differ =
    ap (λ (l : List State). file_now l other) is ∙ other_file (partial name) (changed_file s call) s (after s call) (call_changes (partial name) s call sound.0 on) other differ
parts_stay name call (s ∷ past) new (Err e) on sound (inl same) other differ = ap (λ (l : List State). file_now l other) same
parts_stay name call (s ∷ past) new (Err e) on sound (inr part) other differ =
    ap (λ (l : List State). file_now l other) part.2
    ∙ other_file (partial name) (changed_file s call) s part.0 (torn_changes (partial name) (changed_file s call) s (after s call) part.0 (call_changes (partial name) s call sound.0 on) part.1) other differ
