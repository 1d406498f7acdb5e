-- What a call on a list's file makes of it.
use Rattle.std.proofs.Common.{◌≡◌, refl, sym, ap, ◌∙◌, subst, arith, ℕ, ◌+◌, ◌<◌, List, [], ◌∷◌, ◌++◌, length, take, set, Option, Some, None, option_map, Result, Ok, Err, OnOk, append-nil}
use Rattle.std.proofs.lemmas.List.{get_or-set_same, get_or_at, take_all, drop_all}
use Rattle.acq_outside.specs.Disk.{spliced}
use Rattle.acq_outside.specs.Crash.{State, Names, IsSound, AllSound, Goes, after, file_at, no_file, names_of, on_file, cut_or_made, file_cut, file_written, synced}
use Rattle.acq_outside.specs.States.{IsTold, IsNow, Since}
use Rattle.acq_outside.proofs.Traces.{apart_now, all_push}
use Rattle.acq_outside.specs.declared.change.DiskCall.{DiskCall}
use Rattle.acq_outside.specs.declared.change.DiskCall.TheVariants.{Write, Cut, Sync}
use Rattle.acq_outside.specs.declared.state.FileState.{FileState}
use Rattle.acq_outside.specs.declared.state.NameChange.TheVariants.{Made}
use Rattle.journal_model.specs.Names.{partial}
use Rattle.journal_model.specs.Rest.{IsPartThere, KeptAtRestSince, KeepsOtherFiles, file_named, part_bytes, bytes_in}
use Rattle.journal_model.proofs.Twice.{with_same}
use Rattle.journal_model.proofs.Views.{partial_aside}
use Rattle.journal_model.proofs.Aside.{IsOn, aside_stays, parts_stay}

-- ---- one state

changed_at : (s : State) (name : List ℕ) (file : FileState) (change : FileState → FileState) (o : Option ℕ) → IsSound s → names_of s name ≡ o → option_map (file_at s.files) o ≡ Some file
    → file_named (on_file s o change) name ≡ Some (change file)
changed_at s name file change None sound leads is = absurd cc
changed_at s name file change (Some i) sound leads is =
    let there : i < length s.files = (apart_now s sound).below name i leads in
    let same : file_at s.files i ≡ file = cc in
    ap (option_map (file_at (set s.files i (change (file_at s.files i))))) leads
    ∙ ap (λ (f : FileState). Some f) (get_or-set_same s.files i (change (file_at s.files i)) no_file there ∙ ap change same)

changed : (s : State) (name : List ℕ) (file : FileState) (change : FileState → FileState) → IsSound s → file_named s name ≡ Some file → file_named (on_file s (names_of s name) change) name ≡ Some (change file)
changed s name file change sound is = changed_at s name file change (names_of s name) sound refl is

abbrev IsCut : State → List ℕ → ℕ → State → Type 0
IsCut s name len t = (file : FileState) × (file_named t name ≡ Some file) × (file.seen ≡ take len (bytes_in (file_named s name)))

cut_at : (s : State) (name : List ℕ) (len : ℕ) (o : Option ℕ) → IsSound s → names_of s name ≡ o → IsCut s name len (cut_or_made s name len o)
cut_at s name len None sound leads =
    let made : names_of (cut_or_made s name len None) name ≡ Some (length s.files) =
    ap (λ (m : Names). m name) (all_push s.base s.pending (Made name (length s.files))) ∙ with_same (names_of s) name (Some (length s.files)) name refl in (
      synced [],
      ap (option_map (file_at (s.files ++ synced [] ∷ []))) made ∙ ap (λ (f : FileState). Some f) (get_or_at s.files (synced []) [] no_file (length s.files) refl),
      sym (ap (λ (p : Option FileState). take len (bytes_in p)) (ap (option_map (file_at s.files)) leads) ∙ take_all len [] (omega arith)),
    )
cut_at s name len (Some i) sound leads =
    let is : file_named s name ≡ Some (file_at s.files i) = ap (option_map (file_at s.files)) leads in (
      file_cut (file_at s.files i) len,
      changed_at s name (file_at s.files i) (λ file. file_cut file len) (Some i) sound leads refl,
      ap (λ (p : Option FileState). take len (bytes_in p)) (sym is),
    )

-- a write at the end
appended : (content bytes : List ℕ) (at : ℕ) → at ≡ length content → spliced content at bytes ≡ content ++ bytes
appended content bytes at end =
    (λ i. take_all at content (omega (arith, end)) i ++ bytes ++ drop_all (at + length bytes) content (omega (arith, end)) i) ∙ append-nil (content ++ bytes)

-- ---- a call, over all that a disk has been

abbrev pub Ends : List ℕ → List ℕ → List State → Type 0
Ends name bytes new = IsNow (IsPartThere name) new × (IsTold new → part_bytes new name ≡ bytes)

untold : (name bytes : List ℕ) (new : List State) → new ≡ [] → Ends name bytes new
untold name bytes new is = subst (λ (l : List State). Ends name bytes l) (sym is) (tt, λ told. absurd told)

ends_with : (name bytes : List ℕ) (t : State) (past new : List State) (file : FileState) → new ≡ t ∷ past → file_named t (partial name) ≡ Some file → file.seen ≡ bytes → Ends name bytes new
ends_with name bytes t past new file is there seen =
    subst (λ (l : List State). Ends name bytes l) (sym is) (record { file = file; is = there }, λ told. ap bytes_in there ∙ seen)

pub cut_ends : {T E : Type 0} (name : List ℕ) (len : ℕ) (old new : List State) (result : Result T E) → AllSound old → Goes (Cut (partial name) len) old new result → OnOk result (Ends name (take len (part_bytes old name)) new)
cut_ends name len [] new (Ok x) sound is = untold name (take len []) new is
cut_ends name len [] new (Err e) sound is = tt
cut_ends name len (s ∷ past) new (Ok x) sound is =
    let (file, there, seen) = cut_at s (partial name) len (names_of s (partial name)) sound.0 refl in
    ends_with name (take len (part_bytes (s ∷ past) name)) (after s (Cut (partial name) len)) (s ∷ past) new file is there seen
cut_ends name len (s ∷ past) new (Err e) sound is = tt

pub put_ends : {T E : Type 0} (name : List ℕ) (at : ℕ) (bytes : List ℕ) (old new : List State) (result : Result T E) → AllSound old → IsNow (IsPartThere name) old
    → (IsTold old → length (part_bytes old name) ≡ at) → Goes (Write (partial name) at bytes) old new result → OnOk result (Ends name (part_bytes old name ++ bytes) new)
put_ends name at bytes [] new (Ok x) sound there long is = untold name ([] ++ bytes) new is
put_ends name at bytes [] new (Err e) sound there long is = tt
put_ends name at bytes (s ∷ past) new (Ok x) sound there long is =
    let file = there.file in
    let was : part_bytes (s ∷ past) name ≡ there.file.seen = ap bytes_in there.is in
    ends_with name (part_bytes (s ∷ past) name ++ bytes) (after s (Write (partial name) at bytes)) (s ∷ past) new (file_written there.file at bytes) is
    (changed s (partial name) there.file (λ f. file_written f at bytes) sound.0 there.is)
    (appended there.file.seen bytes at (sym (long tt) ∙ ap length was) ∙ ap (λ (b : List ℕ). b ++ bytes) (sym was))
put_ends name at bytes (s ∷ past) new (Err e) sound there long is = tt

-- what is at rest stays so
pub stays : {T E : Type 0} (name : List ℕ) (call : DiskCall) (old new : List State) (result : Result T E) → IsOn (partial name) call → AllSound old → Goes call old new result → Since old new (KeptAtRestSince old)
stays name call old new result on sound is = aside_stays (partial name) call old new result (partial_aside name) on sound is

-- a call on a list's file by its path

abbrev pub Leaves : {T E : Type 0} → List ℕ → List ℕ → List State → List State → Result T E → Type 0
Leaves name bytes old new result = Since old new (KeptAtRestSince old) × KeepsOtherFiles name old new × OnOk result (Ends name bytes new)

pub cut_goes : {T E : Type 0} (name path : List ℕ) (len : ℕ) (old new : List State) (result : Result T E) → path ≡ partial name → AllSound old → Goes (Cut path len) old new result
    → Leaves name (take len (part_bytes old name)) old new result
cut_goes name path len old new result at sound is =
    let call : Goes (Cut (partial name) len) old new result = subst (λ (p : List ℕ). Goes (Cut p len) old new result) at is in (
      stays name (Cut (partial name) len) old new result refl sound call,
      parts_stay name (Cut (partial name) len) old new result refl sound call,
      cut_ends name len old new result sound call,
    )

pub put_goes : {T E : Type 0} (name path : List ℕ) (at len : ℕ) (bytes : List ℕ) (old new : List State) (result : Result T E) → path ≡ partial name → at ≡ len → AllSound old
    → IsNow (IsPartThere name) old → (IsTold old → length (part_bytes old name) ≡ len) → Goes (Write path at bytes) old new result
    → Leaves name (part_bytes old name ++ bytes) old new result
put_goes name path at len bytes old new result here end sound there long is =
    let call : Goes (Write (partial name) at bytes) old new result = subst (λ (p : List ℕ). Goes (Write p at bytes) old new result) here is in (
      stays name (Write (partial name) at bytes) old new result refl sound call,
      parts_stay name (Write (partial name) at bytes) old new result refl sound call,
      put_ends name at bytes old new result sound there (λ told. long told ∙ sym end) call,
    )

pub sync_moments : {T E : Type 0} (name path : List ℕ) (old new : List State) (result : Result T E) → path ≡ partial name → AllSound old → Goes (Sync path) old new result → Since old new (KeptAtRestSince old)
sync_moments name path old new result at sound is =
    stays name (Sync (partial name)) old new result refl sound (subst (λ (p : List ℕ). Goes (Sync p) old new result) at is)

pub sync_others : {T E : Type 0} (name path : List ℕ) (old new : List State) (result : Result T E) → path ≡ partial name → AllSound old → Goes (Sync path) old new result → KeepsOtherFiles name old new
sync_others name path old new result at sound is =
    parts_stay name (Sync (partial name)) old new result refl sound (subst (λ (p : List ℕ). Goes (Sync p) old new result) at is)

pub at_ok : {T E : Type 0} (result : Result T E) (x : T) (P : Type 0) → result ≡ Ok x → OnOk result P → P
at_ok result x P is h = subst (λ r. OnOk r P) is h
