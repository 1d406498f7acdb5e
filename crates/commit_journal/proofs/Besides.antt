-- A new journal is made beside one that isn't open.
use Rattle.std.proofs.Common.{◌≡◌, ◌⊎◌, inl, inr, ⊎_elim, refl, sym, ap, ◌∙◌, subst, arith, ℕ, ◌+◌, ◌≤◌, true, List, [], ◌∷◌, ◌++◌, length, Option, Some, None, option_map, Result, OnOk, IsSomeAnd}
use Rattle.std.proofs.Math.Path.{fun_ext}
use Rattle.std.proofs.Math.Seq.{drop-nil}
use Rattle.std.proofs.lemmas.List.{get_or-set_same, get_or_past, append-nil}
use Rattle.acq_outside.specs.Disk.{Files, spliced}
use Rattle.acq_outside.specs.Crash.{State, Names, IsOutcome, IsSubsequence, none, left_out, taken, IsImage, IsSound, AllSound, Goes, after, changed_file, on_file, with_change, cut_or_made, file_at, no_file, names_of, reads, seen_at, synced, file_written, file_cut, all_renamed, with_name, moved_name}
use Rattle.acq_outside.specs.States.{IsNow, Since, From}
use Rattle.acq_outside.proofs.Outcomes.{only_synced}
use Rattle.acq_outside.proofs.Traces.{apart_now, all_push}
use Rattle.acq_outside.proofs.Crashes.{made_files, none_of_none}
use Rattle.acq_outside.proofs.Going.{goes}
use Rattle.acq_outside.specs.declared.change.DiskCall.{DiskCall}
use Rattle.acq_outside.specs.declared.change.DiskCall.TheVariants.{Write, Cut, Sync, Rename, SyncNames}
use Rattle.acq_outside.specs.declared.state.FileState.{FileState}
use Rattle.acq_outside.specs.declared.state.NameChange.{NameChange}
use Rattle.acq_outside.specs.declared.state.NameChange.TheVariants.{Made, Moved}
use Rattle.journal_model.specs.Names.{journal, new_journal, is_installed_name}
use Rattle.journal_model.specs.Reading.{journal_state_in}
use Rattle.journal_model.specs.Reopen.{installed_files, opened, ReopensAsAt}
use Rattle.journal_model.specs.Rest.{IsShut, IsSynced, IsIdle, IsQuiet}
use Rattle.journal_model.proofs.Twice.{with_same, with_other}
use Rattle.journal_model.proofs.Views.{view, apart_names, list_not_aside, list_not_journal, lists_same, settled_names}
use Rattle.journal_model.proofs.Aside.{quiet_gate, ChangesOnly, IsOn, call_changes, torn_changes, stays_quiet, leaves_as, stays_settled}
use Rattle.journal_model.specs.declared.step.JournalState.TheVariants.{Shut}
use Rattle.commit_journal.specs.Opening.{Recovers}
use Rattle.commit_journal.specs.Phases.{HasNoOpenGate, IsMakingJournal, HasNewJournal, HasNewJournalSynced, IsNamed}
use Rattle.commit_journal.proofs.Recovers.{torn_recovers, names_go, never}
use Rattle.commit_journal.proofs.Carries.{kept_closed}

-- A call on the file beside.
beside_recovers : (s t : State) (changed : Option ℕ) → IsSound s → ChangesOnly new_journal changed s t → IsQuiet s → Recovers s t
beside_recovers s t changed sound only quiet = record { images = leaves_as new_journal changed s t sound only refl quiet; synced = stays_settled new_journal changed s t only refl quiet }

beside_goes : {T E : Type 0} (P Q : State → Type 0) (call : DiskCall) (old new : List State) (result : Result T E) → IsOn new_journal call → ((s : State) → P s → IsQuiet s) → AllSound old
    → ((s : State) → IsSound s → P s → Q (after s call)) → IsNow P old → Goes call old new result → Since old new (From Recovers old) × OnOk result (IsNow Q new)
beside_goes P Q call old new result on quiet sound ends stands is =
    goes Recovers P Q call old new result sound
    (λ s sound_s has. beside_recovers s (after s call) (changed_file s call) sound_s (call_changes new_journal s call sound_s on) (quiet s has))
    (λ s torn sound_s has part. beside_recovers s torn (changed_file s call) sound_s (torn_changes new_journal (changed_file s call) s (after s call) torn (call_changes new_journal s call sound_s on) part) (quiet s has))
    ends stands is

after_quiet : (s : State) (call : DiskCall) → IsSound s → IsOn new_journal call → IsQuiet s → IsQuiet (after s call)
after_quiet s call sound on quiet = stays_quiet new_journal (changed_file s call) s (after s call) (call_changes new_journal s call sound on) refl quiet

cut_ends : (s : State) (o : Option ℕ) → IsSound s → s.pending ≡ [] → names_of s new_journal ≡ o → IsQuiet (cut_or_made s new_journal 0 o) → HasNewJournal [] (cut_or_made s new_journal 0 o)
cut_ends s None sound unmoved leads quiet = record {
  may = record { quiet = quiet; made = inr (length s.files, ap (λ (l : List NameChange). l ++ Made new_journal (length s.files) ∷ []) unmoved, sym (ap (λ (m : Names). m new_journal) (settled_names s unmoved)) ∙ leads) };
  number = length s.files;
  leads = ap (λ (m : Names). m new_journal) (all_push s.base s.pending (Made new_journal (length s.files))) ∙ with_same (names_of s) new_journal (Some (length s.files)) new_journal refl;
  seen = ap (λ (f : FileState). f.seen) (made_files s.files (length s.files) ∙ get_or_past s.files (length s.files) no_file (omega arith));
}
cut_ends s (Some i) sound unmoved leads quiet = record {
  may = record { quiet = quiet; made = inl unmoved };
  number = i;
  leads = leads;
  seen = ap (λ (f : FileState). f.seen) (get_or-set_same s.files i (file_cut (file_at s.files i) 0) no_file ((apart_now s sound).below new_journal i leads));
}

pub cut_goes : {T E : Type 0} (name : List ℕ) (old new : List State) (result : Result T E) → name ≡ new_journal → AllSound old → IsNow HasNoOpenGate old → Goes (Cut name 0) old new result → Since old new (From Recovers old) × OnOk result (IsNow (HasNewJournal []) new)
cut_goes name old new result same sound stands is =
    beside_goes HasNoOpenGate (HasNewJournal []) (Cut new_journal 0) old new result refl (λ s unset. unset.quiet) sound
    (λ s sound_s unset. cut_ends s (names_of s new_journal) sound_s unset.unmoved refl (after_quiet s (Cut new_journal 0) sound_s refl unset.quiet))
    stands (subst (λ (n : List ℕ). Goes (Cut n 0) old new result) same is)

written_whole : (content : List ℕ) → spliced [] 0 content ≡ content
written_whole content = ap (λ (rest : List ℕ). content ++ rest) (drop-nil (0 + length content)) ∙ append-nil content

write_ends : (s : State) → IsSound s → HasNewJournal [] s → HasNewJournal (0 ∷ []) (after s (Write new_journal 0 (0 ∷ [])))
write_ends s sound made =
    let change : FileState → FileState = λ file. file_written file 0 (0 ∷ []) in
    let quiet = subst (λ (o : Option ℕ). IsQuiet (on_file s o change)) made.leads (after_quiet s (Write new_journal 0 (0 ∷ [])) sound refl made.may.quiet) in
    let done : HasNewJournal (0 ∷ []) (on_file s (Some made.number) change) = record {
      may = record { quiet = quiet; made = made.may.made };
      number = made.number;
      leads = made.leads;
      seen = ap (λ (f : FileState). f.seen) (get_or-set_same s.files made.number (change (file_at s.files made.number)) no_file ((apart_now s sound).below new_journal made.number made.leads)) ∙ ap (λ (old : List ℕ). spliced old 0 (0 ∷ [])) made.seen ∙ written_whole (0 ∷ []);
    } in
    subst (λ (o : Option ℕ). HasNewJournal (0 ∷ []) (on_file s o change)) (sym made.leads) done

pub write_goes : {T E : Type 0} (name : List ℕ) (old new : List State) (result : Result T E) → name ≡ new_journal → AllSound old → IsNow (HasNewJournal []) old → Goes (Write name 0 (0 ∷ [])) old new result → Since old new (From Recovers old) × OnOk result (IsNow (HasNewJournal (0 ∷ [])) new)
write_goes name old new result same sound stands is =
    beside_goes (HasNewJournal []) (HasNewJournal (0 ∷ [])) (Write new_journal 0 (0 ∷ [])) old new result refl (λ s made. made.may.quiet) sound write_ends
    stands (subst (λ (n : List ℕ). Goes (Write n 0 (0 ∷ [])) old new result) same is)

sync_ends : (s : State) → IsSound s → HasNewJournal (0 ∷ []) s → HasNewJournalSynced (after s (Sync new_journal))
sync_ends s sound made =
    let change : FileState → FileState = λ file. synced file.seen in
    let quiet = subst (λ (o : Option ℕ). IsQuiet (on_file s o change)) made.leads (after_quiet s (Sync new_journal) sound refl made.may.quiet) in
    let done : HasNewJournalSynced (on_file s (Some made.number) change) = record {
      may = record { quiet = quiet; made = made.may.made };
      number = made.number;
      leads = made.leads;
      file = get_or-set_same s.files made.number (change (file_at s.files made.number)) no_file ((apart_now s sound).below new_journal made.number made.leads) ∙ ap synced made.seen;
    } in
    subst (λ (o : Option ℕ). HasNewJournalSynced (on_file s o change)) (sym made.leads) done

pub sync_goes : {T E : Type 0} (name : List ℕ) (old new : List State) (result : Result T E) → name ≡ new_journal → AllSound old → IsNow (HasNewJournal (0 ∷ [])) old → Goes (Sync name) old new result → Since old new (From Recovers old) × OnOk result (IsNow HasNewJournalSynced new)
sync_goes name old new result same sound stands is =
    beside_goes (HasNewJournal (0 ∷ [])) HasNewJournalSynced (Sync new_journal) old new result refl (λ s made. made.may.quiet) sound sync_ends
    stands (subst (λ (n : List ℕ). Goes (Sync n) old new result) same is)

-- The new file gets the journal's name.
one_part : (some all : List NameChange) (change : NameChange) → IsSubsequence some all → all ≡ change ∷ [] → (some ≡ []) ⊎ (some ≡ change ∷ [])
one_part some all change none is = inl refl
one_part some all change (left_out c part) is = inl (none_of_none _ _ part (cc))
one_part some all change (taken c part) is = let empty = none_of_none _ _ part (cc) in inr (cc)

part_push : (some all : List NameChange) (change : NameChange) → IsSubsequence some (all ++ change ∷ []) → (front : List NameChange) × IsSubsequence front all × ((some ≡ front) ⊎ (some ≡ front ++ change ∷ []))
part_push some [] change part = ⊎_elim (λ is. ([], none, inl is)) (λ is. ([], none, inr is)) (one_part some (change ∷ []) change part refl)
part_push some (first ∷ all) change (left_out _ part) = let rest = part_push _ all change part in (rest.0, left_out first rest.1, rest.2)
part_push some (first ∷ all) change (taken _ part) =
    let rest = part_push _ all change part in
    (first ∷ rest.0, taken first rest.1, ⊎_elim (λ is. inl (ap (λ (l : List NameChange). first ∷ l) is)) (λ is. inr (ap (λ (l : List NameChange). first ∷ l) is)) rest.2)

-- in any part of what is pending the file beside is this one or isn't there
beside_in : (s : State) → IsMakingJournal s → (some : List NameChange) → IsSubsequence some s.pending → (i k : ℕ) → names_of s new_journal ≡ Some i → all_renamed s.base some new_journal ≡ Some k → k ≡ i
beside_in s may some part i k leads at = ⊎_elim unmoved made may.made
  where
    unmoved : s.pending ≡ [] → k ≡ i
    unmoved is =
        let empty : some ≡ [] = none_of_none some s.pending part is in
        let here : s.base new_journal ≡ Some k = sym (ap (λ (l : List NameChange). all_renamed s.base l new_journal) empty) ∙ at in
        let there : s.base new_journal ≡ Some i = sym (ap (λ (l : List NameChange). all_renamed s.base l new_journal) is) ∙ leads in
        let both = sym here ∙ there in cc

    made : (n : ℕ) × (s.pending ≡ Made new_journal n ∷ []) × (s.base new_journal ≡ None) → k ≡ i
    made (n, is, absent) = ⊎_elim
        (λ empty. let here : s.base new_journal ≡ Some k = sym (ap (λ (l : List NameChange). all_renamed s.base l new_journal) empty) ∙ at in absurd (let both = sym here ∙ absent in cc))
        (λ all.
        let here : with_name s.base new_journal (Some n) new_journal ≡ Some k = sym (ap (λ (l : List NameChange). all_renamed s.base l new_journal) all) ∙ at in
        let there : with_name s.base new_journal (Some n) new_journal ≡ Some i = sym (ap (λ (l : List NameChange). all_renamed s.base l new_journal) is) ∙ leads in
        let both = sym here ∙ there in cc)
        (one_part some s.pending (Made new_journal n) part is)

abbrev named_state : State → State
named_state s = record { files = s.files; base = s.base; pending = s.pending ++ Moved new_journal journal ∷ [] }

abbrev front_image : (s : State) (front : List NameChange) (bytes : ℕ → List ℕ) → IsSubsequence front s.pending → ((i : ℕ) → IsOutcome (file_at s.files i) (bytes i)) → IsImage s (view (all_renamed s.base front) bytes)
front_image s front bytes part outcomes = record { some = front; part = part; bytes = bytes; outcomes = outcomes; shows = λ name. refl }

-- what the rename does to a part of the changes: nothing, or the journal is the new file
record Renames (s : State) (front : List NameChange) (bytes : ℕ → List ℕ) (m : Names) : Type 0 where
  gate : journal_state_in (option_map bytes (m journal)) ≡ Shut
  others : (name : List ℕ) → is_installed_name name ≡ true → m name ≡ all_renamed s.base front name

rename_case : (s : State) → HasNewJournalSynced s → (front : List NameChange) → IsSubsequence front s.pending → (bytes : ℕ → List ℕ) → ((i : ℕ) → IsOutcome (file_at s.files i) (bytes i)) → (o : Option ℕ) → all_renamed s.base front new_journal ≡ o
    → Renames s front bytes (moved_name (all_renamed s.base front) new_journal journal o)
rename_case s lasting front part bytes outcomes None at = record {
  gate = quiet_gate s lasting.may.quiet (view (all_renamed s.base front) bytes) (front_image s front bytes part outcomes);
  others = λ name list. refl;
}
rename_case s lasting front part bytes outcomes (Some k) at =
    let m : Names = all_renamed s.base front in
    let same : k ≡ lasting.number = beside_in s lasting.may front part lasting.number k lasting.leads at in
    let holds : bytes k ≡ 0 ∷ [] = only_synced (0 ∷ []) (bytes k) (subst (λ (f : FileState). IsOutcome f (bytes k)) (ap (file_at s.files) same ∙ lasting.file) (outcomes k)) in
    record {
      gate = ap journal_state_in (ap (option_map bytes) (with_same (with_name m new_journal None) journal (Some k) journal refl) ∙ ap (λ (b : List ℕ). Some b) holds);
      others = λ name list. with_other (with_name m new_journal None) journal (Some k) name (λ is. list_not_journal name list (sym is)) ∙ with_other m new_journal None name (apart_names new_journal name refl (list_not_aside name list));
    }

-- of each image of the state after the rename
record IsRenamed (s : State) (image : Files) : Type 0 where
  front : List NameChange
  part : IsSubsequence front s.pending
  bytes : ℕ → List ℕ
  outcomes : (i : ℕ) → IsOutcome (file_at s.files i) (bytes i)
  names : Names
  shows : image ≡ view names bytes
  renames : Renames s front bytes names

image_renamed : (s : State) → HasNewJournalSynced s → (image : Files) → IsImage (named_state s) image → IsRenamed s image
image_renamed s lasting image is =
    let split = part_push is.some s.pending (Moved new_journal journal) is.part in
    let m : Names = all_renamed s.base split.0 in
    ⊎_elim
    (λ same. record {
      front = split.0;
      part = split.1;
      bytes = is.bytes;
      outcomes = is.outcomes;
      names = m;
      shows = fun_ext is.shows ∙ ap (λ (l : List NameChange). view (all_renamed s.base l) is.bytes) same;
      renames = record { gate = quiet_gate s lasting.may.quiet (view m is.bytes) (front_image s split.0 is.bytes split.1 is.outcomes); others = λ name list. refl };
    })
    (λ more. record {
      front = split.0;
      part = split.1;
      bytes = is.bytes;
      outcomes = is.outcomes;
      names = moved_name m new_journal journal (m new_journal);
      shows = fun_ext is.shows ∙ ap (λ (l : List NameChange). view (all_renamed s.base l) is.bytes) more ∙ ap (λ (n : Names). view n is.bytes) (all_push s.base split.0 (Moved new_journal journal));
      renames = rename_case s lasting split.0 split.1 is.bytes is.outcomes (m new_journal) refl;
    })
    split.2

renamed_gate : (s : State) (image : Files) (is : IsRenamed s image) → journal_state_in (image journal) ≡ Shut
renamed_gate s image is = ap (λ (f : Files). journal_state_in (f journal)) is.shows ∙ is.renames.gate

rename_images : (s : State) → HasNewJournalSynced s → ReopensAsAt s (named_state s)
rename_images s lasting image left =
    let is = image_renamed s lasting image left in
    let before : Files = view (all_renamed s.base is.front) is.bytes in
    let was : IsImage s before = front_image s is.front is.bytes is.part is.outcomes in
    record {
      before = before;
      was = was;
      same = ap (opened image) (renamed_gate s image is) ∙ ap (λ (f : Files). Some (installed_files f)) is.shows
          ∙ ap (λ (f : Files). Some f) (lists_same is.names (all_renamed s.base is.front) is.bytes is.bytes is.renames.others (λ name i list leads. refl))
          ∙ sym (ap (opened before) (quiet_gate s lasting.may.quiet before was));
    }

renamed_names : (s : State) (lasting : HasNewJournalSynced s) → names_of (named_state s) ≡ moved_name (names_of s) new_journal journal (Some lasting.number)
renamed_names s lasting = all_push s.base s.pending (Moved new_journal journal) ∙ ap (moved_name (names_of s) new_journal journal) lasting.leads

rename_settled : (s : State) → HasNewJournalSynced s → IsSynced s → IsSynced (named_state s)
rename_settled s lasting settled name i (inr recorded) leads = absurd (let clash = sym (renamed_gate s recorded.image (image_renamed s lasting recorded.image recorded.left)) ∙ recorded.gate in cc)
rename_settled s lasting settled name i (inl list) leads =
    let moved : names_of (named_state s) name ≡ names_of s name =
    ap (λ (m : Names). m name) (renamed_names s lasting)
    ∙ with_other (with_name (names_of s) new_journal None) journal (Some lasting.number) name (λ is. list_not_journal name list (sym is)) ∙ with_other (names_of s) new_journal None name (apart_names new_journal name refl (list_not_aside name list)) in
    settled name i (inl list) (sym moved ∙ leads)

name_after : (s : State) → HasNewJournalSynced s → after s (Rename new_journal journal) ≡ named_state s
name_after s lasting = ap (λ (o : Option ℕ). with_change s o (Moved new_journal journal)) lasting.leads

name_ends : (s : State) → HasNewJournalSynced s → IsNamed (named_state s)
name_ends s lasting = record {
  number = lasting.number;
  leads = ap (λ (m : Names). m journal) (renamed_names s lasting) ∙ with_same (with_name (names_of s) new_journal None) journal (Some lasting.number) journal refl;
  file = lasting.file;
}

name_recovers : (s : State) → HasNewJournalSynced s → Recovers s (after s (Rename new_journal journal))
name_recovers s lasting = subst (λ (t : State). Recovers s t) (sym (name_after s lasting)) (record { images = rename_images s lasting; synced = rename_settled s lasting })

pub name_goes : {T E : Type 0} (from to : List ℕ) (old new : List State) (result : Result T E) → from ≡ new_journal → to ≡ journal → AllSound old → IsNow HasNewJournalSynced old → Goes (Rename from to) old new result → Since old new (From Recovers old) × OnOk result (IsNow IsNamed new)
name_goes from to old new result is_from is_to sound stands is =
    goes Recovers HasNewJournalSynced IsNamed (Rename new_journal journal) old new result sound
    (λ s _ lasting. name_recovers s lasting)
    (λ s torn _ lasting part. torn_recovers None s (after s (Rename new_journal journal)) torn part (λ n i counts leads. never i) (name_recovers s lasting))
    (λ s _ lasting. subst IsNamed (sym (name_after s lasting)) (name_ends s lasting))
    stands (subst (λ (n : List ℕ). Goes (Rename new_journal n) old new result) is_to (subst (λ (n : List ℕ). Goes (Rename n to) old new result) is_from is))

all_ends : (s : State) → IsNamed s → IsIdle (after s SyncNames)
all_ends s named = record { aside = tt; number = named.number; leads = named.leads; shut = subst IsShut (sym named.file) (kept_closed []) }

pub all_goes : {T E : Type 0} (old new : List State) (result : Result T E) → AllSound old → IsNow IsNamed old → Goes SyncNames old new result → Since old new (From Recovers old) × OnOk result (IsNow IsIdle new)
all_goes old new result sound stands is = names_go IsNamed IsIdle old new result sound (λ s _ named. all_ends s named) stands is

pub beside_there : (s : State) → HasNewJournal [] s → IsSomeAnd (reads s new_journal) (λ content. 0 ≤ length content)
beside_there s made = subst (λ (o : Option ℕ). IsSomeAnd (seen_at s.files o) (λ content. 0 ≤ length content)) (sym made.leads) (omega arith)
