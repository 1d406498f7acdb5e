-- What reads give once a journal is opened.
use Rattle.std.proofs.Common.{◌≡◌, ◌≢◌, inl, refl, sym, ap, ◌∙◌, subst, ℕ, Bool, IsTrue, List, [], ◌∷◌, take, Option, Some, None, option_map, unwrap_or, Result, Ok, Err, OnOk}
use Rattle.acq_outside.specs.Disk.{Files, with_file, spliced, moved_file, after_write, after_cut, after_rename, after_remove}
use Rattle.acq_outside.specs.Crash.{State, IsOutcome, IsSound, AllSound, IsShown, names_of, reads, file_at}
use Rattle.acq_outside.specs.States.{IsNow, Since, From}
use Rattle.acq_outside.proofs.Outcomes.{only_synced}
use Rattle.acq_outside.proofs.Crashes.{reads_left}
use Rattle.acq_outside.proofs.Going.{handed_on}
use Rattle.acq_outside.specs.declared.state.FileState.{FileState}
use Rattle.journal_model.specs.Names.{journal, new_journal, partial}
use Rattle.journal_model.specs.Steps.{moved_at, after_step, after_steps}
use Rattle.journal_model.specs.Reading.{journal_state_of, journal_state_in}
use Rattle.journal_model.specs.Reopen.{installed_files, opened, reopened, installed_now}
use Rattle.journal_model.specs.Rest.{IsIdle, IsSynced, IsAtRest}
use Rattle.journal_model.proofs.Twice.{with_same, with_other, carried_other}
use Rattle.journal_model.proofs.Views.{apart_names, list_not_aside, list_not_journal, files_same, reads_view, lists_same}
use Rattle.journal_model.proofs.Aside.{idle_quiet, quiet_gate, quiet_view, leads_now}
use Rattle.journal_model.proofs.Fine.{open_bytes, open_fine}
use Rattle.journal_model.specs.declared.step.Step.{Step}
use Rattle.journal_model.specs.declared.step.Step.TheVariants.{Put, Drop}
use Rattle.journal_model.specs.declared.step.JournalState.TheVariants.{Open, Shut}
use Rattle.commit_journal.specs.Opening.{Recovers}
use Rattle.commit_journal.specs.Phases.{shut_files, made_files}
use Rattle.commit_journal.proofs.Looks.{told_yes}

moved_is : (files : Files) (from to : List ℕ) (o : Option (List ℕ)) → moved_file files from to o ≡ moved_at files from to o
moved_is files from to None = refl
moved_is files from to (Some content) = refl

pub put_is : (new files : Files) (from to list : List ℕ) → new ≡ after_rename files from to → from ≡ partial list → to ≡ list → new ≡ after_step files (Put list)
put_is new files from to list is is_from is_to =
    is ∙ ap (λ (n : List ℕ). after_rename files n to) is_from ∙ ap (λ (n : List ℕ). after_rename files (partial list) n) is_to ∙ moved_is files (partial list) list (files (partial list))

pub drop_is : (new files : Files) (name list : List ℕ) → new ≡ after_remove files name → name ≡ list → new ≡ after_step files (Drop list)
drop_is new files name list is is_name = is ∙ ap (λ (n : List ℕ). after_remove files n) is_name

-- A record carried out, and its gate shut.
closed_case : (files : Files) (o : Option (List ℕ)) (body : List ℕ) → files journal ≡ Some (1 ∷ body) → journal_state_in (shut_files files journal) ≡ Shut
closed_case files o body is =
    ap journal_state_in (with_same files journal (option_map (λ content. spliced content 0 (0 ∷ [])) (files journal)) journal refl ∙ ap (option_map (λ (content : List ℕ). spliced content 0 (0 ∷ []))) is)

record_lists : (files : Files) (bytes : List ℕ) (steps : List Step) → files journal ≡ Some bytes → journal_state_of bytes ≡ Open steps → reopened (shut_files (after_steps files steps)) ≡ reopened files
record_lists files bytes steps holds gate =
    let are = open_bytes bytes steps gate in
    let fine = open_fine bytes steps gate in
    let stays : after_steps files steps journal ≡ Some (1 ∷ are.body) = carried_other steps files journal fine.away ∙ holds ∙ ap (λ (b : List ℕ). Some b) are.is in
    ap (opened (shut_files (after_steps files steps))) (closed_case (after_steps files steps) None are.body stays)
    ∙ ap (λ (f : Files). Some f) (files_same (shut_files (after_steps files steps)) (after_steps files steps) (λ name list. with_other (after_steps files steps) journal _ name (λ same. list_not_journal name list (sym same))))
    ∙ sym (ap (opened files) (ap journal_state_in holds ∙ gate))

record_case : (files : Files) (o : Option (List ℕ)) (steps : List Step) → files journal ≡ o → journal_state_in o ≡ Open steps → reopened (shut_files (after_steps files steps)) ≡ reopened files
record_case files None steps holds gate = absurd cc
record_case files (Some bytes) steps holds gate = record_lists files bytes steps holds gate

pub recovered_lists : (new files : Files) (steps : List Step) → new ≡ shut_files (after_steps files steps) → journal_state_in (files journal) ≡ Open steps → reopened new ≡ reopened files
recovered_lists new files steps is gate = ap reopened is ∙ record_case files (files journal) steps refl gate

-- A new journal.
cut_beside : (files : Files) → after_cut files new_journal 0 new_journal ≡ Some []
cut_beside files = with_same files new_journal (Some (take 0 (unwrap_or (files new_journal) []))) new_journal refl

written_beside : (files : Files) → after_write (after_cut files new_journal 0) new_journal 0 (0 ∷ []) new_journal ≡ Some (0 ∷ [])
written_beside files =
    with_same (after_cut files new_journal 0) new_journal (option_map (λ content. spliced content 0 (0 ∷ [])) (after_cut files new_journal 0 new_journal)) new_journal refl
    ∙ ap (option_map (λ (content : List ℕ). spliced content 0 (0 ∷ []))) (cut_beside files)

made_is : (files : Files) → made_files files ≡ with_file (with_file (after_write (after_cut files new_journal 0) new_journal 0 (0 ∷ [])) new_journal None) journal (Some (0 ∷ []))
made_is files = ap (moved_file (after_write (after_cut files new_journal 0) new_journal 0 (0 ∷ [])) new_journal journal) (written_beside files)

pub made_lists : (new files : Files) → new ≡ made_files files → journal_state_in (files journal) ≡ Shut → reopened new ≡ reopened files
made_lists new files is shut =
    let written : Files = after_write (after_cut files new_journal 0) new_journal 0 (0 ∷ []) in
    let whole : new ≡ with_file (with_file written new_journal None) journal (Some (0 ∷ [])) = is ∙ made_is files in
    let gate : journal_state_in (new journal) ≡ Shut = ap (λ (f : Files). journal_state_in (f journal)) whole ∙ ap journal_state_in (with_same (with_file written new_journal None) journal (Some (0 ∷ [])) journal refl) in
    ap (opened new) gate
    ∙ ap (λ (f : Files). Some (installed_files f)) whole
    ∙ ap (λ (f : Files). Some f) (files_same (with_file (with_file written new_journal None) journal (Some (0 ∷ []))) files (λ name list.
    let not_beside : new_journal ≢ name = apart_names new_journal name refl (list_not_aside name list) in
    with_other (with_file written new_journal None) journal (Some (0 ∷ [])) name (λ same. list_not_journal name list (sym same))
    ∙ with_other written new_journal None name not_beside
    ∙ with_other (after_cut files new_journal 0) new_journal _ name not_beside
    ∙ with_other files new_journal _ name not_beside))
    ∙ sym (ap (opened files) shut)

-- an opened disk is at rest
pub idle_rests : (s : State) → IsSound s → IsIdle s → IsSynced s → IsAtRest (installed_files (reads s)) s
idle_rests s sound idle settled = record {
  leaves = λ image is.
      quiet_view s (idle_quiet s idle) image is
      ∙ ap (λ (f : Files). Some f) (lists_same s.base (names_of s) is.bytes (λ i. (file_at s.files i).seen) (λ name list. sym (leads_now s name idle.aside (list_not_aside name list)))
      (λ name i list leads. only_synced (file_at s.files i).seen (is.bytes i) (subst (λ (f : FileState). IsOutcome f (is.bytes i)) (settled name i (inl list) leads) (is.outcomes i))))
      ∙ ap (λ (f : Files). Some (installed_files f)) (sym (reads_view s));
  synced = settled;
  lists_are = λ name list. rw list refl;
}

pub reads_stand : (s : State) → IsSound s → IsIdle s → reopened (reads s) ≡ Some (installed_files (reads s))
reads_stand s sound idle = ap (opened (reads s)) (quiet_gate s (idle_quiet s idle) (reads s) (reads_left s sound))

pub opened_rests : (tells_old tells_new : Bool) (files_old files_new : Files) (old new : List State) → IsShown tells_old files_old old → IsShown tells_new files_new new → AllSound new → tells_new ≡ tells_old
    → (IsTrue tells_old → reopened files_new ≡ reopened files_old) → IsNow IsIdle new → IsNow IsSynced new → IsNow (IsAtRest (installed_now old)) new
opened_rests tells_old tells_new files_old files_new old [] shown_old shown_new sound telling same idle settled = tt
opened_rests tells_old tells_new files_old files_new [] (t ∷ past) shown_old shown_new sound telling same idle settled = absurd (let clash = sym shown_new.0 ∙ telling ∙ shown_old in cc)
opened_rests tells_old tells_new files_old files_new (s ∷ before) (t ∷ past) shown_old shown_new sound telling same idle settled =
    let stands : reopened (reads s) ≡ Some (installed_files (reads t)) =
    ap reopened (sym shown_old.1) ∙ sym (same (told_yes tells_old shown_old.0)) ∙ ap reopened shown_new.1 ∙ reads_stand t sound.0 idle in
    let folder : installed_now (s ∷ before) ≡ installed_files (reads t) = ap (λ (o : Option Files). unwrap_or o (λ name. None)) stands in
    subst (λ (f : Files). IsAtRest f t) (sym folder) (idle_rests t sound.0 idle settled)

pub stays_settled : (old new : List State) → Since old new (From Recovers old) → IsNow IsSynced old → IsNow IsSynced new
stays_settled old new since settled = handed_on Recovers IsSynced old new (λ s t recovers. recovers.synced) since settled

-- what holds anyhow holds at Ok
pub anyhow : {T E : Type 0} {X : Type 0} (result : Result T E) → X → OnOk result X
anyhow (Ok x) holds = holds
anyhow (Err e) holds = tt

pub put_told : {T E : Type 0} (result : Result T E) (new files : Files) (from to list : List ℕ) → OnOk result (new ≡ after_rename files from to) → from ≡ partial list → to ≡ list → OnOk result (new ≡ after_step files (Put list))
put_told (Ok x) new files from to list is is_from is_to = put_is new files from to list is is_from is_to
put_told (Err e) new files from to list is is_from is_to = tt

pub drop_told : {T E : Type 0} (result : Result T E) (new files : Files) (name list : List ℕ) → OnOk result (new ≡ after_remove files name) → name ≡ list → OnOk result (new ≡ after_step files (Drop list))
drop_told (Ok x) new files name list is is_name = drop_is new files name list is is_name
drop_told (Err e) new files name list is is_name = tt

-- the record behind the gate that was judged
pub gate_recovered : (new mid files : Files) (slice steps : List Step) → new ≡ shut_files (after_steps mid slice) → slice ≡ steps → mid ≡ files → Open steps ≡ journal_state_in (files journal) → reopened new ≡ reopened files
gate_recovered new mid files slice steps is same_steps same_files gate =
    recovered_lists new files steps (is ∙ ap (λ (f : Files). shut_files (after_steps f slice)) same_files ∙ ap (λ (l : List Step). shut_files (after_steps files l)) same_steps) (sym gate)

pub gate_made : (new mid files : Files) → new ≡ made_files mid → mid ≡ files → journal_state_in (files journal) ≡ Shut → reopened new ≡ reopened files
gate_made new mid files is same shut = made_lists new files (is ∙ ap made_files same) shut

pub rests_told : {T E : Type 0} (result : Result T E) (tells_old tells_new : Bool) (files_old files_new : Files) (old new : List State) → IsShown tells_old files_old old → IsShown tells_new files_new new → AllSound new → tells_new ≡ tells_old
    → (IsTrue tells_old → OnOk result (reopened files_new ≡ reopened files_old)) → OnOk result (IsNow IsIdle new) → IsNow IsSynced new → OnOk result (IsNow (IsAtRest (installed_now old)) new)
rests_told (Ok x) tells_old tells_new files_old files_new old new shown_old shown_new sound telling same idle settled = opened_rests tells_old tells_new files_old files_new old new shown_old shown_new sound telling same idle settled
rests_told (Err e) tells_old tells_new files_old files_new old new shown_old shown_new sound telling same idle settled = tt
