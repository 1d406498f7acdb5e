-- The calls before the gate is looked at, and what it tells of the disk.
use Rattle.std.proofs.Common.{◌≡◌, refl, sym, ap, ◌∙◌, subst, ℕ, ◌≤◌, Bool, true, IsTrue, List, [], ◌∷◌, length, set, Option, Some, None, Result, OnOk, IsSomeAnd}
use Rattle.std.proofs.lemmas.List.{get_or-set_same}
use Rattle.acq_outside.specs.Disk.{Files}
use Rattle.acq_outside.specs.Crash.{State, Names, IsOutcome, IsSound, AllSound, IsShown, Goes, on_file, file_at, no_file, reads, seen_at, synced}
use Rattle.acq_outside.specs.States.{IsNow, Since, From}
use Rattle.acq_outside.proofs.Outcomes.{only_synced}
use Rattle.acq_outside.proofs.Traces.{apart_now}
use Rattle.acq_outside.specs.declared.change.DiskCall.TheVariants.{Sync, SyncNames}
use Rattle.acq_outside.specs.declared.state.FileState.{FileState}
use Rattle.acq_outside.specs.declared.state.NameChange.{NameChange}
use Rattle.journal_model.specs.Names.{journal}
use Rattle.journal_model.specs.Reading.{journal_state_of, journal_state_in}
use Rattle.journal_model.specs.Rest.{AllChangeNoInstalledName}
use Rattle.journal_model.specs.Steps.{AreOf}
use Rattle.journal_model.proofs.Views.{settled_names}
use Rattle.journal_model.specs.declared.step.Step.{Step}
use Rattle.journal_model.specs.declared.step.JournalState.TheVariants.{Open, Shut}
use Rattle.journal_model.proofs.Aside.{any_stands}
use Rattle.commit_journal.specs.Opening.{Recovers}
use Rattle.commit_journal.specs.Phases.{NoNamePending, IsJournalSynced, IsCarrying, HasNoOpenGate}
use Rattle.commit_journal.proofs.Recovers.{sync_goes, names_go}

pub lay_names_goes : {T E : Type 0} (old new : List State) (result : Result T E) → AllSound old → Goes SyncNames old new result → Since old new (From Recovers old) × OnOk result (IsNow NoNamePending new)
lay_names_goes old new result sound is = names_go (λ s. Unit {0}) NoNamePending old new result sound (λ s _ _. refl) (any_stands old) is

laid_case : (s : State) (o : Option ℕ) → IsSound s → s.pending ≡ [] → s.base journal ≡ o → IsJournalSynced (on_file s o (λ file. synced file.seen))
laid_case s None sound unmoved leads = record { unmoved = unmoved; lasts = λ i is. absurd (let clash = sym leads ∙ is in cc) }
laid_case s (Some j) sound unmoved leads = record {
  unmoved = unmoved;
  lasts = λ i is.
      let same : i ≡ j = (let both = sym is ∙ leads in cc) in
      let low = (apart_now s sound).below journal j (ap (λ (m : Names). m journal) (settled_names s unmoved) ∙ leads) in
      let here = get_or-set_same s.files j (synced (file_at s.files j).seen) no_file low in
      subst (λ (k : ℕ). file_at (set s.files j (synced (file_at s.files j).seen)) k ≡ synced (file_at (set s.files j (synced (file_at s.files j).seen)) k).seen) (sym same) (here ∙ ap (λ (f : FileState). synced f.seen) (sym here));
}

pub lay_journal_goes : {T E : Type 0} (name : List ℕ) (old new : List State) (result : Result T E) → name ≡ journal → AllSound old → IsNow NoNamePending old → Goes (Sync name) old new result → Since old new (From Recovers old) × OnOk result (IsNow IsJournalSynced new)
lay_journal_goes name old new result same sound stands is =
    sync_goes NoNamePending IsJournalSynced journal name old new result same sound
    (λ s sound_s unmoved. subst IsJournalSynced (sym (ap (λ (o : Option ℕ). on_file s o (λ file. synced file.seen)) (ap (λ (m : Names). m journal) (settled_names s unmoved)))) (laid_case s (s.base journal) sound_s unmoved refl))
    stands is

reads_laid : (s : State) → IsJournalSynced s → reads s journal ≡ seen_at s.files (s.base journal)
reads_laid s laid = ap (λ (m : Names). seen_at s.files (m journal)) (settled_names s laid.unmoved)

none_aside : (s : State) → s.pending ≡ [] → AllChangeNoInstalledName s.pending
none_aside s unmoved = subst (λ (l : List NameChange). AllChangeNoInstalledName l) (sym unmoved) tt

-- it is open before these steps
open_case : (s : State) (o : Option ℕ) (steps : List Step) → s.base journal ≡ o → IsJournalSynced s → journal_state_in (seen_at s.files o) ≡ Open steps → IsCarrying steps [] s
open_case s None steps leads laid is = absurd cc
open_case s (Some j) steps leads laid is = record {
  says = record { number = j; leads = leads; bytes = (file_at s.files j).seen; file = laid.lasts j leads; gate = is };
  pending = subst (λ (l : List NameChange). AreOf steps l) (sym laid.unmoved) tt;
  names = settled_names s laid.unmoved;
}

-- it isn't open
unset_case : (s : State) → IsJournalSynced s → journal_state_in (reads s journal) ≡ Shut → HasNoOpenGate s
unset_case s laid is = record {
  quiet = record {
    aside = none_aside s laid.unmoved;
    shut = λ i base bytes outcome.
        let same : bytes ≡ (file_at s.files i).seen = only_synced (file_at s.files i).seen bytes (subst (λ (f : FileState). IsOutcome f bytes) (laid.lasts i base) outcome) in
        ap journal_state_of same ∙ ap journal_state_in (ap (seen_at s.files) (sym base) ∙ sym (reads_laid s laid)) ∙ is;
  };
  unmoved = laid.unmoved;
}

pub told_yes : (tells : Bool) → tells ≡ true → IsTrue tells
told_yes tells is = subst IsTrue (sym is) refl

pub opened_carrying : (tells : Bool) (files : Files) (trace : List State) (steps : List Step) → IsShown tells files trace → IsNow IsJournalSynced trace → (IsTrue tells → Open steps ≡ journal_state_in (files journal)) → IsNow (IsCarrying steps []) trace
opened_carrying tells files [] steps shown laid is = tt
opened_carrying tells files (s ∷ past) steps shown laid is =
    open_case s (s.base journal) steps refl laid (ap journal_state_in (sym (reads_laid s laid)) ∙ ap (λ (f : Files). journal_state_in (f journal)) (sym shown.1) ∙ sym (is (told_yes tells shown.0)))

pub shut_unset : (tells : Bool) (files : Files) (trace : List State) → IsShown tells files trace → IsNow IsJournalSynced trace → (IsTrue tells → journal_state_in (files journal) ≡ Shut) → IsNow HasNoOpenGate trace
shut_unset tells files [] shown laid is = tt
shut_unset tells files (s ∷ past) shown laid is = unset_case s laid (ap (λ (f : Files). journal_state_in (f journal)) (sym shown.1) ∙ is (told_yes tells shown.0))

-- the file that a write is made to is there
pub there_in : (P : State → Type 0) (name : List ℕ) (n : ℕ) → ((s : State) → P s → IsSomeAnd (reads s name) (λ content. n ≤ length content)) → (tells : Bool) (files : Files) (trace : List State) → IsShown tells files trace → IsNow P trace → IsTrue tells → IsSomeAnd (files name) (λ content. n ≤ length content)
there_in P name n each tells files [] shown stands told = absurd (let clash = sym shown ∙ told in cc)
there_in P name n each tells files (s ∷ past) shown stands told = subst (λ (f : Files). IsSomeAnd (f name) (λ content. n ≤ length content)) (sym shown.1) (each s stands)
