-- A disk that has nothing to lose is at rest.
use Rattle.std.proofs.Common.{◌≡◌, refl, sym, ap, ◌∙◌, subst, inl, ⊎_elim, arith, ℕ, zero, suc, ◌≤◌, List, [], ◌∷◌, Option, Some, None, option_map}
use Rattle.std.proofs.lemmas.Bool.{cases_eq}
use Rattle.std.proofs.lemmas.Option.{same_Some}
use Rattle.acq_outside.specs.Disk.{Files}
use Rattle.acq_outside.specs.Crash.{State, IsSound, IsOutcome, FitsAll, names_of, reads, file_at}
use Rattle.acq_outside.proofs.Outcomes.{only_synced}
use Rattle.acq_outside.specs.declared.state.FileState.{FileState}
use Rattle.journal_model.specs.Names.{journal}
use Rattle.journal_model.specs.Reopen.{installed_files}
use Rattle.journal_model.specs.Rest.{IsIdle, IsShut, AllChangeNoInstalledName, IsSynced, IsAtRest, LeavesShut}
use Rattle.journal_model.proofs.Views.{view, view_image, list_not_aside, off_all, part_aside, lists_same, reads_view, instead, instead_same, instead_other}
use Rattle.journal_model.proofs.Aside.{idle_quiet, first_kept, quiet_view, leads_now}

pub closed : (s : State) → IsIdle s → LeavesShut s
closed s idle image is =
    let first = first_kept (file_at s.files idle.number) idle.shut (is.bytes idle.number) (is.outcomes idle.number) in
    (first.0, is.shows journal ∙ ap (option_map is.bytes) (off_all s.base is.some journal (part_aside is.some s.pending is.part idle.aside) refl ∙ idle.leads) ∙ ap (λ (b : List ℕ). Some b) first.1)

pub rests : (s : State) → IsIdle s → IsSynced s → IsAtRest (installed_files (reads s)) s
rests s idle settled = record {
  leaves = λ image is.
      quiet_view s (idle_quiet s idle) image is
      ∙ ap (λ (f : Files). Some f) (lists_same s.base (names_of s) is.bytes (λ i. (file_at s.files i).seen) (λ name list. sym (leads_now s name idle.aside (list_not_aside name list)))
      (λ name i list leads. only_synced (file_at s.files i).seen (is.bytes i) (subst (λ (f : FileState). IsOutcome f (is.bytes i)) (settled name i (inl list) leads) (is.outcomes i))))
      ∙ ap (λ (f : Files). Some (installed_files f)) (sym (reads_view s));
  synced = settled;
  lists_are = λ name list. rw list refl;
}

-- And where a crash leaves a shut journal and no change of a list's name or of the journal's is pending, a commit may be
-- prepared.
abbrev BeginsClosed : FileState → Type 0
BeginsClosed file = (bytes : List ℕ) → IsOutcome file bytes → (later : List ℕ) × (bytes ≡ 0 ∷ later)

first_cell : (file : FileState) (cells : List (Option ℕ)) (later : List ℕ) → file.cells ≡ cells → IsOutcome file (0 ∷ later) → BeginsClosed file → (rest : List (Option ℕ)) × (file.cells ≡ Some 0 ∷ rest)
first_cell file [] later is one begins = absurd (subst (λ (c : List (Option ℕ)). FitsAll c (0 ∷ later)) is one.fits)
first_cell file (None ∷ cells) later is one begins =
    let fits : FitsAll (None ∷ cells) (0 ∷ later) = subst (λ (c : List (Option ℕ)). FitsAll c (0 ∷ later)) is one.fits in
    let open_too = begins (1 ∷ later) (record { long = omega (arith, one.long); fits = subst (λ (c : List (Option ℕ)). FitsAll c (1 ∷ later)) (sym is) (tt, fits.1) }) in
    absurd (let wrong = open_too.1 in cc)
first_cell file (Some c ∷ cells) later is one begins =
    let fits : FitsAll (Some c ∷ cells) (0 ∷ later) = subst (λ (c : List (Option ℕ)). FitsAll c (0 ∷ later)) is one.fits in
    (cells, is ∙ ap (λ (x : ℕ). Some x ∷ cells) (sym fits.0))

some_least : (file : FileState) (n : ℕ) → file.least ≡ n → BeginsClosed file → 1 ≤ file.least
some_least file zero is begins = absurd (let wrong = (begins [] (record { long = omega (arith, is); fits = tt })).1 in cc)
some_least file (suc n) is begins = omega (arith, is)

closed_from : (file : FileState) (later : List ℕ) → IsOutcome file (0 ∷ later) → BeginsClosed file → IsShut file
closed_from file later one begins = let first = first_cell file file.cells later refl one begins in record { rest = first.0; cells = first.1; least = some_least file file.least refl begins }

at_journal : (s : State) (o : Option ℕ) (bytes : ℕ → List ℕ) → LeavesShut s → s.base journal ≡ o → ((i : ℕ) → IsOutcome (file_at s.files i) (bytes i)) → (later : List ℕ) × (option_map bytes o ≡ Some (0 ∷ later))
at_journal s o bytes closed leads outcomes = let left = closed (view s.base bytes) (view_image s bytes outcomes) in (left.0, ap (option_map bytes) (sym leads) ∙ left.1)

begins_closed : (s : State) (i : ℕ) → IsSound s → LeavesShut s → s.base journal ≡ Some i → BeginsClosed (file_at s.files i)
begins_closed s i sound closed leads left outcome =
    let at = at_journal s (Some i) bytes closed leads outcomes in
    (at.0, sym (instead_same i left seen) ∙ same_Some (bytes i) (0 ∷ at.0) at.1)
  where
    seen : ℕ → List ℕ
    seen = λ k. (file_at s.files k).seen

    bytes : ℕ → List ℕ
    bytes = instead i left seen

    outcomes : (k : ℕ) → IsOutcome (file_at s.files k) (bytes k)
    outcomes k = ⊎_elim
        (λ same. subst (λ (n : ℕ). IsOutcome (file_at s.files n) (bytes n)) (sym same) (subst (λ (b : List ℕ). IsOutcome (file_at s.files i) b) (sym (instead_same i left seen)) outcome))
        (λ differ. subst (λ (b : List ℕ). IsOutcome (file_at s.files k) b) (sym (instead_other i left seen k differ)) (sound.outcomes k))
        (cases_eq k i)

idle_at : (s : State) (o : Option ℕ) → IsSound s → AllChangeNoInstalledName s.pending → LeavesShut s → s.base journal ≡ o → IsIdle s
idle_at s None sound aside closed leads = absurd (let wrong = (at_journal s None (λ k. (file_at s.files k).seen) closed leads sound.outcomes).1 in cc)
idle_at s (Some i) sound aside closed leads =
    let at = at_journal s (Some i) (λ k. (file_at s.files k).seen) closed leads sound.outcomes in
    let first : (file_at s.files i).seen ≡ 0 ∷ at.0 = same_Some (file_at s.files i).seen (0 ∷ at.0) at.1 in
    record {
      aside = aside;
      number = i;
      leads = leads;
      shut = closed_from (file_at s.files i) at.0 (subst (λ (b : List ℕ). IsOutcome (file_at s.files i) b) first (sound.outcomes i)) (begins_closed s i sound closed leads);
    }

pub idle_again : (s : State) → IsSound s → AllChangeNoInstalledName s.pending → LeavesShut s → IsIdle s
idle_again s sound aside closed = idle_at s (s.base journal) sound aside closed refl
