-- What is on its way, once a journal is opened that had no record.
use Rattle.std.proofs.Common.{◌≡◌, ◌≢◌, ◌∙◌, ℕ, ◌<◌, zero, suc, true, false, List, [], ◌∷◌, ◌++◌, length, map, Option, Some, None, refl, ap, subst, arith, inl, inr, codes}
use Rattle.std.specs.Prelude.{All, Contains, option_map}
use Rattle.std.specs.List.{flat_map, slice_index_or}
use Rattle.std.proofs.lemmas.List.{append_cancel_left}
use Rattle.acq_base.specs.Plan.{IsPlanned}
use Rattle.acq_base.specs.declared.plan.Source.{Source}
use Rattle.acq_base.specs.declared.plan.Target.{Target}
use Rattle.acq_outside.specs.Crash.{IsShown, State, file_at, names_of as numbers_of, reads, seen_at}
use Rattle.acq_outside.specs.Disk.{Files}
use Rattle.acq_outside.specs.States.{IsNow}
use Rattle.acq_outside.specs.declared.state.FileState.{FileState}
use Rattle.board_bounds.specs.Names.{PlannedNamesArePutNames}
use Rattle.commit_journal.specs.Opening.{IsOfOpening, IsOfRecord, KeepsFilesBut}
use Rattle.journal_model.specs.Names.{journal, partial}
use Rattle.journal_model.specs.Reading.{journal_state_in}
use Rattle.journal_model.specs.Rest.{bytes_in, file_now, part_bytes}
use Rattle.journal_model.specs.declared.step.JournalState.{JournalState}
use Rattle.journal_model.specs.declared.step.JournalState.TheVariants.{Open, Damaged, Shut}
use Rattle.update_engine.specs.Run.{resumable_part, target_names}
use Rattle.generated_days.specs.Clear.{IsClear}

no-record : (gate : JournalState) (name : List ℕ) → gate ≡ Shut → IsOfRecord gate name → ⊥
no-record (Open steps) name is record_of = absurd (cc)
no-record (Damaged at) name is record_of = record_of
no-record Shut name is record_of = record_of

not-journal : (name : List ℕ) → partial name ≡ journal → ⊥
not-journal name e = let head : 112 ≡ 106 = ap (λ (xs : List ℕ). slice_index_or xs 0 0) e in absurd (omega (arith, head))

not-opened : (files : Files) (name : List ℕ) → IsClear files → name ≢ journal → IsOfOpening (files journal) (partial name) → ⊥
not-opened files name clear other (inl e) = not-journal name e
not-opened files name clear other (inr (inl record_of)) = no-record (journal_state_in (files journal)) (partial name) clear.shut record_of
not-opened files name clear other (inr (inr made)) = other (append_cancel_left (codes "partial/") name (codes "journal") made.1)

no-file : (s : State) (i : Option ℕ) → seen_at s.files i ≡ None → option_map (file_at s.files) i ≡ None
no-file s None e = refl
no-file s (Some i) e = absurd (cc)

-- none of these is on its way then
no-part : (entry opened : List State) (files : Files) (name : List ℕ) → IsShown true files entry → IsClear files → name ≢ journal
    → IsNow (λ s. KeepsFilesBut (IsOfOpening (reads s journal)) entry opened) entry → resumable_part (part_bytes opened name) ≡ []
no-part [] opened files name shown clear other same = let never : true ≡ false = shown in absurd (cc)
no-part (s ∷ past) opened files name shown clear other same =
    let clear_there : IsClear (reads s) = subst IsClear shown.1 clear in
    let stays = same.same (partial name) (not-opened (reads s) name clear_there other) in
    let none : file_now opened (partial name) ≡ None = stays ∙ no-file s (numbers_of s (partial name)) (clear_there.parts name) in
    ap (λ (f : Option FileState). resumable_part (bytes_in f)) none

-- ---- the targets of a plan

in-targets : (P : List ℕ → Type 0) (targets : List Target) (name : List ℕ) → ((k : ℕ) (d : List ℕ) → k < length (map (λ (t : Target). t.name.0) targets) → P (slice_index_or (map (λ (t : Target). t.name.0) targets) k d))
    → Contains (map (λ (t : Target). t.name.0) targets) name → P name
in-targets P targets name all c = subst P c.2 (all c.0 name c.1)

split : (xs ys : List (List ℕ)) (name : List ℕ) (X : Type 0) → (Contains xs name → X) → (Contains ys name → X) → Contains (xs ++ ys) name → X
split [] ys name X first second c = second c
split (x ∷ xs) ys name X first second c = by c.0 c.1 c.2 (λ d. split xs ys name X (λ e. first (suc e.0, omega (arith, e.1), e.2)) second d)
  where
    by : (k : ℕ) → k < length ((x ∷ xs) ++ ys) → slice_index_or ((x ∷ xs) ++ ys) k name ≡ name → (Contains (xs ++ ys) name → X) → X
    by zero low is later = first (0, omega arith, is)
    by (suc k) low is later = later (k, omega (arith, low), is)

of-plan : (put : PlannedNamesArePutNames) (sources : List Source) (name : List ℕ) → All IsPlanned sources → Contains (flat_map target_names sources) name → name ≢ journal
of-plan put [] name planned c = absurd (omega (arith, c.1))
of-plan put (s ∷ sources) name planned c =
    split (target_names s) (flat_map target_names sources) name (name ≢ journal)
    (λ e. in-targets (λ n. n ≢ journal) s.targets name (λ k d low. (put s (planned 0 s (omega arith)) (suc k) d (omega (arith, low))).not_journal) e)
    (λ e. of-plan put sources name (λ k d low. planned (suc k) d (omega (arith, low))) e) c

pub parts-none : (put : PlannedNamesArePutNames) (entry opened : List State) (files : Files) (sources : List Source) (parts : List ℕ → List ℕ) → All IsPlanned sources → IsShown true files entry → IsClear files
    → IsNow (λ s. KeepsFilesBut (IsOfOpening (reads s journal)) entry opened) entry
    → ((name : List ℕ) → Contains (flat_map target_names sources) name → parts name ≡ resumable_part (part_bytes opened name))
    → (name : List ℕ) → Contains (flat_map target_names sources) name → parts name ≡ []
parts-none put entry opened files sources parts planned shown clear same are name c = are name c ∙ no-part entry opened files name shown clear (of-plan put sources name planned c) same
