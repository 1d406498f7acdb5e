-- A folder whose names and journal show that nothing is on its way.
use Rattle.std.proofs.Common.{◌≡◌, ◌∙◌, ℕ, ◌<◌, zero, suc, nat_eq, Bool, true, false, List, [], ◌∷◌, length, Option, Some, None, refl, sym, ap, subst, arith, inl, inr, ◌⊎◌}
use Rattle.std.specs.Prelude.{Contains, IsSome}
use Rattle.std.specs.List.{list_any, slice_index_or}
use Rattle.acq_outside.specs.Disk.{Files, IsNames, IsRead}
use Rattle.journal_model.specs.Names.{is_partial, journal, partial}
use Rattle.journal_model.specs.Reading.{journal_state_in}
use Rattle.journal_model.specs.declared.step.JournalState.TheVariants.{Shut}
use Rattle.generated_days.specs.Clear.{IsClear}

-- ---- names

passes : (p : List ℕ → Bool) (names : List (List ℕ)) (name : List ℕ) → Contains names name → p name ≡ true → list_any p names ≡ true
passes p [] name c is = absurd (omega (arith, c.1))
passes p (x ∷ xs) name c is = by c.0 c.1 c.2 (p x) refl (λ d. passes p xs name d is)
  where
    by : (k : ℕ) → k < length (x ∷ xs) → slice_index_or (x ∷ xs) k name ≡ name → (b : Bool) → p x ≡ b → (Contains xs name → list_any p xs ≡ true) → list_any p (x ∷ xs) ≡ true
    by k low at true first later = rw first refl
    by zero low at false first later = let same : p x ≡ true = ap p at ∙ is in absurd (cc)
    by (suc k) low at false first later = let rest = later (k, omega (arith, low), at) in rw first rest

is-partial : (name : List ℕ) → is_partial (partial name) ≡ true
is-partial name = refl

no-parts : (files : Files) (names : List (List ℕ)) → IsNames files names → list_any is_partial names ≡ false → (name : List ℕ) → files (partial name) ≡ None
no-parts files names are none name = by (files (partial name)) refl
  where
    by : (o : Option (List ℕ)) → files (partial name) ≡ o → o ≡ None
    by None is = refl
    by (Some bytes) is =
        let there : Contains names (partial name) = are.complete (partial name) (subst (λ (o : Option (List ℕ)). IsSome o) (sym is) refl) in
        let found : list_any is_partial names ≡ true = passes is_partial names (partial name) there (is-partial name) in
        absurd (cc)

pub is-clear : (files : Files) (names : List (List ℕ)) → IsNames files names → list_any is_partial names ≡ false → journal_state_in (files journal) ≡ Shut → IsClear files
is-clear files names are none shut = record { parts = no-parts files names are none; shut = shut }

-- ---- the journal

first-read : (gate : ℕ) (body : List ℕ) (n : ℕ) (after : List ℕ) → IsRead (Some (gate ∷ body)) 0 n (0 ∷ []) after → slice_index_or after 0 0 ≡ gate
first-read gate body zero after read = none (read.ends refl)
  where
    none : (gate ∷ body ≡ []) ⊎ (◌≡◌ {A = List ℕ} (0 ∷ []) []) → slice_index_or after 0 0 ≡ gate
    none (inl e) = absurd (cc)
    none (inr e) = absurd (cc)
first-read gate body (suc n) after read = ap (λ (xs : List ℕ). slice_index_or xs 0 0) read.bytes

shut-with : (gate : ℕ) (body : List ℕ) → nat_eq gate 1 ≡ false → journal_state_in (Some (gate ∷ body)) ≡ Shut
shut-with gate body is = rw is refl

pub shut-by : (content : Option (List ℕ)) (n : ℕ) (after : List ℕ) → IsRead content 0 n (0 ∷ []) after → nat_eq (slice_index_or after 0 0) 1 ≡ false → journal_state_in content ≡ Shut
shut-by None n after read other = refl
shut-by (Some []) n after read other = refl
shut-by (Some (gate ∷ body)) n after read other =
    shut-with gate body (subst (λ (g : ℕ). nat_eq g 1 ≡ false) (first-read gate body n after read) other)
