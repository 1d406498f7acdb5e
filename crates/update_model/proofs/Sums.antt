-- Files that have a sum.
use Rattle.std.proofs.Common.{◌≡◌, ℕ, true, List, Option, Some, None, refl, sym, ap, ◌∙◌, inl, inr, if◌then◌else◌}
use Rattle.std.proofs.lemmas.Bool.{cases_Bool}
use Rattle.acq_base.specs.Sum.{sum_of}
use Rattle.acq_base.specs.declared.sum.Sum.{Sum}
use Rattle.acq_base.proofs.SameSums.{same_sum-true, same_sum-refl}
use Rattle.release_file.specs.Release.{same_sum}
use Rattle.update_model.specs.Files.{fitting}
use Rattle.update_model.specs.Laws.{IsFileOf}

-- a file that fits stays as it is
pub fitting-fits : (sum : Sum) (file : Option (List ℕ)) → IsFileOf sum file → fitting sum file ≡ file
fitting-fits sum None h = absurd h
fitting-fits sum (Some bytes) h =
    let same : same_sum (sum_of bytes) sum ≡ true = ap (λ s. same_sum s sum) h ∙ same_sum-refl sum in
    ap (λ b. if b then Some bytes else None) same

-- and any other is none
pub fitting-none : (sum : Sum) (file : Option (List ℕ)) → (IsFileOf sum file → ⊥) → fitting sum file ≡ None
fitting-none sum None h = refl
fitting-none sum (Some bytes) h =
    elim (cases_Bool (same_sum (sum_of bytes) sum)) [
      | inl same ↦ absurd (h (same_sum-true (sum_of bytes) sum same))
      | inr other ↦ ap (λ b. if b then Some bytes else None) other
    ]

pub fitting-is : (sum : Sum) (file : Option (List ℕ)) (bytes : List ℕ) → fitting sum file ≡ Some bytes → IsFileOf sum file × (file ≡ Some bytes)
fitting-is sum None bytes h = cc
fitting-is sum (Some file) bytes h =
    elim (cases_Bool (same_sum (sum_of file) sum)) [
      | inl same ↦ (same_sum-true (sum_of file) sum same, sym (ap (λ b. if b then Some file else None) same) ∙ h)
      | inr other ↦ let none : None ≡ Some bytes = sym (ap (λ b. if b then Some file else None) other) ∙ h in absurd (cc)
    ]
