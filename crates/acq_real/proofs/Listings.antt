-- Which names are listed: what is kept of them name by name, and that an order without repetition changes nothing of that.
use Rattle.std.proofs.Common.{◌≡◌, sym, subst, ⊎_elim, ℕ, List, [], ◌∷◌, ◌++◌, get_or, All, Contains, AllPairs}
use Rattle.std.specs.Ordering.{nat_cmp}
use Rattle.std.specs.declared.cmp.Ordering.TheVariants.{Less}
use Rattle.std.specs.List.{dedup}
use Rattle.std.specs.List.Sorted.{IsPermutation, IsSorted}
use Rattle.std.specs.Cmp.Lexicographic.{slice_cmp, pointwise, texts_ties}
use Rattle.std.specs.Prelude.{nat_eq}
use Rattle.std.proofs.lemmas.Cmp.{nat_list_cmp_total, nat_list_eq_equiv}
use Rattle.std.proofs.lemmas.List.{get_or_default}
use Rattle.std.proofs.lemmas.List.Elements.{Contains-append_left, Contains-push, Contains-push_cases}
use Rattle.std.proofs.lemmas.List.Kept.{IsStrictlySortedBy-dedup, Contains-dedup, Contains-from_dedup}
use Rattle.std.proofs.lemmas.List.Sorted.{Contains-permutation, IsPermutation-sym}
use Rattle.std.proofs.lemmas.Map.Keys.{Less-from_sorted}
use Rattle.std.proofs.lemmas.Slice.Eq.{bytes_eq-Decides}
use Rattle.acq_real.specs.Listing.{IsTaken, Keeps}

abbrev pub Names : Type 0
Names = List (List ℕ)

pub keeps_push : (names kept : Names) (name : List ℕ) → IsTaken name → Keeps names kept → Keeps (names ++ name ∷ []) (kept ++ name ∷ [])
keeps_push names kept name taken keeps = record {
  sound = λ other within. ⊎_elim
      (λ (before : Contains kept other). let both = keeps.sound other before in (Contains-append_left names (name ∷ []) other both.0, both.1))
      (λ (same : name ≡ other). (subst (λ (n : List ℕ). Contains (names ++ name ∷ []) n) same (Contains-push names name), subst (λ (n : List ℕ). IsTaken n) same taken))
      (Contains-push_cases kept name other within);
  complete = λ other within other_taken. ⊎_elim
      (λ (before : Contains names other). Contains-append_left kept (name ∷ []) other (keeps.complete other before other_taken))
      (λ (same : name ≡ other). subst (λ (n : List ℕ). Contains (kept ++ name ∷ []) n) same (Contains-push kept name))
      (Contains-push_cases names name other within);
}

pub keeps_skip : (names kept : Names) (name : List ℕ) → ¬ (IsTaken name) → Keeps names kept → Keeps (names ++ name ∷ []) kept
keeps_skip names kept name outside keeps = record {
  sound = λ other within. let both = keeps.sound other within in (Contains-append_left names (name ∷ []) other both.0, both.1);
  complete = λ other within taken. ⊎_elim
      (λ (before : Contains names other). keeps.complete other before taken)
      (λ (same : name ≡ other). absurd (outside (subst (λ (n : List ℕ). IsTaken n) (sym same) taken)))
      (Contains-push_cases names name other within);
}

-- kept names put in order, each once
pub keeps_sorted : (names kept sorted : Names) → IsPermutation kept sorted → Keeps names kept → Keeps names (dedup (pointwise nat_eq) sorted)
keeps_sorted names kept sorted moved keeps = record {
  sound = λ name within. keeps.sound name (Contains-permutation sorted kept name (IsPermutation-sym kept sorted moved) (Contains-from_dedup (pointwise nat_eq) sorted name within));
  complete = λ name within taken. Contains-dedup nat_list_eq_equiv (λ a b. (bytes_eq-Decides a b).0) sorted name (Contains-permutation kept sorted name moved (keeps.complete name within taken));
}

pub each_once : (sorted names : Names) → IsSorted (slice_cmp nat_cmp) sorted → names ≡ dedup (pointwise nat_eq) sorted → AllPairs (λ a b. slice_cmp nat_cmp a b ≡ Less) names
each_once sorted names order is =
    subst (λ (list : Names). AllPairs (λ a b. slice_cmp nat_cmp a b ≡ Less) list) (sym is)
    (λ i j d before within. Less-from_sorted (slice_cmp nat_cmp) (dedup (pointwise nat_eq) sorted) i j d (IsStrictlySortedBy-dedup nat_list_cmp_total texts_ties sorted order) before within)

pub all_taken : (names kept : Names) (P : List ℕ → Type 0) → ((name : List ℕ) → IsTaken name → P name) → Keeps names kept → All P kept
all_taken names kept P gives keeps = λ k d within. gives (get_or kept k d) ((keeps.sound (get_or kept k d) (k, within, get_or_default kept k (get_or kept k d) d within)).1)
