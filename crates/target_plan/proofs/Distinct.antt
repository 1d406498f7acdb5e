-- Numbers in strict order, and in any other: no two are the same.
use Rattle.std.proofs.Common.{◌≡◌, ◌≢◌, ℕ, ◌<◌, ◌==◌, List, arith}
use Rattle.std.specs.List.{AllPairs}
use Rattle.std.specs.List.Sorted.{IsPermutation, IsStrictlyIncreasing}
use Rattle.std.proofs.lemmas.List.Kept.{AllPairs-from_increasing}
use Rattle.std.proofs.lemmas.List.Sorted.{IsPermutation-sym}
use Rattle.std.proofs.lemmas.Map.Keys.{IsDistinct-IsPermutation}
use Rattle.std.proofs.lemmas.Map.Made.{AllPairs-from_IsDistinct, IsDistinct-from_AllPairs}
use Rattle.std.proofs.lemmas.Bool.Decides.{Decides-eqb}

below-differs : (a b : ℕ) → a < b → a ≢ b
below-differs a b less = λ same. omega (arith, less, same)

flips : (a b : ℕ) → (a == b) ≡ (b == a)
flips a b = grind (arith)

pub distinct_sorted : (given sorted : List ℕ) → IsPermutation given sorted → IsStrictlyIncreasing sorted → AllPairs (λ (a b : ℕ). a ≢ b) given
distinct_sorted given sorted same rising =
    let below = AllPairs-from_increasing sorted rising in
    let apart : AllPairs (λ (a b : ℕ). a ≢ b) sorted = λ i j d less within. below-differs _ _ (below i j d less within) in
    AllPairs-from_IsDistinct Decides-eqb given (IsDistinct-IsPermutation (λ (a b : ℕ). a == b) flips sorted given (IsPermutation-sym given sorted same) (IsDistinct-from_AllPairs Decides-eqb sorted apart))
