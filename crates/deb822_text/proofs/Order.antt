-- Names in order.
use Rattle.std.proofs.Common.{◌≡◌, ◌⊎◌, inl, inr, ℕ, ◌+◌, ◌-◌, ◌<◌, ◌≤◌, ◌==◌, suc, length, drop, slice_index_or, true, false, not, List, [], ◌∷◌, Less, Equal, Greater, refl, sym, ap, ◌∙◌, nat_cmp, arith}
use Rattle.std.specs.declared.cmp.Ordering.{Ordering}
use Rattle.std.specs.Char.{to_ascii_lowercase}
use Rattle.std.specs.Ordering.{ordering_then, ordering_index}
use Rattle.std.proofs.lemmas.List.{drop_more, length-drop}
use Rattle.std.specs.Cmp.{nat_cmp_is}
use Rattle.std.specs.Cmp.Lexicographic.{slice_cmp}
use Rattle.std.specs.Str.{str_to_ascii_lowercase}

abbrev compared : List ℕ → List ℕ → Ordering
compared xs ys = slice_cmp nat_cmp (str_to_ascii_lowercase xs) (str_to_ascii_lowercase ys)

-- of two texts one of which is at its end, the shorter comes first
shorter : (xs ys : List ℕ) → (length xs ≡ 0) ⊎ (length ys ≡ 0) → compared xs ys ≡ nat_cmp (length xs) (length ys)
shorter [] [] ended = refl
shorter [] (y ∷ ys) ended = nat_cmp_is 0 (suc (length ys)) Less (omega arith)
shorter (x ∷ xs) [] ended = nat_cmp_is (suc (length xs)) 0 Greater (omega arith)
shorter (x ∷ xs) (y ∷ ys) (inl ended) = absurd cc
shorter (x ∷ xs) (y ∷ ys) (inr ended) = absurd cc

pub ended : (xs ys : List ℕ) (at : ℕ) → at ≤ length xs → at ≤ length ys → (length xs ≤ at) ⊎ (length ys ≤ at) → compared (drop at xs) (drop at ys) ≡ nat_cmp (length xs - at) (length ys - at)
ended xs ys at low_x low_y past =
    shorter (drop at xs) (drop at ys) (elim past [ inl x ↦ inl (length-drop at xs ∙ omega (arith, x)) | inr y ↦ inr (length-drop at ys ∙ omega (arith, y)) ])
    ∙ λ i. nat_cmp (length-drop at xs i) (length-drop at ys i)

-- the first characters, and then the others
on_character : (xs ys : List ℕ) (at : ℕ) → at < length xs → at < length ys
    → compared (drop at xs) (drop at ys) ≡ ordering_then (nat_cmp (to_ascii_lowercase (slice_index_or xs at 0)) (to_ascii_lowercase (slice_index_or ys at 0))) (compared (drop (at + 1) xs) (drop (at + 1) ys))
on_character xs ys at within_x within_y = λ i. compared (drop_more xs at 0 within_x i) (drop_more ys at 0 within_y i)

first_decides : (o rest : Ordering) → true ≡ not (ordering_index o == 1) → ordering_then o rest ≡ o
first_decides Less rest e = refl
first_decides Equal rest e = absurd cc
first_decides Greater rest e = refl

first_ties : (o rest : Ordering) → false ≡ not (ordering_index o == 1) → ordering_then o rest ≡ rest
first_ties Less rest e = absurd cc
first_ties Equal rest e = refl
first_ties Greater rest e = absurd cc

pub decides : (xs ys : List ℕ) (at x y : ℕ) (o total : Ordering) → at < length xs → at < length ys → x ≡ to_ascii_lowercase (slice_index_or xs at 0) → y ≡ to_ascii_lowercase (slice_index_or ys at 0) → o ≡ nat_cmp x y
    → true ≡ not (ordering_index o == 1) → compared (drop at xs) (drop at ys) ≡ total → o ≡ total
decides xs ys at x y o total within_x within_y is_x is_y is differ so_far =
    let rest = compared (drop (at + 1) xs) (drop (at + 1) ys) in
    sym (first_decides o rest differ) ∙ ap (λ (p : Ordering). ordering_then p rest) (is ∙ λ i. nat_cmp (is_x i) (is_y i)) ∙ sym (on_character xs ys at within_x within_y) ∙ so_far

pub ties : (xs ys : List ℕ) (at x y : ℕ) (o total : Ordering) → at < length xs → at < length ys → x ≡ to_ascii_lowercase (slice_index_or xs at 0) → y ≡ to_ascii_lowercase (slice_index_or ys at 0) → o ≡ nat_cmp x y
    → false ≡ not (ordering_index o == 1) → compared (drop at xs) (drop at ys) ≡ total → compared (drop (at + 1) xs) (drop (at + 1) ys) ≡ total
ties xs ys at x y o total within_x within_y is_x is_y is same so_far =
    let rest = compared (drop (at + 1) xs) (drop (at + 1) ys) in
    sym (first_ties o rest same) ∙ ap (λ (p : Ordering). ordering_then p rest) (is ∙ λ i. nat_cmp (is_x i) (is_y i)) ∙ sym (on_character xs ys at within_x within_y) ∙ so_far
