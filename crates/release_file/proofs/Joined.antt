-- Lines joined by a byte, one more line at a time.
use Rattle.std.proofs.Common.{◌≡◌, ◌∙◌, ℕ, ◌+◌, ◌<◌, List, [], ◌∷◌, ◌++◌, length, take, get_or, refl, sym, ap, append_assoc}
use Rattle.std.proofs.lemmas.List.{take_more}
use Rattle.std.specs.List.{join_with_byte}

join-push : (c : ℕ) (x y : List ℕ) (xs : List (List ℕ)) → join_with_byte c (x ∷ (xs ++ y ∷ [])) ≡ join_with_byte c (x ∷ xs) ++ c ∷ y
join-push c x y [] = refl
join-push c x y (z ∷ zs) =
    ap (λ t. x ++ c ∷ t) (join-push c z y zs) ∙ sym (append_assoc x (c ∷ join_with_byte c (z ∷ zs)) (c ∷ y))

pub join_more : (c : ℕ) (x : List ℕ) (xs : List (List ℕ)) (i : ℕ) (d : List ℕ) → i < length xs → join_with_byte c (x ∷ take (i + 1) xs) ≡ join_with_byte c (x ∷ take i xs) ++ c ∷ get_or xs i d
join_more c x xs i d h = ap (λ t. join_with_byte c (x ∷ t)) (take_more xs i d h) ∙ join-push c x (get_or xs i d) (take i xs)
