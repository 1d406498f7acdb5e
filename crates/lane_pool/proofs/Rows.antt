-- Rows that grow at their end, and rows in which one place changes.
use Rattle.std.proofs.Common.{◌≡◌, ◌≢◌, ℕ, zero, suc, ◌-◌, ◌<◌, ◌≤◌, List, [], ◌∷◌, ◌++◌, map, length, set, get_or, Some, sym, refl, ap, ◌∙◌, subst, ⊎_elim, arith}
use mathlib.Core.Option.{some, some-ne-none}
use mathlib.Core.Logic.{dite}
use native.Mathlib.Decide.{ℕ_discrete}
use lib.ListN.{get_elem?}
use Rattle.std.specs.List.{slice_get}
use Rattle.atomic_table.proofs.Lists.{at_set, at_snoc}
use Rattle.std.proofs.lemmas.List.{get_or-map, map-set}
use Rattle.acq_outside.specs.Count.{NoneFell}

pub get_snoc_or : {A : Type 0} (l : List A) (a d : A) (j : ℕ) → j < length l → get_or (l ++ a ∷ []) j d ≡ get_or l j d
get_snoc_or [] a d j h = absurd (omega arith)
get_snoc_or (x ∷ xs) a d zero h = refl
get_snoc_or (x ∷ xs) a d (suc j) h = get_snoc_or xs a d j (omega arith)

pub get_last_or : {A : Type 0} (l : List A) (a d : A) (j : ℕ) → j ≡ length l → get_or (l ++ a ∷ []) j d ≡ a
get_last_or [] a d zero h = refl
get_last_or [] a d (suc j) h = absurd (omega arith)
get_last_or (x ∷ xs) a d zero h = absurd (omega arith)
get_last_or (x ∷ xs) a d (suc j) h = get_last_or xs a d j (omega arith)

-- places behind the head of a row
pub set_behind : {A B : Type 0} (f : A → B) (b : B) (xs : List A) (y : A) (lane : ℕ) → 0 < lane → b ∷ map f (set xs (lane - 1) y) ≡ set (b ∷ map f xs) lane (f y)
set_behind f b xs y zero h = absurd (omega arith)
set_behind f b xs y (suc k) h = ap (λ (n : ℕ). b ∷ map f (set xs n y)) (let e : suc k - 1 ≡ k = omega arith in e) ∙ ap (λ l. b ∷ l) (map-set f xs k y)

pub get_or_behind : {A B : Type 0} (f : A → B) (b : B) (xs : List A) (d : A) (e : B) (lane : ℕ) → 0 < lane → lane - 1 < length xs → get_or (b ∷ map f xs) lane e ≡ f (get_or xs (lane - 1) d)
get_or_behind f b xs d e zero h there = absurd (omega arith)
get_or_behind f b xs d e (suc k) h there = get_or-map f xs k d e (omega arith) ∙ ap (λ (n : ℕ). f (get_or xs n d)) (omega arith)

slice_get_map : {A B : Type 0} (f : A → B) (xs : List A) (k : ℕ) (d : A) → k < length xs → slice_get (map f xs) k ≡ Some (f (get_or xs k d))
slice_get_map f [] k d h = absurd (omega arith)
slice_get_map f (x ∷ xs) zero d h = refl
slice_get_map f (x ∷ xs) (suc k) d h = slice_get_map f xs k d (omega arith)

pub slice_get_behind : {A B : Type 0} (f : A → B) (b : B) (xs : List A) (d : A) (lane : ℕ) → 0 < lane → lane - 1 < length xs → slice_get (b ∷ map f xs) lane ≡ Some (f (get_or xs (lane - 1) d))
slice_get_behind f b xs d zero h there = absurd (omega arith)
slice_get_behind f b xs d (suc k) h there = slice_get_map f xs k d (omega arith) ∙ ap (λ (n : ℕ). Some (f (get_or xs n d))) (omega arith)

-- views of a rule, each with its pass
pub inside : {A : Type 0} (l : List A) (j : ℕ) (b : A) → get_elem? l j ≡ some b → j < length l
inside [] j b e = absurd (some-ne-none b (sym e))
inside (x ∷ xs) zero b e = omega arith
inside (x ∷ xs) (suc j) b e = let h = inside xs j b e in omega arith

pub all_set : {A : Type 0} (F : ℕ → A → Type 0) (views : List A) (pass : ℕ) (w : A) → F pass w → ((j : ℕ) (u : A) → j ≢ pass → get_elem? views j ≡ some u → F j u)
    → (j : ℕ) (u : A) → get_elem? (set views pass w) j ≡ some u → F j u
all_set {A} F views pass w mine others j u e = ⊎_elim
    (λ (x : (j ≡ pass) × (w ≡ u)). subst (λ (y : ℕ × A). F y.0 y.1) (λ i. (sym x.0 i, x.1 i)) mine)
    (λ (x : (j ≢ pass) × (get_elem? views j ≡ some u)). others j u x.0 x.1) (at_set views pass j w u e)

pub all_snoc : {A : Type 0} (F : ℕ → A → Type 0) (views : List A) (w : A) → F (length views) w → ((j : ℕ) (u : A) → get_elem? views j ≡ some u → F j u)
    → (j : ℕ) (u : A) → get_elem? (views ++ w ∷ []) j ≡ some u → F j u
all_snoc {A} F views w mine old j u e = dite (ℕ_discrete j (length views))
    (λ (is : j ≡ length views). ⊎_elim (λ (x : get_elem? views j ≡ some u). absurd (let h = inside views j u x in omega arith))
    (λ (x : w ≡ u). subst (λ (y : ℕ × A). F y.0 y.1) (λ i. (sym is i, x i)) mine) (at_snoc views w u j e))
    (λ (no : j ≢ length views). old j u (from_snoc views w u j no e))
  where
    from_snoc : (l : List A) (a b : A) (j : ℕ) → j ≢ length l → get_elem? (l ++ a ∷ []) j ≡ some b → get_elem? l j ≡ some b
    from_snoc [] a b zero n e = absurd (n refl)
    from_snoc [] a b (suc j) n e = e
    from_snoc (x ∷ xs) a b zero n e = e
    from_snoc (x ∷ xs) a b (suc j) n e = from_snoc xs a b j (λ h. n (ap suc h)) e

-- counts that don't fall
pub none_fell_refl : (xs : List ℕ) → NoneFell xs xs
none_fell_refl [] = tt
none_fell_refl (x ∷ xs) = (omega arith, none_fell_refl xs)

pub none_fell_trans : (xs ys zs : List ℕ) → NoneFell xs ys → NoneFell ys zs → NoneFell xs zs
none_fell_trans [] [] [] a b = tt
none_fell_trans [] [] (z ∷ zs) a b = b
none_fell_trans [] (y ∷ ys) zs a b = elim a [ ]
none_fell_trans (x ∷ xs) [] zs a b = elim a [ ]
none_fell_trans (x ∷ xs) (y ∷ ys) [] a b = elim b [ ]
none_fell_trans (x ∷ xs) (y ∷ ys) (z ∷ zs) a b = (let m = a.0 in let n = b.0 in omega arith, none_fell_trans xs ys zs a.1 b.1)

pub none_fell_set : (xs : List ℕ) (k y : ℕ) → get_or xs k 0 ≤ y → NoneFell xs (set xs k y)
none_fell_set [] k y h = tt
none_fell_set (x ∷ xs) zero y h = (h, none_fell_refl xs)
none_fell_set (x ∷ xs) (suc k) y h = (omega arith, none_fell_set xs k y h)

pub none_fell_at : (xs ys : List ℕ) → length xs ≡ length ys → ((i : ℕ) → i < length xs → get_or xs i 0 ≤ get_or ys i 0) → NoneFell xs ys
none_fell_at [] [] len each = tt
none_fell_at [] (y ∷ ys) len each = absurd (omega arith)
none_fell_at (x ∷ xs) [] len each = absurd (omega arith)
none_fell_at (x ∷ xs) (y ∷ ys) len each = (each 0 (omega arith), none_fell_at xs ys (omega arith) (λ i h. each (suc i) (omega arith)))
