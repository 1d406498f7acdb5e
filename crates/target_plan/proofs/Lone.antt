-- Items of which no two are the same.
use Rattle.std.proofs.Common.{◌≡◌, suc, Bool, true, false, not, List, [], ◌∷◌, ◌++◌, map, refl, sym, ap, ◌∙◌, arith}
use Rattle.std.specs.List.{All, AllPairs, filter}
use Rattle.std.proofs.lemmas.List.Elements.{All-head, All-tail}
use Rattle.target_plan.specs.Groups.{first_of_each, together}

abbrev pub single : {T : Type 0} → T → T × List T
single x = (x, x ∷ [])

module _ {T : Type 0} (same : T → T → Bool) where
  abbrev pub AllOther : T → List T → Type 0
  AllOther x [] = Unit {0}
  AllOther x (y ∷ ys) = (same x y ≡ false) × (same y x ≡ false) × AllOther x ys

  abbrev pub Lone : List T → Type 0
  Lone [] = Unit {0}
  Lone (x ∷ xs) = AllOther x xs × Lone xs

  -- ---- parts

  other-left : (x : T) (a b : List T) → AllOther x (a ++ b) → AllOther x a
  other-left x [] b other = tt
  other-left x (y ∷ a) b other = (other.0, other.1, other-left x a b other.2)

  other-right : (x : T) (a b : List T) → AllOther x (a ++ b) → AllOther x b
  other-right x [] b other = other
  other-right x (y ∷ a) b other = other-right x a b other.2

  pub lone_left : (a b : List T) → Lone (a ++ b) → Lone a
  lone_left [] b lone = tt
  lone_left (x ∷ a) b lone = (other-left x a b lone.0, lone_left a b lone.1)

  pub lone_right : (a b : List T) → Lone (a ++ b) → Lone b
  lone_right [] b lone = lone
  lone_right (x ∷ a) b lone = lone_right a b lone.1

  -- ---- the first of each, and groups

  other-kept : (x : T) (xs : List T) → AllOther x xs → filter (λ (other : T). not (same x other)) xs ≡ xs
  other-kept x [] other = refl
  other-kept x (y ∷ ys) other = rw other.0 (ap (λ (r : List T). y ∷ r) (other-kept x ys other.2))

  pub lone_first : (xs : List T) → Lone xs → first_of_each same xs ≡ xs
  unfolding first_of_each
  lone_first [] lone = refl
  lone_first (x ∷ xs) lone = ap (λ (firsts : List T). x ∷ filter (λ (other : T). not (same x other)) firsts) (lone_first xs lone.1) ∙ ap (λ (r : List T). x ∷ r) (other-kept x xs lone.0)

  none-same : (x : T) (xs : List T) → AllOther x xs → filter (same x) xs ≡ []
  none-same x [] other = refl
  none-same x (y ∷ ys) other = rw other.0 (none-same x ys other.2)

  -- each of these is the same as itself alone
  abbrev Alone : List T → List T → Type 0
  Alone items [] = Unit {0}
  Alone items (x ∷ xs) = (filter (same x) items ≡ x ∷ []) × Alone items xs

  alone-more : (x : T) (items xs : List T) → AllOther x xs → Alone items xs → Alone (x ∷ items) xs
  alone-more x items [] other alone = tt
  alone-more x items (y ∷ ys) other alone = (rw other.1 alone.0, alone-more x items ys other.2 alone.1)

  abbrev group_in : List T → T → T × List T
  group_in items first = (first, filter (same first) items)

  module _ (itself : (x : T) → same x x ≡ true) where
    all-alone : (xs : List T) → Lone xs → Alone xs xs
    all-alone [] lone = tt
    all-alone (x ∷ xs) lone = (rw (itself x) (ap (λ (r : List T). x ∷ r) (none-same x xs lone.0)), alone-more x xs xs lone.0 (all-alone xs lone.1))

    alone-groups : (items xs : List T) → Alone items xs → map (group_in items) xs ≡ map single xs
    alone-groups items [] alone = refl
    alone-groups items (x ∷ xs) alone = λ i. (x, alone.0 i) ∷ alone-groups items xs alone.1 i

    pub lone_groups : (xs : List T) → Lone xs → together same xs ≡ map single xs
    unfolding together
    lone_groups xs lone = ap (map (group_in xs)) (lone_first xs lone) ∙ alone-groups xs xs (all-alone xs lone)

-- ---- through a function

module _ {T X : Type 0} (same : X → X → Bool) (f : T → X) where
  abbrev pub same_at : T → T → Bool
  same_at a b = same (f a) (f b)

  other-back : (x : T) (xs : List T) → AllOther same (f x) (map f xs) → AllOther same_at x xs
  other-back x [] other = tt
  other-back x (y ∷ ys) other = (other.0, other.1, other-back x ys other.2)

  pub lone_back : (xs : List T) → Lone same (map f xs) → Lone same_at xs
  lone_back [] lone = tt
  lone_back (x ∷ xs) lone = (other-back x xs lone.0, lone_back xs lone.1)

-- ---- from values that differ

module _ {T X : Type 0} (same : T → T → Bool) (f : T → X) (told : (a b : T) → same a b ≡ true → f a ≡ f b) where
  differs : (a b : T) → (f a ≡ f b → ⊥) → same a b ≡ false
  differs a b apart = by (same a b) refl where
    by : (c : Bool) → same a b ≡ c → same a b ≡ false
    by false e = e
    by true e = absurd (apart (told a b e))

  other-from : (x : T) (xs : List T) → All (λ (y : X). f x ≡ y → ⊥) (map f xs) → AllOther same x xs
  other-from x [] all = tt
  other-from x (y ∷ ys) all =
      let P = λ (z : X). f x ≡ z → ⊥ in
      let here = All-head P (f y) (map f ys) all in
      (differs x y here, differs y x (λ e. here (sym e)), other-from x ys (All-tail P (f y) (map f ys) all))

  pub lone_from : (xs : List T) → AllPairs (λ (a b : X). a ≡ b → ⊥) (map f xs) → Lone same xs
  lone_from [] pairs = tt
  lone_from (x ∷ xs) pairs =
      (other-from x xs (λ k d within. pairs 0 (suc k) d (omega arith) (omega (arith, within))), lone_from xs (λ i j d below within. pairs (suc i) (suc j) d (omega (arith, below)) (omega (arith, within))))
