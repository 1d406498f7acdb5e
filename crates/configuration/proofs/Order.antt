-- Names in byte order: two lists in that order, each name there once, are the same where they have the same names.
use Rattle.std.proofs.Common.{◌≡◌, ◌∙◌, refl, sym, ap, ap₂, subst, true≢false, ⊎_elim, inl, inr, ◌⊎◌, arith, ℕ, zero, suc, List, [], ◌∷◌, Contains}
use Rattle.std.specs.Ordering.{nat_cmp, ordering_reverse, is_eq}
use Rattle.std.specs.declared.cmp.Ordering.{Ordering}
use Rattle.std.specs.declared.cmp.Ordering.TheVariants.{Less, Equal, Greater}
use Rattle.std.specs.List.{AllByRecursion}
use Rattle.std.specs.List.Sorted.{IsStrictlySortedBy}
use Rattle.std.specs.Cmp.Lexicographic.{slice_cmp, texts_ties}
use Rattle.std.proofs.lemmas.Cmp.{nat_list_cmp_total, tied_itself}
use Rattle.std.proofs.lemmas.Slice.Eq.{bytes_eq-Decides}

abbrev pub Name : Type 0
Name = List ℕ

abbrev pub cmp : Name → Name → Ordering
cmp = slice_cmp nat_cmp

-- the name is one of the names
abbrev pub IsIn : List Name → Name → Type 0
IsIn [] name = ⊥
IsIn (first ∷ others) name = (first ≡ name) ⊎ IsIn others name

pub in_from_contains : (names : List Name) (name : Name) → Contains names name → IsIn names name
in_from_contains [] name within = absurd (omega (arith, within.1))
in_from_contains (first ∷ others) name (zero, below, is) = inl is
in_from_contains (first ∷ others) name (suc k, below, is) = inr (in_from_contains others name (k, omega arith, is))

pub contains_from_in : (names : List Name) (name : Name) → IsIn names name → Contains names name
contains_from_in [] name within = absurd within
contains_from_in (first ∷ others) name (inl is) = (0, omega arith, is)
contains_from_in (first ∷ others) name (inr within) =
    let rest = contains_from_in others name within in (suc rest.0, omega (arith, rest.1), rest.2)

-- ---- the order

pub tied : (a b : Name) → cmp a b ≡ Equal → a ≡ b
tied a b e = (bytes_eq-Decides a b).0 (texts_ties a b ∙ ap is_eq e)

pub itself : (a : Name) → cmp a a ≡ Equal
itself a = tied_itself nat_list_cmp_total a

pub turned : (a b : Name) → cmp a b ≡ Greater → cmp b a ≡ Less
turned a b e = nat_list_cmp_total.antisymm b a ∙ ap ordering_reverse e

less≢equal : Less ≡ Equal → ⊥
less≢equal e = true≢false (sym (ap is_eq e))

pub not_below_itself : (a : Name) → cmp a a ≡ Less → ⊥
not_below_itself a e = less≢equal (sym e ∙ itself a)

pub not_both_below : (a b : Name) → cmp a b ≡ Less → cmp b a ≡ Less → ⊥
not_both_below a b ab ba = not_below_itself a (nat_list_cmp_total.trans a b a ab ba)

-- ---- names in order

abbrev pub IsBelow : Name → List Name → Type 0
IsBelow name names = AllByRecursion (λ other. cmp name other ≡ Less) names

pub below_in : (name : Name) (names : List Name) (other : Name) → IsBelow name names → IsIn names other → cmp name other ≡ Less
below_in name [] other below within = absurd within
below_in name (first ∷ others) other below (inl is) = subst (λ (n : Name). cmp name n ≡ Less) is below.0
below_in name (first ∷ others) other below (inr within) = below_in name others other below.1 within

pub below_more : (a b : Name) (names : List Name) → cmp a b ≡ Less → IsBelow b names → IsBelow a names
below_more a b [] less below = tt
below_more a b (first ∷ others) less below = (nat_list_cmp_total.trans a b first less below.0, below_more a b others less below.1)

abbrev pub IsOrdered : List Name → Type 0
IsOrdered names = IsStrictlySortedBy cmp names

pub ordered_head : (first : Name) (others : List Name) → IsOrdered (first ∷ others) → IsBelow first others
unfolding IsStrictlySortedBy
ordered_head first others order = order.0

pub ordered_tail : (first : Name) (others : List Name) → IsOrdered (first ∷ others) → IsOrdered others
unfolding IsStrictlySortedBy
ordered_tail first others order = order.1

pub ordered_cons : (first : Name) (others : List Name) → IsBelow first others → IsOrdered others → IsOrdered (first ∷ others)
unfolding IsStrictlySortedBy
ordered_cons first others below order = (below, order)

pub ordered_nil : IsOrdered []
unfolding IsStrictlySortedBy
ordered_nil = tt

-- ---- the same names in order are the same list

abbrev pub HasAll : List Name → List Name → Type 0
HasAll xs ys = (name : Name) → IsIn xs name → IsIn ys name

-- the first name of a list isn't below the first of another that has all its names
first_not_below : (x y : Name) (xs ys : List Name) → IsOrdered (y ∷ ys) → HasAll (x ∷ xs) (y ∷ ys) → cmp x y ≡ Less → ⊥
first_not_below x y xs ys order all less = ⊎_elim
    (λ (same : y ≡ x). not_below_itself x (subst (λ (n : Name). cmp x n ≡ Less) same less))
    (λ (later : IsIn ys x). not_both_below x y less (below_in y ys x (ordered_head y ys order) later))
    (all x (inl refl))

same_first : (x y : Name) (xs ys : List Name) → IsOrdered (x ∷ xs) → IsOrdered (y ∷ ys) → HasAll (x ∷ xs) (y ∷ ys) → HasAll (y ∷ ys) (x ∷ xs) → x ≡ y
same_first x y xs ys order_x order_y to back = go (cmp x y) refl
  where
    go : (o : Ordering) → cmp x y ≡ o → x ≡ y
    go Less e = absurd (first_not_below x y xs ys order_y to e)
    go Equal e = tied x y e
    go Greater e = absurd (first_not_below y x ys xs order_x back (turned x y e))

rest_has : (x y : Name) (xs ys : List Name) → x ≡ y → IsOrdered (x ∷ xs) → HasAll (x ∷ xs) (y ∷ ys) → HasAll xs ys
rest_has x y xs ys same order to name within = ⊎_elim
    (λ (first : y ≡ name).
    absurd (not_below_itself x (below_in x xs x (ordered_head x xs order) (subst (λ (n : Name). IsIn xs n) (sym (same ∙ first)) within))))
    (λ (later : IsIn ys name). later)
    (to name (inr within))

pub same_names : (xs ys : List Name) → IsOrdered xs → IsOrdered ys → HasAll xs ys → HasAll ys xs → xs ≡ ys
same_names [] [] order_x order_y to back = refl
same_names [] (y ∷ ys) order_x order_y to back = absurd (back y (inl refl))
same_names (x ∷ xs) [] order_x order_y to back = absurd (to x (inl refl))
same_names (x ∷ xs) (y ∷ ys) order_x order_y to back =
    let first = same_first x y xs ys order_x order_y to back in
    ap₂ (λ (n : Name) (ns : List Name). n ∷ ns) first
    (same_names xs ys (ordered_tail x xs order_x) (ordered_tail y ys order_y) (rest_has x y xs ys first order_x to) (rest_has y x ys xs (sym first) order_y back))
