-- What one more item does to groups of items that are the same.
use Rattle.std.proofs.Common.{◌≡◌, ℕ, ◌+◌, ◌<◌, ◌≤◌, ◌==◌, suc, length, map, Bool, true, false, not, ◌||◌, cond, List, [], ◌∷◌, ◌++◌, Option, Some, None, IsSome, IfSome, is_none, unwrap_or, eq-eqb, eqb-true, refl, sym, ap, ◌∙◌, arith, subst}
use Rattle.std.specs.List.{filter}
use Rattle.std.specs.Cmp.{IsEquivalence, IsTotalOrder}
use Rattle.std.specs.Ordering.{is_eq}
use Rattle.std.specs.BTreeMap.{BTreeMap, get, is_at, Updates, IsUnchanged}
use Rattle.std.specs.Map.{lookup}
use Rattle.std.specs.Option.{is_some}
use Rattle.std.specs.declared.cmp.Ordering.{Ordering}
use mathlib.Core.Bool.{true≢false}
use Rattle.std.proofs.lemmas.Cmp.{eq_by_cmp_equiv}
use Rattle.std.proofs.lemmas.List.{append-nil, map-append, length-map}
use Rattle.std.proofs.lemmas.List.Elements.{filter-append}
use Rattle.target_plan.specs.Groups.{first_of_each, together, added_from, entered}

-- ---- the place of an item among some that are different

abbrev pub has : {T : Type 0} → (T → T → Bool) → List T → T → Bool
has same [] x = false
has same (f ∷ fs) x = same f x || has same fs x

abbrev pub place_from : {T : Type 0} → (T → T → Bool) → ℕ → List T → T → Option ℕ
place_from same n [] x = None
place_from same n (f ∷ fs) x = cond (same f x) (Some n) (place_from same (n + 1) fs x)

pub none_or_some : (o : Option ℕ) (x : ℕ) → o ≡ None → o ≡ Some x → ⊥
none_or_some o x none some = true≢false (sym (ap is_none none) ∙ ap is_none some)

pub some_inside : {x y : ℕ} → Some x ≡ Some y → x ≡ y
some_inside {x} e = ap (λ (o : Option ℕ). unwrap_or o x) e

not_equal : (n at : ℕ) → n + 1 ≤ at → (n == at) ≡ false
not_equal n at less = by (n == at) refl where
  by : (b : Bool) → (n == at) ≡ b → (n == at) ≡ false
  by false e = e
  by true e = absurd (omega (arith, less, eqb-true n at e))

zero_more : (n : ℕ) → n ≡ 0 + n
zero_more n = omega arith

module _ {T : Type 0} (same : T → T → Bool) (laws : IsEquivalence same) where
  abbrev differs : T → T → Bool
  differs y other = not (same y other)

  abbrev AllDiffer : T → List T → Type 0
  AllDiffer y [] = Unit {0}
  AllDiffer y (f ∷ fs) = (same y f ≡ false) × AllDiffer y fs

  abbrev Apart : List T → Type 0
  Apart [] = Unit {0}
  Apart (f ∷ fs) = AllDiffer f fs × Apart fs

  -- ---- filters

  differ-filter : (y z : T) (fs : List T) → AllDiffer y fs → AllDiffer y (filter (differs z) fs)
  differ-filter y z [] a = tt
  differ-filter y z (f ∷ fs) a = at (same z f) refl (differ-filter y z fs a.1) where
    at : (b : Bool) → same z f ≡ b → AllDiffer y (filter (differs z) fs) → AllDiffer y (filter (differs z) (f ∷ fs))
    at true e rest = rw e rest
    at false e rest = rw e (a.0, rest)

  apart-filter : (z : T) (fs : List T) → Apart fs → Apart (filter (differs z) fs)
  apart-filter z [] a = tt
  apart-filter z (f ∷ fs) a = at (same z f) refl (apart-filter z fs a.1) where
    at : (b : Bool) → same z f ≡ b → Apart (filter (differs z) fs) → Apart (filter (differs z) (f ∷ fs))
    at true e rest = rw e rest
    at false e rest = rw e (differ-filter f z fs a.0, rest)

  filter-differ : (y : T) (fs : List T) → AllDiffer y (filter (differs y) fs)
  filter-differ y [] = tt
  filter-differ y (f ∷ fs) = at (same y f) refl (filter-differ y fs) where
    at : (b : Bool) → same y f ≡ b → AllDiffer y (filter (differs y) fs) → AllDiffer y (filter (differs y) (f ∷ fs))
    at true e rest = rw e rest
    at false e rest = rw e (e, rest)

  pub first_apart : (xs : List T) → Apart (first_of_each same xs)
  unfolding first_of_each
  first_apart [] = tt
  first_apart (x ∷ xs) = (filter-differ x (first_of_each same xs), apart-filter x (first_of_each same xs) (first_apart xs))

  -- ---- whether one is the same as an item

  has-filter : (y x : T) (fs : List T) → same y x ≡ false → has same (filter (differs y) fs) x ≡ has same fs x
  has-filter y x [] e = refl
  has-filter y x (f ∷ fs) e = at (same y f) refl (has-filter y x fs e) where
    at : (b : Bool) → same y f ≡ b → has same (filter (differs y) fs) x ≡ has same fs x → has same (filter (differs y) (f ∷ fs)) x ≡ same f x || has same fs x
    at true same_f rest = rw same_f (rest ∙ ap (λ (b : Bool). b || has same fs x) (sym e ∙ laws.congr y f x same_f))
    at false same_f rest = rw same_f (ap (λ (b : Bool). same f x || b) rest)

  pub has-first : (xs : List T) (x : T) → has same (first_of_each same xs) x ≡ has same xs x
  unfolding first_of_each
  has-first [] x = refl
  has-first (y ∷ ys) x = at (same y x) refl (has-first ys x) where
    at : (b : Bool) → same y x ≡ b → has same (first_of_each same ys) x ≡ has same ys x
        → (same y x || has same (filter (differs y) (first_of_each same ys)) x) ≡ (same y x || has same ys x)
    at true e rest = rw e refl
    at false e rest = ap (λ (b : Bool). same y x || b) (has-filter y x (first_of_each same ys) e ∙ rest)

  filter-none : (xs : List T) (x : T) → has same xs x ≡ false → filter (same x) xs ≡ []
  filter-none [] x e = refl
  filter-none (y ∷ ys) x e = at (same y x) refl (has same ys x) refl (filter-none ys x) where
    at : (b : Bool) → same y x ≡ b → (h : Bool) → has same ys x ≡ h → (has same ys x ≡ false → filter (same x) ys ≡ []) → filter (same x) (y ∷ ys) ≡ []
    at false e_y false e_ys rest = rw (laws.symm x y ∙ e_y) (rest e_ys)
    at true e_y h e_ys rest = absurd (true≢false (sym (ap (λ (b : Bool). b || has same ys x) e_y) ∙ e))
    at false e_y true e_ys rest = absurd (true≢false (sym e_ys ∙ sym (ap (λ (b : Bool). b || has same ys x) e_y) ∙ e))

  first-append : (xs : List T) (x : T) → first_of_each same (xs ++ x ∷ []) ≡ cond (has same (first_of_each same xs) x) (first_of_each same xs) (first_of_each same xs ++ x ∷ [])
  unfolding first_of_each
  first-append [] x = refl
  first-append (y ∷ ys) x = at (same y x) refl (has same (first_of_each same ys) x) refl (first-append ys x) where
    firsts : List T
    firsts = first_of_each same ys

    at : (b : Bool) → same y x ≡ b → (h : Bool) → has same (first_of_each same ys) x ≡ h
        → first_of_each same (ys ++ x ∷ []) ≡ cond (has same (first_of_each same ys) x) (first_of_each same ys) (first_of_each same ys ++ x ∷ [])
        → (y ∷ filter (differs y) (first_of_each same (ys ++ x ∷ []))) ≡ cond (same y x || has same (filter (differs y) (first_of_each same ys)) x) (y ∷ filter (differs y) (first_of_each same ys)) (y ∷ filter (differs y) (first_of_each same ys) ++ x ∷ [])
    at true e true k rest = rw e (ap (λ (fs : List T). y ∷ filter (differs y) fs) (rest ∙ rw k refl))
    at true e false k rest = rw e (ap (λ (fs : List T). y ∷ filter (differs y) fs) (rest ∙ rw k refl) ∙ ap (λ (fs : List T). y ∷ fs) (filter-append (differs y) (first_of_each same ys) (x ∷ []) ∙ rw e (append-nil (filter (differs y) (first_of_each same ys)))))
    at false e true k rest = rw (has-filter y x (first_of_each same ys) e ∙ k) (rw e (ap (λ (fs : List T). y ∷ filter (differs y) fs) (rest ∙ rw k refl)))
    at false e false k rest = rw (has-filter y x (first_of_each same ys) e ∙ k) (rw e (ap (λ (fs : List T). y ∷ filter (differs y) fs) (rest ∙ rw k refl) ∙ ap (λ (fs : List T). y ∷ fs) (filter-append (differs y) (first_of_each same ys) (x ∷ []) ∙ rw e refl)))

  -- ---- groups

  abbrev group : List T → T → T × List T
  group xs first = (first, filter (same first) xs)

  group-other : (xs : List T) (x f : T) → same f x ≡ false → group (xs ++ x ∷ []) f ≡ group xs f
  group-other xs x f e = ap (λ (members : List T). (f, members)) (filter-append (same f) xs (x ∷ []) ∙ rw e (append-nil (filter (same f) xs)))

  group-same : (xs : List T) (x f : T) → same f x ≡ true → group (xs ++ x ∷ []) f ≡ (f, filter (same f) xs ++ x ∷ [])
  group-same xs x f e = ap (λ (members : List T). (f, members)) (filter-append (same f) xs (x ∷ []) ∙ rw e refl)

  groups-absent : (fs xs : List T) (x : T) → has same fs x ≡ false → map (group (xs ++ x ∷ [])) fs ≡ map (group xs) fs
  groups-absent [] xs x e = refl
  groups-absent (f ∷ fs) xs x e = at (same f x) refl (groups-absent fs xs x) where
    at : (b : Bool) → same f x ≡ b → (has same fs x ≡ false → map (group (xs ++ x ∷ [])) fs ≡ map (group xs) fs) → map (group (xs ++ x ∷ [])) (f ∷ fs) ≡ map (group xs) (f ∷ fs)
    at true k rest = absurd (true≢false (sym (ap (λ (b : Bool). b || has same fs x) k) ∙ e))
    at false k rest = λ i. group-other xs x f k i ∷ rest (sym (ap (λ (b : Bool). b || has same fs x) k) ∙ e) i

  others-differ : (f x : T) (fs : List T) → same f x ≡ true → AllDiffer f fs → has same fs x ≡ false
  others-differ f x [] e a = refl
  others-differ f x (g ∷ fs) e a =
      (λ i. (laws.symm g x ∙ sym (laws.congr f x g e) ∙ a.0) i || others-differ f x fs e a.1 i)

  pub place-bound : (n : ℕ) (fs : List T) (x : T) (at : ℕ) → place_from same n fs x ≡ Some at → n ≤ at
  place-bound n [] x at e = absurd (none_or_some None at refl e)
  place-bound n (f ∷ fs) x at e = by (same f x) refl (place-bound (n + 1) fs x at) where
    by : (b : Bool) → same f x ≡ b → (place_from same (n + 1) fs x ≡ Some at → n + 1 ≤ at) → n ≤ at
    by true k rest = omega (arith, some_inside (sym (ap (λ (b : Bool). cond b (Some n) (place_from same (n + 1) fs x)) k) ∙ e))
    by false k rest = omega (arith, rest (sym (ap (λ (b : Bool). cond b (Some n) (place_from same (n + 1) fs x)) k) ∙ e))

  -- an item comes into the group of the first one that is the same
  groups-present : (n : ℕ) (fs xs : List T) (x : T) (at : ℕ) → Apart fs → place_from same n fs x ≡ Some at → map (group (xs ++ x ∷ [])) fs ≡ added_from n at x (map (group xs) fs)
  unfolding added_from
  groups-present n [] xs x at apart e = absurd (none_or_some None at refl e)
  groups-present n (f ∷ fs) xs x at apart e = by (same f x) refl (groups-present (n + 1) fs xs x at apart.1) where
    by : (b : Bool) → same f x ≡ b → (place_from same (n + 1) fs x ≡ Some at → map (group (xs ++ x ∷ [])) fs ≡ added_from (n + 1) at x (map (group xs) fs))
        → map (group (xs ++ x ∷ [])) (f ∷ fs) ≡ cond (n == at) ((f, filter (same f) xs ++ x ∷ []) ∷ map (group xs) fs) (group xs f ∷ added_from (n + 1) at x (map (group xs) fs))
    by true k rest =
        let here : n ≡ at = some_inside (sym (ap (λ (b : Bool). cond b (Some n) (place_from same (n + 1) fs x)) k) ∙ e) in
        (λ i. group-same xs x f k i ∷ groups-absent fs xs x (others-differ f x fs k apart.0) i)
        ∙ sym (ap (λ (b : Bool). cond b ((f, filter (same f) xs ++ x ∷ []) ∷ map (group xs) fs) (group xs f ∷ added_from (n + 1) at x (map (group xs) fs))) (eq-eqb n at here))
    by false k rest =
        let later : place_from same (n + 1) fs x ≡ Some at = sym (ap (λ (b : Bool). cond b (Some n) (place_from same (n + 1) fs x)) k) ∙ e in
        (λ i. group-other xs x f k i ∷ rest later i)
        ∙ sym (ap (λ (b : Bool). cond b ((f, filter (same f) xs ++ x ∷ []) ∷ map (group xs) fs) (group xs f ∷ added_from (n + 1) at x (map (group xs) fs))) (not_equal n at (omega (arith, place-bound (n + 1) fs x at later))))

  pub place-absent : (n : ℕ) (fs : List T) (x : T) → place_from same n fs x ≡ None → has same fs x ≡ false
  place-absent n [] x e = refl
  place-absent n (f ∷ fs) x e = by (same f x) refl (place-absent (n + 1) fs x) where
    by : (b : Bool) → same f x ≡ b → (place_from same (n + 1) fs x ≡ None → has same fs x ≡ false) → (same f x || has same fs x) ≡ false
    by true k rest = absurd (none_or_some (place_from same n (f ∷ fs) x) n e (ap (λ (b : Bool). cond b (Some n) (place_from same (n + 1) fs x)) k))
    by false k rest = ap (λ (b : Bool). b || has same fs x) k ∙ rest (sym (ap (λ (b : Bool). cond b (Some n) (place_from same (n + 1) fs x)) k) ∙ e)

  pub place-present : (n : ℕ) (fs : List T) (x : T) (at : ℕ) → place_from same n fs x ≡ Some at → has same fs x ≡ true
  place-present n [] x at e = absurd (none_or_some None at refl e)
  place-present n (f ∷ fs) x at e = by (same f x) refl (place-present (n + 1) fs x at) where
    by : (b : Bool) → same f x ≡ b → (place_from same (n + 1) fs x ≡ Some at → has same fs x ≡ true) → (same f x || has same fs x) ≡ true
    by true k rest = ap (λ (b : Bool). b || has same fs x) k
    by false k rest = ap (λ (b : Bool). b || has same fs x) k ∙ rest (sym (ap (λ (b : Bool). cond b (Some n) (place_from same (n + 1) fs x)) k) ∙ e)

  pub place-within : (n : ℕ) (fs : List T) (x : T) (at : ℕ) → place_from same n fs x ≡ Some at → at < n + length fs
  place-within n [] x at e = absurd (none_or_some None at refl e)
  place-within n (f ∷ fs) x at e = by (same f x) refl (place-within (n + 1) fs x at) where
    by : (b : Bool) → same f x ≡ b → (place_from same (n + 1) fs x ≡ Some at → at < n + 1 + length fs) → at < n + suc (length fs)
    by true k rest = omega (arith, some_inside (sym (ap (λ (b : Bool). cond b (Some n) (place_from same (n + 1) fs x)) k) ∙ e))
    by false k rest = omega (arith, rest (sym (ap (λ (b : Bool). cond b (Some n) (place_from same (n + 1) fs x)) k) ∙ e))

  -- behind a further one
  place-append : (n : ℕ) (fs : List T) (x q : T) → place_from same n fs x ≡ None → place_from same n (fs ++ x ∷ []) q ≡ cond (same x q) (Some (n + length fs)) (place_from same n fs q)
  place-append n [] x q e = ap (λ (m : ℕ). cond (same x q) (Some m) None) (omega arith)
  place-append n (f ∷ fs) x q e = by (same f x) refl (same f q) refl (same x q) refl (place-append (n + 1) fs x q) where
    by : (b : Bool) → same f x ≡ b → (c : Bool) → same f q ≡ c → (d : Bool) → same x q ≡ d
        → (place_from same (n + 1) fs x ≡ None → place_from same (n + 1) (fs ++ x ∷ []) q ≡ cond (same x q) (Some (n + 1 + length fs)) (place_from same (n + 1) fs q))
        → cond (same f q) (Some n) (place_from same (n + 1) (fs ++ x ∷ []) q) ≡ cond (same x q) (Some (n + suc (length fs))) (cond (same f q) (Some n) (place_from same (n + 1) fs q))
    by true k c l d m rest = absurd (none_or_some (place_from same n (f ∷ fs) x) n e (ap (λ (b : Bool). cond b (Some n) (place_from same (n + 1) fs x)) k))
    by false k true l true m rest = absurd (true≢false (sym l ∙ laws.symm f q ∙ sym (laws.congr x q f m) ∙ laws.symm x f ∙ k))
    by false k true l false m rest = rw l (rw m refl)
    by false k false l true m rest =
        let later = rest (sym (ap (λ (b : Bool). cond b (Some n) (place_from same (n + 1) fs x)) k) ∙ e) in
        ap (λ (b : Bool). cond b (Some n) (place_from same (n + 1) (fs ++ x ∷ []) q)) l ∙ later ∙ rw m (ap Some (omega arith))
    by false k false l false m rest =
        let later = rest (sym (ap (λ (b : Bool). cond b (Some n) (place_from same (n + 1) fs x)) k) ∙ e) in
        ap (λ (b : Bool). cond b (Some n) (place_from same (n + 1) (fs ++ x ∷ []) q)) l ∙ later ∙ rw m (rw l refl)

-- ---- a map from the keys of different items to their places

module _ {T K : Type 0} (same : T → T → Bool) (cmp : K → K → Ordering) (total : IsTotalOrder cmp) (key : T → K) (link : (a b : T) → is_eq (cmp (key a) (key b)) ≡ same a b) where
  pub laws_of_keys : IsEquivalence same
  laws_of_keys = record {
    refl = λ x. sym (link x x) ∙ (eq_by_cmp_equiv total).refl (key x);
    symm = λ x y. sym (link x y) ∙ (eq_by_cmp_equiv total).symm (key x) (key y) ∙ link y x;
    congr = λ x y z e. sym (link x z) ∙ (eq_by_cmp_equiv total).congr (key x) (key y) (key z) (link x y ∙ e) ∙ link y z;
  }

  -- the map has the place of each of these items, and nothing else
  abbrev pub HasPlaces : BTreeMap K ℕ → List T → Type 0
  HasPlaces m fs = (q : T) → get cmp m (key q) ≡ place_from same 0 fs q

  pub no_places : (m : BTreeMap K ℕ) → m.entries ≡ [] → HasPlaces m []
  no_places m e q = ap (λ (es : List (K × ℕ)). lookup (is_at (cmp (key q))) es) e

  pub places_append : (m m' : BTreeMap K ℕ) (fs : List T) (x : T) (len : ℕ) → len ≡ length fs → HasPlaces m fs → get cmp m (key x) ≡ None → Updates cmp m m' (key x) (Some len) → HasPlaces m' (fs ++ x ∷ [])
  places_append m m' fs x len e places absent updates q =
      updates.0 (key q)
      ∙ (λ i. cond (link x q i) (Some ((e ∙ zero_more (length fs)) i)) (places q i))
      ∙ sym (place-append same laws_of_keys 0 fs x q (sym (places x) ∙ absent))

  pub places_stay : (m m' : BTreeMap K ℕ) (fs : List T) → HasPlaces m fs → IsUnchanged m m' → HasPlaces m' fs
  places_stay m m' fs places same_entries q = ap (λ (es : List (K × ℕ)). lookup (is_at (cmp (key q))) es) same_entries ∙ places q

  -- ---- the first of each

  pub record AreFirst (m : BTreeMap K ℕ) (fs xs : List T) : Type 0 where
    pub firsts : fs ≡ first_of_each same xs
    pub places : HasPlaces m fs

  pub first_seen : (m m' : BTreeMap K ℕ) (fs xs : List T) (x : T) (at : ℕ) → AreFirst m fs xs → get cmp m (key x) ≡ Some at → IsUnchanged m m' → AreFirst m' fs (xs ++ x ∷ [])
  first_seen m m' fs xs x at so_far found unchanged = record {
    firsts = so_far.firsts ∙ sym (first-append same laws_of_keys xs x ∙ rw (ap (λ (gs : List T). has same gs x) (sym so_far.firsts) ∙ place-present same laws_of_keys 0 fs x at (sym (so_far.places x) ∙ found)) refl);
    places = places_stay m m' fs so_far.places unchanged;
  }

  pub first_new : (m m' : BTreeMap K ℕ) (fs xs : List T) (x : T) (len : ℕ) → len ≡ length fs → AreFirst m fs xs → get cmp m (key x) ≡ None → Updates cmp m m' (key x) (Some len) → AreFirst m' (fs ++ x ∷ []) (xs ++ x ∷ [])
  first_new m m' fs xs x len e so_far absent updates = record {
    firsts = ap (λ (gs : List T). gs ++ x ∷ []) so_far.firsts ∙ sym (first-append same laws_of_keys xs x ∙ rw (ap (λ (gs : List T). has same gs x) (sym so_far.firsts) ∙ place-absent same laws_of_keys 0 fs x (sym (so_far.places x) ∙ absent)) refl);
    places = places_append m m' fs x len e so_far.places absent updates;
  }

  pub none_first : (m : BTreeMap K ℕ) (fs : List T) → m.entries ≡ [] → fs ≡ [] → AreFirst m fs []
  unfolding first_of_each
  none_first m fs empty none = record { firsts = none; places = λ q. no_places m empty q ∙ sym (ap (λ (gs : List T). place_from same 0 gs q) none) }

  pub first_stays : (m m' : BTreeMap K ℕ) (fs xs : List T) (x : T) (k : K) (found : Option ℕ) → is_some found ≡ true → k ≡ key x → AreFirst m fs xs → found ≡ get cmp m k → (IsSome found → IsUnchanged m m') → AreFirst m' fs (xs ++ x ∷ [])
  first_stays m m' fs xs x k None there of_x so_far is unchanged = absurd (true≢false (sym there))
  first_stays m m' fs xs x k (Some at) there of_x so_far is unchanged = first_seen m m' fs xs x at so_far (sym (is ∙ ap (get cmp m) of_x)) (unchanged refl)

  pub first_grows : (m m' : BTreeMap K ℕ) (fs xs : List T) (x : T) (k : K) (found : Option ℕ) (len : ℕ) → is_some found ≡ false → k ≡ key x → len ≡ length fs → AreFirst m fs xs → found ≡ get cmp m k
      → (found ≡ None → Updates cmp m m' k (Some len)) → AreFirst m' (fs ++ x ∷ []) (xs ++ x ∷ [])
  first_grows m m' fs xs x k None len absent of_x is_len so_far is updates =
      first_new m m' fs xs x len is_len so_far (sym (is ∙ ap (get cmp m) of_x)) (subst (λ (q : K). Updates cmp m m' q (Some len)) of_x (updates refl))
  first_grows m m' fs xs x k (Some at) len absent of_x is_len so_far is updates = absurd (true≢false absent)

  -- ---- groups

  pub record AreGrouped (m : BTreeMap K ℕ) (groups : List (T × List T)) (xs : List T) : Type 0 where
    pub grouped : groups ≡ together same xs
    pub first : AreFirst m (first_of_each same xs) xs

  pub group_within : (m : BTreeMap K ℕ) (groups : List (T × List T)) (xs : List T) (x : T) (found : Option ℕ) → AreGrouped m groups xs → found ≡ get cmp m (key x) → IfSome found (λ at. at < length groups)
  unfolding together
  group_within m groups xs x None so_far e = tt
  group_within m groups xs x (Some at) so_far e =
      omega (arith, ap length so_far.grouped ∙ length-map (first_of_each same xs) (λ first. (first, filter (same first) xs)), place-within same laws_of_keys 0 (first_of_each same xs) x at (sym (so_far.first.places x) ∙ sym e))

  pub group_entered : (m m' : BTreeMap K ℕ) (groups groups' : List (T × List T)) (xs : List T) (x : T) (found : Option ℕ) (len : ℕ) → len ≡ length groups → AreGrouped m groups xs → found ≡ get cmp m (key x)
      → (IsSome found → IsUnchanged m m') → (found ≡ None → Updates cmp m m' (key x) (Some len)) → groups' ≡ entered found x groups → AreGrouped m' groups' (xs ++ x ∷ [])
  unfolding together entered
  group_entered m m' groups groups' xs x None len is_len so_far e unchanged updates enters =
      let fs = first_of_each same xs in
      let absent : place_from same 0 fs x ≡ None = sym (so_far.first.places x) ∙ sym e in
      let none : has same fs x ≡ false = place-absent same laws_of_keys 0 fs x absent in
      let firsts : first_of_each same (xs ++ x ∷ []) ≡ fs ++ x ∷ [] = first-append same laws_of_keys xs x ∙ rw none refl in
      let long : len ≡ length fs = is_len ∙ ap length so_far.grouped ∙ length-map fs (λ first. (first, filter (same first) xs)) in
      record {
        grouped =
            enters ∙ ap (λ (gs : List (T × List T)). gs ++ (x, x ∷ []) ∷ []) (so_far.grouped ∙ sym (groups-absent same laws_of_keys fs xs x none))
            ∙ ap (λ (members : List T). map (λ first. (first, filter (same first) (xs ++ x ∷ []))) fs ++ (x, members) ∷ [])
            (sym (filter-append (same x) xs (x ∷ []) ∙ (λ i. filter-none same laws_of_keys xs x (sym (has-first same laws_of_keys xs x) ∙ none) i ++ filter (same x) (x ∷ [])) ∙ rw (laws_of_keys.refl x) refl))
            ∙ sym (map-append (λ first. (first, filter (same first) (xs ++ x ∷ []))) fs (x ∷ []))
            ∙ ap (map (λ first. (first, filter (same first) (xs ++ x ∷ [])))) (sym firsts);
        first = subst (λ (gs : List T). AreFirst m' gs (xs ++ x ∷ [])) (sym firsts) (first_new m m' fs xs x len long so_far.first (sym e) (updates refl));
      }
  group_entered m m' groups groups' xs x (Some at) len is_len so_far e unchanged updates enters =
      let fs = first_of_each same xs in
      let present : place_from same 0 fs x ≡ Some at = sym (so_far.first.places x) ∙ sym e in
      let firsts : first_of_each same (xs ++ x ∷ []) ≡ fs = first-append same laws_of_keys xs x ∙ rw (place-present same laws_of_keys 0 fs x at present) refl in
      record {
        grouped =
            enters ∙ ap (added_from 0 at x) so_far.grouped ∙ sym (groups-present same laws_of_keys 0 fs xs x at (first_apart same laws_of_keys xs) present)
            ∙ ap (map (λ first. (first, filter (same first) (xs ++ x ∷ [])))) (sym firsts);
        first = subst (λ (gs : List T). AreFirst m' gs (xs ++ x ∷ [])) (sym firsts) (first_seen m m' fs xs x at so_far.first (sym e) (unchanged refl));
      }

  pub no_groups : (m : BTreeMap K ℕ) (groups : List (T × List T)) → m.entries ≡ [] → groups ≡ [] → AreGrouped m groups []
  unfolding together first_of_each
  no_groups m groups empty none = record { grouped = none; first = none_first m [] empty refl }
