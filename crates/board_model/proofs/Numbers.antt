-- Numbers of items and their keys.
use Rattle.std.proofs.Common.{◌≡◌, ◌≤◌, ◌<◌, ◌∙◌, ◌⊎◌, inl, inr, ℕ, zero, suc, ◌+◌, List, [], ◌∷◌, ◌++◌, length, Some, refl, sym, ap, subst, arith}
use Rattle.std.specs.Prelude.{slice_get}
use Rattle.acq_base.specs.declared.plan.Source.{Source}
use Rattle.acq_base.specs.declared.plan.Target.{Target}
use Rattle.board_model.specs.Keys.{keys_from, keys_in, places_from}
use Rattle.board_model.specs.declared.key.Key.{Key}

-- the number of the Release of a source
abbrev pub base : List Source → ℕ → ℕ
base [] n = 0
base (source ∷ sources) zero = 0
base (source ∷ sources) (suc n) = suc (length source.targets) + base sources n

pub record IsNumbered (sources : List Source) (first number : ℕ) (key : Key) : Type 0 where
  pub n : ℕ
  pub source : Source
  pub there : slice_get sources n ≡ Some source
  pub source_is : key.source ≡ first + n
  pub place : key.place ≤ length source.targets
  pub number_is : number ≡ base sources n + key.place

get-append : {A : Type 0} (xs ys : List A) (n : ℕ) (y : A) → slice_get (xs ++ ys) n ≡ Some y
    → (slice_get xs n ≡ Some y) ⊎ ((m : ℕ) × (n ≡ length xs + m) × (slice_get ys m ≡ Some y))
get-append [] ys n y e = inr (n, omega arith, e)
get-append (x ∷ xs) ys zero y e = inl e
get-append (x ∷ xs) ys (suc n) y e = one (get-append xs ys n y e)
  where
    one : (slice_get xs n ≡ Some y) ⊎ ((m : ℕ) × (n ≡ length xs + m) × (slice_get ys m ≡ Some y))
        → (slice_get xs n ≡ Some y) ⊎ ((m : ℕ) × (suc n ≡ length (x ∷ xs) + m) × (slice_get ys m ≡ Some y))
    one (inl e) = inl e
    one (inr (m, is, e)) = inr (m, omega (arith, is), e)

place-at : (s place : ℕ) (targets : List Target) (n : ℕ) (key : Key) → slice_get (places_from s place targets) n ≡ Some key
    → (key.source ≡ s) × (key.place ≡ place + n) × (n < length targets)
place-at s place [] n key e = absurd (cc)
place-at s place (target ∷ targets) zero key e =
    let same : record { source = s; place = place } ≡ key = cc in
    (sym (ap (λ (k : Key). k.source) same), sym (ap (λ (k : Key). k.place) same) ∙ omega arith, omega arith)
place-at s place (target ∷ targets) (suc n) key e =
    let rest = place-at s (suc place) targets n key e in
    (rest.0, rest.1 ∙ omega arith, omega (arith, rest.2))

pub length-places : (s place : ℕ) (targets : List Target) → length (places_from s place targets) ≡ length targets
length-places s place [] = refl
length-places s place (target ∷ targets) = ap suc (length-places s (suc place) targets)

in-source : (s : ℕ) (source : Source) (n : ℕ) (key : Key) → slice_get (keys_in s source) n ≡ Some key → (key.source ≡ s) × (key.place ≡ n) × (n ≤ length source.targets)
in-source s source zero key e =
    let same : record { source = s; place = 0 } ≡ key = cc in
    (sym (ap (λ (k : Key). k.source) same), sym (ap (λ (k : Key). k.place) same), omega arith)
in-source s source (suc n) key e =
    let rest = place-at s 1 source.targets n key e in
    (rest.0, rest.1 ∙ omega arith, omega (arith, rest.2))

pub numbered : (sources : List Source) (first number : ℕ) (key : Key) → slice_get (keys_from first sources) number ≡ Some key → IsNumbered sources first number key
numbered [] first number key e = absurd (cc)
numbered (source ∷ sources) first number key e = one (numbered sources (suc first)) (get-append (keys_in first source) (keys_from (suc first) sources) number key e)
  where
    one : ((m : ℕ) (k : Key) → slice_get (keys_from (suc first) sources) m ≡ Some k → IsNumbered sources (suc first) m k)
        → (slice_get (keys_in first source) number ≡ Some key) ⊎ ((m : ℕ) × (number ≡ length (keys_in first source) + m) × (slice_get (keys_from (suc first) sources) m ≡ Some key))
        → IsNumbered (source ∷ sources) first number key
    one find (inl e) =
        let here = in-source first source number key e in
        record { n = 0; source = source; there = refl; source_is = here.0 ∙ omega arith; place = subst (λ (k : ℕ). k ≤ length source.targets) (sym here.1) here.2; number_is = omega arith }
    one find (inr (m, is, e)) =
        let rest = find m key e in
        let places : length (keys_in first source) ≡ suc (length source.targets) = ap suc (length-places first 1 source.targets) in
        let before : number ≡ suc (length source.targets) + m = is ∙ ap (λ (k : ℕ). k + m) places in
        let behind = rest.number_is in
        record {
          n = suc rest.n;
          source = rest.source;
          there = rest.there;
          source_is = rest.source_is ∙ omega arith;
          place = rest.place;
          number_is = omega (arith, before, behind);
        }

-- ---- and back

pub get-behind : {A : Type 0} (xs ys : List A) (m : ℕ) → slice_get (xs ++ ys) (length xs + m) ≡ slice_get ys m
get-behind [] ys m = ap (slice_get ys) (omega arith)
get-behind (x ∷ xs) ys m =
    let at : length (x ∷ xs) + m ≡ suc (length xs + m) = omega arith in
    ap (slice_get ((x ∷ xs) ++ ys)) at ∙ get-behind xs ys m

pub get-front : {A : Type 0} (xs ys : List A) (n : ℕ) (x : A) → slice_get xs n ≡ Some x → slice_get (xs ++ ys) n ≡ Some x
get-front [] ys n x e = absurd (cc)
get-front (y ∷ xs) ys zero x e = e
get-front (y ∷ xs) ys (suc n) x e = get-front xs ys n x e

place-there : (s place : ℕ) (targets : List Target) (n : ℕ) → n < length targets → slice_get (places_from s place targets) n ≡ Some (record { source = s; place = place + n })
place-there s place [] n below = absurd (omega (arith, below))
place-there s place (target ∷ targets) zero below = ap (λ (k : ℕ). Some (record { source = s; place = k })) (omega arith)
place-there s place (target ∷ targets) (suc n) below =
    place-there s (suc place) targets n (omega (arith, below)) ∙ ap (λ (k : ℕ). Some (record { source = s; place = k })) (omega arith)

pub key-in : (s : ℕ) (source : Source) (p : ℕ) → p ≤ length source.targets → slice_get (keys_in s source) p ≡ Some (record { source = s; place = p })
key-in s source zero few = refl
key-in s source (suc p) few = place-there s 1 source.targets p (omega (arith, few)) ∙ ap (λ (k : ℕ). Some (record { source = s; place = k })) (omega arith)

pub key-there : (sources : List Source) (first n p : ℕ) (source : Source) → slice_get sources n ≡ Some source → p ≤ length source.targets
    → slice_get (keys_from first sources) (base sources n + p) ≡ Some (record { source = first + n; place = p })
key-there [] first n p source e few = absurd (cc)
key-there (x ∷ sources) first zero p source e few =
    let same : x ≡ source = cc in
    let fits : p ≤ length x.targets = subst (λ (s : Source). p ≤ length s.targets) (sym same) few in
    ap (slice_get (keys_in first x ++ keys_from (suc first) sources)) (omega arith)
    ∙ get-front (keys_in first x) (keys_from (suc first) sources) p (record { source = first; place = p }) (key-in first x p fits)
    ∙ ap (λ (k : ℕ). Some (record { source = k; place = p })) (omega arith)
key-there (x ∷ sources) first (suc n) p source e few =
    let places : length (keys_in first x) ≡ suc (length x.targets) = ap suc (length-places first 1 x.targets) in
    let at : suc (length x.targets) + base sources n + p ≡ length (keys_in first x) + (base sources n + p) = omega (arith, places) in
    ap (slice_get (keys_in first x ++ keys_from (suc first) sources)) at
    ∙ get-behind (keys_in first x) (keys_from (suc first) sources) (base sources n + p)
    ∙ key-there sources (suc first) n p source e few
    ∙ ap (λ (k : ℕ). Some (record { source = k; place = p })) (omega arith)
