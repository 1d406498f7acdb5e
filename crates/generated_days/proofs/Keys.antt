-- Notes by the items that heard them: each is counted with just one item.
use Rattle.std.proofs.Common.{◌≡◌, ◌≢◌, ◌≤◌, ◌<◌, ℕ, zero, suc, ◌+◌, ◌==◌, Bool, true, false, List, [], ◌∷◌, ◌++◌, length, Contains, refl, sym, ap, subst, arith}
use Rattle.std.specs.Prelude.{if◌then◌else◌}
use Rattle.std.specs.List.{slice_index_or, AllByRecursion as Each}
use Rattle.std.proofs.lemmas.Bool.Decides.{nat_tests}
use Rattle.std.proofs.lemmas.Bool.{and_parts, eqb-true}
use Rattle.acq_base.specs.declared.plan.Source.{Source}
use Rattle.acq_base.specs.declared.plan.Target.{Target}
use Rattle.board_model.specs.Keys.{keys_from, keys_in, places_from, same_key}
use Rattle.board_model.specs.Runs.{Note}
use Rattle.board_model.specs.Stands.{of_key}
use Rattle.board_model.specs.declared.key.Key.{Key}
use Rattle.board_model.proofs.Hearing.{same-refl}

-- how many notes are of these items
abbrev pub heard_by : List Key → List Note → ℕ
heard_by [] notes = 0
heard_by (key ∷ keys) notes = length (of_key key notes) + heard_by keys notes

pub heard-append : (xs ys : List Key) (notes : List Note) → heard_by (xs ++ ys) notes ≡ heard_by xs notes + heard_by ys notes
heard-append [] ys notes = omega arith
heard-append (x ∷ xs) ys notes = let rest = heard-append xs ys notes in omega (arith, rest)

-- ---- how often a key stands in a list

abbrev one_if : Bool → ℕ
one_if true = 1
one_if false = 0

abbrev times : Key → List Key → ℕ
times key [] = 0
times key (other ∷ keys) = one_if (same_key key other) + times key keys

times-append : (key : Key) (xs ys : List Key) → times key (xs ++ ys) ≡ times key xs + times key ys
times-append key [] ys = omega arith
times-append key (x ∷ xs) ys = let rest = times-append key xs ys in omega (arith, rest)

is-there : (keys : List Key) (key : Key) → Contains keys key → 1 ≤ times key keys
is-there [] key c = absurd (omega (arith, c.1))
is-there (other ∷ keys) key c = at c.0 c.1 c.2 (λ d. is-there keys key d)
  where
    at : (k : ℕ) → k < length (other ∷ keys) → slice_index_or (other ∷ keys) k key ≡ key → (Contains keys key → 1 ≤ times key keys) → 1 ≤ times key (other ∷ keys)
    at zero below is more =
        let same : same_key key other ≡ true = subst (λ (o : Key). same_key key o ≡ true) (sym is) (same-refl key) in
        let one : one_if (same_key key other) ≡ 1 = ap one_if same in
        omega (arith, one)
    at (suc k) below is more = let rest = more (k, omega (arith, below), is) in omega (arith, rest)

-- a test, and what it shows
counted : (P : ℕ → Type 0) (c : Bool) → (c ≡ true → P 1) → (c ≡ false → P 0) → P (one_if c)
counted P true one none = one refl
counted P false one none = none refl

-- none of a place that lies before all these, or of another source
none-before : (key : Key) (source place : ℕ) (targets : List Target) → key.place < place → times key (places_from source place targets) ≡ 0
none-before key source place [] low = refl
none-before key source place (t ∷ ts) low =
    let rest = none-before key source (suc place) ts (omega (arith, low)) in
    counted (λ n. n + times key (places_from source (suc place) ts) ≡ 0) (same_key key (record { source = source; place = place }))
    (λ same. let is = eqb-true key.place place (and_parts (key.source == source) (key.place == place) same).1 in absurd (omega (arith, is, low)))
    (λ other. omega (arith, rest))

none-elsewhere : (key : Key) (source place : ℕ) (targets : List Target) → key.source ≢ source → times key (places_from source place targets) ≡ 0
none-elsewhere key source place [] far = refl
none-elsewhere key source place (t ∷ ts) far =
    let rest = none-elsewhere key source (suc place) ts far in
    counted (λ n. n + times key (places_from source (suc place) ts) ≡ 0) (same_key key (record { source = source; place = place }))
    (λ same. absurd (far (eqb-true key.source source (and_parts (key.source == source) (key.place == place) same).0)))
    (λ other. omega (arith, rest))

once-in-places : (key : Key) (source place : ℕ) (targets : List Target) → times key (places_from source place targets) ≤ 1
once-in-places key source place [] = omega arith
once-in-places key source place (t ∷ ts) =
    let rest = once-in-places key source (suc place) ts in
    counted (λ n. n + times key (places_from source (suc place) ts) ≤ 1) (same_key key (record { source = source; place = place }))
    (λ same. let is = eqb-true key.place place (and_parts (key.source == source) (key.place == place) same).1 in
    let none = none-before key source (suc place) ts (omega (arith, is)) in omega (arith, none))
    (λ other. omega (arith, rest))

once-in-source : (key : Key) (n : ℕ) (source : Source) → times key (keys_in n source) ≤ 1
once-in-source key n source =
    let rest = once-in-places key n 1 source.targets in
    counted (λ k. k + times key (places_from n 1 source.targets) ≤ 1) (same_key key (record { source = n; place = 0 }))
    (λ same. let is = eqb-true key.place 0 (and_parts (key.source == n) (key.place == 0) same).1 in
    let none = none-before key n 1 source.targets (omega (arith, is)) in omega (arith, none))
    (λ other. omega (arith, rest))

none-in-source : (key : Key) (n : ℕ) (source : Source) → key.source ≢ n → times key (keys_in n source) ≡ 0
none-in-source key n source far =
    let rest = none-elsewhere key n 1 source.targets far in
    counted (λ k. k + times key (places_from n 1 source.targets) ≡ 0) (same_key key (record { source = n; place = 0 }))
    (λ same. absurd (far (eqb-true key.source n (and_parts (key.source == n) (key.place == 0) same).0)))
    (λ other. omega (arith, rest))

none-behind : (key : Key) (n : ℕ) (sources : List Source) → key.source < n → times key (keys_from n sources) ≡ 0
none-behind key n [] low = refl
none-behind key n (s ∷ sources) low =
    let first = none-in-source key n s (λ is. omega (arith, is, low)) in
    let rest = none-behind key (suc n) sources (omega (arith, low)) in
    let all = times-append key (keys_in n s) (keys_from (suc n) sources) in
    omega (arith, first, rest, all)

pub once-in-all : (key : Key) (n : ℕ) (sources : List Source) → times key (keys_from n sources) ≤ 1
once-in-all key n [] = omega arith
once-in-all key n (s ∷ sources) = by (key.source == n) refl (once-in-all key (suc n) sources)
  where
    all : times key (keys_in n s ++ keys_from (suc n) sources) ≡ times key (keys_in n s) + times key (keys_from (suc n) sources)
    all = times-append key (keys_in n s) (keys_from (suc n) sources)

    by : (c : Bool) → (key.source == n) ≡ c → times key (keys_from (suc n) sources) ≤ 1 → times key (keys_from n (s ∷ sources)) ≤ 1
    by true same later =
        let is = eqb-true key.source n same in
        let first = once-in-source key n s in
        let rest = none-behind key (suc n) sources (omega (arith, is)) in
        omega (arith, all, first, rest)
    by false other later =
        let first = none-in-source key n s (λ is. apart is other) in
        omega (arith, all, first, later)
      where
        apart : key.source ≡ n → (key.source == n) ≡ false → ⊥
        apart is e = grind (arith, nat_tests, is, e)

-- ---- notes

one-more : (keys : List Key) (note : Note) (notes : List Note) → heard_by keys (note ∷ notes) ≡ times note.key keys + heard_by keys notes
one-more [] note notes = omega arith
one-more (key ∷ keys) note notes =
    let rest = one-more keys note notes in
    let here = by (same_key note.key key) in
    omega (arith, rest, here)
  where
    by : (c : Bool) → length (if c then note ∷ of_key key notes else of_key key notes) ≡ one_if c + length (of_key key notes)
    by true = omega arith
    by false = omega arith

none-heard : (keys : List Key) → heard_by keys [] ≡ 0
none-heard [] = refl
none-heard (key ∷ keys) = let rest = none-heard keys in omega (arith, rest)

-- where each note is of one of these items, and each item stands there once, all notes are counted
pub all-heard : (keys : List Key) → ((key : Key) → times key keys ≤ 1) → (notes : List Note) → Each (λ note. Contains keys note.key) notes → length notes ≡ heard_by keys notes
all-heard keys once [] there = sym (none-heard keys)
all-heard keys once (note ∷ notes) there =
    let rest = all-heard keys once notes there.1 in
    let more = one-more keys note notes in
    let least = is-there keys note.key there.0 in
    let most = once note.key in
    omega (arith, rest, more, least, most)

pub all-notes : (sources : List Source) (notes : List Note) → Each (λ note. Contains (keys_from 0 sources) note.key) notes → length notes ≡ heard_by (keys_from 0 sources) notes
all-notes sources notes there = all-heard (keys_from 0 sources) (λ key. once-in-all key 0 sources) notes there
