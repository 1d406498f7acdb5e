-- Names compared in the order of their keys: there a field that repeats a name stands right behind one of that name.
use Rattle.std.proofs.Common.{◌≡◌, ◌⊎◌, inl, inr, ℕ, ◌+◌, ◌<◌, ◌≤◌, zero, suc, length, take, drop, Bool, true, false, cond, ◌||◌, ◌&&◌, nat_le, nat_lt, nat_eq, nat_cmp, List, [], ◌∷◌, ◌++◌, Option, Some, None, Less, Equal, Greater, refl, sym, ap, subst, ◌∙◌, append_assoc, arith}
use Rattle.std.specs.declared.cmp.Ordering.{Ordering}
use Rattle.std.specs.List.{list_any}
use Rattle.std.specs.List.Sorted.{IsPermutation, IsSorted}
use Rattle.std.specs.Ordering.{is_lt, is_eq, ordering_then, ordering_reverse}
use Rattle.std.specs.Str.{str_eq_ignore_ascii_case, str_to_ascii_lowercase}
use Rattle.std.specs.FinMap.{nat_cmp-IsAntisymmetric}
use Rattle.std.specs.Cmp.{IsTotalOrder, alike_right, tied_back, tied_itself}
use Rattle.std.specs.Cmp.Lexicographic.{slice_cmp, pointwise, bytes_decides, on_texts}
use Rattle.std.proofs.lemmas.Cmp.{nat_cmp_total, on_total, then_total}
use Rattle.std.proofs.lemmas.Bool.{eqb-true, eq-eqb, false≢true, true≢false, leb-true, leb-false, ltb-true, lt-ltb, and_parts, or_left, or_right}
use lib.ListN.{get_or}
use Rattle.std.proofs.lemmas.List.{append-nil, take-append-drop, drop_more, length-append, length-take}
use Rattle.std.proofs.lemmas.List.Folds.{list_any-append}
use Rattle.std.proofs.lemmas.List.Sorted.{list_any-IsPermutation, IsPermutation-sym}
use Rattle.std.proofs.lemmas.Map.Keys.{ge_from_not_lt}
use Rattle.std.proofs.lemmas.Map.Text.{is_eq-slice_cmp}
use Rattle.deb822_text.specs.declared.paragraph.Field.{Field}
use Rattle.deb822_text.specs.declared.repeated.Key.{Key}
use Rattle.deb822_text.specs.declared.error.TextError.{TextError}
use Rattle.deb822_text.specs.declared.error.TextError.TheVariants.{Twice}
use Rattle.deb822_text.specs.Control.{has_name, or_else}
use Rattle.deb822_text.proofs.Steps.{names_of-push}
use Rattle.deb822_text.proofs.Repeats.{repeated-at}
use Rattle.deb822_text.specs.Names.{names_of, name_fault, repeated_behind, repeated, digest_of, keys_from, keys_of, key_cmp, is_repeated, lesser, next_place, least_place}

-- the least place of keys from a place on
pub least_on : (keys : List Key) (at : ℕ) → at < length keys → least_place (drop at keys) ≡ lesser (next_place (drop at keys)) (least_place (drop (at + 1) keys))
least_on [] at within = absurd (omega (arith, within))
least_on (key ∷ keys) at within =
    subst (λ (rest : List Key). least_place rest ≡ lesser (next_place rest) (least_place (drop (at + 1) (key ∷ keys)))) (sym (drop_more (key ∷ keys) at key within)) refl

-- ---- the order of keys

-- by digest and name alone
abbrev name_cmp : Key → Key → Ordering
name_cmp a b = ordering_then (nat_cmp a.digest b.digest) (slice_cmp nat_cmp a.name b.name)

name_total : IsTotalOrder name_cmp
name_total = then_total (on_total (λ (key : Key). key.digest) nat_cmp_total) (on_texts (λ (key : Key). key.name))

then-assoc : (a b c : Ordering) → ordering_then a (ordering_then b c) ≡ ordering_then (ordering_then a b) c
then-assoc Less b c = refl
then-assoc Equal b c = refl
then-assoc Greater b c = refl

-- a key of a lesser name, or of the same one and at an earlier place or the same
abbrev IsUpTo : Key → Key → Type 0
IsUpTo a b = (name_cmp a b ≡ Less) ⊎ ((name_cmp a b ≡ Equal) × (a.place ≤ b.place))

up_to-trans : (a b c : Key) → IsUpTo a b → IsUpTo b c → IsUpTo a c
up_to-trans a b c (inl x) (inl y) = inl (name_total.trans a b c x y)
up_to-trans a b c (inl x) (inr y) = inl (sym (alike_right name_total b c a y.0) ∙ x)
up_to-trans a b c (inr x) (inl y) = inl (name_total.congr a b c x.0 ∙ y)
up_to-trans a b c (inr x) (inr y) = inr (name_total.congr a b c x.0 ∙ y.0, omega (arith, x.1, y.1))

up_to-sorted : (x y : Key) → is_lt (key_cmp y x) ≡ false → IsUpTo x y
up_to-sorted x y e = cases (name_cmp y x) refl
  where
    split : key_cmp y x ≡ ordering_then (name_cmp y x) (nat_cmp y.place x.place)
    split = then-assoc (nat_cmp y.digest x.digest) (slice_cmp nat_cmp y.name x.name) (nat_cmp y.place x.place)

    cases : (o : Ordering) → name_cmp y x ≡ o → IsUpTo x y
    cases Less is = absurd (false≢true (sym e ∙ ap is_lt split ∙ ap (λ (o : Ordering). is_lt (ordering_then o (nat_cmp y.place x.place))) is))
    cases Equal is = inr (tied_back name_total y x is, ge_from_not_lt y.place x.place (sym (ap is_lt split ∙ ap (λ (o : Ordering). is_lt (ordering_then o (nat_cmp y.place x.place))) is) ∙ e))
    cases Greater is = inl (name_total.antisymm x y ∙ ap ordering_reverse is)

abbrev Rising : List Key → Type 0
Rising [] = Unit {0}
Rising (x ∷ []) = Unit {0}
Rising (x ∷ y ∷ more) = IsUpTo x y × Rising (y ∷ more)

rising : (keys : List Key) → IsSorted key_cmp keys → Rising keys
rising [] sorted = tt
rising (x ∷ []) sorted = tt
rising (x ∷ y ∷ more) sorted = (up_to-sorted x y (sorted 0 x (omega arith) (omega arith)), rising (y ∷ more) (λ k d low high. subst (λ n. is_lt (key_cmp (get_or (x ∷ y ∷ more) n d) (get_or (y ∷ more) k d)) ≡ false) (one_on k) (sorted (suc k) d (omega arith) (omega (arith, high)))))
  where
    one_on : (k : ℕ) → suc k + 1 ≡ suc (k + 1)
    one_on k = omega arith

-- ---- keys that are there

-- the key is of this name and at this place
abbrev is_key : Key → Key → Bool
is_key wanted key = is_eq (name_cmp key wanted) && nat_eq key.place wanted.place

abbrev Has : List Key → Key → Type 0
Has keys wanted = list_any (is_key wanted) keys ≡ true

equal_told : (o : Ordering) → is_eq o ≡ true → o ≡ Equal
equal_told Less e = absurd cc
equal_told Equal e = refl
equal_told Greater e = absurd cc

key_parts : (wanted key : Key) → is_key wanted key ≡ true → (name_cmp key wanted ≡ Equal) × (key.place ≡ wanted.place)
key_parts wanted key e =
    (equal_told (name_cmp key wanted) (and_parts (is_eq (name_cmp key wanted)) (nat_eq key.place wanted.place) e).0, eqb-true key.place wanted.place (and_parts (is_eq (name_cmp key wanted)) (nat_eq key.place wanted.place) e).1)

first_or_more : (a b : Bool) → (a || b) ≡ true → (a ≡ true) ⊎ ((a ≡ false) × (b ≡ true))
first_or_more true b e = inl refl
first_or_more false b e = inr (refl, e)

here : (wanted key : Key) → is_key wanted key ≡ true → IsUpTo key wanted
here wanted key e = let parts = key_parts wanted key e in inr (parts.0, omega (arith, parts.1))

up_to-there : (key : Key) (keys : List Key) → Rising (key ∷ keys) → (wanted : Key) → Has (key ∷ keys) wanted → IsUpTo key wanted
up_to-there key [] up wanted has = elim (first_or_more (is_key wanted key) false has) [ inl is ↦ here wanted key is | inr other ↦ absurd (false≢true other.1) ]
up_to-there key (next ∷ more) up wanted has = elim (first_or_more (is_key wanted key) (list_any (is_key wanted) (next ∷ more)) has) [
  | inl is ↦ here wanted key is
  | inr behind ↦ up_to-trans key next wanted up.0 (up_to-there next more up.1 wanted behind.1)
]

-- ---- the least place

abbrev IsAtMost : Option ℕ → ℕ → Type 0
IsAtMost None bound = ⊥
IsAtMost (Some place) bound = place ≤ bound

lesser-left : (a b : Option ℕ) (bound : ℕ) → IsAtMost a bound → IsAtMost (lesser a b) bound
lesser-left None b bound h = absurd h
lesser-left (Some a) None bound h = h
lesser-left (Some a) (Some b) bound h = pick (nat_le a b) refl
  where
    pick : (t : Bool) → nat_le a b ≡ t → IsAtMost (cond t (Some a) (Some b)) bound
    pick true is = h
    pick false is = omega (arith, leb-false a b is, h)

lesser-right : (a b : Option ℕ) (bound : ℕ) → IsAtMost b bound → IsAtMost (lesser a b) bound
lesser-right None b bound h = h
lesser-right (Some a) None bound h = absurd h
lesser-right (Some a) (Some b) bound h = pick (nat_le a b) refl
  where
    pick : (t : Bool) → nat_le a b ≡ t → IsAtMost (cond t (Some a) (Some b)) bound
    pick true is = omega (arith, leb-true a b is, h)
    pick false is = h

-- ---- keys of one name

then_equal : (p q : Ordering) → ordering_then p q ≡ Equal → (p ≡ Equal) × (q ≡ Equal)
then_equal Less q e = absurd cc
then_equal Equal q e = (refl, e)
then_equal Greater q e = absurd cc

texts_same : (xs ys : List ℕ) → slice_cmp nat_cmp xs ys ≡ Equal → xs ≡ ys
texts_same xs ys e = (bytes_decides xs ys).0 (sym (is_eq-slice_cmp xs ys) ∙ ap is_eq e)

names_same : (a b : Key) → name_cmp a b ≡ Equal → (a.digest ≡ b.digest) × (a.name ≡ b.name)
names_same a b e = let parts = then_equal (nat_cmp a.digest b.digest) (slice_cmp nat_cmp a.name b.name) e in (nat_cmp-IsAntisymmetric a.digest b.digest parts.0, texts_same a.name b.name parts.1)

repeated_told : (key next : Key) → name_cmp key next ≡ Equal → key.place < next.place → is_repeated key next ≡ true
repeated_told key next same later =
    let parts = names_same key next same in
    rw (eq-eqb key.digest next.digest parts.0, (bytes_decides key.name next.name).1 parts.1, lt-ltb key.place next.place later) refl

less_not_equal : (a b : Key) → name_cmp a b ≡ Less → name_cmp a b ≡ Equal → ⊥
less_not_equal a b less equal = absurd (true≢false (sym (ap is_lt less) ∙ ap is_lt equal))

-- a key that is the wanted one isn't up to one that stands before that
not_before : (key wanted first : Key) → is_key wanted key ≡ true → name_cmp first wanted ≡ Equal → first.place < wanted.place → IsUpTo key first → ⊥
not_before key wanted first is same before (inl less) = less_not_equal key first less (alike_right name_total first wanted key same ∙ (key_parts wanted key is).0)
not_before key wanted first is same before (inr up) = absurd (omega (arith, (key_parts wanted key is).1, up.1, before))

-- what stands between two keys of one name has that name
between : (key next second : Key) → name_cmp key second ≡ Equal → IsUpTo key next → IsUpTo next second → (name_cmp key next ≡ Equal) × (key.place ≤ next.place) × (next.place ≤ second.place)
between key next second same (inl a) (inl b) = absurd (less_not_equal key second (name_total.trans key next second a b) same)
between key next second same (inl a) (inr b) = absurd (less_not_equal key second (sym (alike_right name_total next second key b.0) ∙ a) same)
between key next second same (inr a) (inl b) = absurd (less_not_equal key second (name_total.congr key next second a.0 ∙ b) same)
between key next second same (inr a) (inr b) = (a.0, a.1, b.1)

less_or_same : (a b : ℕ) → a ≤ b → (a < b) ⊎ (a ≡ b)
less_or_same a b up = pick (nat_le b a) refl
  where
    pick : (t : Bool) → nat_le b a ≡ t → (a < b) ⊎ (a ≡ b)
    pick true is = inr (omega (arith, leb-true b a is, up))
    pick false is = inl (leb-false b a is)

next_told : (key next : Key) (more : List Key) (bound : ℕ) → name_cmp key next ≡ Equal → key.place < next.place → next.place ≤ bound → IsAtMost (next_place (key ∷ next ∷ more)) bound
next_told key next more bound same later at_most = subst (λ (t : Bool). IsAtMost (cond t (Some next.place) None) bound) (sym (repeated_told key next same later)) at_most

is_key_told : (wanted key : Key) → name_cmp key wanted ≡ Equal → key.place ≡ wanted.place → is_key wanted key ≡ true
is_key_told wanted key same place = rw (same, eq-eqb key.place wanted.place place) refl

-- of two keys of one name the later is at or behind the least place
found : (keys : List Key) → Rising keys → (first second : Key) → name_cmp first second ≡ Equal → first.place < second.place → Has keys first → Has keys second → IsAtMost (least_place keys) second.place
found [] up first second same before has_first has_second = absurd (false≢true has_first)
found (key ∷ []) up first second same before has_first has_second =
    elim (first_or_more (is_key second key) false has_second) [
      | inl is ↦ absurd (not_before key second first is same before (up_to-there key [] up first has_first))
      | inr other ↦ absurd (false≢true other.1)
    ]
found (key ∷ next ∷ more) up first second same before has_first has_second =
    elim (first_or_more (is_key second key) (list_any (is_key second) (next ∷ more)) has_second) [
      | inl is ↦ absurd (not_before key second first is same before (up_to-there key (next ∷ more) up first has_first))
      | inr later ↦
          elim (first_or_more (is_key first key) (list_any (is_key first) (next ∷ more)) has_first) [
            | inl is ↦
                let own = key_parts first key is in
                let at = between key next second (name_total.congr key first second own.0 ∙ same) up.0 (up_to-there next more up.1 second later.1) in
                elim (less_or_same key.place next.place at.1) [
                  | inl less ↦ lesser-left (next_place (key ∷ next ∷ more)) (least_place (next ∷ more)) second.place (next_told key next more second.place at.0 less at.2)
                  | inr level ↦
                      lesser-right (next_place (key ∷ next ∷ more)) (least_place (next ∷ more)) second.place
                      (found (next ∷ more) up.1 first second same before (or_left (is_key first next) (list_any (is_key first) more) (is_key_told first next (sym (name_total.congr key next first at.0) ∙ own.0) (sym level ∙ own.1))) later.1)
                ]
            | inr behind ↦ lesser-right (next_place (key ∷ next ∷ more)) (least_place (next ∷ more)) second.place (found (next ∷ more) up.1 first second same before behind.1 later.1)
          ]
    ]

-- ---- the key at the least place

record Repeats (keys : List Key) (place : ℕ) : Type 0 where
  first : Key
  second : Key
  has_first : Has keys first
  has_second : Has keys second
  name : first.name ≡ second.name
  before : first.place < second.place
  is : second.place ≡ place

lesser_told : (a b : Option ℕ) (place : ℕ) → lesser a b ≡ Some place → (a ≡ Some place) ⊎ (b ≡ Some place)
lesser_told None b place e = inr e
lesser_told (Some a) None place e = inl e
lesser_told (Some a) (Some b) place e = pick (nat_le a b) e
  where
    pick : (t : Bool) → cond t (Some a) (Some b) ≡ Some place → (Some a ≡ Some place) ⊎ (Some b ≡ Some place)
    pick true e = inl e
    pick false e = inr e

guarded : (t : Bool) (place given : ℕ) → cond t (Some place) None ≡ Some given → (t ≡ true) × (place ≡ given)
guarded true place given e = (refl, cc)
guarded false place given e = absurd cc

Has-first : (key : Key) (keys : List Key) → Has (key ∷ keys) key
Has-first key keys = or_left (is_key key key) (list_any (is_key key) keys) (is_key_told key key (tied_itself name_total key) refl)

Has-behind : (key : Key) (keys : List Key) (wanted : Key) → Has keys wanted → Has (key ∷ keys) wanted
Has-behind key keys wanted has = or_right (is_key wanted key) (list_any (is_key wanted) keys) has

repeats_here : (key : Key) (keys : List Key) (place : ℕ) → next_place (key ∷ keys) ≡ Some place → Repeats (key ∷ keys) place
repeats_here key [] place e = absurd cc
repeats_here key (next ∷ more) place e =
    let own = guarded (is_repeated key next) next.place place e in
    let names = (and_parts (nat_eq key.digest next.digest) (pointwise nat_eq key.name next.name && nat_lt key.place next.place) own.0).1 in
    record {
      first = key;
      second = next;
      has_first = Has-first key (next ∷ more);
      has_second = Has-behind key (next ∷ more) next (Has-first next more);
      name = (bytes_decides key.name next.name).0 (and_parts (pointwise nat_eq key.name next.name) (nat_lt key.place next.place) names).0;
      before = ltb-true key.place next.place (and_parts (pointwise nat_eq key.name next.name) (nat_lt key.place next.place) names).1;
      is = own.1;
    }

repeats : (keys : List Key) (place : ℕ) → least_place keys ≡ Some place → Repeats keys place
repeats [] place e = absurd cc
repeats (key ∷ keys) place e =
    elim (lesser_told (next_place (key ∷ keys)) (least_place keys) place e) [
      | inl own ↦ repeats_here key keys place own
      | inr more ↦
          let r = repeats keys place more in
          record { first = r.first; second = r.second; has_first = Has-behind key keys r.first r.has_first; has_second = Has-behind key keys r.second r.has_second; name = r.name; before = r.before; is = r.is }
    ]

-- ---- fields and their keys

record HasField (start : ℕ) (fields : List Field) (wanted : Key) : Type 0 where
  at : ℕ
  within : at < length fields
  place : wanted.place ≡ start + at
  name : (d : Field) → str_to_ascii_lowercase (get_or fields at d).name ≡ wanted.name

field_there : (start : ℕ) (fields : List Field) (wanted : Key) → Has (keys_from start fields) wanted → HasField start fields wanted
field_there start [] wanted has = absurd (false≢true has)
field_there start (field ∷ fields) wanted has =
    let lower = str_to_ascii_lowercase field.name in
    let own : Key = record { digest = digest_of lower; name = lower; place = start } in
    elim (first_or_more (is_key wanted own) (list_any (is_key wanted) (keys_from (start + 1) fields)) has) [
      | inl is ↦ let parts = key_parts wanted own is in record { at = 0; within = omega arith; place = omega (arith, parts.1); name = λ d. (names_same own wanted parts.0).1 }
      | inr behind ↦ let more = field_there (start + 1) fields wanted behind.1 in record { at = suc more.at; within = omega (arith, more.within); place = omega (arith, more.place); name = more.name }
    ]

-- a name that stands at an earlier place is one of those before a later one
has_name_at : (fields : List Field) (earlier later : ℕ) (name : List ℕ) (d : Field) → earlier < later → earlier < length fields → str_to_ascii_lowercase (get_or fields earlier d).name ≡ str_to_ascii_lowercase name → has_name (names_of (take later fields)) name ≡ true
has_name_at [] earlier later name d before within same = absurd (omega (arith, within))
has_name_at (field ∷ fields) earlier zero name d before within same = absurd (omega (arith, before))
has_name_at (field ∷ fields) zero (suc later) name d before within same =
    or_left (str_eq_ignore_ascii_case field.name name) (has_name (names_of (take later fields)) name) ((bytes_decides (str_to_ascii_lowercase field.name) (str_to_ascii_lowercase name)).1 same)
has_name_at (field ∷ fields) (suc earlier) (suc later) name d before within same =
    or_right (str_eq_ignore_ascii_case field.name name) (has_name (names_of (take later fields)) name) (has_name_at fields earlier later name d (omega (arith, before)) (omega (arith, within)) same)

keys_from-append : (place : ℕ) (fields more : List Field) → keys_from place (fields ++ more) ≡ keys_from place fields ++ keys_from (place + length fields) more
keys_from-append place [] more = λ i. keys_from (plus_none i) more
  where
    plus_none : place ≡ place + 0
    plus_none = omega arith
keys_from-append place (field ∷ fields) more =
    let lower = str_to_ascii_lowercase field.name in
    ap (λ (keys : List Key). record { digest = digest_of lower; name = lower; place = place } ∷ keys) (keys_from-append (place + 1) fields more ∙ λ i. keys_from (place + 1) fields ++ keys_from (one_on i) more)
  where
    one_on : place + 1 + length fields ≡ place + suc (length fields)
    one_on = omega arith

abbrev key_of : List ℕ → ℕ → Key
key_of name place = let lower = str_to_ascii_lowercase name in record { digest = digest_of lower; name = lower; place = place }

record HasBelow (keys : List Key) (name : List ℕ) (bound : ℕ) : Type 0 where
  place : ℕ
  below : place < bound
  there : Has keys (key_of name place)

-- fields that have a name have a key of it
key_there : (start : ℕ) (fields : List Field) (name : List ℕ) → has_name (names_of fields) name ≡ true → HasBelow (keys_from start fields) name (start + length fields)
key_there start [] name has = absurd (false≢true has)
key_there start (field ∷ fields) name has =
    elim (first_or_more (str_eq_ignore_ascii_case field.name name) (has_name (names_of fields) name) has) [
      | inl same ↦
          let lower = (bytes_decides (str_to_ascii_lowercase field.name) (str_to_ascii_lowercase name)).0 same in
          record { place = start; below = omega arith; there = subst (λ (key : Key). Has (keys_from start (field ∷ fields)) key) (λ i. record { digest = digest_of (lower i); name = lower i; place = start }) (Has-first (key_of field.name start) (keys_from (start + 1) fields)) }
      | inr behind ↦
          let more = key_there (start + 1) fields name behind.1 in
          record { place = more.place; below = omega (arith, more.below); there = Has-behind (key_of field.name start) (keys_from (start + 1) fields) (key_of name more.place) more.there }
    ]

Has-append : (keys more : List Key) (wanted : Key) → Has keys wanted ⊎ Has more wanted → Has (keys ++ more) wanted
Has-append keys more wanted (inl there) = list_any-append (is_key wanted) keys more ∙ or_left (list_any (is_key wanted) keys) (list_any (is_key wanted) more) there
Has-append keys more wanted (inr there) = list_any-append (is_key wanted) keys more ∙ or_right (list_any (is_key wanted) keys) (list_any (is_key wanted) more) there

Has-moved : (keys others : List Key) (wanted : Key) → IsPermutation keys others → Has keys wanted → Has others wanted
Has-moved keys others wanted moved has = sym (list_any-IsPermutation (is_key wanted) keys others moved) ∙ has

-- a field whose name one before it has is at or behind the least place
at_most-named : (keys : List Key) (before : List Field) (field : Field) (more : List Field) → IsPermutation (keys_of (before ++ field ∷ more)) keys → Rising keys → has_name (names_of before) field.name ≡ true → IsAtMost (least_place keys) (length before)
at_most-named keys before field more moved up has =
    let first = key_there 0 before field.name has in
    let earlier = key_of field.name first.place in
    let own = key_of field.name (length before) in
    let all = keys_of (before ++ field ∷ more) in
    let split : all ≡ keys_from 0 before ++ keys_from (length before) (field ∷ more) =
    keys_from-append 0 before (field ∷ more) ∙ ap (λ (place : ℕ). keys_from 0 before ++ keys_from place (field ∷ more)) (omega arith) in
    let has_first : Has all earlier = ap (list_any (is_key earlier)) split ∙ Has-append (keys_from 0 before) (keys_from (length before) (field ∷ more)) earlier (inl first.there) in
    let has_second : Has all own = ap (list_any (is_key own)) split ∙ Has-append (keys_from 0 before) (keys_from (length before) (field ∷ more)) own (inr (Has-first own (keys_from (length before + 1) more))) in
    found keys up earlier own (tied_itself name_total own) (omega (arith, first.below)) (Has-moved all keys earlier moved has_first) (Has-moved all keys own moved has_second)

-- no place below the bound is at or behind the least one
abbrev AreBelow : List Key → ℕ → Type 0
AreBelow keys bound = (place : ℕ) → place < bound → IsAtMost (least_place keys) place → ⊥

none_step : (keys : List Key) (before : List Field) (field : Field) (part after : List Field) → IsPermutation (keys_of (before ++ (field ∷ part ++ after))) keys → Rising keys → AreBelow keys (length before + suc (length part))
    → repeated_behind (names_of before ++ field.name ∷ []) part ≡ None → repeated_behind (names_of before) (field ∷ part) ≡ None
none_step keys before field part after moved up below others = pick (has_name (names_of before) field.name) refl
  where
    pick : (t : Bool) → has_name (names_of before) field.name ≡ t → or_else (cond t (Some (Twice field.at)) None) (repeated_behind (names_of before ++ field.name ∷ []) part) ≡ None
    pick true has = absurd (below (length before) (omega arith) (at_most-named keys before field (part ++ after) moved up has))
    pick false has = others

-- no field of a part that lies before the least place repeats a name
none_in : (keys : List Key) (before part after : List Field) → IsPermutation (keys_of (before ++ (part ++ after))) keys → Rising keys → AreBelow keys (length before + length part) → repeated_behind (names_of before) part ≡ None
none_in keys before [] after moved up below = refl
none_in keys before (field ∷ part) after moved up below =
    let joined : (before ++ field ∷ []) ++ (part ++ after) ≡ before ++ (field ∷ part ++ after) = append_assoc before (field ∷ []) (part ++ after) in
    let count : length (before ++ field ∷ []) ≡ length before + 1 = length-append before (field ∷ []) in
    none_step keys before field part after moved up below
    (
    ap (λ (names : List (List ℕ)). repeated_behind names part) (sym (names_of-push before field))
    ∙ none_in keys (before ++ field ∷ []) part after (subst (λ (fields : List Field). IsPermutation (keys_of fields) keys) (sym joined) moved) up (λ place low. below place (omega (arith, low, count)))
    )

pub none_repeated : (fields : List Field) (keys : List Key) → IsPermutation (keys_of fields) keys → IsSorted key_cmp keys → None ≡ least_place keys → repeated fields ≡ None
unfolding repeated
none_repeated fields keys moved sorted none =
    none_in keys [] fields [] (subst (λ (fs : List Field). IsPermutation (keys_of fs) keys) (sym (append-nil fields)) moved) (rising keys sorted) (λ place low at_most. subst (λ (least : Option ℕ). IsAtMost least place) (sym none) at_most)

none_before : (fields : List Field) (keys : List Key) (least : ℕ) → IsPermutation (keys_of fields) keys → IsSorted key_cmp keys → Some least ≡ least_place keys → repeated (take least fields) ≡ None
unfolding repeated
none_before fields keys least moved sorted some =
    none_in keys [] (take least fields) (drop least fields) (subst (λ (fs : List Field). IsPermutation (keys_of fs) keys) (sym (take-append-drop least fields)) moved) (rising keys sorted)
    (λ place low at_most. absurd (omega (arith, low, length-take least fields, (subst (λ (o : Option ℕ). IsAtMost o place) (sym some) at_most))))

-- the field at the least place is there, and is the first that repeats a name
pub record IsRepeatedAt (fields : List Field) (place : ℕ) : Type 0 where
  pub within : place < length fields
  pub told : (d : Field) → repeated fields ≡ Some (Twice (get_or fields place d).at)

name_told : (names : List (List ℕ)) (field : Field) → has_name names field.name ≡ true → name_fault names field ≡ Some (Twice field.at)
name_told names field has = ap (λ (t : Bool). cond t (Some (Twice field.at)) None) has

pub is_repeated_at : (fields : List Field) (keys : List Key) (least : ℕ) → IsPermutation (keys_of fields) keys → IsSorted key_cmp keys → Some least ≡ least_place keys → IsRepeatedAt fields least
is_repeated_at fields keys least moved sorted some =
    let r = repeats keys least (sym some) in
    let back = IsPermutation-sym (keys_of fields) keys moved in
    let first = field_there 0 fields r.first (Has-moved keys (keys_of fields) r.first back r.has_first) in
    let second = field_there 0 fields r.second (Has-moved keys (keys_of fields) r.second back r.has_second) in
    let at : second.at ≡ least = omega (arith, second.place, r.is) in
    let within : least < length fields = omega (arith, at, second.within) in
    record {
      within = within;
      told = λ d.
          let field = get_or fields least d in
          let same : str_to_ascii_lowercase (get_or fields first.at d).name ≡ str_to_ascii_lowercase field.name = first.name d ∙ r.name ∙ sym (second.name d) ∙ ap (λ (n : ℕ). str_to_ascii_lowercase (get_or fields n d).name) at in
          let has : has_name (names_of (take least fields)) field.name ≡ true = has_name_at fields first.at least field.name d (omega (arith, first.place, r.before, r.is)) first.within same in
          repeated-at fields least d field (Twice field.at) within refl (none_before fields keys least moved sorted some) (name_told (names_of (take least fields)) field has);
    }

pub told_by : (fields : List Field) (place : ℕ) (given : TextError) → IsRepeatedAt fields place → ((d : Field) → given ≡ Twice (get_or fields place d).at) → repeated fields ≡ Some given
told_by fields place given is same = let d : Field = record { name = []; lines = []; at = 0 } in is.told d ∙ ap Some (sym (same d))
