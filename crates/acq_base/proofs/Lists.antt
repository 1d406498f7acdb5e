-- Lists of any elements: where one passes, what they are cut into, and what a map leaves in them.
use Rattle.std.proofs.Common.{◌≡◌, ◌⊎◌, inl, inr, zero, suc, ◌+◌, ◌<◌, ◌≤◌, Bool, true, false, cond, not, ◌||◌, List, [], ◌∷◌, length, map, refl, ap, arith}
use Rattle.std.specs.Prelude.{Contains}
use Rattle.std.specs.List.{slice_split, position_or_len, list_any, onto_first}

-- an element passes where the first that does stands within the list
pub list_any-there : {X : Type 0} (p : X → Bool) (xs : List X) → position_or_len p xs < length xs → list_any p xs ≡ true
list_any-there p [] within = absurd (omega arith)
list_any-there p (x ∷ xs) within = elim (p x) as (λ b. cond (not b) (1 + position_or_len p xs) 0 < suc (length xs) → (b || list_any p xs) ≡ true) [
  | true ↦ λ _. refl
  | false ↦ λ less. list_any-there p xs (omega (arith, less))
] within

pub list_any-nowhere : {X : Type 0} (p : X → Bool) (xs : List X) → length xs ≤ position_or_len p xs → list_any p xs ≡ false
list_any-nowhere p [] none = refl
list_any-nowhere p (x ∷ xs) none = elim (p x) as (λ b. suc (length xs) ≤ cond (not b) (1 + position_or_len p xs) 0 → (b || list_any p xs) ≡ false) [
  | true ↦ λ short. absurd (omega (arith, short))
  | false ↦ λ long. list_any-nowhere p xs (omega (arith, long))
] none

-- parts are never none
pub split_cons : {X : Type 0} (p : X → Bool) (xs : List X) → (part : List X) × (parts : List (List X)) × (slice_split p xs ≡ part ∷ parts)
split_cons p [] = ([], [], refl)
split_cons {X} p (x ∷ xs) = elim (p x) as (λ b. (part : List X) × (parts : List (List X)) × (cond b ([] ∷ slice_split p xs) (onto_first x (slice_split p xs)) ≡ part ∷ parts)) [
  | true ↦ ([], slice_split p xs, refl)
  | false ↦ let i = split_cons p xs in (x ∷ i.0, i.1, ap (onto_first x) i.2)
]

-- what is made of an element is among what is made of all
pub map_in : {X Y : Type 0} (f : X → Y) (xs : List X) (x : X) → Contains xs x → Contains (map f xs) (f x)
map_in f [] x (k, below, is) = absurd (omega (arith, below))
map_in f (y ∷ ys) x (zero, below, is) = (zero, omega arith, ap f is)
map_in f (y ∷ ys) x (suc k, below, is) = let rest = map_in f ys x (k, omega (arith, below), is) in (suc rest.0, omega (arith, rest.1), rest.2)

-- what is in a list is its first element or one of the rest
pub first-or-rest : {X : Type 0} (y : X) (xs : List X) (x : X) → Contains (y ∷ xs) x → (y ≡ x) ⊎ Contains xs x
first-or-rest y xs x (zero, below, is) = inl is
first-or-rest y xs x (suc k, below, is) = inr (k, omega (arith, below), is)
