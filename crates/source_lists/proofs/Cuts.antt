-- A text is cut at the end of its first line.
use Rattle.std.proofs.Common.{◌≡◌, ℕ, suc, ◌+◌, ◌<◌, Bool, true, false, cond, not, nat_eq, List, [], ◌∷◌, length, ◌||◌, refl, sym, ap, ◌∙◌, arith}
use Rattle.std.specs.List.{slice_split, position_or_len, list_any, onto_first, before_first, after_first}
use Rattle.std.specs.Str.Lines.{lines as text_lines, lines_of_parts, strip_carriage_return}
use Rattle.std.proofs.lemmas.Bool.{ne_eqb}
use Rattle.std.proofs.lemmas.List.Splits.{slice_split_first}
use Rattle.acq_base.proofs.Lists.{split_cons}

-- an element passes exactly where the first that does stands within the list
pub list_any-within : {X : Type 0} (p : X → Bool) (xs : List X) → list_any p xs ≡ true → position_or_len p xs < length xs
list_any-within p [] is = absurd (cc)
list_any-within p (x ∷ xs) is = elim (p x) as (λ b. (b || list_any p xs) ≡ true → cond (not b) (1 + position_or_len p xs) 0 < suc (length xs)) [
  | true ↦ λ _. omega arith
  | false ↦ λ more. let i = list_any-within p xs more in omega (arith, i)
] is

pub place-nowhere : {X : Type 0} (p : X → Bool) (xs : List X) → list_any p xs ≡ false → position_or_len p xs ≡ length xs
place-nowhere p [] none = refl
place-nowhere p (x ∷ xs) none = elim (p x) as (λ b. (b || list_any p xs) ≡ false → cond (not b) (1 + position_or_len p xs) 0 ≡ suc (length xs)) [
  | true ↦ λ no. absurd (cc)
  | false ↦ λ no. let i = place-nowhere p xs no in omega (arith, i)
] none

-- a list without such an element is its only part
pub split_whole : {X : Type 0} (p : X → Bool) (xs : List X) → list_any p xs ≡ false → slice_split p xs ≡ xs ∷ []
split_whole p [] none = refl
split_whole p (x ∷ xs) none = elim (p x) as (λ b. (b || list_any p xs) ≡ false → cond b ([] ∷ slice_split p xs) (onto_first x (slice_split p xs)) ≡ (x ∷ xs) ∷ []) [
  | true ↦ λ no. absurd (cc)
  | false ↦ λ no. ap (onto_first x) (split_whole p xs no)
] none

-- the first line ends at the first line feed
pub lines_cut : (xs : List ℕ) → list_any (λ c. nat_eq c 10) xs ≡ true → text_lines xs ≡ strip_carriage_return (before_first (λ c. nat_eq c 10) xs) ∷ text_lines (after_first (λ c. nat_eq c 10) xs)
lines_cut xs any =
    let first = slice_split_first (λ c. nat_eq c 10) xs 0 (list_any-within (λ c. nat_eq c 10) xs any) in
    let more = split_cons (λ c. nat_eq c 10) (after_first (λ c. nat_eq c 10) xs) in
    let parts = first ∙ ap (λ (ps : List (List ℕ)). before_first (λ c. nat_eq c 10) xs ∷ ps) more.2 in
    ap lines_of_parts parts ∙ ap (λ (ps : List (List ℕ)). strip_carriage_return (before_first (λ c. nat_eq c 10) xs) ∷ lines_of_parts ps) (sym more.2)

-- a last line need not end with one
pub lines_whole : (xs : List ℕ) → list_any (λ c. nat_eq c 10) xs ≡ false → 0 < length xs → text_lines xs ≡ xs ∷ []
lines_whole [] none long = absurd (omega arith)
lines_whole (x ∷ xs) none long =
    ap lines_of_parts (split_whole (λ c. nat_eq c 10) (x ∷ xs) none) ∙ rw (ne_eqb (suc (length xs)) 0 (λ e. omega arith)) refl

pub ruleset cut_lines = (lines_cut, lines_whole)
