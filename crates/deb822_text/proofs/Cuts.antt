-- Where a text is cut: at the end of its first line, and at its first colon.
use Rattle.std.proofs.Common.{◌≡◌, ℕ, suc, ◌+◌, ◌<◌, ◌≤◌, Bool, true, false, cond, not, nat_eq, List, [], ◌∷◌, length, get_or, take, drop, refl, sym, ap, ◌∙◌, arith}
use Rattle.std.specs.List.{slice_split, position_or_len, list_any, onto_first}
use Rattle.std.specs.Str.Lines.{lines as text_lines, lines_of_parts, strip_carriage_return}
use Rattle.std.proofs.lemmas.List.{take_all, drop_all, drop-drop}
use Rattle.std.proofs.lemmas.Bool.{ne_eqb}
use Rattle.std.proofs.lemmas.List.Splits.{slice_split_first}
use Rattle.acq_base.proofs.Lists.{list_any-there, list_any-nowhere, split_cons}
use Rattle.deb822_text.specs.Control.{is_colon, begins_with, Unknown, field_line, named_line}

split_none : {X : Type 0} (p : X → Bool) (xs : List X) → length xs ≤ position_or_len p xs → slice_split p xs ≡ xs ∷ []
split_none p [] none = refl
split_none p (x ∷ xs) none = elim (p x) as (λ b. suc (length xs) ≤ cond (not b) (1 + position_or_len p xs) 0 → cond b ([] ∷ slice_split p xs) (onto_first x (slice_split p xs)) ≡ (x ∷ xs) ∷ []) [
  | true ↦ λ short. absurd (omega (arith, short))
  | false ↦ λ long. ap (onto_first x) (split_none p xs (omega (arith, long)))
] none

-- the first line ends at the first line feed
pub lines_first : (xs : List ℕ) (n : ℕ) → n ≡ position_or_len (λ c. nat_eq c 10) xs → n < length xs → text_lines xs ≡ strip_carriage_return (take n xs) ∷ text_lines (drop 1 (drop n xs))
lines_first xs n is within =
    let place = position_or_len (λ c. nat_eq c 10) xs in
    let first : slice_split (λ c. nat_eq c 10) xs ≡ take place xs ∷ slice_split (λ c. nat_eq c 10) (drop (place + 1) xs) = slice_split_first (λ c. nat_eq c 10) xs 0 (rw (← is) within) in
    let more = split_cons (λ c. nat_eq c 10) (drop (place + 1) xs) in
    let parts : slice_split (λ c. nat_eq c 10) xs ≡ take place xs ∷ more.0 ∷ more.1 = first ∙ ap (λ (ps : List (List ℕ)). take place xs ∷ ps) more.2 in
    let here : text_lines xs ≡ strip_carriage_return (take place xs) ∷ lines_of_parts (more.0 ∷ more.1) = ap lines_of_parts parts in
    let there : lines_of_parts (more.0 ∷ more.1) ≡ text_lines (drop (place + 1) xs) = ap lines_of_parts (sym more.2) in
    let behind : drop (place + 1) xs ≡ drop 1 (drop n xs) = rw (← is) (sym (drop-drop 1 n xs)) in
    here ∙ ap (λ (ls : List (List ℕ)). strip_carriage_return (take place xs) ∷ ls) (there ∙ ap text_lines behind) ∙ rw is refl

-- a last line need not end with one
pub lines_last : (xs : List ℕ) (n : ℕ) → n ≡ position_or_len (λ c. nat_eq c 10) xs → 0 < length xs → length xs ≤ n → text_lines xs ≡ take n xs ∷ text_lines (drop n xs)
lines_last [] n is long none = absurd (omega arith)
lines_last (x ∷ xs) n is long none =
    let one : text_lines (x ∷ xs) ≡ (x ∷ xs) ∷ [] = ap lines_of_parts (split_none (λ c. nat_eq c 10) (x ∷ xs) (omega (arith, is, none))) ∙ rw (ne_eqb (suc (length xs)) 0 (λ e. omega arith)) refl in
    let front : take n (x ∷ xs) ≡ x ∷ xs = take_all n (x ∷ xs) none in
    let behind : drop n (x ∷ xs) ≡ [] = drop_all n (x ∷ xs) none in
    rw (front, behind) one

-- a line with a colon, and one without
pub field_line-colon : (at : ℕ) (line : List ℕ) (n : ℕ) → n ≡ position_or_len is_colon line → n < length line → field_line at line ≡ named_line at (take n line) (drop 1 (drop n line))
field_line-colon at line n is within =
    let any : list_any is_colon line ≡ true = list_any-there is_colon line (rw (← is) within) in
    let behind : drop 1 (drop n line) ≡ drop (n + 1) line = drop-drop 1 n line in
    rw (any, behind, is) refl

pub field_line-bare : (at : ℕ) (line : List ℕ) (n : ℕ) → n ≡ position_or_len is_colon line → length line ≤ n → field_line at line ≡ Unknown at
field_line-bare at line n is none =
    let any : list_any is_colon line ≡ false = list_any-nowhere is_colon line (rw (← is) none) in
    rw any refl

-- the first byte of a text that has one
pub begins_with-first : (test : ℕ → Bool) (xs : List ℕ) → 1 ≤ length xs → begins_with test xs ≡ test (get_or xs 0 0)
begins_with-first test [] long = absurd (omega arith)
begins_with-first test (x ∷ xs) long = refl

pub ruleset cut_lines = (lines_first, lines_last)

pub ruleset cut_names = (field_line-colon, field_line-bare)

pub ruleset fronts = (begins_with-first)
