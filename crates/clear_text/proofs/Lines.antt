-- The lines of bytes, by bstr's word and by std's.
use Rattle.std.proofs.Common.{◌≡◌, ◌⊎◌, ℕ, zero, suc, ◌-◌, ◌<◌, ◌≤◌, Bool, true, false, cond, nat_eq, nat_lt, List, [], ◌∷◌, ◌++◌, map, length, take, drop, slice_index, get_or, inl, inr, ⊎_elim, refl, sym, ap, subst, ◌∙◌, arith}
use Rattle.std.specs.List.{slice_split, list_any, onto_first}
use Rattle.std.specs.Str.Lines.{lines as text_lines, lines_of_parts, strip_carriage_return}
use Rattle.std.proofs.lemmas.Bool.{or_parts, ne_eqb, cases_Bool}
use Rattle.std.proofs.lemmas.Bool.Decides.{nat_tests}
use Rattle.std.proofs.lemmas.List.{take_all, drop_all, length-append}
use Rattle.bstr.specs.Text.{line_len, lines_from, lines_of, no_cr, without_terminator}

abbrev pub is_feed : ℕ → Bool
is_feed c = nat_eq c 10

-- ---- std's lines

-- parts are never none
split_cons : (xs : List ℕ) → (part : List ℕ) × (parts : List (List ℕ)) × (slice_split is_feed xs ≡ part ∷ parts)
split_cons [] = ([], [], refl)
split_cons (x ∷ xs) = elim (is_feed x) as (λ b. (part : List ℕ) × (parts : List (List ℕ)) × (cond b ([] ∷ slice_split is_feed xs) (onto_first x (slice_split is_feed xs)) ≡ part ∷ parts)) [
  | true ↦ ([], slice_split is_feed xs, refl)
  | false ↦ let i = split_cons xs in (x ∷ i.0, i.1, ap (onto_first x) i.2)
]

split_feed : (line rest : List ℕ) → list_any is_feed line ≡ false → slice_split is_feed (line ++ 10 ∷ rest) ≡ line ∷ slice_split is_feed rest
split_feed [] rest plain = refl
split_feed (c ∷ line) rest plain =
    let parts = or_parts (is_feed c) (list_any is_feed line) plain in
    rw (parts.0) (ap (onto_first c) (split_feed line rest parts.1))

split_none : (line : List ℕ) → list_any is_feed line ≡ false → slice_split is_feed line ≡ line ∷ []
split_none [] plain = refl
split_none (c ∷ line) plain =
    let parts = or_parts (is_feed c) (list_any is_feed line) plain in
    rw (parts.0) (ap (onto_first c) (split_none line parts.1))

-- a line up to its line feed
pub lines_feed : (line rest : List ℕ) → list_any is_feed line ≡ false → text_lines (line ++ 10 ∷ rest) ≡ strip_carriage_return line ∷ text_lines rest
lines_feed line rest plain =
    let more = split_cons rest in
    ap lines_of_parts (split_feed line rest plain) ∙ ap (λ (parts : List (List ℕ)). lines_of_parts (line ∷ parts)) more.2
    ∙ ap (λ (parts : List (List ℕ)). strip_carriage_return line ∷ lines_of_parts parts) (sym more.2)

-- a last line without one
lines_last : (c : ℕ) (line : List ℕ) → list_any is_feed (c ∷ line) ≡ false → text_lines (c ∷ line) ≡ (c ∷ line) ∷ []
lines_last c line plain = ap lines_of_parts (split_none (c ∷ line) plain) ∙ rw (ne_eqb (suc (length line)) 0 (λ e. omega arith)) refl

-- ---- bstr's

line_len-feed : (line rest : List ℕ) → list_any is_feed line ≡ false → line_len (line ++ 10 ∷ rest) ≡ suc (length line)
unfolding line_len
line_len-feed [] rest plain = refl
line_len-feed (c ∷ line) rest plain =
    let parts = or_parts (is_feed c) (list_any is_feed line) plain in
    rw (parts.0) (ap suc (line_len-feed line rest parts.1))

line_len-last : (line : List ℕ) → list_any is_feed line ≡ false → line_len line ≡ length line
unfolding line_len
line_len-last [] plain = refl
line_len-last (c ∷ line) plain =
    let parts = or_parts (is_feed c) (list_any is_feed line) plain in
    rw (parts.0) (ap suc (line_len-last line parts.1))

take-feed : (line rest : List ℕ) → take (suc (length line)) (line ++ 10 ∷ rest) ≡ line ++ 10 ∷ []
take-feed [] rest = refl
take-feed (c ∷ line) rest = ap (λ l. c ∷ l) (take-feed line rest)

drop-feed : (line rest : List ℕ) → drop (suc (length line)) (line ++ 10 ∷ rest) ≡ rest
drop-feed [] rest = refl
drop-feed (c ∷ line) rest = drop-feed line rest

front : (line : List ℕ) → take (length line) (line ++ 10 ∷ []) ≡ line
front [] = refl
front (c ∷ line) = ap (λ l. c ∷ l) (front line)

last : (line : List ℕ) → slice_index (line ++ 10 ∷ []) (length line) ≡ 10
last [] = refl
last (c ∷ line) = last line

some : (n : ℕ) → nat_lt 0 (suc n) ≡ true
some n = grind (arith, nat_tests)

no_cr-strip : (line : List ℕ) → no_cr line ≡ strip_carriage_return line
no_cr-strip [] = refl
no_cr-strip (c ∷ line) = rw (some (length line)) refl

terminated : (line : List ℕ) → without_terminator (line ++ 10 ∷ []) ≡ strip_carriage_return line
terminated line =
    let long : length (line ++ 10 ∷ []) ≡ suc (length line) = length-append line (10 ∷ []) ∙ omega arith in
    let less : suc (length line) - 1 ≡ length line = omega arith in
    rw (long, less, last line, front line, some (length line)) (no_cr-strip line)

-- no byte of a line without line feeds is one
plain_at : (line : List ℕ) (k : ℕ) → list_any is_feed line ≡ false → nat_eq (get_or line k 0) 10 ≡ false
plain_at [] k plain = refl
plain_at (c ∷ line) zero plain = (or_parts (is_feed c) (list_any is_feed line) plain).0
plain_at (c ∷ line) (suc k) plain = plain_at line k (or_parts (is_feed c) (list_any is_feed line) plain).1

open_ended : (c : ℕ) (line : List ℕ) → list_any is_feed (c ∷ line) ≡ false → without_terminator (c ∷ line) ≡ c ∷ line
open_ended c line plain = rw (plain_at (c ∷ line) (length (c ∷ line) - 1) plain, some (length line)) refl

-- ---- the two are one

-- the first line of a text, and what stands behind its line feed, if it has one
abbrev Cut : List ℕ → Type 0
Cut bytes = (line : List ℕ) × (list_any is_feed line ≡ false) × ((bytes ≡ line) ⊎ ((rest : List ℕ) × (bytes ≡ line ++ 10 ∷ rest)))

cut : (bytes : List ℕ) → Cut bytes
cut [] = ([], refl, inl refl)
cut (c ∷ bytes) =
    elim (cases_Bool (is_feed c)) [
      | inl feed ↦ let ten : c ≡ 10 = grind (arith, nat_tests) in ([], refl, inr (bytes, ap (λ d. d ∷ bytes) ten))
      | inr other ↦
          let i = cut bytes in
          (c ∷ i.0, rw other i.1, ⊎_elim (λ e. inl (ap (λ b. c ∷ b) e)) (λ h. inr (h.0, ap (λ b. c ∷ b) h.1)) i.2)
    ]

abbrev Same : ℕ → List ℕ → Type 0
Same fuel bytes = map without_terminator (lines_from fuel bytes) ≡ text_lines bytes

from_none : (fuel : ℕ) → lines_from fuel [] ≡ []
unfolding lines_from
from_none zero = refl
from_none (suc n) = refl

from_some : (n : ℕ) (bytes : List ℕ) → 0 < length bytes → lines_from (suc n) bytes ≡ take (line_len bytes) bytes ∷ lines_from n (drop (line_len bytes) bytes)
unfolding lines_from
from_some n [] some = absurd (omega arith)
from_some n (c ∷ bytes) some = refl

same_feed : (n : ℕ) (line rest : List ℕ) → list_any is_feed line ≡ false → Same n rest → Same (suc n) (line ++ 10 ∷ rest)
same_feed n line rest plain h =
    let long : 0 < length (line ++ 10 ∷ rest) = omega (arith, length-append line (10 ∷ rest)) in
    ap (map without_terminator) (from_some n (line ++ 10 ∷ rest) long)
    ∙ rw (line_len-feed line rest plain, take-feed line rest, drop-feed line rest) (ap (λ l. l ∷ map without_terminator (lines_from n rest)) (terminated line) ∙ ap (λ (ls : List (List ℕ)). strip_carriage_return line ∷ ls) h)
    ∙ sym (lines_feed line rest plain)

same_last : (n : ℕ) (line : List ℕ) → list_any is_feed line ≡ false → Same (suc n) line
same_last n [] plain = ap (map without_terminator) (from_none (suc n))
same_last n (c ∷ line) plain =
    let whole : take (line_len (c ∷ line)) (c ∷ line) ≡ c ∷ line = ap (λ k. take k (c ∷ line)) (line_len-last (c ∷ line) plain) ∙ take_all (length (c ∷ line)) (c ∷ line) (omega arith) in
    let nothing : drop (line_len (c ∷ line)) (c ∷ line) ≡ [] = ap (λ k. drop k (c ∷ line)) (line_len-last (c ∷ line) plain) ∙ drop_all (length (c ∷ line)) (c ∷ line) (omega arith) in
    let behind : lines_from n (drop (line_len (c ∷ line)) (c ∷ line)) ≡ [] = ap (lines_from n) nothing ∙ from_none n in
    ap (map without_terminator) (from_some n (c ∷ line) (omega arith) ∙ (λ i. whole i ∷ behind i))
    ∙ ap (λ l. l ∷ []) (open_ended c line plain)
    ∙ sym (lines_last c line plain)

same-cut : (n : ℕ) (bytes : List ℕ) → length bytes ≤ suc n → Cut bytes → ((rest : List ℕ) → length rest ≤ n → Same n rest) → Same (suc n) bytes
same-cut n bytes enough (line, plain, inl e) shorter = subst (Same (suc n)) (sym e) (same_last n line plain)
same-cut n bytes enough (line, plain, inr (rest, e)) shorter =
    let less : length rest ≤ n = omega (arith, enough, ap length e, length-append line (10 ∷ rest)) in
    subst (Same (suc n)) (sym e) (same_feed n line rest plain (shorter rest less))

same : (fuel : ℕ) (bytes : List ℕ) → length bytes ≤ fuel → Same fuel bytes
same zero [] enough = ap (map without_terminator) (from_none zero)
same zero (c ∷ bytes) enough = absurd (omega (arith, enough))
same (suc n) bytes enough = same-cut n bytes enough (cut bytes) (λ rest less. same n rest less)

pub lines_same : (bytes : List ℕ) → map without_terminator (lines_of bytes) ≡ text_lines bytes
lines_same bytes = same (length bytes) bytes (omega arith)

pub ruleset same_lines = (lines_same)
