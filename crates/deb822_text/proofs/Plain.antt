-- The lines of a written text, and the kind of each.
use Rattle.std.proofs.Common.{◌≡◌, ℕ, zero, suc, ◌+◌, ◌-◌, ◌<◌, ◌≤◌, Bool, true, false, cond, not, nat_eq, nat_le, List, [], ◌∷◌, ◌++◌, ◌&&◌, ◌||◌, length, get_or, take, drop, reverse, refl, sym, ap, ◌∙◌, arith}
use Rattle.std.specs.List.{slice_split, position_or_len, list_all, onto_first}
use Rattle.std.specs.Str.Lines.{lines as text_lines, lines_of_parts, strip_carriage_return}
use Rattle.std.proofs.lemmas.Bool.{and_parts, or_parts, and_right, not-true, ne_eqb, leb-true}
use Rattle.std.proofs.lemmas.List.{reverse-reverse, take_at, drop_at, length-append}
use Rattle.acq_base.specs.Words.{is_blank, trimmed_start, trimmed_end, trimmed}
use Rattle.acq_base.proofs.Lists.{split_cons}
use Rattle.deb822_text.specs.Control.{Continuation, Named, is_colon, is_hash, begins_with, may_begin_name, is_name_character, is_name, is_empty, line_of, field_line}
use Rattle.deb822_text.specs.Written.{is_line_character, ends_with, is_first_line, is_later_line, first_line_text}
use Rattle.deb822_text.proofs.Cuts.{field_line-colon}

-- ---- a line up to its line feed

line_feed : (c : ℕ) → is_line_character c ≡ true → nat_eq c 10 ≡ false
line_feed c plain = (or_parts (nat_eq c 10) (nat_eq c 13) (not-true (nat_eq c 10 || nat_eq c 13) plain)).0

carriage_return : (c : ℕ) → is_line_character c ≡ true → nat_eq c 13 ≡ false
carriage_return c plain = (or_parts (nat_eq c 10) (nat_eq c 13) (not-true (nat_eq c 10 || nat_eq c 13) plain)).1

split_plain : (line rest : List ℕ) → list_all is_line_character line ≡ true → slice_split (λ c. nat_eq c 10) (line ++ 10 ∷ rest) ≡ line ∷ slice_split (λ c. nat_eq c 10) rest
split_plain [] rest plain = refl
split_plain (c ∷ cs) rest plain =
    let parts = and_parts (is_line_character c) (list_all is_line_character cs) plain in
    rw (line_feed c parts.0) (ap (onto_first c) (split_plain cs rest parts.1))

no_return : (line : List ℕ) (k : ℕ) → list_all is_line_character line ≡ true → nat_eq (get_or line k 0) 13 ≡ false
no_return [] k plain = refl
no_return (c ∷ cs) zero plain = carriage_return c (and_parts (is_line_character c) (list_all is_line_character cs) plain).0
no_return (c ∷ cs) (suc k) plain = no_return cs k (and_parts (is_line_character c) (list_all is_line_character cs) plain).1

pub lines_plain : (line rest : List ℕ) → list_all is_line_character line ≡ true → text_lines (line ++ 10 ∷ rest) ≡ line ∷ text_lines rest
lines_plain line rest plain =
    let more = split_cons (λ c. nat_eq c 10) rest in
    let stripped : strip_carriage_return line ≡ line = rw (no_return line (length line - 1) plain) refl in
    ap lines_of_parts (split_plain line rest plain) ∙ ap (λ (parts : List (List ℕ)). lines_of_parts (line ∷ parts)) more.2
    ∙ (λ i. stripped i ∷ lines_of_parts (sym more.2 i))

-- ---- texts that trimming leaves alone

trimmed_start-plain : (text : List ℕ) → begins_with is_blank text ≡ false → trimmed_start text ≡ text
trimmed_start-plain [] plain = refl
trimmed_start-plain (c ∷ cs) plain = rw plain refl

trimmed_end-plain : (text : List ℕ) → ends_with is_blank text ≡ false → trimmed_end text ≡ text
trimmed_end-plain text plain = ap reverse (trimmed_start-plain (reverse text) plain) ∙ reverse-reverse text

-- ---- a later line

pub line_of-later : (comments : Bool) (at : ℕ) (line : List ℕ) → is_later_line line ≡ true → line_of comments at (32 ∷ line) ≡ Continuation at line
unfolding line_of
line_of-later comments at line later =
    let parts = and_parts (list_all is_line_character line && not (list_all is_blank line)) (not (ends_with is_blank line)) later in
    let some : list_all is_blank line ≡ false = not-true (list_all is_blank line) (and_parts (list_all is_line_character line) (not (list_all is_blank line)) parts.0).1 in
    let comment : (comments && false) ≡ false = and_right comments false refl in
    let kept : trimmed_end line ≡ line = trimmed_end-plain line (not-true (ends_with is_blank line) parts.1) in
    rw (some, comment, kept) refl

pub later_plain : (line : List ℕ) → is_later_line line ≡ true → list_all is_line_character (32 ∷ line) ≡ true
later_plain line later =
    (and_parts (list_all is_line_character line) (not (list_all is_blank line)) (and_parts (list_all is_line_character line && not (list_all is_blank line)) (not (ends_with is_blank line)) later).0).0

-- ---- the line of a name

record IsNameByte (c : ℕ) : Type 0 where
  low : 33 ≤ c
  colon : is_colon c ≡ false

name_byte : (c : ℕ) → is_name_character c ≡ true → IsNameByte c
name_byte c h =
    let parts = and_parts (nat_le 33 c && nat_le c 126) (not (is_colon c)) h in
    record { low = leb-true 33 c (and_parts (nat_le 33 c) (nat_le c 126) parts.0).0; colon = not-true (is_colon c) parts.1 }

not_blank : (c : ℕ) → IsNameByte c → is_blank c ≡ false
not_blank c h = rw (ne_eqb c 32 (λ e. omega (arith, h.low, e)), ne_eqb c 9 (λ e. omega (arith, h.low, e))) refl

name_place : (name text : List ℕ) → list_all is_name_character name ≡ true → position_or_len is_colon (name ++ 58 ∷ text) ≡ length name
name_place [] text plain = refl
name_place (c ∷ cs) text plain =
    let parts = and_parts (is_name_character c) (list_all is_name_character cs) plain in
    rw ((name_byte c parts.0).colon) (ap (λ (n : ℕ). 1 + n) (name_place cs text parts.1) ∙ omega arith)

name_plain : (name : List ℕ) → list_all is_name_character name ≡ true → list_all is_line_character name ≡ true
name_plain [] plain = refl
name_plain (c ∷ cs) plain =
    let parts = and_parts (is_name_character c) (list_all is_name_character cs) plain in
    let low = (name_byte c parts.0).low in
    rw (ne_eqb c 10 (λ e. omega (arith, low, e)), ne_eqb c 13 (λ e. omega (arith, low, e))) (name_plain cs parts.1)

field_line-name : (at : ℕ) (name text : List ℕ) → is_name name ≡ true → field_line at (name ++ 58 ∷ text) ≡ Named at name (trimmed text)
field_line-name at name text sound =
    let plain = (and_parts (begins_with may_begin_name name) (list_all is_name_character name) sound).1 in
    let place : length name ≡ position_or_len is_colon (name ++ 58 ∷ text) = sym (name_place name text plain) in
    let within : length name < length (name ++ 58 ∷ text) = omega (arith, length-append name (58 ∷ text)) in
    let front : take (length name) (name ++ 58 ∷ text) ≡ name = take_at name (58 ∷ text) (length name) refl in
    let back : drop (length name) (name ++ 58 ∷ text) ≡ 58 ∷ text = drop_at name (58 ∷ text) (length name) refl in
    field_line-colon at (name ++ 58 ∷ text) (length name) place within ∙ rw (front, back, sound) refl

pub line_of-name : (comments : Bool) (at : ℕ) (name text : List ℕ) → is_name name ≡ true → line_of comments at (name ++ 58 ∷ text) ≡ Named at name (trimmed text)
unfolding line_of
line_of-name comments at [] text sound = absurd cc
line_of-name comments at (c ∷ cs) text sound =
    let parts = and_parts (may_begin_name c) (is_name_character c && list_all is_name_character cs) sound in
    let plain = and_parts (is_name_character c) (list_all is_name_character cs) parts.1 in
    let blank : is_blank c ≡ false = not_blank c (name_byte c plain.0) in
    let hash : is_hash c ≡ false = (or_parts (is_hash c) (nat_eq c 45) (not-true (is_hash c || nat_eq c 45) parts.0)).0 in
    let comment : (comments && is_hash c) ≡ false = and_right comments (is_hash c) hash in
    rw (blank, comment) (field_line-name at (c ∷ cs) text sound)

-- ---- the first line of a field

-- what stands behind the colon
abbrev pub behind_colon : List ℕ → List ℕ
behind_colon line = cond (is_empty line) [] (32 ∷ line)

pub first_text : (line : List ℕ) → first_line_text line ≡ behind_colon line ++ 10 ∷ []
first_text [] = refl
first_text (c ∷ cs) = refl

pub trimmed-behind : (line : List ℕ) → is_first_line line ≡ true → trimmed (behind_colon line) ≡ line
trimmed-behind [] first = refl
trimmed-behind (c ∷ cs) first =
    let parts = and_parts (list_all is_line_character (c ∷ cs) && not (begins_with is_blank (c ∷ cs))) (not (ends_with is_blank (c ∷ cs))) first in
    let front : trimmed_start (c ∷ cs) ≡ c ∷ cs = trimmed_start-plain (c ∷ cs) (not-true (is_blank c) (and_parts (list_all is_line_character (c ∷ cs)) (not (is_blank c)) parts.0).1) in
    ap trimmed_end front ∙ trimmed_end-plain (c ∷ cs) (not-true (ends_with is_blank (c ∷ cs)) parts.1)

list_all-both : (test : ℕ → Bool) (xs ys : List ℕ) → list_all test xs ≡ true → list_all test ys ≡ true → list_all test (xs ++ ys) ≡ true
list_all-both test [] ys front back = back
list_all-both test (x ∷ xs) ys front back =
    let parts = and_parts (test x) (list_all test xs) front in
    rw (parts.0) (list_all-both test xs ys parts.1 back)

pub header_plain : (name line : List ℕ) → is_name name ≡ true → is_first_line line ≡ true → list_all is_line_character (name ++ 58 ∷ behind_colon line) ≡ true
header_plain name line sound first =
    let plain = (and_parts (begins_with may_begin_name name) (list_all is_name_character name) sound).1 in
    list_all-both is_line_character name (58 ∷ behind_colon line) (name_plain name plain) (behind line (and_parts (list_all is_line_character line) (not (begins_with is_blank line)) (and_parts (list_all is_line_character line && not (begins_with is_blank line)) (not (ends_with is_blank line)) first).0).0)
  where
    behind : (l : List ℕ) → list_all is_line_character l ≡ true → list_all is_line_character (behind_colon l) ≡ true
    behind [] h = refl
    behind (c ∷ cs) h = h
