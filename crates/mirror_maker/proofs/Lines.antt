-- Texts as lines, and numbers within them.
use Rattle.std.proofs.Common.{◌≡◌, ℕ, ◌-◌, ◌<◌, ◌==◌, ◌^◌, not, Bool, true, false, List, [], ◌∷◌, ◌++◌, length, map, slice_index, decimal, refl, ap, ◌∙◌, append_assoc, length-append, arith}
use Rattle.std.specs.Int.{IsInRange}
use Rattle.std.specs.List.{AllByRecursion as Each, list_all, list_any}
use Rattle.std.specs.Str.Parse.{AllDigits}
use Rattle.std.proofs.Math.Seq.{get_or-append_seam, take-append_seam}
use Rattle.std.proofs.lemmas.Bool.{and_parts, ne_eqb, not-true}
use Rattle.std.proofs.lemmas.Fmt.{decimal_is_IsNumeral}
use Rattle.std.proofs.lemmas.List.Folds.{list_all-append}
use Rattle.std.proofs.lemmas.Str.Parse.{tells_digits}
use Rattle.ed_apply.specs.Edits.{file_lines, in_front}
use Rattle.ed_apply.specs.Grammar.{without_feed}
use Rattle.ed_apply.specs.Spelling.{lines_within, with_feeds}

-- ---- digits

pub digits_pass : (p : ℕ → Bool) → ((c : ℕ) → IsInRange 48 57 c → p c ≡ true) → (text : List ℕ) → AllDigits 10 text → list_all p text ≡ true
digits_pass p passes [] all = refl
digits_pass p passes (c ∷ text) all =
    let parts = tells_digits.parts c text all in
    rw (passes c parts.0, digits_pass p passes text parts.1) refl

pub digits_miss : (p : ℕ → Bool) → ((c : ℕ) → IsInRange 48 57 c → p c ≡ false) → (text : List ℕ) → AllDigits 10 text → list_any p text ≡ false
digits_miss p misses [] all = refl
digits_miss p misses (c ∷ text) all =
    let parts = tells_digits.parts c text all in
    rw (misses c parts.0, digits_miss p misses text parts.1) refl

-- ---- lines without their line feeds

abbrev pub is_inside : ℕ → Bool
is_inside c = not (c == 10)

abbrev pub IsLine : List ℕ → Type 0
IsLine line = list_all is_inside line ≡ true

abbrev pub ended : List ℕ → List ℕ
ended line = line ++ 10 ∷ []

pub line_append : (a b : List ℕ) → IsLine a → IsLine b → IsLine (a ++ b)
line_append a b first second = list_all-append is_inside a b ∙ rw (first, second) refl

digit_inside : (c : ℕ) → IsInRange 48 57 c → is_inside c ≡ true
digit_inside c digit =
    let low = digit.0 in
    let other : (c == 10) ≡ false = ne_eqb c 10 (λ e. omega (arith, e, low)) in
    rw other refl

pub number_line : (n : ℕ) → n < 2 ^ 64 → IsLine (decimal n)
number_line n fits = digits_pass is_inside digit_inside (decimal n) (decimal_is_IsNumeral n fits).0.1

first_line : (line rest : List ℕ) → IsLine line → file_lines (line ++ 10 ∷ rest) ≡ ended line ∷ file_lines rest
first_line [] rest plain = refl
first_line (c ∷ line) rest plain =
    let parts = and_parts (is_inside c) (list_all is_inside line) plain in
    let other : (c == 10) ≡ false = not-true (c == 10) parts.0 in
    rw other (ap (in_front c) (first_line line rest parts.1))

pub lines_of : (lines : List (List ℕ)) → Each IsLine lines → file_lines (with_feeds lines) ≡ map ended lines
lines_of [] each = refl
lines_of (line ∷ lines) each =
    ap file_lines (append_assoc line (10 ∷ []) (with_feeds lines)) ∙ first_line line (with_feeds lines) each.0
    ∙ ap (λ (ls : List (List ℕ)). ended line ∷ ls) (lines_of lines each.1)

unended : (line : List ℕ) → without_feed (ended line) ≡ line
unended line =
    let place : length (line ++ 10 ∷ []) - 1 ≡ length line = omega (arith, length-append line (10 ∷ [])) in
    let feed : (slice_index (line ++ 10 ∷ []) (length line) == 10) ≡ true = rw (get_or-append_seam line 10 [] 0) refl in
    rw (place, feed) (take-append_seam line (10 ∷ []))

all_unended : (lines : List (List ℕ)) → map without_feed (map ended lines) ≡ lines
all_unended [] = refl
all_unended (line ∷ lines) = ap (λ (l : List ℕ). l ∷ map without_feed (map ended lines)) (unended line) ∙ ap (λ (ls : List (List ℕ)). line ∷ ls) (all_unended lines)

pub within : (lines : List (List ℕ)) → Each IsLine lines → lines_within (with_feeds lines) ≡ lines
within lines each = ap (map without_feed) (lines_of lines each) ∙ all_unended lines

pub each_append : {X : Type 0} (P : X → Type 0) (xs ys : List X) → Each P xs → Each P ys → Each P (xs ++ ys)
each_append P [] ys first second = second
each_append P (x ∷ xs) ys first second = (first.0, each_append P xs ys first.1 second)
