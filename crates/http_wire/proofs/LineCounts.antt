-- How many lines heads and trailers have.
use Rattle.std.proofs.Common.{◌≡◌, ℕ, ◌+◌, ◌<◌, ◌≤◌, List, [], ◌∷◌, ◌++◌, length, take, drop, arith, true, false, Bool, cond, zero, suc, sym, ap, ◌∙◌, refl, append_assoc, append-nil, All, Option, Some, None}
use Rattle.std.specs.Prelude.{◌||◌, IsTrue}
use Rattle.std.specs.List.{list_all, list_any, prefix_len, flat_map}
use Rattle.std.specs.Char.{is_ascii_digit}
use Rattle.std.proofs.lemmas.Bool.{and_parts}
use Rattle.std.proofs.lemmas.List.{same_from_push, take-append-drop}
use Rattle.std.proofs.lemmas.List.Elements.{All-head, All-tail}
use Rattle.std.proofs.lemmas.List.Sums.{sum_by-append, count_by-le-length}
use Rattle.httparse.specs.Pieces.{is_newline}
use Rattle.httparse.specs.Grammar.{AllPass, is_token_byte, is_value_byte, ResponseHead, IsResponseHead, LineEnd, crlf, lf, Field, IsField, print_end, print_blank, print_version, print_field, print_reason, reason_phrase, print_section, print_response}
use Rattle.httparse.specs.Spans.{ResponseExceeds, SectionExceeds}
use Rattle.httparse.proofs.GrammarLemmas.{print_response-append}
use Rattle.http_wire.specs.Forms.{is_line_feed, line_feeds, lines_behind_blank}
use Rattle.http_wire.proofs.Lists.{snoc}

pub feeds-append : (xs ys : List ℕ) → line_feeds (xs ++ ys) ≡ line_feeds xs + line_feeds ys
feeds-append xs ys = sum_by-append (λ x. cond (is_line_feed x) 1 0) xs ys

-- ---- parts without a line feed

pub other_byte : (p : ℕ → Bool) → p 10 ≡ false → (x : ℕ) → p x ≡ true → is_line_feed x ≡ false
other_byte p other x passes = grind (arith, differs)
  where
    differs : x ≡ 10 → ⊥
    differs same = let e : p x ≡ p 10 = ap p same in cc

pub no_feeds : (p : ℕ → Bool) → p 10 ≡ false → (xs : List ℕ) → AllPass p xs → line_feeds xs ≡ 0
no_feeds p other [] all = refl
no_feeds p other (x ∷ xs) all =
    let here : is_line_feed x ≡ false = other_byte p other x (All-head (λ b. IsTrue (p b)) x xs all) in
    let rest = no_feeds p other xs (All-tail (λ b. IsTrue (p b)) x xs all) in
    let one : line_feeds (x ∷ []) ≡ 0 = ap (λ t. 0 + cond {A = ℕ} t 1 0) here in
    let sum = feeds-append (x ∷ []) xs in
    omega (arith, rest, one, sum)

token_byte : is_token_byte 10 ≡ false
unfolding is_token_byte
token_byte = refl

pub end_feeds : (e : LineEnd) → line_feeds (print_end e) ≡ 1
end_feeds crlf = refl
end_feeds lf = refl

pub field_feeds : (f : Field) → IsField f → line_feeds (print_field f) ≡ 1
field_feeds f is =
    let a = feeds-append (f.name ++ 58 ∷ f.raw) (print_end f.end) in
    let b = feeds-append f.name (58 ∷ f.raw) in
    let d = end_feeds f.end in
    let n = no_feeds is_token_byte token_byte f.name is.name.1 in
    let v = no_feeds is_value_byte refl f.raw is.raw in
    omega (arith, a, b, d, n, v)

fields_feeds : (fs : List Field) → All IsField fs → line_feeds (flat_map print_field fs) ≡ length fs
fields_feeds [] all = refl
fields_feeds (f ∷ fs) all =
    let a = feeds-append (print_field f) (flat_map print_field fs) in
    let b = field_feeds f (All-head IsField f fs all) in
    let d = fields_feeds fs (All-tail IsField f fs all) in
    omega (arith, a, b, d)

pub section_feeds : (fs : List Field) (last : LineEnd) → All IsField fs → line_feeds (print_section fs last) ≡ length fs + 1
section_feeds fs last all =
    let a = feeds-append (flat_map print_field fs) (print_end last) in
    let b = end_feeds last in
    let d = fields_feeds fs all in
    omega (arith, a, b, d)

pub version_feeds : (minor : ℕ) → minor ≤ 1 → line_feeds (print_version minor) ≡ 0
version_feeds zero few = refl
version_feeds (suc zero) few = refl
version_feeds (suc (suc m)) few = absurd (omega arith)

pub reason_feeds : (r : Option (List ℕ)) → AllPass is_value_byte (reason_phrase r) → line_feeds (print_reason r) ≡ 0
reason_feeds None all = refl
reason_feeds (Some phrase) all = no_feeds is_value_byte refl phrase all

-- the status line and what follows it
abbrev behind_blank : ResponseHead → List ℕ
behind_blank h = print_version h.minor ++ 32 ∷ (h.digits ++ (print_reason h.reason ++ (print_end h.line_end ++ (print_section h.fields h.last ++ []))))

behind_feeds : (h : ResponseHead) → IsResponseHead h → line_feeds (behind_blank h) ≡ length h.fields + 2
behind_feeds h is =
    let s = print_section h.fields h.last ++ [] in
    let z : line_feeds s ≡ line_feeds (print_section h.fields h.last) = ap line_feeds (append-nil (print_section h.fields h.last)) in
    let a = section_feeds h.fields h.last is.fields in
    let b = feeds-append (print_end h.line_end) s in
    let d = end_feeds h.line_end in
    let e = feeds-append (print_reason h.reason) (print_end h.line_end ++ s) in
    let f = feeds-append h.digits (print_reason h.reason ++ (print_end h.line_end ++ s)) in
    let g = feeds-append (32 ∷ []) (h.digits ++ (print_reason h.reason ++ (print_end h.line_end ++ s))) in
    let i = feeds-append (print_version h.minor) (32 ∷ (h.digits ++ (print_reason h.reason ++ (print_end h.line_end ++ s)))) in
    let v = version_feeds h.minor is.minor in
    let r = reason_feeds h.reason is.reason in
    let n = no_feeds is_ascii_digit refl h.digits is.digits.1 in
    omega (arith, z, a, b, d, e, f, g, i, v, r, n)

-- ---- empty lines at the front

drop_one : (y : ℕ) (xs : List ℕ) (n : ℕ) → drop (1 + n) (y ∷ xs) ≡ drop n xs
drop_one y xs n = let more : 1 + n ≡ suc n = omega arith in ap (λ k. drop k (y ∷ xs)) more

abbrev skipped : List ℕ → List ℕ
skipped xs = drop (prefix_len is_newline xs) xs

skip_newline : (y : ℕ) (xs : List ℕ) → is_newline y ≡ true → skipped (y ∷ xs) ≡ skipped xs
skip_newline y xs newline = ap (λ t. drop (cond t (1 + prefix_len is_newline xs) 0) (y ∷ xs)) newline ∙ drop_one y xs (prefix_len is_newline xs)

skip_none : (y : ℕ) (xs : List ℕ) → is_newline y ≡ false → skipped (y ∷ xs) ≡ y ∷ xs
skip_none y xs other = ap (λ t. drop (cond t (1 + prefix_len is_newline xs) 0) (y ∷ xs)) other

skip_blank : (xs u : List ℕ) (x : ℕ) → list_all is_newline xs ≡ true → is_newline x ≡ false → skipped (xs ++ x ∷ u) ≡ x ∷ u
skip_blank [] u x all other = skip_none x u other
skip_blank (y ∷ xs) u x all other =
    let both = and_parts (is_newline y) (list_all is_newline xs) all in
    skip_newline y (xs ++ x ∷ u) both.0 ∙ skip_blank xs u x both.1 other

pub blank_newlines : (ends : List LineEnd) → list_all is_newline (print_blank ends) ≡ true
blank_newlines [] = refl
blank_newlines (crlf ∷ ends) = blank_newlines ends
blank_newlines (lf ∷ ends) = blank_newlines ends

skip_all : (xs : List ℕ) → list_all is_newline xs ≡ true → skipped xs ≡ []
skip_all [] all = refl
skip_all (y ∷ xs) all =
    let both = and_parts (is_newline y) (list_all is_newline xs) all in
    skip_newline y xs both.0 ∙ skip_all xs both.1

pub newline_lines : (xs : List ℕ) → list_all is_newline xs ≡ true → lines_behind_blank xs ≡ 0
unfolding lines_behind_blank
newline_lines xs all = ap line_feeds (skip_all xs all)

-- behind empty lines alone no line stands
pub blank_lines : (ends : List LineEnd) → lines_behind_blank (print_blank ends) ≡ 0
unfolding lines_behind_blank
blank_lines ends = ap line_feeds (skip_all (print_blank ends) (blank_newlines ends))

by_first : (c : ℕ) (text more : List ℕ) (t : Bool) → is_newline c ≡ t → (0 < line_feeds (skipped text) → line_feeds (skipped (text ++ more)) ≡ line_feeds (skipped text) + line_feeds more) → 0 < line_feeds (skipped (c ∷ text)) → line_feeds (skipped (c ∷ (text ++ more))) ≡ line_feeds (skipped (c ∷ text)) + line_feeds more
by_first c text more true newline rest some =
    let here = skip_newline c text newline in
    let e : line_feeds (skipped (c ∷ text)) ≡ line_feeds (skipped text) = ap line_feeds here in
    ap line_feeds (skip_newline c (text ++ more) newline) ∙ rest (omega (arith, e, some)) ∙ ap (λ n. n + line_feeds more) (sym e)
by_first c text more false other rest some =
    ap line_feeds (skip_none c (text ++ more) other) ∙ feeds-append (c ∷ text) more ∙ ap (λ t. line_feeds t + line_feeds more) (sym (skip_none c text other))

skipped_more : (text more : List ℕ) → 0 < line_feeds (skipped text) → line_feeds (skipped (text ++ more)) ≡ line_feeds (skipped text) + line_feeds more
skipped_more [] more some = absurd (omega arith)
skipped_more (c ∷ text) more some = by_first c text more (is_newline c) refl (skipped_more text more) some

-- behind a line that ended, further bytes add their line feeds
pub behind_more : (text more : List ℕ) → 0 < lines_behind_blank text → lines_behind_blank (text ++ more) ≡ lines_behind_blank text + line_feeds more
unfolding lines_behind_blank
behind_more text more some = skipped_more text more some

-- a head has a line for each field, the status line and an empty line
pub head_lines : (h : ResponseHead) → IsResponseHead h → lines_behind_blank (print_response h) ≡ length h.fields + 2
unfolding lines_behind_blank
head_lines h is =
    let e : print_response h ≡ print_blank h.blank ++ behind_blank h = sym (append-nil (print_response h)) ∙ print_response-append h [] in
    ap (λ t. line_feeds (skipped t)) e ∙ ap line_feeds (skip_blank (print_blank h.blank) _ 72 (blank_newlines h.blank) refl) ∙ behind_feeds h is

-- ---- texts that hold more fields than the limit

cut_lines : (blank front rest u text : List ℕ) → list_all is_newline blank ≡ true → text ≡ front ++ rest → front ++ 10 ∷ [] ≡ blank ++ 72 ∷ u → 131 ≤ line_feeds (72 ∷ u) → 129 < line_feeds (skipped text)
cut_lines blank front rest u text newlines is same many =
    let ends = snoc 72 u in
    let e : front ++ 10 ∷ [] ≡ (blank ++ ends.0) ++ ends.1 ∷ [] = same ∙ ap (λ t. blank ++ t) ends.2 ∙ sym (append_assoc blank ends.0 (ends.1 ∷ [])) in
    let cut : front ≡ blank ++ ends.0 = (same_from_push front (blank ++ ends.0) 10 ends.1 e).0 in
    let fewer : line_feeds (72 ∷ u) ≡ line_feeds ends.0 + line_feeds (ends.1 ∷ []) = ap line_feeds ends.2 ∙ feeds-append ends.0 (ends.1 ∷ []) in
    let one : line_feeds (ends.1 ∷ []) ≤ 1 = count_by-le-length is_line_feed (ends.1 ∷ []) in
    begins blank ends.0 rest u ends.1 text newlines (is ∙ ap (λ t. t ++ rest) cut) ends.2 (omega (arith, fewer, one, many))
  where
    begins : (blank front rest u : List ℕ) (y : ℕ) (text : List ℕ) → list_all is_newline blank ≡ true → text ≡ (blank ++ front) ++ rest → 72 ∷ u ≡ front ++ y ∷ [] → 130 ≤ line_feeds front → 129 < line_feeds (skipped text)
    begins blank [] rest u y text newlines is same many = absurd (omega arith)
    begins blank (x ∷ front) rest u y text newlines is same many =
        let x_is : x ≡ 72 = cc in
        let text_is : text ≡ blank ++ x ∷ (front ++ rest) = is ∙ append_assoc blank (x ∷ front) rest in
        let other : is_newline x ≡ false = ap is_newline x_is in
        let behind : line_feeds (skipped text) ≡ line_feeds ((x ∷ front) ++ rest) = ap (λ t. line_feeds (skipped t)) text_is ∙ ap line_feeds (skip_blank blank (front ++ rest) x newlines other) in
        let sum = feeds-append (x ∷ front) rest in
        omega (arith, behind, sum, many)

pub head_exceeds : (text : List ℕ) → ResponseExceeds 128 text → 129 < lines_behind_blank text
unfolding lines_behind_blank
head_exceeds text over =
    let h = over.3 in
    let reads = over.4 in
    let many = behind_feeds h reads.0 in
    let more = over.5 in
    cut_lines (print_blank h.blank) over.0 over.1 _ text (blank_newlines h.blank) over.2 (reads.1 ∙ print_response-append h []) (omega (arith, many, more))

pub section_exceeds : (text : List ℕ) → SectionExceeds 128 text → 128 < line_feeds text
section_exceeds text over =
    let fields = over.3 in
    let reads = over.4 in
    let many = section_feeds fields lf reads.0 in
    let e : line_feeds (over.0 ++ 10 ∷ []) ≡ line_feeds (print_section fields lf) = ap line_feeds (reads.1 ∙ append-nil (print_section fields lf)) in
    let a = feeds-append over.0 (10 ∷ []) in
    let b = feeds-append over.0 over.1 in
    let d : line_feeds text ≡ line_feeds (over.0 ++ over.1) = ap line_feeds over.2 in
    let more = over.5 in
    omega (arith, many, e, a, b, d, more)

-- ---- a part of a line adds no line

no_feed_count : (front : List ℕ) → list_any is_line_feed front ≡ false → line_feeds front ≡ 0
no_feed_count [] none = refl
no_feed_count (x ∷ front) none =
    let both = none_of (is_line_feed x) (list_any is_line_feed front) none in
    let one : line_feeds (x ∷ []) ≡ 0 = ap (λ t. 0 + cond {A = ℕ} t 1 0) both.0 in
    let rest = no_feed_count front both.1 in
    let sum = feeds-append (x ∷ []) front in
    omega (arith, rest, one, sum)
  where
    none_of : (a b : Bool) → (a || b) ≡ false → (a ≡ false) × (b ≡ false)
    none_of true b both = cc
    none_of false b both = (refl, both)

skipped_few : (text : List ℕ) → line_feeds (skipped text) ≤ line_feeds text
skipped_few text =
    let n = prefix_len is_newline text in
    let e : line_feeds (take n text ++ drop n text) ≡ line_feeds text = ap line_feeds (take-append-drop n text) in
    let a = feeds-append (take n text) (drop n text) in
    omega (arith, e, a)

first_line : (c : ℕ) (text front : List ℕ) (t : Bool) → is_newline c ≡ t → list_any is_line_feed front ≡ false → line_feeds (skipped (text ++ front)) ≡ line_feeds (skipped text) → line_feeds (skipped (c ∷ (text ++ front))) ≡ line_feeds (skipped (c ∷ text))
first_line c text front true newline none rest = ap line_feeds (skip_newline c (text ++ front) newline) ∙ rest ∙ ap line_feeds (sym (skip_newline c text newline))
first_line c text front false other none rest =
    let a = feeds-append (c ∷ text) front in
    let b = no_feed_count front none in
    let d : line_feeds (skipped (c ∷ (text ++ front))) ≡ line_feeds ((c ∷ text) ++ front) = ap line_feeds (skip_none c (text ++ front) other) in
    let e : line_feeds (skipped (c ∷ text)) ≡ line_feeds (c ∷ text) = ap line_feeds (skip_none c text other) in
    omega (arith, a, b, d, e)

skipped_line : (text front : List ℕ) → list_any is_line_feed front ≡ false → line_feeds (skipped (text ++ front)) ≡ line_feeds (skipped text)
skipped_line [] front none =
    let a = skipped_few front in
    let b = no_feed_count front none in
    let e : line_feeds (skipped front) ≡ 0 = omega (arith, a, b) in
    e
skipped_line (c ∷ text) front none = first_line c text front (is_newline c) refl none (skipped_line text front none)

pub same_lines : (text front : List ℕ) → list_any is_line_feed front ≡ false → lines_behind_blank (text ++ front) ≡ lines_behind_blank text
unfolding lines_behind_blank
same_lines text front none = skipped_line text front none

pub same_feeds : (text front : List ℕ) → list_any is_line_feed front ≡ false → line_feeds (text ++ front) ≡ line_feeds text
same_feeds text front none =
    let a = feeds-append text front in
    let b = no_feed_count front none in
    omega (arith, a, b)
