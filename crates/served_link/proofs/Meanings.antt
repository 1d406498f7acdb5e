-- What the head of a response means to its asker.
use Rattle.std.proofs.Common.{◌≡◌, ℕ, ◌-◌, ◌<◌, ◌^◌, Bool, true, false, not, refl, ap, ◌∙◌, List, [], ◌∷◌, ◌++◌, arith, append_assoc, codes}
use Rattle.std.specs.Prelude.{◌==◌, ◌&&◌, ◌||◌, if◌then◌else◌}
use Rattle.std.specs.Fmt.{decimal}
use Rattle.std.specs.Str.Parse.{digits_value}
use Rattle.std.proofs.lemmas.Bool.Decides.{nat_tests}
use Rattle.std.proofs.lemmas.Fmt.{decimal_nonempty}
use Rattle.httparse.specs.Grammar.{trim_ows}
use Rattle.httparse.proofs.GrammarLemmas.{cons-append}
use Rattle.httparse.proofs.OnLiterals.{httparse_on_literals}
use Rattle.http_wire.specs.Fields.{before, behind, has_close, is_digits, is_range, is_span, values}
use Rattle.http_wire.specs.Grammar.{says}
use Rattle.http_wire.specs.Meaning.{body_of, counted, framed, framing, is_one_range, meaning}
use Rattle.http_wire.specs.declared.meaning.Framing.TheVariants.{Counted}
use Rattle.http_wire.specs.declared.meaning.Meaning.{Meaning}
use Rattle.http_wire.specs.declared.meaning.Meaning.TheVariants.{Absent, Body, Wrong}
use Rattle.tree_serve.specs.declared.answer.Answer.TheVariants as replies
use Rattle.served_link.proofs.Replies.{part_text, reply_head}
use Rattle.served_link.proofs.Texts.{before_is, behind_is, decimal_all, decimal_is_digits, decimal_number, decimal_value, decimal_visible, trimmed_ending, trimmed_is}

-- ---- a file that isn't there, or has no such part

-- 404 says that there is no file
pub absent_means : (from : ℕ) (last : Bool) → says from (reply_head replies.NotFound last) ≡ Absent 404
unfolding meaning
absent_means from last = refl

-- 416 says that there is no such part
pub beyond_means : (from size : ℕ) (last : Bool) → says from (reply_head (replies.Beyond size) last) ≡ Absent 416
unfolding meaning
beyond_means from size last = refl

-- ---- a whole file

-- the length that is written is the body's
framed_is : (n : ℕ) (keep : Bool) → n < 2 ^ 64 → framed (framing [] (trim_ows (32 ∷ decimal n) ∷ [])) keep ≡ Body (Counted n) keep
framed_is n keep small =
    ap (λ v. framed (framing [] (v ∷ [])) keep) (trimmed_is (decimal n) (decimal_visible n small))
    ∙ ap (λ o. framed (counted o []) keep) (decimal_number n small)

-- the field that closes the connection is heard
close_heard : has_close (trim_ows (32 ∷ codes "close")) ≡ true
unfolding httparse_on_literals has_close
close_heard = refl

-- what is said of a body of that length
abbrev body_by : ℕ → Bool → Meaning
body_by size closes = framed (framing [] (trim_ows (32 ∷ decimal size) ∷ [])) (not (closes || false))

-- 200 says a body of the file's length
pub whole_means : (size : ℕ) (last : Bool) → size < 2 ^ 64 → says 0 (reply_head (replies.Whole size) last) ≡ Body (Counted size) (not last)
unfolding meaning body_of values
whole_means size true small = ap (body_by size) close_heard ∙ framed_is size false small
whole_means size false small = framed_is size true small

-- ---- a part

-- the text of a range, from its first number on
span_text : (f l n : List ℕ) → f ++ (45 ∷ []) ++ l ++ (47 ∷ []) ++ n ≡ f ++ 45 ∷ (l ++ 47 ∷ n)
span_text f l n = simp (append_assoc, cons-append)

-- `is_span` of the three numbers
abbrev span_by : ℕ → List ℕ → List ℕ → List ℕ → Bool
span_by from first last size = is_digits first && (digits_value 10 first == from) && is_digits last && is_digits size

-- first byte, last byte and size are read as they are written
span_is : (from last size : ℕ) → from < 2 ^ 64 → last < 2 ^ 64 → size < 2 ^ 64 → is_span from (decimal from ++ 45 ∷ (decimal last ++ 47 ∷ decimal size)) ≡ true
unfolding is_span
span_is from last size a b c =
    let rest = decimal last ++ 47 ∷ decimal size in
    let text = decimal from ++ 45 ∷ rest in
    ap (λ f. span_by from f (before 47 (behind 45 text)) (behind 47 (behind 45 text))) (before_is 45 (decimal from) rest (omega arith) (decimal_all from a))
    ∙ ap (λ r. span_by from (decimal from) (before 47 r) (behind 47 r)) (behind_is 45 (decimal from) rest (omega arith) (decimal_all from a))
    ∙ ap (λ l. span_by from (decimal from) l (behind 47 rest)) (before_is 47 (decimal last) (decimal size) (omega arith) (decimal_all last b))
    ∙ ap (λ n. span_by from (decimal from) (decimal last) n) (behind_is 47 (decimal last) (decimal size) (omega arith) (decimal_all last b))
    ∙ all_hold (is_digits (decimal from)) (digits_value 10 (decimal from) == from) (is_digits (decimal last)) (is_digits (decimal size))
    (decimal_is_digits from a) (same (digits_value 10 (decimal from)) (decimal_value from a)) (decimal_is_digits last b) (decimal_is_digits size c)
  where
    all_hold : (a b c d : Bool) → a ≡ true → b ≡ true → c ≡ true → d ≡ true → (a && b && c && d) ≡ true
    all_hold a b c d p q r s = rw (p, q, r, s) refl

    same : (v : ℕ) → v ≡ from → (v == from) ≡ true
    same v is = grind (arith, nat_tests)

-- the range that is written is the one from that byte on
range_is : (from size : ℕ) → from < 2 ^ 64 → size < 2 ^ 64 → is_one_range from (trim_ows (32 ∷ part_text from size) ∷ []) ≡ true
range_is from size a b =
    ap (is_range from) (trimmed_ending (codes "bytes " ++ decimal from ++ codes "-" ++ decimal (size - 1) ++ codes "/") (decimal size) refl (decimal_nonempty size b) (decimal_visible size b))
    ∙ ap (is_span from) (span_text (decimal from) (decimal (size - 1)) (decimal size))
    ∙ span_is from (size - 1) size a (omega (arith, b)) b

-- a range from that byte on is what makes a part of the file's bytes
abbrev part_by : ℕ → ℕ → Meaning → Meaning
part_by from size body = if from == 0 then Wrong else (if is_one_range from (trim_ows (32 ∷ part_text from size) ∷ []) then body else Wrong)

-- where a part was asked for
part_is : (from size : ℕ) (body : Meaning) → 0 < from → from < size → size < 2 ^ 64 → part_by from size body ≡ body
part_is from size body some inside small =
    let first : (from == 0) ≡ false = grind (arith, nat_tests) in
    let range = range_is from size (omega (arith, inside, small)) small in
    rw (first, range) refl

-- 206 says a body of the length of what follows the byte
pub part_means : (from size : ℕ) (last : Bool) → 0 < from → from < size → size < 2 ^ 64 → says from (reply_head (replies.Part from size) last) ≡ Body (Counted (size - from)) (not last)
unfolding meaning body_of values
part_means from size true some inside small =
    part_is from size (body_by (size - from) (has_close (trim_ows (32 ∷ codes "close")))) some inside small
    ∙ ap (body_by (size - from)) close_heard ∙ framed_is (size - from) false (omega (arith, small))
part_means from size false some inside small =
    part_is from size (framed (framing [] (trim_ows (32 ∷ decimal (size - from)) ∷ [])) true) some inside small ∙ framed_is (size - from) true (omega (arith, small))
