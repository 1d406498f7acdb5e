-- Heads, size lines and trailers have what the laws of reading rest on.
use Rattle.std.proofs.Common.{◌≡◌, ℕ, ◌+◌, ◌<◌, ◌≤◌, ◌⊎◌, inl, inr, ⊎_elim, List, [], ◌∷◌, ◌++◌, length, arith, sym, ap, ◌∙◌, refl, append_assoc, length-append, All}
use Rattle.std.specs.List.{flat_map}
use Rattle.std.proofs.lemmas.List.{same_from_push}
use Rattle.httparse.specs.Grammar.{ResponseHead, IsResponseHead, ChunkLine, print_chunk_line, print_extension, LineEnd, crlf, lf, Field, IsField, print_field, print_end, print_blank, print_version, print_reason, print_section, print_response}
use Rattle.httparse.proofs.GrammarLemmas.{response_unique, section_unique}
use Rattle.httparse.proofs.ChunkLemmas.{chunk_line_unique}
use Rattle.http_wire.specs.Forms.{line_feeds, lines_behind_blank, head_form, size_form, Trailers, trailer_form}
use Rattle.http_wire.proofs.Lists.{snoc}
use Rattle.http_wire.proofs.FormLemmas.{Facts}
use Rattle.http_wire.proofs.LineCounts.{feeds-append, behind_more, head_lines, section_feeds}

section_ends : (fields : List Field) (last : LineEnd) → (front : List ℕ) × (print_section fields last ≡ front ++ 10 ∷ [])
section_ends fields crlf = (flat_map print_field fields ++ 13 ∷ [], sym (append_assoc (flat_map print_field fields) (13 ∷ []) (10 ∷ [])))
section_ends fields lf = (flat_map print_field fields, refl)

head_ends : (h : ResponseHead) → (front : List ℕ) × (print_response h ≡ front ++ 10 ∷ [])
unfolding print_response
head_ends h =
    let start = print_blank h.blank ++ print_version h.minor ++ 32 ∷ h.digits ++ print_reason h.reason ++ print_end h.line_end in
    let last = section_ends h.fields h.last in
    (start ++ last.0, ap (λ t. start ++ t) last.1 ∙ sym (append_assoc start last.0 (10 ∷ [])))

size_ends : (l : ChunkLine) → (front : List ℕ) × (print_chunk_line l ≡ front ++ 10 ∷ [])
unfolding print_chunk_line
size_ends l =
    let start = l.digits ++ l.pad ++ print_extension l.extension in
    (start ++ 13 ∷ [], sym (append_assoc start (13 ∷ []) (10 ∷ [])))

-- the bytes behind a text, up to the value's line feed, have one
pub last_feed : (text more front : List ℕ) (b : ℕ) → text ++ b ∷ more ≡ front ++ 10 ∷ [] → 1 ≤ line_feeds (b ∷ more)
last_feed text more front b same =
    let ends = snoc b more in
    let e : (text ++ ends.0) ++ ends.1 ∷ [] ≡ front ++ 10 ∷ [] = append_assoc text ends.0 (ends.1 ∷ []) ∙ ap (λ t. text ++ t) (sym ends.2) ∙ same in
    let feed : ends.1 ≡ 10 = (same_from_push (text ++ ends.0) front ends.1 10 e).1 in
    let sum : line_feeds (b ∷ more) ≡ line_feeds ends.0 + line_feeds (ends.1 ∷ []) = ap line_feeds ends.2 ∙ feeds-append ends.0 (ends.1 ∷ []) in
    let one : line_feeds (ends.1 ∷ []) ≡ 1 = ap (λ y. line_feeds (y ∷ [])) feed in
    omega (arith, sum, one)

longer : (p text more : List ℕ) (b : ℕ) → p ≡ text ++ b ∷ more → length text < length p
longer p text more b is =
    let e : length p ≡ length (text ++ b ∷ more) = ap length is in
    let a = length-append text (b ∷ more) in
    omega (arith, e, a)

head_inside : (h : ResponseHead) (text more : List ℕ) (b : ℕ) → IsResponseHead h → (length h.fields ≤ 128) × (length (print_response h) ≤ 65536) → (65536 < length text) ⊎ (129 < lines_behind_blank text) → print_response h ≡ text ++ b ∷ more → ⊥
head_inside h text more b valid fits passes is =
    ⊎_elim (λ long. let past = longer (print_response h) text more b is in let short = fits.1 in omega (arith, past, short, long)) many passes
  where
    many : 129 < lines_behind_blank text → ⊥
    many lines =
        let some : 0 < lines_behind_blank text = omega arith in
        let e : lines_behind_blank (print_response h) ≡ lines_behind_blank (text ++ b ∷ more) = ap lines_behind_blank is in
        let a = behind_more text (b ∷ more) some in
        let d = head_lines h valid in
        let last = head_ends h in
        let one = last_feed text more last.0 b (sym is ∙ last.1) in
        let few = fits.0 in
        omega (arith, e, a, d, one, few, lines)

pub head_facts : Facts head_form
head_facts = record {
  unique = λ v w r q a b same. response_unique (print_response v ++ r) v w r q (a, refl) (b, same);
  ends = head_ends;
  inside = head_inside;
  grows = λ text more passes. ⊎_elim (λ long. inl (let a = length-append text more in omega (arith, a, long))) (λ many. inr (let some : 0 < lines_behind_blank text = omega arith in let a = behind_more text more some in omega (arith, a, many))) passes;
}

pub size_facts : Facts size_form
size_facts = record {
  unique = λ v w r q a b same. let both = chunk_line_unique (print_chunk_line v ++ r) v w r q (a, refl) (b, same) in (both.0, both.1);
  ends = size_ends;
  inside = λ v text more b valid fits passes is. let past = longer (print_chunk_line v) text more b is in omega (arith, past, fits, passes);
  grows = λ text more passes. let a = length-append text more in omega (arith, a, passes);
}

trailer_inside : (t : Trailers) (text more : List ℕ) (b : ℕ) → All IsField t.0 → (length t.0 ≤ 128) × (length (print_section t.0 t.1) ≤ 65536) → (65536 < length text) ⊎ (128 < line_feeds text) → print_section t.0 t.1 ≡ text ++ b ∷ more → ⊥
trailer_inside t text more b valid fits passes is =
    ⊎_elim (λ long. let past = longer (print_section t.0 t.1) text more b is in let short = fits.1 in omega (arith, past, short, long)) many passes
  where
    many : 128 < line_feeds text → ⊥
    many lines =
        let e : line_feeds (print_section t.0 t.1) ≡ line_feeds (text ++ b ∷ more) = ap line_feeds is in
        let a = feeds-append text (b ∷ more) in
        let d = section_feeds t.0 t.1 valid in
        let last = section_ends t.0 t.1 in
        let one = last_feed text more last.0 b (sym is ∙ last.1) in
        let few = fits.0 in
        omega (arith, e, a, d, one, few, lines)

pub trailer_facts : Facts trailer_form
trailer_facts = record {
  unique = λ v w r q a b same. let all = section_unique (print_section v.0 v.1 ++ r) v.0 w.0 v.1 w.1 r q (a, refl) (b, same) in ((λ i. (all.0 i, all.1 i)), all.2);
  ends = λ t. section_ends t.0 t.1;
  inside = trailer_inside;
  grows = λ text more passes. ⊎_elim (λ long. inl (let a = length-append text more in omega (arith, a, long))) (λ many. inr (let a = feeds-append text more in omega (arith, a, many))) passes;
}
