-- What httparse's answers say of requests within the limits, and what holds of any text.
use Rattle.std.proofs.Common.{◌≡◌, ℕ, ◌<◌, ◌≤◌, inl, inr, ⊎_elim, true, false, Bool, List, [], ◌∷◌, ◌++◌, length, take, drop, map, arith, ap, ◌∙◌, refl, append-nil, append_assoc, length-take}
use Rattle.std.specs.Prelude.{◌||◌, ◌&&◌, ◌==◌, nat_lt}
use Rattle.std.specs.List.{count_by}
use Rattle.std.proofs.lemmas.Bool.Decides.{nat_tests}
use Rattle.std.proofs.lemmas.List.{length-map}
use Rattle.httparse.specs.declared.spans.HeaderSpan.{HeaderSpan}
use Rattle.httparse.specs.declared.spans.RequestSpans.{RequestSpans}
use Rattle.httparse.specs.Grammar.{RequestHead, print_request, print_blank, HasNoRequest, NeverHasRequest, MayBecomeRequest, EndsInTarget as ends_there}
use Rattle.httparse.specs.Spans.{IsRequestAt, IsRequestWithin, RequestOverflows, RequestExceeds, header_bytes, name_and_value}
use Rattle.httparse.proofs.GrammarLemmas.{request_unique}
use Rattle.http_wire.specs.Forms.{Whole, HasNone, line_feeds, lines_behind_blank}
use Rattle.http_requests.specs.Heads.{request_form, behind_blank, is_space, EndsInTarget, IsUnfinished, IsBad}
use Rattle.http_requests.specs.Reading.{IsHeadAt}
use Rattle.http_requests.specs.Tests.{ends_in_target, passes_limits}
use Rattle.http_requests.proofs.Lines.{target_counts, head_exceeds}

-- ---- the tests

passes_so : (text : List ℕ) → passes_limits text ≡ true → request_form.passes text
passes_so text is = by (nat_lt 65536 (length text)) refl is
  where
    by : (t : Bool) → nat_lt 65536 (length text) ≡ t → (t || nat_lt 129 (lines_behind_blank text)) ≡ true → request_form.passes text
    by true e is = inl (grind (arith, nat_tests))
    by false e is = inr (grind (arith, nat_tests))

within_so : (text : List ℕ) → passes_limits text ≡ false → ¬ (request_form.passes text)
within_so text is p = by (nat_lt 65536 (length text)) (nat_lt 129 (lines_behind_blank text)) refl refl is p
  where
    by : (a b : Bool) → nat_lt 65536 (length text) ≡ a → nat_lt 129 (lines_behind_blank text) ≡ b → (a || b) ≡ false → request_form.passes text → ⊥
    by true b e f is p = absurd cc
    by false true e f is p = absurd cc
    by false false e f is p = ⊎_elim (λ (long : 65536 < length text). let x : ⊥ = grind (arith, nat_tests) in x) (λ (many : 129 < lines_behind_blank text). let x : ⊥ = grind (arith, nat_tests) in x) p

ends_so : (text : List ℕ) → ends_in_target text ≡ true → EndsInTarget text
ends_so text is = by (count_by is_space (behind_blank text) == 1) (line_feeds (behind_blank text) == 0) refl refl is
  where
    by : (a b : Bool) → (count_by is_space (behind_blank text) == 1) ≡ a → (line_feeds (behind_blank text) == 0) ≡ b → (a && b) ≡ true → EndsInTarget text
    by true true e f is = record { one = grind (arith, nat_tests); no_line = grind (arith, nat_tests) }
    by true false e f is = absurd cc
    by false b e f is = absurd cc

other_so : (text : List ℕ) → ends_in_target text ≡ false → ¬ (EndsInTarget text)
other_so text is p = by (count_by is_space (behind_blank text) == 1) (line_feeds (behind_blank text) == 0) refl refl is
  where
    by : (a b : Bool) → (count_by is_space (behind_blank text) == 1) ≡ a → (line_feeds (behind_blank text) == 0) ≡ b → (a && b) ≡ false → ⊥
    by true true e f is = absurd cc
    by true false e f is = (let n = p.no_line in grind (arith, nat_tests))
    by false b e f is = (let n = p.one in grind (arith, nat_tests))

-- ---- texts without a head

no_head : (text : List ℕ) → HasNoRequest text → HasNone request_form text
no_head text none h rest is = none h rest (is.valid, is.is)

never_head : (text : List ℕ) → NeverHasRequest text → HasNone request_form text
never_head text never h rest is = never [] h rest (is.valid, append-nil text ∙ is.is)

-- httparse's word for a text that ends within a target says more than ours
within_target : (text : List ℕ) → ends_there text → EndsInTarget text
within_target text there =
    let counts = target_counts there.0 there.1 there.2 there.3 there.4 in
    let e = there.5 ∙ append_assoc (print_blank there.0) there.1 (32 ∷ there.2) in
    record { one = ap (λ t. count_by is_space (behind_blank t)) e ∙ counts.0; no_line = ap (λ t. line_feeds (behind_blank t)) e ∙ counts.1 }

pub head_more : (text : List ℕ) → HasNoRequest text → MayBecomeRequest text → passes_limits text ≡ false → IsUnfinished text
head_more text none may within = record {
  none = no_head text none;
  may = ⊎_elim (λ can. inl (can.0, can.1, can.2.0, can.2.1)) (λ there. inr (within_target text there)) may;
  within = within_so text within;
}

pub head_passes : (text : List ℕ) → HasNoRequest text → passes_limits text ≡ true → IsBad text
head_passes text none passes = record { none = no_head text none; why = inr (passes_so text passes) }

pub never_passes : (text : List ℕ) → NeverHasRequest text → passes_limits text ≡ true → IsBad text
never_passes text never passes = record { none = never_head text never; why = inr (passes_so text passes) }

pub never_in_target : (text : List ℕ) → NeverHasRequest text → ends_in_target text ≡ true → passes_limits text ≡ false → IsUnfinished text
never_in_target text never ends within = record { none = never_head text never; may = inr (ends_so text ends); within = within_so text within }

pub never_elsewhere : (text : List ℕ) → NeverHasRequest text → ends_in_target text ≡ false → IsBad text
never_elsewhere text never other = record {
  none = never_head text never;
  why = inl (λ more h rest valid is. never more h rest (valid, is), other_so text other);
}

pub head_too_many : (text : List ℕ) → RequestOverflows 128 text → RequestExceeds 128 text → IsBad text
head_too_many text over exceeds = record {
  none = λ h rest is. (let more = over [] h rest (is.valid, append-nil text ∙ is.is) in let few = is.fits.0 in omega (arith, more, few));
  why = inr (inr (head_exceeds text exceeds));
}

-- ---- texts with one

few_fields : (text : List ℕ) (spans : List HeaderSpan) (head : RequestSpans) (h : RequestHead) → IsRequestAt text spans head h → length spans ≡ 128 → length h.fields ≤ 128
few_fields text spans head h at room =
    let counts : length (map (header_bytes text) (take head.headers spans)) ≡ length (map name_and_value h.fields) = ap length at.fields in
    let a = length-map (take head.headers spans) (header_bytes text) in
    let b = length-map h.fields name_and_value in
    let d = length-take head.headers spans in
    omega (arith, counts, a, b, d, room)

pub head_too_long : (text : List ℕ) (spans : List HeaderSpan) (head : RequestSpans) → (h : RequestHead) × IsRequestAt text spans head h → IsRequestWithin text spans head → 65536 < head.len → IsBad text
head_too_long text spans head found within long = record {
  none = λ k rest is. (let same = (request_unique text found.0 k (drop head.len text) rest found.1.reads (is.valid, is.is)).0 in let f : length (print_request found.0) ≡ length (print_request k) = ap (λ x. length (print_request x)) same in let g = found.1.len in let s = is.fits.1 in omega (arith, f, g, s, long));
  why = inr (inl (let inside = within.section.len_fits in omega (arith, long, inside)));
}

pub head_whole : (text : List ℕ) (spans : List HeaderSpan) (head : RequestSpans) → (h : RequestHead) × IsRequestAt text spans head h → IsRequestWithin text spans head → head.len ≤ 65536 → length spans ≡ 128 → IsHeadAt text spans head
head_whole text spans head found within short room = record {
  is = found.0;
  whole = record { valid = found.1.reads.0; fits = (few_fields text spans head found.0 found.1 room, (let g = found.1.len in omega (arith, g, short))); is = found.1.reads.1 };
  at = found.1;
  within = within;
}

pub ruleset requests = (head_more, head_passes, never_passes, never_in_target, never_elsewhere, head_too_many, head_too_long, head_whole)

-- ---- any text

pub one_head : (text : List ℕ) (h k : RequestHead) (r q : List ℕ) → Whole request_form text h r → Whole request_form text k q → (h ≡ k) × (r ≡ q)
one_head text h k r q a b = request_unique text h k r q (a.valid, a.is) (b.valid, b.is)

pub not_both : (text : List ℕ) → IsUnfinished text → ¬ (IsBad text)
not_both text more bad =
    ⊎_elim (λ never. ⊎_elim (λ may. never.0 may.0 may.1 [] may.2 may.3) (λ ends. never.1 ends) more.may) (λ passes. more.within passes) bad.why

pub head_stays : (text more : List ℕ) (h : RequestHead) (rest : List ℕ) → Whole request_form text h rest → Whole request_form (text ++ more) h (rest ++ more)
head_stays text more h rest a = record { valid = a.valid; fits = a.fits; is = ap (λ t. t ++ more) a.is ∙ append_assoc (print_request h) rest more }

pub unfinished_short : (text : List ℕ) → IsUnfinished text → length text ≤ 65536
unfinished_short text more = by (nat_lt 65536 (length text)) refl
  where
    by : (t : Bool) → nat_lt 65536 (length text) ≡ t → length text ≤ 65536
    by true is = absurd (more.within (inl (grind (arith, nat_tests))))
    by false is = grind (arith, nat_tests)
