-- What httparse's answers say of heads, size lines and trailers within the limits.
use Rattle.std.proofs.Common.{◌≡◌, ℕ, ◌<◌, ◌≤◌, inl, inr, ⊎_elim, List, [], ◌++◌, length, take, drop, get_or, map, arith, sym, ap, ◌∙◌, append-nil, length-append, length-take, All}
use Rattle.std.proofs.lemmas.List.{length-map}
use Rattle.httparse.specs.declared.spans.HeaderSpan.{HeaderSpan}
use Rattle.httparse.specs.declared.spans.ResponseSpans.{ResponseSpans}
use Rattle.httparse.specs.Grammar.{ResponseHead, print_response, ReadsResponse, HasNoResponse, NeverHasResponse, MayBecomeResponse, ChunkLine, chunk_size, print_chunk_line, HasNoChunkLine, NeverHasChunkLine, MayBecomeChunkLine, Field, LineEnd, print_section, HasNoSection, NeverHasSection, MayBecomeSection}
use Rattle.httparse.specs.Spans.{IsResponseAt, IsResponseWithin, ResponseOverflows, ResponseExceeds, SectionOverflows, SectionExceeds, IsSectionAt, IsChunkLineAt, IsHeaderWithin, header_bytes, name_and_value}
use Rattle.http_wire.specs.Forms.{Whole, HasNone, Unfinished, Bad, line_feeds, lines_behind_blank, head_form, size_form, Trailers, trailer_form}
use Rattle.http_wire.proofs.FormFacts.{head_facts, size_facts, trailer_facts}
use Rattle.http_wire.proofs.LineCounts.{head_exceeds, section_exceeds}

-- ---- heads

no_head : (text : List ℕ) → HasNoResponse text → HasNone head_form text
no_head text none h rest is = none h rest (is.valid, is.is)

pub head_more : (text : List ℕ) → HasNoResponse text → MayBecomeResponse text → length text ≤ 65536 → lines_behind_blank text ≤ 129 → Unfinished head_form text
head_more text none may short few = record {
  none = no_head text none;
  may = (may.0, may.1, may.2.0, may.2.1);
  within = λ p. ⊎_elim (λ (long : 65536 < length text). let x : ⊥ = omega arith in x) (λ (many : 129 < lines_behind_blank text). let x : ⊥ = omega arith in x) p;
}

pub head_long : (text : List ℕ) → HasNoResponse text → 65536 < length text → Bad head_form text
head_long text none long = record { none = no_head text none; why = inr (inl long) }

pub head_many : (text : List ℕ) → HasNoResponse text → 129 < lines_behind_blank text → Bad head_form text
head_many text none many = record { none = no_head text none; why = inr (inr many) }

pub head_never : (text : List ℕ) → NeverHasResponse text → Bad head_form text
head_never text never = record {
  none = λ h rest is. never [] h rest (is.valid, append-nil text ∙ is.is);
  why = inl (λ more h rest valid is. never more h rest (valid, is));
}

few_fields : (text : List ℕ) (spans : List HeaderSpan) (head : ResponseSpans) (h : ResponseHead) → IsResponseAt text spans head h → length spans ≡ 128 → length h.fields ≤ 128
few_fields text spans head h at room =
    let counts : length (map (header_bytes text) (take head.headers spans)) ≡ length (map name_and_value h.fields) = ap length at.fields in
    let a = length-map (take head.headers spans) (header_bytes text) in
    let b = length-map h.fields name_and_value in
    let d = length-take head.headers spans in
    omega (arith, counts, a, b, d, room)

pub head_too_long : (text : List ℕ) (spans : List HeaderSpan) (head : ResponseSpans) → (h : ResponseHead) × IsResponseAt text spans head h → 65536 < head.len → head.len ≤ length text → Bad head_form text
head_too_long text spans head found long inside = record {
  none = λ k rest is. (let both = response_same text found.0 k (drop head.len text) rest found.1.reads is in let f : length (print_response found.0) ≡ length (print_response k) = ap (λ x. length (print_response x)) both in let g = found.1.len in let s = is.fits.1 in omega (arith, f, g, s));
  why = inr (inl (omega arith));
}
  where
    response_same : (text : List ℕ) (h k : ResponseHead) (r q : List ℕ) → ReadsResponse text h r → Whole head_form text k q → h ≡ k
    response_same text h k r q a b = (head_facts.unique h k r q a.0 b.valid (sym a.1 ∙ b.is)).0

pub head_whole : (text : List ℕ) (spans : List HeaderSpan) (head : ResponseSpans) → (h : ResponseHead) × IsResponseAt text spans head h → IsResponseWithin text spans head → head.len ≤ 65536 → length spans ≡ 128 → (h : ResponseHead) × Whole head_form text h (drop head.len text) × IsResponseAt text spans head h × IsResponseWithin text spans head
head_whole text spans head found within short room =
    (found.0, record { valid = found.1.reads.0; fits = (few_fields text spans head found.0 found.1 room, (let g = found.1.len in omega (arith, g))); is = found.1.reads.1 }, found.1, within)

pub head_too_many : (text : List ℕ) → ResponseOverflows 128 text → ResponseExceeds 128 text → Bad head_form text
head_too_many text over exceeds = record {
  none = λ h rest is. (let more = over [] h rest (is.valid, append-nil text ∙ is.is) in let few = is.fits.0 in omega (arith, more, few));
  why = inr (inr (head_exceeds text exceeds));
}

pub ruleset heads = (head_more, head_long, head_many, head_never, head_too_long, head_whole)

-- spans that lie in a front lie in the text
within_more : (n m : ℕ) (s : HeaderSpan) → n ≤ m → IsHeaderWithin n s → IsHeaderWithin m s
within_more n m s less is =
    let a = is.0.1 in
    let b = is.1.1 in
    ((is.0.0, omega arith), (is.1.0, omega arith))

pub all_within : (n m : ℕ) (spans : List HeaderSpan) → n ≤ m → All (IsHeaderWithin n) spans → All (IsHeaderWithin m) spans
all_within n m spans less all k x here = within_more n m (get_or spans k x) less (all k x here)

-- ---- size lines

no_size : (text : List ℕ) → HasNoChunkLine text → HasNone size_form text
no_size text none l rest is = none l rest (is.valid, is.is)

pub size_more : (text : List ℕ) → HasNoChunkLine text → MayBecomeChunkLine text → length text ≤ 4096 → Unfinished size_form text
size_more text none may short = record { none = no_size text none; may = (may.0, may.1, may.2.0, may.2.1); within = λ (long : 4096 < length text). let x : ⊥ = omega arith in x }

pub size_long : (text : List ℕ) → HasNoChunkLine text → 4096 < length text → Bad size_form text
size_long text none long = record { none = no_size text none; why = inr long }

pub size_never : (text : List ℕ) → NeverHasChunkLine text → Bad size_form text
size_never text never = record {
  none = λ l rest is. never [] l rest (is.valid, append-nil text ∙ is.is);
  why = inl (λ more l rest valid is. never more l rest (valid, is));
}

pub size_whole : (text : List ℕ) (len size : ℕ) → (l : ChunkLine) × IsChunkLineAt text len size l → len ≤ 4096 → (l : ChunkLine) × (rest : List ℕ) × Whole size_form text l rest × (size ≡ chunk_size l)
size_whole text len size found short =
    (found.0, drop len text, record { valid = found.1.reads.0; fits = (let g = found.1.len_is in omega (arith, g)); is = found.1.reads.1 }, found.1.size_is)

pub size_too_long : (text : List ℕ) (len size : ℕ) → (l : ChunkLine) × IsChunkLineAt text len size l → 4096 < len → Bad size_form text
size_too_long text len size found long = record {
  none = λ k rest is. (let both = size_facts.unique found.0 k (drop len text) rest found.1.reads.0 is.valid (sym found.1.reads.1 ∙ is.is) in let f : length (print_chunk_line found.0) ≡ length (print_chunk_line k) = ap (λ x. length (print_chunk_line x)) both.0 in let g = found.1.len_is in let s = is.fits in omega (arith, f, g, s));
  why = inr (let e : length text ≡ length (print_chunk_line found.0 ++ drop len text) = ap length found.1.reads.1 in let a = length-append (print_chunk_line found.0) (drop len text) in let g = found.1.len_is in omega (arith, e, a, g));
}

pub ruleset sizes = (size_more, size_long, size_never, size_whole, size_too_long)

-- ---- trailers

no_trailers : (text : List ℕ) → HasNoSection text → HasNone trailer_form text
no_trailers text none t rest is = none t.0 t.1 rest (is.valid, is.is)

pub trailers_more : (text : List ℕ) → HasNoSection text → MayBecomeSection text → length text ≤ 65536 → line_feeds text ≤ 128 → Unfinished trailer_form text
trailers_more text none may short few = record {
  none = no_trailers text none;
  may = (may.0, (may.1, may.2), may.3.0, may.3.1);
  within = λ p. ⊎_elim (λ (long : 65536 < length text). let x : ⊥ = omega arith in x) (λ (many : 128 < line_feeds text). let x : ⊥ = omega arith in x) p;
}

pub trailers_long : (text : List ℕ) → HasNoSection text → 65536 < length text → Bad trailer_form text
trailers_long text none long = record { none = no_trailers text none; why = inr (inl long) }

pub trailers_many : (text : List ℕ) → HasNoSection text → 128 < line_feeds text → Bad trailer_form text
trailers_many text none many = record { none = no_trailers text none; why = inr (inr many) }

pub trailers_never : (text : List ℕ) → NeverHasSection text → Bad trailer_form text
trailers_never text never = record {
  none = λ t rest is. never [] t.0 t.1 rest (is.valid, append-nil text ∙ is.is);
  why = inl (λ more t rest valid is. never more t.0 t.1 rest (valid, is));
}

few_trailers : (text : List ℕ) (spans : List HeaderSpan) (len count : ℕ) (fields : List Field) (last : LineEnd) → IsSectionAt text 0 spans len count fields last → length spans ≡ 128 → length fields ≤ 128
few_trailers text spans len count fields last at room =
    let counts : length (map (header_bytes text) (take count spans)) ≡ length (map name_and_value fields) = ap length at.fields_are in
    let a = length-map (take count spans) (header_bytes text) in
    let b = length-map fields name_and_value in
    let d = length-take count spans in
    omega (arith, counts, a, b, d, room)

pub trailers_whole : (text : List ℕ) (spans : List HeaderSpan) (len count : ℕ) → (fields : List Field) × (last : LineEnd) × IsSectionAt text 0 spans len count fields last → len ≤ 65536 → length spans ≡ 128 → (t : Trailers) × (rest : List ℕ) × Whole trailer_form text t rest
trailers_whole text spans len count found short room =
    ((found.0, found.1), drop len text, record { valid = found.2.reads.0; fits = (few_trailers text spans len count found.0 found.1 found.2 room, (let g = found.2.len_is in omega (arith, g))); is = found.2.reads.1 })

pub trailers_too_long : (text : List ℕ) (spans : List HeaderSpan) (len count : ℕ) → (fields : List Field) × (last : LineEnd) × IsSectionAt text 0 spans len count fields last → 65536 < len → Bad trailer_form text
trailers_too_long text spans len count found long = record {
  none = λ t rest is. (let both = trailer_facts.unique (found.0, found.1) t (drop len text) rest found.2.reads.0 is.valid (sym found.2.reads.1 ∙ is.is) in let f : length (print_section found.0 found.1) ≡ length (print_section t.0 t.1) = ap (λ x. length (print_section x.0 x.1)) both.0 in let g = found.2.len_is in let s = is.fits.1 in omega (arith, f, g, s));
  why = inr (inl (let e : length text ≡ length (print_section found.0 found.1 ++ drop len text) = ap length found.2.reads.1 in let a = length-append (print_section found.0 found.1) (drop len text) in let g = found.2.len_is in omega (arith, e, a, g)));
}

pub trailers_too_many : (text : List ℕ) → SectionOverflows 128 text → SectionExceeds 128 text → Bad trailer_form text
trailers_too_many text over exceeds = record {
  none = λ t rest is. (let more = over [] t.0 t.1 rest (is.valid, append-nil text ∙ is.is) in let few = is.fits.0 in omega (arith, more, few));
  why = inr (inr (section_exceeds text exceeds));
}

pub ruleset trailers = (trailers_more, trailers_long, trailers_many, trailers_never, trailers_whole, trailers_too_long)
