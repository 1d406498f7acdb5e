-- How a wire takes the bytes of size lines and of trailers.
use Rattle.std.proofs.Common.{◌≡◌, ℕ, zero, suc, ◌+◌, ◌<◌, ◌≤◌, inl, inr, ⊎_elim, Bool, true, false, List, [], ◌++◌, length, arith, sym, ap, ◌∙◌, refl, subst, append-nil, Some, None, nat_lt}
use Rattle.std.specs.Prelude.{◌==◌, if◌then◌else◌}
use Rattle.std.proofs.lemmas.Bool.Decides.{nat_tests}
use Rattle.http_wire.specs.declared.ending.Response.TheVariants.{Served, Garbled}
use Rattle.http_wire.specs.declared.phase.Phase.TheVariants as phases
use Rattle.http_wire.specs.declared.reading.SizeRead.{SizeRead}
use Rattle.http_wire.specs.declared.reading.SizeRead.TheVariants as sizes
use Rattle.http_wire.specs.declared.reading.TrailersRead.{TrailersRead}
use Rattle.http_wire.specs.declared.reading.TrailersRead.TheVariants as trails
use Rattle.http_wire.specs.Forms.{Whole, Unfinished, Bad, line_feeds, size_form, trailer_form}
use Rattle.http_wire.specs.Plain.{IsPlain, GoesPlain}
use Rattle.http_wire.specs.Stream.{Heads, SizeLine, Chunk, Trailing, hear, capped, behind_size, Leads}
use Rattle.http_wire.specs.State.{WireState}
use Rattle.http_wire.specs.Wire.{Stands, GoesOn, Follows}
use Rattle.http_wire.specs.Steps.{Moves, IsSizeRead, AreTrailersRead, IsFront, stopped, garbled, marked, joined, in_line, size_read, trailers_read}
use Rattle.http_wire.proofs.Decided.{leads_more, leads_on}
use Rattle.http_wire.proofs.FormLemmas.{none_in_line, whole_front}
use Rattle.http_wire.proofs.FormFacts.{size_facts, trailer_facts}
use Rattle.http_wire.proofs.LineCounts.{same_feeds}
use Rattle.http_wire.proofs.Begins.{no_trailers_yet}
use Rattle.http_wire.proofs.Plain.{not_plain, plain_more, trailers_go, goes_in_line}
use Rattle.http_wire.proofs.Moving.{count_more, place_here, going, goes, stops_at, stands_at, grown, lines_bad, size_in, trailers_in}

-- ---- size lines

some_size : (start : ℕ) (keep : Bool) (body : List ℕ) (n : ℕ) → 0 < n → behind_size start keep body n ≡ Chunk start keep body n
some_size start keep body zero some = absurd (omega arith)
some_size start keep body (suc n) some = refl

size_leads : (w : WireState) (given bytes : List ℕ) → w.phase ≡ phases.SizeLine → (g : GoesOn w given bytes) → Leads w.max w.from g.parts (Heads 0) bytes (SizeLine w.start w.keep (given ++ w.body)) w.part
size_leads w given bytes is g =
    let s = stands_at w given bytes phases.SizeLine is g in
    subst (λ z. Leads w.max w.from g.parts (Heads 0) bytes z w.part) s.0 (subst (λ z. Leads w.max w.from g.parts (Heads 0) bytes g.stage z) s.1 g.leads)

sized_chunk : (ends : Bool) (front : List ℕ) (size : ℕ) (w : WireState) → w.phase ≡ phases.SizeLine → w.ending ≡ None → IsFront ends front → IsSizeRead (w.part ++ front) (sizes.Whole size) → (max from : ℕ) (given bytes : List ℕ) → Follows w max from given bytes false → GoesOn w given bytes → (t : Bool) → (size == 0) ≡ t
    → Follows (if t then marked phases.Trailing (joined front w) else marked (phases.Chunk size) (joined front w)) max from given (bytes ++ front) false
sized_chunk ends front size w is none line whole max from given bytes h g true test =
    let s = stands_at w given bytes phases.SizeLine is g in
    let unfinished : Unfinished size_form w.part = subst (λ z. Unfinished size_form z) s.1 s.3 in
    let last : whole.1 ≡ [] = whole_front size_form size_facts ends w.part front whole.0 whole.1 line unfinished.none whole.2 in
    let here = leads_more w.max w.from g.parts (Heads 0) bytes (SizeLine w.start w.keep (given ++ w.body)) w.part front (size_leads w given bytes is g) in
    let nothing : size ≡ 0 = grind (arith, nat_tests) in
    let count = count_more w.count bytes front g.count in
    goes (marked phases.Trailing (joined front w)) max from given (bytes ++ front) h.max_is h.from_is none (record {
      parts = suc g.parts;
      stage = Trailing w.start w.keep (given ++ w.body);
      text = [];
      leads = leads_on w.max w.from g.parts (Heads 0) (bytes ++ front) (SizeLine w.start w.keep (given ++ w.body)) (Trailing w.start w.keep (given ++ w.body)) (w.part ++ front) [] here
          (whole.0, subst (λ z. Whole size_form (w.part ++ front) whole.0 z) last whole.2, sym (ap (behind_size w.start w.keep (given ++ w.body)) (sym whole.3 ∙ nothing)));
      stands = (refl, refl, no_trailers_yet, not_plain []);
      count = count;
      place = place_here (capped (w.count + length front)) (bytes ++ front) count;
    })
sized_chunk ends front size w is none line whole max from given bytes h g false test =
    let s = stands_at w given bytes phases.SizeLine is g in
    let unfinished : Unfinished size_form w.part = subst (λ z. Unfinished size_form z) s.1 s.3 in
    let last : whole.1 ≡ [] = whole_front size_form size_facts ends w.part front whole.0 whole.1 line unfinished.none whole.2 in
    let here = leads_more w.max w.from g.parts (Heads 0) bytes (SizeLine w.start w.keep (given ++ w.body)) w.part front (size_leads w given bytes is g) in
    let some : 0 < size = grind (arith, nat_tests) in
    let count = count_more w.count bytes front g.count in
    goes (marked (phases.Chunk size) (joined front w)) max from given (bytes ++ front) h.max_is h.from_is none (record {
      parts = suc g.parts;
      stage = Chunk w.start w.keep (given ++ w.body) size;
      text = [];
      leads = leads_on w.max w.from g.parts (Heads 0) (bytes ++ front) (SizeLine w.start w.keep (given ++ w.body)) (Chunk w.start w.keep (given ++ w.body) size) (w.part ++ front) [] here
          (whole.0, subst (λ z. Whole size_form (w.part ++ front) whole.0 z) last whole.2, sym (ap (behind_size w.start w.keep (given ++ w.body)) (sym whole.3) ∙ some_size w.start w.keep (given ++ w.body) size some));
      stands = (given ++ w.body, ap (Chunk w.start w.keep (given ++ w.body)) (let z : size ≡ 0 + size = omega arith in z), sym (append-nil (given ++ w.body)), some, record { is = s.2.is; within = s.2.within });
      count = count;
      place = place_here (capped (w.count + length front)) (bytes ++ front) count;
    })

pub size_line_read : (ends : Bool) (front : List ℕ) (read : SizeRead) (w : WireState) → w.phase ≡ phases.SizeLine → w.ending ≡ None → IsFront ends front → IsSizeRead (w.part ++ front) read → Moves w (size_read read (joined front w)) front
size_line_read ends front sizes.More w is none line part max from given bytes h =
    let g = going w max from given bytes none h in
    let s = stands_at w given bytes phases.SizeLine is g in
    let i = grown size_form w given bytes w.part front (size_in w given bytes is g) in
    goes (joined front w) max from given (bytes ++ front) h.max_is h.from_is none (record {
      parts = g.parts;
      stage = g.stage;
      text = w.part ++ front;
      leads = leads_more w.max w.from g.parts (Heads 0) bytes g.stage w.part front (subst (λ z. Leads w.max w.from g.parts (Heads 0) bytes g.stage z) s.1 g.leads);
      stands = subst (λ p. Stands p (joined front w) given g.stage (w.part ++ front)) (sym is) (s.0, refl, record { is = s.2.is; within = s.2.within }, part);
      count = i.count;
      place = i.place;
    })
size_line_read ends front sizes.Bad w is none line bad max from given bytes h =
    let g = going w max from given bytes none h in
    let i = grown size_form w given bytes w.part front (size_in w given bytes is g) in
    stops_at (garbled (joined front w)) max from given (bytes ++ front) false (Garbled w.place) h.max_is h.from_is refl
    (lines_bad size_form (joined front w) given (bytes ++ front) (w.part ++ front) false i bad)
size_line_read ends front (sizes.Whole size) w is none line whole max from given bytes h =
    sized_chunk ends front size w is none line whole max from given bytes h (going w max from given bytes none h) (size == 0) refl

-- ---- trailers

pub trailers_line_read : (ends : Bool) (front : List ℕ) (read : TrailersRead) (w : WireState) → w.phase ≡ phases.Trailing → w.ending ≡ None → IsFront ends front → IsPlain w.named w.valued (w.part ++ front) → AreTrailersRead (w.part ++ front) read → Moves w (trailers_read read (joined front w)) front
trailers_line_read ends front trails.More w is none line plain part max from given bytes h =
    let g = going w max from given bytes none h in
    let s = stands_at w given bytes phases.Trailing is g in
    let i = grown trailer_form w given bytes w.part front (trailers_in w given bytes is g) in
    goes (joined front w) max from given (bytes ++ front) h.max_is h.from_is none (record {
      parts = g.parts;
      stage = g.stage;
      text = w.part ++ front;
      leads = leads_more w.max w.from g.parts (Heads 0) bytes g.stage w.part front (subst (λ z. Leads w.max w.from g.parts (Heads 0) bytes g.stage z) s.1 g.leads);
      stands = subst (λ p. Stands p (joined front w) given g.stage (w.part ++ front)) (sym is) (s.0, refl, part, plain);
      count = i.count;
      place = i.place;
    })
trailers_line_read ends front trails.Bad w is none line plain bad max from given bytes h =
    let g = going w max from given bytes none h in
    let i = grown trailer_form w given bytes w.part front (trailers_in w given bytes is g) in
    stops_at (garbled (joined front w)) max from given (bytes ++ front) false (Garbled w.place) h.max_is h.from_is refl
    (lines_bad trailer_form (joined front w) given (bytes ++ front) (w.part ++ front) false i bad)
trailers_line_read ends front trails.Whole w is none line plain whole max from given bytes h =
    let g = going w max from given bytes none h in
    let s = stands_at w given bytes phases.Trailing is g in
    let unfinished : Unfinished trailer_form w.part = subst (λ z. Unfinished trailer_form z) s.1 s.2 in
    let last : whole.1 ≡ [] = whole_front trailer_form trailer_facts ends w.part front whole.0 whole.1 line unfinished.none whole.2 in
    let here = leads_more w.max w.from g.parts (Heads 0) bytes (Trailing w.start w.keep (given ++ w.body)) w.part front (subst (λ z. Leads w.max w.from g.parts (Heads 0) bytes z w.part) s.0 (subst (λ z. Leads w.max w.from g.parts (Heads 0) bytes g.stage z) s.1 g.leads)) in
    stops_at (stopped (Served w.keep) (joined front w)) max from given (bytes ++ front) false (Served w.keep) h.max_is h.from_is refl (record {
      heard = hear (Some (Served w.keep)) w.start (given ++ w.body) [];
      is = record {
        parts = g.parts;
        stage = Trailing w.start w.keep (given ++ w.body);
        text = w.part ++ front;
        leads = here;
        stops = inr (whole.0, [], subst (λ z. Whole trailer_form (w.part ++ front) whole.0 z) last whole.2, refl);
      };
      ending = refl;
      start = refl;
      holds = (refl, refl);
    })

plain_trailers : (front : List ℕ) (w : WireState) → w.phase ≡ phases.Trailing → w.ending ≡ None → GoesPlain w.named w.valued front → (max from : ℕ) (given bytes : List ℕ) → Follows w max from given bytes false → GoesOn w given bytes → (t : Bool) → nat_lt 65536 (length (w.part ++ front)) ≡ t
    → Follows (if t then garbled (joined front w) else joined front w) max from given (bytes ++ front) false
plain_trailers front w is none on max from given bytes h g true test =
    let s = stands_at w given bytes phases.Trailing is g in
    let line = goes_in_line w.named w.valued front on in
    let unfinished : Unfinished trailer_form w.part = subst (λ z. Unfinished trailer_form z) s.1 s.2 in
    let long : 65536 < length (w.part ++ front) = grind (arith, nat_tests) in
    let bad : Bad trailer_form (w.part ++ front) = record { none = none_in_line trailer_form trailer_facts w.part front line unfinished.none; why = inr (inl long) } in
    trailers_line_read false front trails.Bad w is none line (plain_more w.named w.valued w.part front s.3 on) bad max from given bytes h
plain_trailers front w is none on max from given bytes h g false test =
    let s = stands_at w given bytes phases.Trailing is g in
    let line = goes_in_line w.named w.valued front on in
    let unfinished : Unfinished trailer_form w.part = subst (λ z. Unfinished trailer_form z) s.1 s.2 in
    let short : length (w.part ++ front) ≤ 65536 = grind (arith, nat_tests) in
    let feeds = same_feeds w.part front line in
    let part : Unfinished trailer_form (w.part ++ front) = record {
      none = none_in_line trailer_form trailer_facts w.part front line unfinished.none;
      may = trailers_go w.named w.valued w.part front unfinished.may s.3 on;
      within = λ p. ⊎_elim (λ (long : 65536 < length (w.part ++ front)). let x : ⊥ = omega (arith, short, long) in x) (λ (many : 128 < line_feeds (w.part ++ front)). unfinished.within (inr (let x : 128 < line_feeds w.part = omega (arith, feeds, many) in x))) p;
    } in
    trailers_line_read false front trails.More w is none line (plain_more w.named w.valued w.part front s.3 on) part max from given bytes h

pub trailers_line_plain : (front : List ℕ) (w : WireState) → w.phase ≡ phases.Trailing → w.ending ≡ None → GoesPlain w.named w.valued front → Moves w (in_line 65536 (joined front w)) front
trailers_line_plain front w is none on max from given bytes h =
    plain_trailers front w is none on max from given bytes h (going w max from given bytes none h) (nat_lt 65536 (length (w.part ++ front))) refl
