-- How a wire takes the bytes of heads.
use Rattle.std.proofs.Common.{◌≡◌, ℕ, suc, ◌+◌, ◌-◌, ◌<◌, ◌≤◌, inl, inr, ⊎_elim, Bool, true, false, List, [], ◌∷◌, ◌++◌, length, drop, map, arith, sym, ap, ◌∙◌, refl, subst, Some, None, nat_lt}
use Rattle.std.specs.Prelude.{◌==◌, if◌then◌else◌}
use Rattle.std.proofs.lemmas.Bool.Decides.{nat_tests}
use Rattle.httparse.specs.Grammar.{ResponseHead, status_code}
use Rattle.httparse.specs.Spans.{name_and_value}
use Rattle.http_wire.specs.declared.ending.Response.TheVariants.{Served, Absent, Moved, TooBig, Garbled}
use Rattle.http_wire.specs.declared.meaning.Framing.{Framing}
use Rattle.http_wire.specs.declared.meaning.Framing.TheVariants as framings
use Rattle.http_wire.specs.declared.meaning.Meaning.{Meaning}
use Rattle.http_wire.specs.declared.meaning.Meaning.TheVariants as meanings
use Rattle.http_wire.specs.declared.phase.Phase.TheVariants as phases
use Rattle.http_wire.specs.declared.reading.HeadRead.{HeadRead}
use Rattle.http_wire.specs.declared.reading.HeadRead.TheVariants as heads
use Rattle.http_wire.specs.Meaning.{meaning}
use Rattle.http_wire.specs.Forms.{Whole, Unfinished, Bad, lines_behind_blank, head_form}
use Rattle.http_wire.specs.Plain.{IsPlain, GoesPlain}
use Rattle.http_wire.specs.Stream.{Stage, Heads, Counted, Unbounded, SizeLine, Heard, hear, Next, Goes, Ends, Breaks, capped, announced, stage_of, next_of, start_of, behind_head, garbled_at, EndsBehind, Leads, IsHeard}
use Rattle.http_wire.specs.State.{WireState}
use Rattle.http_wire.specs.Wire.{Stands, GoesOn, Follows}
use Rattle.http_wire.specs.Steps.{Moves, IsHeadRead, IsFront, IsEmptyLine, stopped, garbled, marked, joined, blank_passed, in_line, body_framed, final_head, head_whole, head_read}
use Rattle.http_wire.proofs.Decided.{leads_more, leads_on}
use Rattle.http_wire.proofs.FormLemmas.{one_whole, none_in_line, whole_front}
use Rattle.http_wire.proofs.FormFacts.{head_facts}
use Rattle.http_wire.proofs.LineCounts.{same_lines}
use Rattle.http_wire.proofs.Begins.{no_head_yet, no_size_yet}
use Rattle.http_wire.proofs.Plain.{not_plain, plain_more, head_goes, goes_in_line}
use Rattle.http_wire.proofs.Blanks.{blank_none, blank_more, blank_whole, all_blank, blank_unfinished, blank_bad, return_behind, return_unfinished, return_bad}
use Rattle.http_wire.proofs.Moving.{InLines, place_here, going, goes, stops_at, stands_at, grown, lines_bad, head_in}

-- a head is whole with the last byte that the wire took
record IsWhole (v : WireState) (given bytes : List ℕ) (passed status : ℕ) (says : Meaning) : Type 0 where
  parts : ℕ
  leads : Leads v.max v.from parts (Heads 0) bytes (Heads passed) v.part
  h : ResponseHead
  whole : Whole head_form v.part h []
  status_is : status ≡ status_code h
  says_is : says ≡ meaning v.from (status_code h) h.minor (map name_and_value h.fields)
  nothing : given ++ v.body ≡ []
  start : v.start ≡ 0
  count : v.count ≡ capped (length bytes)
  place : v.place ≡ capped (length bytes - length v.part)

leads_to : (v : WireState) (given bytes : List ℕ) (passed status : ℕ) (says : Meaning) → (i : IsWhole v given bytes passed status says) → behind_head v.max v.from passed i.h ≡ next_of v.max passed (start_of v.from status) says
unfolding behind_head
leads_to v given bytes passed status says i =
    let e : next_of v.max passed (start_of v.from (status_code i.h)) (meaning v.from (status_code i.h) i.h.minor (map name_and_value i.h.fields)) ≡ next_of v.max passed (start_of v.from (status_code i.h)) says = ap (next_of v.max passed (start_of v.from (status_code i.h))) (sym i.says_is) in
    e ∙ ap (λ n. next_of v.max passed (start_of v.from n) says) (sym i.status_is)

ends_by : (v : WireState) (given bytes : List ℕ) (passed status : ℕ) (says : Meaning) (next : Next) (heard : Heard) → (i : IsWhole v given bytes passed status says) → next_of v.max passed (start_of v.from status) says ≡ next → EndsBehind next (length bytes) v.part (start_of v.from status) [] heard → IsHeard v.max v.from bytes false heard
ends_by v given bytes passed status says next heard i is stops = record {
  parts = i.parts;
  stage = Heads passed;
  text = v.part;
  leads = i.leads;
  stops = inr (i.h, [], i.whole, (let back : EndsBehind next (length bytes) v.part (start_of v.from (status_code i.h)) [] heard = subst (λ n. EndsBehind next (length bytes) v.part (start_of v.from n) [] heard) i.status_is stops in subst (λ n. EndsBehind n (length bytes) v.part (start_of v.from (status_code i.h)) [] heard) (sym (leads_to v given bytes passed status says i ∙ is)) back));
}

goes_by : (v : WireState) (given bytes : List ℕ) (passed status : ℕ) (says : Meaning) (next : Stage) → (i : IsWhole v given bytes passed status says) → next_of v.max passed (start_of v.from status) says ≡ Goes next → Leads v.max v.from (suc i.parts) (Heads 0) bytes next []
goes_by v given bytes passed status says next i is = leads_on v.max v.from i.parts (Heads 0) bytes (Heads passed) next v.part [] i.leads (i.h, i.whole, leads_to v given bytes passed status says i ∙ is)

-- the reading breaks at a whole head
breaks : (v : WireState) (given bytes : List ℕ) (passed status : ℕ) (says : Meaning) → IsWhole v given bytes passed status says → next_of v.max passed (start_of v.from status) says ≡ Breaks → (max from : ℕ) → v.max ≡ max → v.from ≡ from → Follows (garbled (record v { start = start_of v.from status })) max from given bytes false
breaks v given bytes passed status says i is max from m f =
    let u : WireState = record v { start = start_of v.from status } in
    stops_at (garbled u) max from given bytes false (Garbled v.place) m f refl (record {
      heard = hear (garbled_at (length bytes) v.part) (start_of v.from status) [] [];
      is = ends_by v given bytes passed status says Breaks (hear (garbled_at (length bytes) v.part) (start_of v.from status) [] []) i is refl;
      ending = ap (λ n. Some (Garbled n)) (sym i.place);
      start = refl;
      holds = sym i.nothing;
    })

absent : (v : WireState) (given bytes : List ℕ) (passed status other : ℕ) → IsWhole v given bytes passed status (meanings.Absent other) → (max from : ℕ) → v.max ≡ max → v.from ≡ from → Follows (stopped (Absent other) (record v { start = start_of v.from status })) max from given bytes false
absent v given bytes passed status other i max from m f =
    stops_at (stopped (Absent other) (record v { start = start_of v.from status })) max from given bytes false (Absent other) m f refl (record {
      heard = hear (Some (Absent other)) (start_of v.from status) [] [];
      is = ends_by v given bytes passed status (meanings.Absent other) (Ends (Absent other)) (hear (Some (Absent other)) (start_of v.from status) [] []) i refl refl;
      ending = refl;
      start = refl;
      holds = (sym i.nothing, refl);
    })

moved : (v : WireState) (given bytes : List ℕ) (passed status : ℕ) (place : List ℕ) → IsWhole v given bytes passed status (meanings.Moved place) → (max from : ℕ) → v.max ≡ max → v.from ≡ from → Follows (stopped (Moved place) (record v { start = start_of v.from status })) max from given bytes false
moved v given bytes passed status place i max from m f =
    stops_at (stopped (Moved place) (record v { start = start_of v.from status })) max from given bytes false (Moved place) m f refl (record {
      heard = hear (Some (Moved place)) (start_of v.from status) [] [];
      is = ends_by v given bytes passed status (meanings.Moved place) (Ends (Moved place)) (hear (Some (Moved place)) (start_of v.from status) [] []) i refl refl;
      ending = refl;
      start = refl;
      holds = (sym i.nothing, refl);
    })

-- another interim head may follow
interim : (v : WireState) (given bytes : List ℕ) (passed status : ℕ) → IsWhole v given bytes passed status meanings.Interim → v.ending ≡ None → (max from : ℕ) → v.max ≡ max → v.from ≡ from → (t : Bool) → nat_lt passed 16 ≡ t → Follows (if t then marked (phases.Heads (passed + 1)) v else final_head status meanings.Interim v) max from given bytes false
interim v given bytes passed status i none max from m f true is =
    let u = marked (phases.Heads (passed + 1)) v in
    goes u max from given bytes m f none (record {
      parts = suc i.parts;
      stage = Heads (passed + 1);
      text = [];
      leads = goes_by v given bytes passed status meanings.Interim (Heads (passed + 1)) i (ap (λ t. if t then Goes (Heads (passed + 1)) else Breaks) is);
      stands = (refl, refl, i.nothing, i.start, no_head_yet, blank_none, not_plain []);
      count = i.count;
      place = place_here v.count bytes i.count;
    })
interim v given bytes passed status i none max from m f false is =
    breaks v given bytes passed status meanings.Interim i (ap (λ t. if t then Goes (Heads (passed + 1)) else Breaks) is) max from m f

-- ---- bodies that begin

within : (max n : ℕ) → nat_lt max n ≡ false → n ≤ max
within max n not = grind (arith, nat_tests)

framed : (v : WireState) (given bytes : List ℕ) (passed status : ℕ) (how : Framing) (keep : Bool) → (i : IsWhole v given bytes passed status (meanings.Body how keep)) → v.ending ≡ None → nat_lt v.max (start_of v.from status + announced how) ≡ false → (max from : ℕ) → v.max ≡ max → v.from ≡ from
    → Leads v.max v.from (suc i.parts) (Heads 0) bytes (stage_of how (start_of v.from status) keep) [] → Follows (body_framed how keep (record v { start = start_of v.from status; reached = start_of v.from status; keep = keep })) max from given bytes false
framed v given bytes passed status framings.Chunks keep i none fits max from m f leads =
    let s = start_of v.from status in
    let u : WireState = marked phases.SizeLine (record v { start = s; reached = s; keep = keep }) in
    let e : length (given ++ v.body) ≡ 0 = ap length i.nothing in
    let less = within v.max (s + 0) fits in
    goes u max from given bytes m f none (record {
      parts = suc i.parts;
      stage = SizeLine s keep [];
      text = [];
      leads = leads;
      stands = (ap (SizeLine s keep) (sym i.nothing), refl, record { is = (let z : s ≡ s + length (given ++ v.body) = omega (arith, e) in z); within = (let z : s ≤ v.max = omega (arith, less) in z) }, no_size_yet);
      count = i.count;
      place = place_here v.count bytes i.count;
    })
framed v given bytes passed status (framings.Counted size) keep i none fits max from m f leads =
    sized (size == 0) refl
  where
    s : ℕ
    s = start_of v.from status

    sized : (t : Bool) → (size == 0) ≡ t → Follows (if t then stopped (Served keep) (marked (phases.Counted size) (record v { start = start_of v.from status; reached = start_of v.from status; keep = keep })) else marked (phases.Counted size) (record v { start = start_of v.from status; reached = start_of v.from status; keep = keep })) max from given bytes false
    sized true is =
        let zero_size : size ≡ 0 = grind (arith, nat_tests) in
        stops_at (stopped (Served keep) (marked (phases.Counted size) (record v { start = start_of v.from status; reached = start_of v.from status; keep = keep }))) max from given bytes false (Served keep) m f refl (record {
          heard = hear (Some (Served keep)) (start_of v.from status) [] [];
          is = record {
            parts = suc i.parts;
            stage = Counted (start_of v.from status) keep size;
            text = [];
            leads = leads;
            stops = inr ([], [], sym zero_size, refl, refl);
          };
          ending = refl;
          start = refl;
          holds = (sym i.nothing, refl);
        })
    sized false is =
        let some : 0 < size = grind (arith, nat_tests) in
        let e : length (given ++ v.body) ≡ 0 = ap length i.nothing in
        goes (marked (phases.Counted size) (record v { start = start_of v.from status; reached = start_of v.from status; keep = keep })) max from given bytes m f none (record {
          parts = suc i.parts;
          stage = Counted (start_of v.from status) keep size;
          text = [];
          leads = leads;
          stands = (ap (Counted (start_of v.from status) keep) (let z : size ≡ length (given ++ v.body) + size = omega (arith, e) in z), sym i.nothing, some);
          count = i.count;
          place = place_here v.count bytes i.count;
        })
framed v given bytes passed status framings.Unbounded keep i none fits max from m f leads =
    let s = start_of v.from status in
    let u : WireState = marked phases.Unbounded (record v { start = s; reached = s; keep = keep }) in
    let e : length (given ++ v.body) ≡ 0 = ap length i.nothing in
    let less = within v.max (s + 0) fits in
    goes u max from given bytes m f none (record {
      parts = suc i.parts;
      stage = Unbounded s;
      text = [];
      leads = leads;
      stands = (refl, sym i.nothing, record { is = (let z : s ≡ s + length (given ++ v.body) = omega (arith, e) in z); within = (let z : s ≤ v.max = omega (arith, less) in z) });
      count = i.count;
      place = place_here v.count bytes i.count;
    })

begun : (v : WireState) (given bytes : List ℕ) (passed status : ℕ) (how : Framing) (keep : Bool) → IsWhole v given bytes passed status (meanings.Body how keep) → v.ending ≡ None → (max from : ℕ) → v.max ≡ max → v.from ≡ from → (t : Bool) → nat_lt v.max (start_of v.from status + announced how) ≡ t
    → Follows (if t then stopped TooBig (record v { start = start_of v.from status }) else body_framed how keep (record v { start = start_of v.from status; reached = start_of v.from status; keep = keep })) max from given bytes false
begun v given bytes passed status how keep i none max from m f true is =
    stops_at (stopped TooBig (record v { start = start_of v.from status })) max from given bytes false TooBig m f refl (record {
      heard = hear (Some TooBig) (start_of v.from status) [] [];
      is = ends_by v given bytes passed status (meanings.Body how keep) (Ends TooBig) (hear (Some TooBig) (start_of v.from status) [] []) i (ap (λ t. if t then Ends TooBig else Goes (stage_of how (start_of v.from status) keep)) is) refl;
      ending = refl;
      start = refl;
      holds = tt;
    })
begun v given bytes passed status how keep i none max from m f false is =
    framed v given bytes passed status how keep i none is max from m f (goes_by v given bytes passed status (meanings.Body how keep) (stage_of how (start_of v.from status) keep) i (ap (λ t. if t then Ends TooBig else Goes (stage_of how (start_of v.from status) keep)) is))

after_whole : (v : WireState) (given bytes : List ℕ) (passed status : ℕ) (says : Meaning) → IsWhole v given bytes passed status says → v.ending ≡ None → (max from : ℕ) → v.max ≡ max → v.from ≡ from → Follows (head_whole passed status says v) max from given bytes false
after_whole v given bytes passed status meanings.Interim i none max from m f = interim v given bytes passed status i none max from m f (nat_lt passed 16) refl
after_whole v given bytes passed status (meanings.Absent other) i none max from m f = absent v given bytes passed status other i max from m f
after_whole v given bytes passed status (meanings.Moved place) i none max from m f = moved v given bytes passed status place i max from m f
after_whole v given bytes passed status meanings.Wrong i none max from m f = breaks v given bytes passed status meanings.Wrong i refl max from m f
after_whole v given bytes passed status (meanings.Body how keep) i none max from m f = begun v given bytes passed status how keep i none max from m f (nat_lt v.max (start_of v.from status + announced how)) refl

-- a whole head ends with these bytes
ends_whole : (passed : ℕ) (front : List ℕ) (status : ℕ) (says : Meaning) (h : ResponseHead) (w : WireState) → w.phase ≡ phases.Heads passed → w.ending ≡ None → Whole head_form (w.part ++ front) h [] → status ≡ status_code h
    → says ≡ meaning w.from (status_code h) h.minor (map name_and_value h.fields) → Moves w (head_whole passed status says (joined front w)) front
ends_whole passed front status says h w is none whole status_is says_is max from given bytes f =
    let g = going w max from given bytes none f in
    let s = stands_at w given bytes (phases.Heads passed) is g in
    let i = grown head_form w given bytes w.part front (head_in w given bytes passed is g) in
    let here : Leads w.max w.from g.parts (Heads 0) bytes (Heads passed) w.part = subst (λ z. Leads w.max w.from g.parts (Heads 0) bytes z w.part) s.0 (subst (λ z. Leads w.max w.from g.parts (Heads 0) bytes g.stage z) s.1 g.leads) in
    after_whole (joined front w) given (bytes ++ front) passed status says (record {
      parts = g.parts;
      leads = leads_more w.max w.from g.parts (Heads 0) bytes (Heads passed) w.part front here;
      h = h;
      whole = whole;
      status_is = status_is;
      says_is = says_is;
      nothing = s.2;
      start = s.3;
      count = i.count;
      place = i.place;
    }) none max from f.max_is f.from_is

-- what is read where a whole head ends
pub head_front_read : (passed : ℕ) (front : List ℕ) (h : ResponseHead) (read : HeadRead) (w : WireState) → w.phase ≡ phases.Heads passed → w.ending ≡ None → Whole head_form (w.part ++ front) h [] → IsHeadRead w.from (w.part ++ front) read
    → Moves w (head_read passed read (joined front w)) front
head_front_read passed front h heads.More w is none whole unfinished = absurd (unfinished.none h [] whole)
head_front_read passed front h heads.Bad w is none whole bad = absurd (bad.none h [] whole)
head_front_read passed front h (heads.Whole status says) w is none whole found =
    let last : found.1 ≡ [] = (one_whole head_form head_facts (w.part ++ front) found.0 h found.1 [] found.2 whole).1 in
    ends_whole passed front status says found.0 w is none (subst (λ z. Whole head_form (w.part ++ front) found.0 z) last found.2) found.3 found.4

-- ---- a part of a head, up to the end of a line or of a piece

pub head_line_read : (passed : ℕ) (ends : Bool) (front : List ℕ) (read : HeadRead) (w : WireState) → w.phase ≡ phases.Heads passed → w.ending ≡ None → IsFront ends front → IsPlain w.named w.valued (w.part ++ front) → IsHeadRead w.from (w.part ++ front) read → Moves w (head_read passed read (joined front w)) front
head_line_read passed ends front heads.More w is none line plain part max from given bytes h =
    let g = going w max from given bytes none h in
    let s = stands_at w given bytes (phases.Heads passed) is g in
    let i = grown head_form w given bytes w.part front (head_in w given bytes passed is g) in
    goes (joined front w) max from given (bytes ++ front) h.max_is h.from_is none (record {
      parts = g.parts;
      stage = g.stage;
      text = w.part ++ front;
      leads = leads_more w.max w.from g.parts (Heads 0) bytes g.stage w.part front (subst (λ z. Leads w.max w.from g.parts (Heads 0) bytes g.stage z) s.1 g.leads);
      stands = subst (λ p. Stands p (joined front w) given g.stage (w.part ++ front)) (sym is) (s.0, refl, s.2, s.3, part, blank_more w.blank w.part front s.5, plain);
      count = i.count;
      place = i.place;
    })
head_line_read passed ends front heads.Bad w is none line plain bad max from given bytes h =
    let g = going w max from given bytes none h in
    let i = grown head_form w given bytes w.part front (head_in w given bytes passed is g) in
    stops_at (garbled (joined front w)) max from given (bytes ++ front) false (Garbled w.place) h.max_is h.from_is refl
    (lines_bad head_form (joined front w) given (bytes ++ front) (w.part ++ front) false i bad)
head_line_read passed ends front (heads.Whole status says) w is none line plain whole max from given bytes h =
    let g = going w max from given bytes none h in
    let s = stands_at w given bytes (phases.Heads passed) is g in
    let unfinished : Unfinished head_form w.part = subst (λ z. Unfinished head_form z) s.1 s.4 in
    let last : whole.1 ≡ [] = whole_front head_form head_facts ends w.part front whole.0 whole.1 line unfinished.none whole.2 in
    ends_whole passed front status says whole.0 w is none (subst (λ z. Whole head_form (w.part ++ front) whole.0 z) last whole.2) whole.3 whole.4 max from given bytes h

-- ---- bytes of a name or of a value, which need no reading

plain_head : (passed : ℕ) (front : List ℕ) (w : WireState) → w.phase ≡ phases.Heads passed → w.ending ≡ None → GoesPlain w.named w.valued front → (max from : ℕ) (given bytes : List ℕ) → Follows w max from given bytes false → GoesOn w given bytes → (t : Bool) → nat_lt 65536 (length (w.part ++ front)) ≡ t
    → Follows (if t then garbled (joined front w) else joined front w) max from given (bytes ++ front) false
plain_head passed front w is none on max from given bytes h g true test =
    let s = stands_at w given bytes (phases.Heads passed) is g in
    let line = goes_in_line w.named w.valued front on in
    let unfinished : Unfinished head_form w.part = subst (λ z. Unfinished head_form z) s.1 s.4 in
    let long : 65536 < length (w.part ++ front) = grind (arith, nat_tests) in
    let bad : Bad head_form (w.part ++ front) = record { none = none_in_line head_form head_facts w.part front line unfinished.none; why = inr (inl long) } in
    head_line_read passed false front heads.Bad w is none line (plain_more w.named w.valued w.part front s.6 on) bad max from given bytes h
plain_head passed front w is none on max from given bytes h g false test =
    let s = stands_at w given bytes (phases.Heads passed) is g in
    let line = goes_in_line w.named w.valued front on in
    let unfinished : Unfinished head_form w.part = subst (λ z. Unfinished head_form z) s.1 s.4 in
    let short : length (w.part ++ front) ≤ 65536 = grind (arith, nat_tests) in
    let lines = same_lines w.part front line in
    let part : Unfinished head_form (w.part ++ front) = record {
      none = none_in_line head_form head_facts w.part front line unfinished.none;
      may = head_goes w.named w.valued w.part front unfinished.may s.6 on;
      within = λ p. ⊎_elim (λ (long : 65536 < length (w.part ++ front)). let x : ⊥ = omega (arith, short, long) in x) (λ (many : 129 < lines_behind_blank (w.part ++ front)). unfinished.within (inr (let x : 129 < lines_behind_blank w.part = omega (arith, lines, many) in x))) p;
    } in
    head_line_read passed false front heads.More w is none line (plain_more w.named w.valued w.part front s.6 on) part max from given bytes h

pub head_line_plain : (passed : ℕ) (front : List ℕ) (w : WireState) → w.phase ≡ phases.Heads passed → w.ending ≡ None → GoesPlain w.named w.valued front → Moves w (in_line 65536 (joined front w)) front
head_line_plain passed front w is none on max from given bytes h =
    plain_head passed front w is none on max from given bytes h (going w max from given bytes none h) (nat_lt 65536 (length (w.part ++ front))) refl

-- ---- an empty line ends, behind empty lines alone

passed_in : (w : WireState) (given bytes text : List ℕ) → InLines head_form w given bytes text → InLines head_form (blank_passed w) given bytes text
passed_in w given bytes text i = record { parts = i.parts; stage = i.stage; leads = i.leads; halts = i.halts; count = i.count; place = i.place }

past_blank : (passed : ℕ) (front : List ℕ) (w : WireState) → w.phase ≡ phases.Heads passed → w.ending ≡ None → IsEmptyLine (drop w.blank (w.part ++ front)) → IsPlain w.named w.valued (w.part ++ front) → (max from : ℕ) (given bytes : List ℕ) → Follows w max from given bytes false → GoesOn w given bytes
    → (t : Bool) → nat_lt 65536 (length (w.part ++ front)) ≡ t → Follows (if t then garbled (blank_passed (joined front w)) else blank_passed (joined front w)) max from given (bytes ++ front) false
past_blank passed front w is none line plain max from given bytes h g true test =
    let s = stands_at w given bytes (phases.Heads passed) is g in
    let ends = all_blank w.blank (w.part ++ front) (blank_more w.blank w.part front s.5) line in
    let i = passed_in (joined front w) given (bytes ++ front) (w.part ++ front) (grown head_form w given bytes w.part front (head_in w given bytes passed is g)) in
    let long : 65536 < length (w.part ++ front) = grind (arith, nat_tests) in
    stops_at (garbled (blank_passed (joined front w))) max from given (bytes ++ front) false (Garbled w.place) h.max_is h.from_is refl
    (lines_bad head_form (blank_passed (joined front w)) given (bytes ++ front) (w.part ++ front) false i (blank_bad ends.0 (w.part ++ front) ends.1 long))
past_blank passed front w is none line plain max from given bytes h g false test =
    let s = stands_at w given bytes (phases.Heads passed) is g in
    let ends = all_blank w.blank (w.part ++ front) (blank_more w.blank w.part front s.5) line in
    let i = grown head_form w given bytes w.part front (head_in w given bytes passed is g) in
    let short : length (w.part ++ front) ≤ 65536 = grind (arith, nat_tests) in
    goes (blank_passed (joined front w)) max from given (bytes ++ front) h.max_is h.from_is none (record {
      parts = g.parts;
      stage = g.stage;
      text = w.part ++ front;
      leads = leads_more w.max w.from g.parts (Heads 0) bytes g.stage w.part front (subst (λ z. Leads w.max w.from g.parts (Heads 0) bytes g.stage z) s.1 g.leads);
      stands = subst (λ p. Stands p (blank_passed (joined front w)) given g.stage (w.part ++ front)) (sym is) (s.0, refl, s.2, s.3, blank_unfinished ends.0 (w.part ++ front) ends.1 short, blank_whole (w.part ++ front) ends.0 ends.1, plain);
      count = i.count;
      place = i.place;
    })

pub head_line_blank : (passed : ℕ) (front : List ℕ) (w : WireState) → w.phase ≡ phases.Heads passed → w.ending ≡ None → IsEmptyLine (drop w.blank (w.part ++ front)) → IsPlain w.named w.valued (w.part ++ front) → Moves w (in_line 65536 (blank_passed (joined front w))) front
head_line_blank passed front w is none line plain max from given bytes h =
    past_blank passed front w is none line plain max from given bytes h (going w max from given bytes none h) (nat_lt 65536 (length (w.part ++ front))) refl

-- ---- a carriage return behind empty lines, which may end one more

at_return : (passed : ℕ) (ends : Bool) (front : List ℕ) (w : WireState) → w.phase ≡ phases.Heads passed → w.ending ≡ None → IsFront ends front → drop w.blank (w.part ++ front) ≡ 13 ∷ [] → IsPlain w.named w.valued (w.part ++ front) → (max from : ℕ) (given bytes : List ℕ) → Follows w max from given bytes false → GoesOn w given bytes
    → (t : Bool) → nat_lt 65536 (length (w.part ++ front)) ≡ t → Follows (if t then garbled (joined front w) else joined front w) max from given (bytes ++ front) false
at_return passed ends front w is none line last plain max from given bytes h g true test =
    let s = stands_at w given bytes (phases.Heads passed) is g in
    let blank = return_behind w.blank (w.part ++ front) (blank_more w.blank w.part front s.5) last in
    let long : 65536 < length (w.part ++ front) = grind (arith, nat_tests) in
    head_line_read passed ends front heads.Bad w is none line plain (return_bad blank.0 (w.part ++ front) blank.1 long) max from given bytes h
at_return passed ends front w is none line last plain max from given bytes h g false test =
    let s = stands_at w given bytes (phases.Heads passed) is g in
    let blank = return_behind w.blank (w.part ++ front) (blank_more w.blank w.part front s.5) last in
    let short : length (w.part ++ front) ≤ 65536 = grind (arith, nat_tests) in
    head_line_read passed ends front heads.More w is none line plain (return_unfinished blank.0 (w.part ++ front) blank.1 short) max from given bytes h

pub head_line_return : (passed : ℕ) (ends : Bool) (front : List ℕ) (w : WireState) → w.phase ≡ phases.Heads passed → w.ending ≡ None → IsFront ends front → drop w.blank (w.part ++ front) ≡ 13 ∷ [] → IsPlain w.named w.valued (w.part ++ front) → Moves w (in_line 65536 (joined front w)) front
head_line_return passed ends front w is none line last plain max from given bytes h =
    at_return passed ends front w is none line last plain max from given bytes h (going w max from given bytes none h) (nat_lt 65536 (length (w.part ++ front))) refl
