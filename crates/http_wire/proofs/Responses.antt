-- A whole response is heard as its body.
use Rattle.std.proofs.Common.{◌≡◌, ℕ, zero, suc, ◌+◌, ◌<◌, ◌≤◌, inr, Bool, true, false, List, [], ◌∷◌, ◌++◌, length, arith, sym, ap, ◌∙◌, refl, subst, append_assoc, append-nil, length-append, Some, All, nat_lt}
use Rattle.std.specs.Prelude.{if◌then◌else◌}
use Rattle.std.specs.List.{flat_map}
use Rattle.std.proofs.lemmas.Bool.Decides.{nat_tests}
use Rattle.std.proofs.lemmas.List.Elements.{All-head, All-tail}
use Rattle.httparse.specs.Ascii.{crlf_bytes}
use Rattle.httparse.specs.Grammar.{ResponseHead, print_response, status_code, print_chunk_line, chunk_size, print_section}
use Rattle.http_wire.specs.declared.ending.Response.TheVariants.{Served, TooBig}
use Rattle.http_wire.specs.declared.meaning.Framing.{Framing}
use Rattle.http_wire.specs.declared.meaning.Framing.TheVariants as framings
use Rattle.http_wire.specs.declared.meaning.Meaning.{Meaning}
use Rattle.http_wire.specs.declared.meaning.Meaning.TheVariants as meanings
use Rattle.http_wire.specs.Forms.{Whole, head_form, size_form}
use Rattle.http_wire.specs.Grammar.{says, Says, ChunkOf, IsChunk, chunk_text, chunk_bytes, IsFramed, IsResponse}
use Rattle.http_wire.specs.Stream.{Stage, Heads, Counted, SizeLine, Chunk, Closing, Trailing, hear, Goes, Ends, Breaks, announced, stage_of, next_of, start_of, behind_head, behind_size, Stops, Leads, IsHeard}

leads_join : (max from n m : ℕ) (s t u : Stage) (a b c : List ℕ) → Leads max from n s a t b → Leads max from m t b u c → (k : ℕ) × Leads max from k s a u c
leads_join max from zero m s t u a b c first second = (m, subst (λ z. Leads max from m z a u c) (sym first.0) (subst (λ z. Leads max from m t z u c) (sym first.1) second))
leads_join max from (suc n) m s t u a b c first second =
    let rest = leads_join max from n m first.0 t u first.1 b c first.3 second in
    (suc rest.0, (first.0, first.1, first.2, rest.1))

-- ---- heads

says_next : (max from passed : ℕ) (h : ResponseHead) (what : Meaning) → says from h ≡ what → behind_head max from passed h ≡ next_of max passed (start_of from (status_code h)) what
unfolding behind_head
says_next max from passed h what is = ap (next_of max passed (start_of from (status_code h))) is

interims_lead : (max from passed : ℕ) (hs : List ResponseHead) (tail : List ℕ) → All (Says from meanings.Interim) hs → passed + length hs ≤ 16 → (n : ℕ) × (last : ℕ) × Leads max from n (Heads passed) (flat_map print_response hs ++ tail) (Heads last) tail
interims_lead max from passed [] tail each few = (zero, passed, (refl, refl))
interims_lead max from passed (h ∷ hs) tail each few =
    let here = All-head (Says from meanings.Interim) h hs each in
    let under : nat_lt passed 16 ≡ true = grind (arith, nat_tests) in
    let rest = interims_lead max from (passed + 1) hs tail (All-tail (Says from meanings.Interim) h hs each) (omega arith) in
    let middle = flat_map print_response hs ++ tail in
    let whole : Whole head_form ((print_response h ++ flat_map print_response hs) ++ tail) h middle = record { valid = here.valid; fits = here.fits; is = append_assoc (print_response h) (flat_map print_response hs) tail } in
    (suc rest.0, rest.1, (Heads (passed + 1), middle, (h, whole, says_next max from passed h meanings.Interim here.is ∙ ap (λ t. if t then Goes (Heads (passed + 1)) else Breaks) under), rest.2))

-- ---- chunks

some_size : (start : ℕ) (keep : Bool) (body : List ℕ) (n : ℕ) → 0 < n → behind_size start keep body n ≡ Chunk start keep body n
some_size start keep body zero some = absurd (omega arith)
some_size start keep body (suc n) some = refl

chunks_lead : (max from start : ℕ) (keep : Bool) (cs : List ChunkOf) (body tail : List ℕ) → All IsChunk cs → start + length body + length (flat_map chunk_bytes cs) ≤ max
    → (n : ℕ) × Leads max from n (SizeLine start keep body) (flat_map chunk_text cs ++ tail) (SizeLine start keep (body ++ flat_map chunk_bytes cs)) tail
chunks_lead max from start keep [] body tail each within = (zero, (ap (SizeLine start keep) (sym (append-nil body)), refl))
chunks_lead max from start keep (c ∷ cs) body tail each within =
    let here = All-head IsChunk c cs each in
    let after = flat_map chunk_text cs ++ tail in
    let a = length-append c.1 (flat_map chunk_bytes cs) in
    let b = length-append body c.1 in
    let size = here.size in
    let fewer : start + length (body ++ c.1) + length (flat_map chunk_bytes cs) ≤ max = omega (arith, a, b, within) in
    let inside : start + length body + chunk_size c.0 ≤ max = omega (arith, a, size, within) in
    let rest = chunks_lead max from start keep cs (body ++ c.1) tail (All-tail IsChunk c cs each) fewer in
    let cut : (chunk_text c ++ flat_map chunk_text cs) ++ tail ≡ print_chunk_line c.0 ++ (c.1 ++ 13 ∷ 10 ∷ after) =
    append_assoc (chunk_text c) (flat_map chunk_text cs) tail ∙ append_assoc (print_chunk_line c.0) (c.1 ++ crlf_bytes) after ∙ ap (λ z. print_chunk_line c.0 ++ z) (append_assoc c.1 crlf_bytes after) in
    let whole : Whole size_form ((chunk_text c ++ flat_map chunk_text cs) ++ tail) c.0 (c.1 ++ 13 ∷ 10 ∷ after) = record { valid = here.valid; fits = here.fits; is = cut } in
    let last : Leads max from rest.0 (SizeLine start keep (body ++ c.1)) after (SizeLine start keep (body ++ (c.1 ++ flat_map chunk_bytes cs))) tail = subst (λ z. Leads max from rest.0 (SizeLine start keep (body ++ c.1)) after (SizeLine start keep z) tail) (append_assoc body c.1 (flat_map chunk_bytes cs)) rest.1 in (
      suc (suc (suc rest.0)),
      (
        Chunk start keep body (chunk_size c.0),
        c.1 ++ 13 ∷ 10 ∷ after,
        (c.0, whole, sym (some_size start keep body (chunk_size c.0) here.some)),
        (
          Closing start keep (body ++ c.1),
          13 ∷ 10 ∷ after,
          (c.1, here.size, refl, inside, refl),
          (SizeLine start keep (body ++ c.1), after, (refl, refl), last),
        ),
      ),
    )

-- ---- bodies

body_heard : (max from start : ℕ) (keep : Bool) (how : Framing) (text body rest : List ℕ) (count : ℕ) → IsFramed how text body → start + length body ≤ max
    → (n : ℕ) × (s : Stage) × (left : List ℕ) × Leads max from n (stage_of how start keep) (text ++ rest) s left × Stops max from false count s left (hear (Some (Served keep)) start body rest)
body_heard max from start keep framings.Chunks text body rest count f within =
    let bytes = flat_map chunk_bytes f.chunks in
    let section = print_section f.trailers.0 f.trailers.1 in
    let tail = print_chunk_line f.last ++ (section ++ rest) in
    let e : length body ≡ length bytes = ap length f.body_is in
    let chunks = chunks_lead max from start keep f.chunks [] tail f.each (omega (arith, e, within)) in
    let cut : text ++ rest ≡ flat_map chunk_text f.chunks ++ tail =
    ap (λ z. z ++ rest) f.text_is ∙ append_assoc (flat_map chunk_text f.chunks) (print_chunk_line f.last ++ section) rest ∙ ap (λ z. flat_map chunk_text f.chunks ++ z) (append_assoc (print_chunk_line f.last) section rest) in
    let line : Whole size_form tail f.last (section ++ rest) = record { valid = f.last_valid; fits = f.last_fits; is = refl } in
    let one : Leads max from 1 (SizeLine start keep bytes) tail (Trailing start keep bytes) (section ++ rest) = (Trailing start keep bytes, section ++ rest, (f.last, line, sym (ap (behind_size start keep bytes) f.last_size)), (refl, refl)) in
    let all = leads_join max from chunks.0 1 (SizeLine start keep []) (SizeLine start keep bytes) (Trailing start keep bytes) (flat_map chunk_text f.chunks ++ tail) tail (section ++ rest) chunks.1 one in (
      all.0,
      Trailing start keep bytes,
      section ++ rest,
      subst (λ z. Leads max from all.0 (SizeLine start keep []) z (Trailing start keep bytes) (section ++ rest)) (sym cut) all.1,
      inr (f.trailers, rest, record { valid = f.trailers_valid; fits = f.trailers_fit; is = refl }, ap (λ z. hear (Some (Served keep)) start z rest) f.body_is),
    )
body_heard max from start keep (framings.Counted size) text body rest count f within =
    (zero, Counted start keep size, text ++ rest, (refl, refl), inr (body, rest, f.1, ap (λ z. z ++ rest) f.0, refl))
body_heard max from start keep framings.Unbounded text body rest count f within = absurd f

announced_within : (max start : ℕ) (how : Framing) (text body : List ℕ) → IsFramed how text body → start + length body ≤ max → nat_lt max (start + announced how) ≡ false
announced_within max start framings.Chunks text body f within = grind (arith, nat_tests)
announced_within max start (framings.Counted size) text body f within = (let e = f.1 in grind (arith, nat_tests))
announced_within max start framings.Unbounded text body f within = absurd f

pub response_heard : (max from : ℕ) (text : List ℕ) (keep : Bool) (start : ℕ) (body rest : List ℕ) → IsResponse max from text keep start body → IsHeard max from (text ++ rest) false (hear (Some (Served keep)) start body rest)
response_heard max from text keep start body rest r =
    let s = start_of from (status_code r.head) in
    let within : s + length body ≤ max = subst (λ z. z + length body ≤ max) r.start_is r.within in
    let behind = r.body_text ++ rest in
    let heads = interims_lead max from 0 r.interims (print_response r.head ++ behind) r.each (let few = r.few in omega arith) in
    let fits = announced_within max s r.how r.body_text body r.framed within in
    let whole : Whole head_form (print_response r.head ++ behind) r.head behind = record { valid = r.final.valid; fits = r.final.fits; is = refl } in
    let next : behind_head max from heads.1 r.head ≡ Goes (stage_of r.how s keep) = says_next max from heads.1 r.head (meanings.Body r.how keep) r.final.is ∙ ap (λ t. if t then Ends TooBig else Goes (stage_of r.how s keep)) fits in
    let one : Leads max from 1 (Heads heads.1) (print_response r.head ++ behind) (stage_of r.how s keep) behind = (stage_of r.how s keep, behind, (r.head, whole, next), (refl, refl)) in
    let up = leads_join max from heads.0 1 (Heads 0) (Heads heads.1) (stage_of r.how s keep) (flat_map print_response r.interims ++ (print_response r.head ++ behind)) (print_response r.head ++ behind) behind heads.2 one in
    let body_read = body_heard max from s keep r.how r.body_text body rest (length (text ++ rest)) r.framed within in
    let all = leads_join max from up.0 body_read.0 (Heads 0) (stage_of r.how s keep) body_read.1 (flat_map print_response r.interims ++ (print_response r.head ++ behind)) behind body_read.2 up.1 body_read.3 in
    let cut : text ++ rest ≡ flat_map print_response r.interims ++ (print_response r.head ++ behind) =
    ap (λ z. z ++ rest) r.text_is ∙ append_assoc (flat_map print_response r.interims) (print_response r.head ++ r.body_text) rest ∙ ap (λ z. flat_map print_response r.interims ++ z) (append_assoc (print_response r.head) r.body_text rest) in
    record {
      parts = all.0;
      stage = body_read.1;
      text = body_read.2;
      leads = subst (λ z. Leads max from all.0 (Heads 0) z body_read.1 body_read.2) (sym cut) all.1;
      stops = subst (λ z. Stops max from false (length (text ++ rest)) body_read.1 body_read.2 (hear (Some (Served keep)) z body rest)) (sym r.start_is) body_read.4;
    }
