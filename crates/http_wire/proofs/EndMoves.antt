-- What a wire hears where the peer ends.
use Rattle.std.proofs.Common.{◌≡◌, ◌≢◌, ℕ, ◌+◌, ◌<◌, ◌≤◌, ◌⊎◌, inl, inr, Bool, true, false, List, [], ◌∷◌, ◌++◌, length, arith, sym, ap, ◌∙◌, refl, subst, length-append, Some, None}
use Rattle.http_wire.specs.declared.ending.Response.{Response}
use Rattle.http_wire.specs.declared.ending.Response.TheVariants.{Served, Garbled}
use Rattle.http_wire.specs.declared.phase.Phase.TheVariants as phases
use Rattle.http_wire.specs.Forms.{Form, Unfinished, head_form, size_form, trailer_form}
use Rattle.http_wire.specs.Stream.{Stage, Heads, Counted, Unbounded, SizeLine, Chunk, Closing, Trailing, Heard, hear, capped, Halts, Stops, IsHeard}
use Rattle.http_wire.specs.State.{WireState}
use Rattle.http_wire.specs.Wire.{GoesOn, HasEnded, IsAt, Follows}
use Rattle.http_wire.specs.Steps.{Closes, stopped, cut_off}
use Rattle.http_wire.proofs.Moving.{going, stops_at, stands_at, lines_cut, head_in, size_in, trailers_in}

-- ---- what is decided stays so when the peer ends

unheard : (x : Heard) (start : ℕ) (body : List ℕ) → x.ending ≢ None → x ≡ hear None start body [] → ⊥
unheard x start body some is = some (ap (λ z. z.ending) is)

halts_end : {V : Type 0} (form : Form V) (count start : ℕ) (body text : List ℕ) (x : Heard) → x.ending ≢ None → Halts form false count start body text x → Halts form true count start body text x
halts_end form count start body text x some (inl a) = absurd (unheard x start body some a.1)
halts_end form count start body text x some (inr a) = inr a

stops_end : (max from count : ℕ) (s : Stage) (text : List ℕ) (x : Heard) → x.ending ≢ None → Stops max from false count s text x → Stops max from true count s text x
stops_end max from count (Heads passed) text x some (inl a) = inl (halts_end head_form count 0 [] text x some a)
stops_end max from count (Heads passed) text x some (inr a) = inr a
stops_end max from count (Counted start keep size) text x some (inl a) = absurd (unheard x start text some a.1)
stops_end max from count (Counted start keep size) text x some (inr a) = inr a
stops_end max from count (Unbounded start) text x some (inl a) = inl a
stops_end max from count (Unbounded start) text x some (inr a) = absurd (unheard x start text some a.1)
stops_end max from count (SizeLine start keep body) text x some a = halts_end size_form count start body text x some a
stops_end max from count (Chunk start keep body size) text x some (inl a) = inl a
stops_end max from count (Chunk start keep body size) text x some (inr a) = absurd (unheard x start (body ++ text) some a.2)
stops_end max from count (Closing start keep body) text x some (inl a) = absurd (unheard x start body some a.1)
stops_end max from count (Closing start keep body) text x some (inr a) = inr a
stops_end max from count (Trailing start keep body) text x some (inl a) = inl (halts_end trailer_form count start body text x some a)
stops_end max from count (Trailing start keep body) text x some (inr a) = inr a

pub heard_end : (max from : ℕ) (bytes : List ℕ) (x : Heard) → x.ending ≢ None → IsHeard max from bytes false x → IsHeard max from bytes true x
heard_end max from bytes x some a = record { parts = a.parts; stage = a.stage; text = a.text; leads = a.leads; stops = stops_end max from (length bytes) a.stage a.text x some a.stops }

pub ended_stays : (w : WireState) (how : Response) → w.ending ≡ Some how → (max from : ℕ) (given bytes : List ℕ) (ended : Bool) → Follows w max from given bytes ended → Follows w max from given bytes true
ended_stays w how is max from given bytes true h = h
ended_stays w how is max from given bytes false h =
    let at : HasEnded how w given bytes false = subst (λ e. IsAt e w given bytes false) is h.is_at in
    stops_at w max from given bytes true how h.max_is h.from_is is (record {
      heard = at.heard;
      is = heard_end w.max w.from bytes at.heard (λ none. let e : Some how ≡ None = sym at.ending ∙ none in cc) at.is;
      ending = at.ending;
      start = at.start;
      holds = at.holds;
    })

-- a wire that goes on hasn't been told of an end
pub going_on : (w : WireState) → w.ending ≡ None → (max from : ℕ) (given bytes : List ℕ) (ended : Bool) → Follows w max from given bytes ended → ended ≡ false
going_on w none max from given bytes ended h = (let at : IsAt None w given bytes ended = subst (λ e. IsAt e w given bytes ended) none h.is_at in at.0)

-- ---- the parts in which a peer may end

pub head_cut : (passed : ℕ) (w : WireState) → w.phase ≡ phases.Heads passed → w.ending ≡ None → Closes w (cut_off w)
head_cut passed w is none max from given bytes h =
    let g = going w max from given bytes none h in
    let s = stands_at w given bytes (phases.Heads passed) is g in
    let part : Unfinished head_form w.part = subst (λ z. Unfinished head_form z) s.1 s.4 in
    stops_at (cut_off w) max from given bytes true (Garbled w.count) h.max_is h.from_is refl (lines_cut head_form w given bytes w.part (head_in w given bytes passed is g) part)

pub size_cut : (w : WireState) → w.phase ≡ phases.SizeLine → w.ending ≡ None → Closes w (cut_off w)
size_cut w is none max from given bytes h =
    let g = going w max from given bytes none h in
    let s = stands_at w given bytes phases.SizeLine is g in
    let part : Unfinished size_form w.part = subst (λ z. Unfinished size_form z) s.1 s.3 in
    stops_at (cut_off w) max from given bytes true (Garbled w.count) h.max_is h.from_is refl (lines_cut size_form w given bytes w.part (size_in w given bytes is g) part)

pub trailers_cut : (w : WireState) → w.phase ≡ phases.Trailing → w.ending ≡ None → Closes w (cut_off w)
trailers_cut w is none max from given bytes h =
    let g = going w max from given bytes none h in
    let s = stands_at w given bytes phases.Trailing is g in
    let part : Unfinished trailer_form w.part = subst (λ z. Unfinished trailer_form z) s.1 s.2 in
    stops_at (cut_off w) max from given bytes true (Garbled w.count) h.max_is h.from_is refl (lines_cut trailer_form w given bytes w.part (trailers_in w given bytes is g) part)

-- a body that is cut
cut_body : (w : WireState) (given bytes : List ℕ) (g : GoesOn w given bytes) (heard : Heard) → Stops w.max w.from true (length bytes) g.stage g.text heard → heard ≡ hear (Some (Garbled (capped (length bytes)))) w.start (given ++ w.body) [] → HasEnded (Garbled w.count) (cut_off w) given bytes true
cut_body w given bytes g heard stops is = record {
  heard = heard;
  is = record { parts = g.parts; stage = g.stage; text = g.text; leads = g.leads; stops = stops };
  ending = ap (λ z. z.ending) is ∙ ap (λ n. Some (Garbled n)) (sym g.count);
  start = ap (λ z. z.start) is;
  holds = ap (λ z. z.body) is;
}

pub counted_cut : (left : ℕ) (w : WireState) → w.phase ≡ phases.Counted left → w.ending ≡ None → Closes w (cut_off w)
counted_cut left w is none max from given bytes h =
    let g = going w max from given bytes none h in
    let s = stands_at w given bytes (phases.Counted left) is g in
    let heard = hear (Some (Garbled (capped (length bytes)))) w.start g.text [] in
    let some = s.2 in
    let e : length g.text ≡ length (given ++ w.body) = ap length s.1 in
    let short : length g.text < length (given ++ w.body) + left = omega (arith, e, some) in
    stops_at (cut_off w) max from given bytes true (Garbled w.count) h.max_is h.from_is refl
    (cut_body w given bytes g heard (subst (λ z. Stops w.max w.from true (length bytes) z g.text heard) (sym s.0) (inl (short, refl))) (ap (λ z. hear (Some (Garbled (capped (length bytes)))) w.start z []) s.1))

pub chunk_cut : (left : ℕ) (w : WireState) → w.phase ≡ phases.Chunk left → w.ending ≡ None → Closes w (cut_off w)
chunk_cut left w is none max from given bytes h =
    let g = going w max from given bytes none h in
    let s = stands_at w given bytes (phases.Chunk left) is g in
    let heard = hear (Some (Garbled (capped (length bytes)))) w.start (s.0 ++ g.text) [] in
    let some = s.3 in
    let reach = s.4.is in
    let inside = s.4.within in
    let b : length (given ++ w.body) ≡ length (s.0 ++ g.text) = ap length s.2 in
    let d = length-append s.0 g.text in
    let short : length g.text < length g.text + left = omega (arith, some) in
    let fits : w.start + length s.0 + length g.text ≤ w.max = omega (arith, reach, inside, b, d) in
    stops_at (cut_off w) max from given bytes true (Garbled w.count) h.max_is h.from_is refl
    (cut_body w given bytes g heard (subst (λ z. Stops w.max w.from true (length bytes) z g.text heard) (sym s.1) (inr (short, fits, refl))) (ap (λ z. hear (Some (Garbled (capped (length bytes)))) w.start z []) (sym s.2)))

closing_cut : (w : WireState) (given bytes : List ℕ) (g : GoesOn w given bytes) → g.stage ≡ Closing w.start w.keep (given ++ w.body) → (g.text ≡ []) ⊎ (g.text ≡ 13 ∷ []) → HasEnded (Garbled w.count) (cut_off w) given bytes true
closing_cut w given bytes g at may =
    let heard = hear (Some (Garbled (capped (length bytes)))) w.start (given ++ w.body) [] in
    cut_body w given bytes g heard (subst (λ z. Stops w.max w.from true (length bytes) z g.text heard) (sym at) (inl (may, refl))) refl

pub return_cut : (w : WireState) → w.phase ≡ phases.ChunkCr → w.ending ≡ None → Closes w (cut_off w)
return_cut w is none max from given bytes h =
    let g = going w max from given bytes none h in
    let s = stands_at w given bytes phases.ChunkCr is g in
    stops_at (cut_off w) max from given bytes true (Garbled w.count) h.max_is h.from_is refl (closing_cut w given bytes g s.0 (inl s.1))

pub feed_cut : (w : WireState) → w.phase ≡ phases.ChunkLf → w.ending ≡ None → Closes w (cut_off w)
feed_cut w is none max from given bytes h =
    let g = going w max from given bytes none h in
    let s = stands_at w given bytes phases.ChunkLf is g in
    stops_at (cut_off w) max from given bytes true (Garbled w.count) h.max_is h.from_is refl (closing_cut w given bytes g s.0 (inr s.1))

pub free_closed : (w : WireState) → w.phase ≡ phases.Unbounded → w.ending ≡ None → Closes w (stopped (Served false) w)
free_closed w is none max from given bytes h =
    let g = going w max from given bytes none h in
    let s = stands_at w given bytes phases.Unbounded is g in
    let reach = s.2.is in
    let inside = s.2.within in
    let e : length g.text ≡ length (given ++ w.body) = ap length s.1 in
    let fits : w.start + length g.text ≤ w.max = omega (arith, reach, inside, e) in
    let heard = hear (Some (Served false)) w.start g.text [] in
    stops_at (stopped (Served false) w) max from given bytes true (Served false) h.max_is h.from_is refl (record {
      heard = heard;
      is = record { parts = g.parts; stage = g.stage; text = g.text; leads = g.leads; stops = subst (λ z. Stops w.max w.from true (length bytes) z g.text heard) (sym s.0) (inr (fits, refl)) };
      ending = refl;
      start = refl;
      holds = (s.1, refl);
    })
