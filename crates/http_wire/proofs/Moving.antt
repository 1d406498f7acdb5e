-- How a wire that goes on takes bytes: what stays, and where the reading stops.
use Rattle.std.proofs.Common.{◌≡◌, ℕ, ◌+◌, ◌-◌, inl, inr, Bool, true, false, List, [], ◌++◌, length, arith, sym, ap, ◌∙◌, refl, subst, length-append, Some, None}
use Rattle.http_wire.specs.declared.ending.Response.{Response}
use Rattle.http_wire.specs.declared.ending.Response.TheVariants.{Garbled}
use Rattle.http_wire.specs.declared.phase.Phase.{Phase}
use Rattle.http_wire.specs.declared.phase.Phase.TheVariants as phases
use Rattle.http_wire.specs.Forms.{Form, Unfinished, Bad, head_form, size_form, trailer_form}
use Rattle.http_wire.specs.Stream.{Stage, Heads, SizeLine, Trailing, Heard, hear, capped, garbled_at, Halts, Stops, Leads}
use Rattle.http_wire.specs.State.{WireState}
use Rattle.http_wire.specs.Wire.{Stands, GoesOn, HasEnded, IsAt, Follows}
use Rattle.http_wire.specs.Steps.{joined, garbled, stopped}
use Rattle.http_wire.proofs.Decided.{leads_more}

pub capped_more : (n k : ℕ) → capped (capped n + k) ≡ capped (n + k)
capped_more n k = omega arith

pub count_more : (count : ℕ) (bytes front : List ℕ) → count ≡ capped (length bytes) → capped (count + length front) ≡ capped (length (bytes ++ front))
count_more count bytes front is =
    ap (λ n. capped (n + length front)) is ∙ capped_more (length bytes) (length front) ∙ ap capped (sym (length-append bytes front))

pub place_more : (place : ℕ) (bytes text front : List ℕ) → place ≡ capped (length bytes - length text) → place ≡ capped (length (bytes ++ front) - length (text ++ front))
place_more place bytes text front is =
    let a = length-append bytes front in
    let b = length-append text front in
    let e : length bytes - length text ≡ length (bytes ++ front) - length (text ++ front) = omega (arith, a, b) in
    is ∙ ap capped e

-- a text of which nothing is left ends the bytes
pub place_here : (count : ℕ) (bytes : List ℕ) → count ≡ capped (length bytes) → count ≡ capped (length bytes - length {A = ℕ} [])
place_here count bytes is = is ∙ ap capped (let e : length bytes ≡ length bytes - 0 = omega arith in e)

pub going : (w : WireState) (max from : ℕ) (given bytes : List ℕ) → w.ending ≡ None → Follows w max from given bytes false → GoesOn w given bytes
going w max from given bytes none h = (let at : IsAt None w given bytes false = subst (λ e. IsAt e w given bytes false) none h.is_at in at.1)

pub goes : (v : WireState) (max from : ℕ) (given bytes : List ℕ) → v.max ≡ max → v.from ≡ from → v.ending ≡ None → GoesOn v given bytes → Follows v max from given bytes false
goes v max from given bytes m f none g = record {
  max_is = m;
  from_is = f;
  is_at = (let at : IsAt None v given bytes false = (refl, g) in subst (λ e. IsAt e v given bytes false) (sym none) at);
}

pub stops_at : (v : WireState) (max from : ℕ) (given bytes : List ℕ) (ended : Bool) (how : Response) → v.max ≡ max → v.from ≡ from → v.ending ≡ Some how → HasEnded how v given bytes ended → Follows v max from given bytes ended
stops_at v max from given bytes ended how m f is at = record {
  max_is = m;
  from_is = f;
  is_at = (let it : IsAt (Some how) v given bytes ended = at in subst (λ e. IsAt e v given bytes ended) (sym is) it);
}

-- what stands at the phase that the wire is in
pub stands_at : (w : WireState) (given bytes : List ℕ) (phase : Phase) → w.phase ≡ phase → (g : GoesOn w given bytes) → Stands phase w given g.stage g.text
stands_at w given bytes phase is g = subst (λ p. Stands p w given g.stage g.text) is g.stands

-- ---- texts of lines

-- a wire reads a text of lines, at a stage that such a text stops
pub record InLines {V : Type 0} (form : Form V) (w : WireState) (given bytes text : List ℕ) : Type 0 where
  pub parts : ℕ
  pub stage : Stage
  pub leads : Leads w.max w.from parts (Heads 0) bytes stage text
  pub halts : (ended : Bool) (count : ℕ) (tail : List ℕ) (heard : Heard) → Halts form ended count w.start (given ++ w.body) tail heard → Stops w.max w.from ended count stage tail heard
  pub count : w.count ≡ capped (length bytes)
  pub place : w.place ≡ capped (length bytes - length text)

pub grown : {V : Type 0} (form : Form V) (w : WireState) (given bytes text front : List ℕ) → InLines form w given bytes text → InLines form (joined front w) given (bytes ++ front) (text ++ front)
grown form w given bytes text front i = record {
  parts = i.parts;
  stage = i.stage;
  leads = leads_more w.max w.from i.parts (Heads 0) bytes i.stage text front i.leads;
  halts = i.halts;
  count = count_more w.count bytes front i.count;
  place = place_more w.place bytes text front i.place;
}

pub lines_bad : {V : Type 0} (form : Form V) (w : WireState) (given bytes text : List ℕ) (ended : Bool) → InLines form w given bytes text → Bad form text → HasEnded (Garbled w.place) (garbled w) given bytes ended
lines_bad form w given bytes text ended i bad = record {
  heard = hear (garbled_at (length bytes) text) w.start (given ++ w.body) text;
  is = record {
    parts = i.parts;
    stage = i.stage;
    text = text;
    leads = i.leads;
    stops = i.halts ended (length bytes) text (hear (garbled_at (length bytes) text) w.start (given ++ w.body) text) (inr (bad, refl));
  };
  ending = ap (λ n. Some (Garbled n)) (sym i.place);
  start = refl;
  holds = refl;
}

pub lines_cut : {V : Type 0} (form : Form V) (w : WireState) (given bytes text : List ℕ) → InLines form w given bytes text → Unfinished form text → HasEnded (Garbled w.count) (stopped (Garbled w.count) w) given bytes true
lines_cut form w given bytes text i part = record {
  heard = hear (Some (Garbled (capped (length bytes)))) w.start (given ++ w.body) [];
  is = record {
    parts = i.parts;
    stage = i.stage;
    text = text;
    leads = i.leads;
    stops = i.halts true (length bytes) text (hear (Some (Garbled (capped (length bytes)))) w.start (given ++ w.body) []) (inl (part, refl));
  };
  ending = ap (λ n. Some (Garbled n)) (sym i.count);
  start = refl;
  holds = refl;
}

pub head_in : (w : WireState) (given bytes : List ℕ) (passed : ℕ) → w.phase ≡ phases.Heads passed → GoesOn w given bytes → InLines head_form w given bytes w.part
head_in w given bytes passed is g =
    let s = stands_at w given bytes (phases.Heads passed) is g in
    record {
      parts = g.parts;
      stage = Heads passed;
      leads = subst (λ z. Leads w.max w.from g.parts (Heads 0) bytes z w.part) s.0 (subst (λ z. Leads w.max w.from g.parts (Heads 0) bytes g.stage z) s.1 g.leads);
      halts = λ ended count tail heard h. inl (subst (λ z. Halts head_form ended count z [] tail heard) s.3 (subst (λ z. Halts head_form ended count w.start z tail heard) s.2 h));
      count = g.count;
      place = subst (λ z. w.place ≡ capped (length bytes - length z)) s.1 g.place;
    }

pub size_in : (w : WireState) (given bytes : List ℕ) → w.phase ≡ phases.SizeLine → GoesOn w given bytes → InLines size_form w given bytes w.part
size_in w given bytes is g =
    let s = stands_at w given bytes phases.SizeLine is g in
    record {
      parts = g.parts;
      stage = SizeLine w.start w.keep (given ++ w.body);
      leads = subst (λ z. Leads w.max w.from g.parts (Heads 0) bytes z w.part) s.0 (subst (λ z. Leads w.max w.from g.parts (Heads 0) bytes g.stage z) s.1 g.leads);
      halts = λ ended count tail heard h. h;
      count = g.count;
      place = subst (λ z. w.place ≡ capped (length bytes - length z)) s.1 g.place;
    }

pub trailers_in : (w : WireState) (given bytes : List ℕ) → w.phase ≡ phases.Trailing → GoesOn w given bytes → InLines trailer_form w given bytes w.part
trailers_in w given bytes is g =
    let s = stands_at w given bytes phases.Trailing is g in
    record {
      parts = g.parts;
      stage = Trailing w.start w.keep (given ++ w.body);
      leads = subst (λ z. Leads w.max w.from g.parts (Heads 0) bytes z w.part) s.0 (subst (λ z. Leads w.max w.from g.parts (Heads 0) bytes g.stage z) s.1 g.leads);
      halts = λ ended count tail heard h. inl h;
      count = g.count;
      place = subst (λ z. w.place ≡ capped (length bytes - length z)) s.1 g.place;
    }
