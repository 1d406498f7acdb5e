-- Bodies begin where they were asked for, stay within the limit, and only grow.
use Rattle.std.proofs.Common.{◌≡◌, ◌≢◌, ℕ, zero, suc, ◌+◌, ◌≤◌, ◌⊎◌, inl, inr, ⊎_elim, Bool, true, false, List, [], ◌∷◌, ◌++◌, length, drop, map, arith, sym, ap, ◌∙◌, refl, subst, append_assoc, append-nil, length-append, Option, Some, None, nat_lt}
use Rattle.std.specs.Prelude.{◌==◌, ◌&&◌, nat_le, codes, if◌then◌else◌}
use Rattle.std.proofs.lemmas.Bool.{cases_lt}
use Rattle.std.proofs.lemmas.Bool.Decides.{nat_tests}
use Rattle.httparse.specs.Grammar.{ResponseHead, status_code, chunk_size}
use Rattle.httparse.specs.Spans.{name_and_value}
use Rattle.http_wire.specs.declared.ending.Response.{Response}
use Rattle.http_wire.specs.declared.ending.Response.TheVariants.{Served, TooBig}
use Rattle.http_wire.specs.declared.meaning.Framing.{Framing}
use Rattle.http_wire.specs.declared.meaning.Framing.TheVariants as framings
use Rattle.http_wire.specs.declared.meaning.Meaning.{Meaning}
use Rattle.http_wire.specs.declared.meaning.Meaning.TheVariants as meanings
use Rattle.http_wire.specs.Fields.{Fields, values}
use Rattle.http_wire.specs.Meaning.{meaning, moved, is_redirect}
use Rattle.http_wire.specs.Forms.{Form, Whole, HasNone, head_form, size_form, trailer_form}
use Rattle.http_wire.specs.Stream.{Stage, Heads, Counted, Unbounded, SizeLine, Chunk, Closing, Trailing, Heard, hear, followed, Next, Goes, Ends, Breaks, announced, stage_of, next_of, start_of, behind_head, behind_size, cut, closed, Step, garbled_at, Halts, EndsBehind, Stops, Leads, IsHeard}
use Rattle.http_wire.specs.BodyLaws.{bears_body, Fits, Grows}
use Rattle.http_wire.proofs.Lists.{front_of}
use Rattle.http_wire.proofs.OneReading.{one_step, step_not_stop, one_reading}
use Rattle.http_wire.proofs.Decided.{leads_more, decided}
use Rattle.http_wire.proofs.EndMoves.{heard_end}

-- ---- where bodies begin

moved_no_body : (status : ℕ) (places : List (List ℕ)) (how : Framing) (keep : Bool) → moved status places ≡ meanings.Body how keep → ⊥
moved_no_body status [] how keep is = cc
moved_no_body status (place ∷ places) how keep is = cc

picked : (interim ok none part redirect : Bool) (whole some moves : Meaning) (status : ℕ) (how : Framing) (keep : Bool)
    → (if interim then meanings.Interim else if ok then (if none then whole else meanings.Absent 200) else if part then (if none then meanings.Wrong else some) else if redirect then moves else meanings.Absent status) ≡ meanings.Body how keep
    → (none ≡ true) ⊎ ((part ≡ true) ⊎ (moves ≡ meanings.Body how keep))
picked true ok none part redirect whole some moves status how keep is = cc
picked false true true part redirect whole some moves status how keep is = inl refl
picked false true false part redirect whole some moves status how keep is = cc
picked false false none true redirect whole some moves status how keep is = inr (inl refl)
picked false false none false true whole some moves status how keep is = inr (inr is)
picked false false none false false whole some moves status how keep is = cc

zero_from : (from : ℕ) (t : Bool) → from ≡ 0 → (if t then from else 0) ≡ from
zero_from from true none = refl
zero_from from false none = sym none

is_zero : (n : ℕ) → (n == 0) ≡ true → n ≡ 0
is_zero n test = grind (arith, nat_tests)

-- a body begins where it was asked for
body_start : (from status minor : ℕ) (fields : Fields) (how : Framing) (keep : Bool) → meaning from status minor fields ≡ meanings.Body how keep → start_of from status ≡ from
unfolding meaning
body_start from status minor fields how keep is =
    ⊎_elim (λ (none : (from == 0) ≡ true). zero_from from (status == 206) (is_zero from none))
    (λ others. ⊎_elim (λ (part : (status == 206) ≡ true). ap (λ t. if t then from else 0) part) (λ moves. absurd (moved_no_body status (values (codes "location") fields) how keep moves)) others)
    (picked (nat_le 100 status && nat_lt status 200) (status == 200) (from == 0) (status == 206) (is_redirect status) _ _ (moved status (values (codes "location") fields)) status how keep is)

-- ---- what holds of the body at each stage

abbrev InStage : ℕ → ℕ → Stage → Type 0
InStage max from (Heads passed) = Unit {0}
InStage max from (Counted start keep size) = (start ≡ from) × (start + size ≤ max)
InStage max from (Unbounded start) = (start ≡ from) × (start ≤ max)
InStage max from (SizeLine start keep body) = (start ≡ from) × (start + length body ≤ max)
InStage max from (Chunk start keep body size) = (start ≡ from) × (start + length body ≤ max)
InStage max from (Closing start keep body) = (start ≡ from) × (start + length body ≤ max)
InStage max from (Trailing start keep body) = (start ≡ from) × (start + length body ≤ max)

-- the body that was read before a stage's text
abbrev read_at : Stage → List ℕ
read_at (Heads passed) = []
read_at (Counted start keep size) = []
read_at (Unbounded start) = []
read_at (SizeLine start keep body) = body
read_at (Chunk start keep body size) = body
read_at (Closing start keep body) = body
read_at (Trailing start keep body) = body

not_less : (max n : ℕ) → nat_lt max n ≡ false → n ≤ max
not_less max n test = grind (arith, nat_tests)

stage_in : (max from start : ℕ) (how : Framing) (keep : Bool) → start ≡ from → start + announced how ≤ max → InStage max from (stage_of how start keep) × (read_at (stage_of how start keep) ≡ [])
stage_in max from start framings.Chunks keep is within = ((is, within), refl)
stage_in max from start (framings.Counted size) keep is within = ((is, within), refl)
stage_in max from start framings.Unbounded keep is within = ((is, (omega (arith, within))), refl)

goes_interim : (max from passed : ℕ) (t : Stage) (test : Bool) → (if test then Goes (Heads (passed + 1)) else Breaks) ≡ Goes t → InStage max from t × (read_at t ≡ [])
goes_interim max from passed t true is = let e : Heads (passed + 1) ≡ t = cc in subst (λ s. InStage max from s × (read_at s ≡ [])) e (tt, refl)
goes_interim max from passed t false is = absurd cc

goes_body : (max from start : ℕ) (how : Framing) (keep : Bool) (t : Stage) (test : Bool) → start ≡ from → nat_lt max (start + announced how) ≡ test → (if test then Ends TooBig else Goes (stage_of how start keep)) ≡ Goes t → InStage max from t × (read_at t ≡ [])
goes_body max from start how keep t true begins test is = absurd cc
goes_body max from start how keep t false begins test is =
    let e : stage_of how start keep ≡ t = cc in
    subst (λ s. InStage max from s × (read_at s ≡ [])) e (stage_in max from start how keep begins (not_less max (start + announced how) test))

goes_in : (max from passed start : ℕ) (m : Meaning) (t : Stage) → ((how : Framing) (keep : Bool) → m ≡ meanings.Body how keep → start ≡ from) → next_of max passed start m ≡ Goes t → InStage max from t × (read_at t ≡ [])
goes_in max from passed start meanings.Interim t begins is = goes_interim max from passed t (nat_lt passed 16) is
goes_in max from passed start (meanings.Absent status) t begins is = absurd cc
goes_in max from passed start (meanings.Moved place) t begins is = absurd cc
goes_in max from passed start meanings.Wrong t begins is = absurd cc
goes_in max from passed start (meanings.Body how keep) t begins is = goes_body max from start how keep t (nat_lt max (start + announced how)) (begins how keep refl) refl is

head_in : (max from passed : ℕ) (h : ResponseHead) (t : Stage) → behind_head max from passed h ≡ Goes t → InStage max from t × (read_at t ≡ [])
unfolding behind_head
head_in max from passed h t is =
    goes_in max from passed (start_of from (status_code h)) (meaning from (status_code h) h.minor (map name_and_value h.fields)) t
    (λ how keep body. body_start from (status_code h) h.minor (map name_and_value h.fields) how keep body) is

size_in : (max from start : ℕ) (keep : Bool) (body : List ℕ) (n : ℕ) → (start ≡ from) × (start + length body ≤ max) → InStage max from (behind_size start keep body n) × (read_at (behind_size start keep body n) ≡ body)
size_in max from start keep body zero inside = (inside, refl)
size_in max from start keep body (suc n) inside = (inside, refl)

step_in : (max from : ℕ) (s : Stage) (text : List ℕ) (t : Stage) (rest : List ℕ) → Step max from s text t rest → InStage max from s → InStage max from t
step_in max from (Heads passed) text t rest a inside = (head_in max from passed a.0 t a.2).0
step_in max from (Counted start keep size) text t rest a inside = absurd a
step_in max from (Unbounded start) text t rest a inside = absurd a
step_in max from (SizeLine start keep body) text t rest a inside = subst (InStage max from) (sym a.2) (size_in max from start keep body (chunk_size a.0) inside).0
step_in max from (Chunk start keep body size) text t rest a inside =
    let long = a.1 in
    let within = a.3 in
    let both = length-append body a.0 in
    let fits : start + length (body ++ a.0) ≤ max = omega (arith, long, within, both) in
    subst (InStage max from) (sym a.4) (inside.0, fits)
step_in max from (Closing start keep body) text t rest a inside = subst (InStage max from) (sym a.1) inside
step_in max from (Trailing start keep body) text t rest a inside = absurd a

leads_in : (max from n : ℕ) (s : Stage) (text : List ℕ) (t : Stage) (rest : List ℕ) → Leads max from n s text t rest → InStage max from s → InStage max from t
leads_in max from zero s text t rest a inside = subst (InStage max from) a.0 inside
leads_in max from (suc n) s text t rest a inside = leads_in max from n a.0 a.1 t rest a.3 (step_in max from s text a.0 a.1 a.2 inside)

-- ---- within the limit

fits_none : (max from : ℕ) (x : Heard) → x.body ≡ [] → Fits max from x
fits_none max from x none = record { begins = inl none; within = inl none; bare = λ _. none }

fits_some : (max from start : ℕ) (how : Option Response) (body rest : List ℕ) → bears_body how ≡ true → start ≡ from → start + length body ≤ max → Fits max from (hear how start body rest)
fits_some max from start how body rest bears begins within = record { begins = inr begins; within = inr within; bare = λ bare. absurd cc }

cut_bears : (ended : Bool) (count : ℕ) → bears_body (cut ended count) ≡ true
cut_bears true count = refl
cut_bears false count = refl

closed_bears : (ended : Bool) → bears_body (closed ended) ≡ true
closed_bears true = refl
closed_bears false = refl

halts_fit : {V : Type 0} (form : Form V) (ended : Bool) (max from count start : ℕ) (body text : List ℕ) (x : Heard) → start ≡ from → start + length body ≤ max → Halts form ended count start body text x → Fits max from x
halts_fit form ended max from count start body text x begins within (inl a) = subst (Fits max from) (sym a.1) (fits_some max from start (cut ended count) body [] (cut_bears ended count) begins within)
halts_fit form ended max from count start body text x begins within (inr a) = subst (Fits max from) (sym a.1) (fits_some max from start (garbled_at count text) body text refl begins within)

halts_bare : {V : Type 0} (form : Form V) (ended : Bool) (count start : ℕ) (text : List ℕ) (x : Heard) → Halts form ended count start [] text x → x.body ≡ []
halts_bare form ended count start text x (inl a) = ap (λ z. z.body) a.1
halts_bare form ended count start text x (inr a) = ap (λ z. z.body) a.1

ends_bare : (n : Next) (count : ℕ) (text : List ℕ) (start : ℕ) (rest : List ℕ) (x : Heard) → EndsBehind n count text start rest x → x.body ≡ []
ends_bare (Goes next) count text start rest x a = absurd a
ends_bare (Ends how) count text start rest x a = ap (λ z. z.body) a
ends_bare Breaks count text start rest x a = ap (λ z. z.body) a

stops_fit : (max from : ℕ) (ended : Bool) (count : ℕ) (s : Stage) (text : List ℕ) (x : Heard) → InStage max from s → Stops max from ended count s text x → Fits max from x
stops_fit max from ended count (Heads passed) text x inside (inl a) = fits_none max from x (halts_bare head_form ended count 0 text x a)
stops_fit max from ended count (Heads passed) text x inside (inr a) = fits_none max from x (ends_bare (behind_head max from passed a.0) count text (start_of from (status_code a.0)) a.1 x a.3)
stops_fit max from ended count (Counted start keep size) text x inside (inl a) =
    let short = a.0 in
    let within = inside.1 in
    let fits : start + length text ≤ max = omega (arith, short, within) in
    subst (Fits max from) (sym a.1) (fits_some max from start (cut ended count) text [] (cut_bears ended count) inside.0 fits)
stops_fit max from ended count (Counted start keep size) text x inside (inr a) =
    let long = a.2 in
    let within = inside.1 in
    let fits : start + length a.0 ≤ max = omega (arith, long, within) in
    subst (Fits max from) (sym a.4) (fits_some max from start (Some (Served keep)) a.0 a.1 refl inside.0 fits)
stops_fit max from ended count (Unbounded start) text x inside (inl a) = fits_none max from x (ap (λ z. z.body) a.1)
stops_fit max from ended count (Unbounded start) text x inside (inr a) = subst (Fits max from) (sym a.1) (fits_some max from start (closed ended) text [] (closed_bears ended) inside.0 a.0)
stops_fit max from ended count (SizeLine start keep body) text x inside a = halts_fit size_form ended max from count start body text x inside.0 inside.1 a
stops_fit max from ended count (Chunk start keep body size) text x inside (inl a) = fits_none max from x (ap (λ z. z.body) a.1)
stops_fit max from ended count (Chunk start keep body size) text x inside (inr a) =
    let within = a.1 in
    let both = length-append body text in
    let fits : start + length (body ++ text) ≤ max = omega (arith, within, both) in
    subst (Fits max from) (sym a.2) (fits_some max from start (cut ended count) (body ++ text) [] (cut_bears ended count) inside.0 fits)
stops_fit max from ended count (Closing start keep body) text x inside (inl a) = subst (Fits max from) (sym a.1) (fits_some max from start (cut ended count) body [] (cut_bears ended count) inside.0 inside.1)
stops_fit max from ended count (Closing start keep body) text x inside (inr a) = subst (Fits max from) (sym a.1) (fits_some max from start (garbled_at count text) body text refl inside.0 inside.1)
stops_fit max from ended count (Trailing start keep body) text x inside (inl a) = halts_fit trailer_form ended max from count start body text x inside.0 inside.1 a
stops_fit max from ended count (Trailing start keep body) text x inside (inr a) = subst (Fits max from) (sym a.3) (fits_some max from start (Some (Served keep)) body a.1 refl inside.0 inside.1)

pub bodies_fit : (max from : ℕ) (bytes : List ℕ) (ended : Bool) (x : Heard) → IsHeard max from bytes ended x → Fits max from x
bodies_fit max from bytes ended x a = stops_fit max from ended (length bytes) a.stage a.text x (leads_in max from a.parts (Heads 0) bytes a.stage a.text a.leads tt) a.stops

-- ---- a body only grows

-- what is read from a stage on adds bytes of its text to the body
record Adds (before after text : List ℕ) : Type 0 where
  part : List ℕ
  is : after ≡ before ++ part
  few : length part ≤ length text

adds_none : (before after text : List ℕ) → after ≡ before → Adds before after text
adds_none before after text same = record { part = []; is = same ∙ sym (append-nil before); few = omega arith }

halts_adds : {V : Type 0} (form : Form V) (ended : Bool) (count start : ℕ) (body text more : List ℕ) (x : Heard) → Halts form ended count start body text x → Adds body x.body more
halts_adds form ended count start body text more x (inl a) = adds_none body x.body more (ap (λ z. z.body) a.1)
halts_adds form ended count start body text more x (inr a) = adds_none body x.body more (ap (λ z. z.body) a.1)

stops_adds : (max from : ℕ) (ended : Bool) (count : ℕ) (s : Stage) (text : List ℕ) (x : Heard) → x.ending ≢ Some TooBig → Stops max from ended count s text x → Adds (read_at s) x.body text
stops_adds max from ended count (Heads passed) text x fits (inl a) = halts_adds head_form ended count 0 [] text text x a
stops_adds max from ended count (Heads passed) text x fits (inr a) = adds_none [] x.body text (ends_bare (behind_head max from passed a.0) count text (start_of from (status_code a.0)) a.1 x a.3)
stops_adds max from ended count (Counted start keep size) text x fits (inl a) = record { part = text; is = ap (λ z. z.body) a.1; few = omega arith }
stops_adds max from ended count (Counted start keep size) text x fits (inr a) =
    let both = ap length a.3 ∙ length-append a.0 a.1 in
    record { part = a.0; is = ap (λ z. z.body) a.4; few = omega (arith, both) }
stops_adds max from ended count (Unbounded start) text x fits (inl a) = absurd (fits (ap (λ z. z.ending) a.1))
stops_adds max from ended count (Unbounded start) text x fits (inr a) = record { part = text; is = ap (λ z. z.body) a.1; few = omega arith }
stops_adds max from ended count (SizeLine start keep body) text x fits a = halts_adds size_form ended count start body text text x a
stops_adds max from ended count (Chunk start keep body size) text x fits (inl a) = absurd (fits (ap (λ z. z.ending) a.1))
stops_adds max from ended count (Chunk start keep body size) text x fits (inr a) = record { part = text; is = ap (λ z. z.body) a.2; few = omega arith }
stops_adds max from ended count (Closing start keep body) text x fits (inl a) = adds_none body x.body text (ap (λ z. z.body) a.1)
stops_adds max from ended count (Closing start keep body) text x fits (inr a) = adds_none body x.body text (ap (λ z. z.body) a.1)
stops_adds max from ended count (Trailing start keep body) text x fits (inl a) = halts_adds trailer_form ended count start body text text x a
stops_adds max from ended count (Trailing start keep body) text x fits (inr a) = adds_none body x.body text (ap (λ z. z.body) a.3)

whole_long : {V : Type 0} (form : Form V) (text : List ℕ) (v : V) (rest : List ℕ) → Whole form text v rest → length rest ≤ length text
whole_long form text v rest whole = let both = ap length whole.is ∙ length-append (form.print v) rest in omega (arith, both)

size_read_at : (start : ℕ) (keep : Bool) (body : List ℕ) (n : ℕ) → read_at (behind_size start keep body n) ≡ body
size_read_at start keep body zero = refl
size_read_at start keep body (suc n) = refl

-- what a step adds, and what it leaves of the text
record Passes (before after text rest : List ℕ) : Type 0 where
  part : List ℕ
  is : after ≡ before ++ part
  few : length part + length rest ≤ length text

passes_none : (before after text rest : List ℕ) → after ≡ before → length rest ≤ length text → Passes before after text rest
passes_none before after text rest same shorter = record { part = []; is = same ∙ sym (append-nil before); few = omega (arith, shorter) }

step_adds : (max from : ℕ) (s : Stage) (text : List ℕ) (t : Stage) (rest : List ℕ) → Step max from s text t rest → Passes (read_at s) (read_at t) text rest
step_adds max from (Heads passed) text t rest a = passes_none [] (read_at t) text rest (head_in max from passed a.0 t a.2).1 (whole_long head_form text a.0 rest a.1)
step_adds max from (Counted start keep size) text t rest a = absurd a
step_adds max from (Unbounded start) text t rest a = absurd a
step_adds max from (SizeLine start keep body) text t rest a = passes_none body (read_at t) text rest (ap read_at a.2 ∙ size_read_at start keep body (chunk_size a.0)) (whole_long size_form text a.0 rest a.1)
step_adds max from (Chunk start keep body size) text t rest a =
    let both = ap length a.2 ∙ length-append a.0 rest in
    record { part = a.0; is = ap read_at a.4; few = omega (arith, both) }
step_adds max from (Closing start keep body) text t rest a =
    let long : length text ≡ suc (suc (length rest)) = ap length a.0 in
    passes_none body (read_at t) text rest (ap read_at a.1) (omega (arith, long))
step_adds max from (Trailing start keep body) text t rest a = absurd a

adds_on : (a b c text rest : List ℕ) → Passes a b text rest → Adds b c rest → Adds a c text
adds_on a b c text rest first second =
    let long = length-append first.part second.part in
    let one = first.few in
    let two = second.few in
    record { part = first.part ++ second.part; is = second.is ∙ ap (λ z. z ++ second.part) first.is ∙ append_assoc a first.part second.part; few = omega (arith, long, one, two) }

leads_adds : (max from : ℕ) (ended : Bool) (count n : ℕ) (s : Stage) (text : List ℕ) (t : Stage) (rest : List ℕ) (x : Heard) → x.ending ≢ Some TooBig → Leads max from n s text t rest → Stops max from ended count t rest x → Adds (read_at s) x.body text
leads_adds max from ended count zero s text t rest x fits a stops =
    subst (λ z. Adds (read_at z) x.body text) (sym a.0) (subst (λ z. Adds (read_at t) x.body z) (sym a.1) (stops_adds max from ended count t rest x fits stops))
leads_adds max from ended count (suc n) s text t rest x fits a stops =
    adds_on (read_at s) (read_at a.0) x.body text a.1 (step_adds max from s text a.0 a.1 a.2) (leads_adds max from ended count n a.0 a.1 t rest x fits a.3 stops)

-- ---- what was waited for

-- a text that has no value yet has none before the bytes that follow
beyond_text : {V : Type 0} (form : Form V) (text more : List ℕ) (v : V) (rest : List ℕ) → HasNone form text → Whole form (text ++ more) v rest → length rest ≤ length more
beyond_text {V} form text more v rest none whole =
    elim (cases_lt (length text) (length (form.print v))) [
      | inl longer ↦ (let both = sym (length-append text more) ∙ ap length whole.is ∙ length-append (form.print v) rest in omega (arith, both, longer))
      | inr within ↦ absurd (none v (drop (length (form.print v)) text) (record { valid = whole.valid; fits = whole.fits; is = front_of text more (form.print v) rest within whole.is }))
    ]

-- the part goes on behind what came of it
record GoesOnIn (text more part rest : List ℕ) : Type 0 where
  tail : List ℕ
  is : part ≡ text ++ tail
  few : length tail + length rest ≤ length more

goes_on_in : (text more part rest : List ℕ) → length text ≤ length part → text ++ more ≡ part ++ rest → GoesOnIn text more part rest
goes_on_in text more part rest longer same =
    let is = front_of part rest text more longer (sym same) in
    let a = ap length is ∙ length-append text (drop (length text) part) in
    let b = sym (length-append text more) ∙ ap length same ∙ length-append part rest in
    record { tail = drop (length text) part; is = is; few = omega (arith, a, b) }

waits_in : {V : Type 0} (form : Form V) (count start : ℕ) (body text : List ℕ) (x : Heard) → x.ending ≡ None → Halts form false count start body text x → HasNone form text × (x.body ≡ body)
waits_in form count start body text x none (inl a) = (a.0.none, ap (λ z. z.body) a.1)
waits_in form count start body text x none (inr a) = absurd (let e : None ≡ garbled_at count text = sym none ∙ ap (λ z. z.ending) a.1 in cc)

ends_some : (n : Next) (count : ℕ) (text : List ℕ) (start : ℕ) (rest : List ℕ) (x : Heard) → x.ending ≡ None → EndsBehind n count text start rest x → ⊥
ends_some (Goes next) count text start rest x none a = a
ends_some (Ends how) count text start rest x none a = (let e : None ≡ Some how = sym none ∙ ap (λ z. z.ending) a in cc)
ends_some Breaks count text start rest x none a = (let e : None ≡ garbled_at count text = sym none ∙ ap (λ z. z.ending) a in cc)

closing_short : (text more rest : List ℕ) → (text ≡ []) ⊎ (text ≡ 13 ∷ []) → text ++ more ≡ 13 ∷ 10 ∷ rest → length rest ≤ length more
closing_short text more rest (inl none) same = let long : length more ≡ suc (suc (length rest)) = ap length (ap (λ t. t ++ more) (sym none) ∙ same) in omega (arith, long)
closing_short text more rest (inr one) same = let long : suc (length more) ≡ suc (suc (length rest)) = ap length (ap (λ t. t ++ more) (sym one) ∙ same) in omega (arith, long)

-- a stage that was waited at goes on
waits_step : (max from count : ℕ) (s : Stage) (text more : List ℕ) (x : Heard) (t : Stage) (rest : List ℕ) → x.ending ≡ None → Stops max from false count s text x → Step max from s (text ++ more) t rest → Passes x.body (read_at t) more rest
waits_step max from count (Heads passed) text more x t rest none (inl a) step =
    let w = waits_in head_form count 0 [] text x none a in
    passes_none x.body (read_at t) more rest ((head_in max from passed step.0 t step.2).1 ∙ sym w.1) (beyond_text head_form text more step.0 rest w.0 step.1)
waits_step max from count (Heads passed) text more x t rest none (inr a) step = absurd (ends_some (behind_head max from passed a.0) count text (start_of from (status_code a.0)) a.1 x none a.3)
waits_step max from count (Counted start keep size) text more x t rest none a step = absurd step
waits_step max from count (Unbounded start) text more x t rest none a step = absurd step
waits_step max from count (SizeLine start keep body) text more x t rest none a step =
    let w = waits_in size_form count start body text x none a in
    passes_none x.body (read_at t) more rest (ap read_at step.2 ∙ size_read_at start keep body (chunk_size step.0) ∙ sym w.1) (beyond_text size_form text more step.0 rest w.0 step.1)
waits_step max from count (Chunk start keep body size) text more x t rest none (inl a) step = absurd (let e : None ≡ Some TooBig = sym none ∙ ap (λ z. z.ending) a.1 in cc)
waits_step max from count (Chunk start keep body size) text more x t rest none (inr a) step =
    let short = a.0 in
    let long = step.1 in
    let longer : length text ≤ length step.0 = omega (arith, short, long) in
    let on = goes_on_in text more step.0 rest longer step.2 in
    record { part = on.tail; is = ap read_at step.4 ∙ ap (λ z. body ++ z) on.is ∙ sym (append_assoc body text on.tail) ∙ ap (λ z. z ++ on.tail) (sym (ap (λ z. z.body) a.2)); few = on.few }
waits_step max from count (Closing start keep body) text more x t rest none (inl a) step =
    passes_none x.body (read_at t) more rest (ap read_at step.1 ∙ sym (ap (λ z. z.body) a.1)) (closing_short text more rest a.0 step.0)
waits_step max from count (Closing start keep body) text more x t rest none (inr a) step = absurd (let e : None ≡ garbled_at count text = sym none ∙ ap (λ z. z.ending) a.1 in cc)
waits_step max from count (Trailing start keep body) text more x t rest none a step = absurd step

-- a stage that was waited at stops the reading with more bytes
waits_stop : (max from count : ℕ) (ended : Bool) (later : ℕ) (s : Stage) (text more : List ℕ) (x y : Heard) → x.ending ≡ None → y.ending ≢ Some TooBig → Stops max from false count s text x → Stops max from ended later s (text ++ more) y → Adds x.body y.body more
waits_stop max from count ended later (Heads passed) text more x y none fits a (inl b) =
    adds_none x.body y.body more (halts_bare head_form ended later 0 (text ++ more) y b ∙ sym (bare_head a))
  where
    bare_head : Stops max from false count (Heads passed) text x → x.body ≡ []
    bare_head (inl a) = halts_bare head_form false count 0 text x a
    bare_head (inr a) = ends_bare (behind_head max from passed a.0) count text (start_of from (status_code a.0)) a.1 x a.3
waits_stop max from count ended later (Heads passed) text more x y none fits a (inr b) =
    adds_none x.body y.body more (ends_bare (behind_head max from passed b.0) later (text ++ more) (start_of from (status_code b.0)) b.1 y b.3 ∙ sym (bare_head a))
  where
    bare_head : Stops max from false count (Heads passed) text x → x.body ≡ []
    bare_head (inl a) = halts_bare head_form false count 0 text x a
    bare_head (inr a) = ends_bare (behind_head max from passed a.0) count text (start_of from (status_code a.0)) a.1 x a.3
waits_stop max from count ended later (Counted start keep size) text more x y none fits (inr a) b = absurd (let e : None ≡ Some (Served keep) = sym none ∙ ap (λ z. z.ending) a.4 in cc)
waits_stop max from count ended later (Counted start keep size) text more x y none fits (inl a) (inl b) =
    record { part = more; is = ap (λ z. z.body) b.1 ∙ ap (λ z. z ++ more) (sym (ap (λ z. z.body) a.1)); few = omega arith }
waits_stop max from count ended later (Counted start keep size) text more x y none fits (inl a) (inr b) =
    let short = a.0 in
    let long = b.2 in
    let longer : length text ≤ length b.0 = omega (arith, short, long) in
    let on = goes_on_in text more b.0 b.1 longer b.3 in
    let few = on.few in
    record { part = on.tail; is = ap (λ z. z.body) b.4 ∙ on.is ∙ ap (λ z. z ++ on.tail) (sym (ap (λ z. z.body) a.1)); few = omega (arith, few) }
waits_stop max from count ended later (Unbounded start) text more x y none fits (inl a) b = absurd (let e : None ≡ Some TooBig = sym none ∙ ap (λ z. z.ending) a.1 in cc)
waits_stop max from count ended later (Unbounded start) text more x y none fits (inr a) (inl b) = absurd (fits (ap (λ z. z.ending) b.1))
waits_stop max from count ended later (Unbounded start) text more x y none fits (inr a) (inr b) =
    record { part = more; is = ap (λ z. z.body) b.1 ∙ ap (λ z. z ++ more) (sym (ap (λ z. z.body) a.1)); few = omega arith }
waits_stop max from count ended later (SizeLine start keep body) text more x y none fits a b =
    let w = waits_in size_form count start body text x none a in
    subst (λ z. Adds z y.body more) (sym w.1) (halts_adds size_form ended later start body (text ++ more) more y b)
waits_stop max from count ended later (Chunk start keep body size) text more x y none fits (inl a) b = absurd (let e : None ≡ Some TooBig = sym none ∙ ap (λ z. z.ending) a.1 in cc)
waits_stop max from count ended later (Chunk start keep body size) text more x y none fits (inr a) (inl b) = absurd (fits (ap (λ z. z.ending) b.1))
waits_stop max from count ended later (Chunk start keep body size) text more x y none fits (inr a) (inr b) =
    record { part = more; is = ap (λ z. z.body) b.2 ∙ sym (append_assoc body text more) ∙ ap (λ z. z ++ more) (sym (ap (λ z. z.body) a.2)); few = omega arith }
waits_stop max from count ended later (Closing start keep body) text more x y none fits (inr a) b = absurd (let e : None ≡ garbled_at count text = sym none ∙ ap (λ z. z.ending) a.1 in cc)
waits_stop max from count ended later (Closing start keep body) text more x y none fits (inl a) (inl b) = adds_none x.body y.body more (ap (λ z. z.body) b.1 ∙ sym (ap (λ z. z.body) a.1))
waits_stop max from count ended later (Closing start keep body) text more x y none fits (inl a) (inr b) = adds_none x.body y.body more (ap (λ z. z.body) b.1 ∙ sym (ap (λ z. z.body) a.1))
waits_stop max from count ended later (Trailing start keep body) text more x y none fits (inr a) b = absurd (let e : None ≡ Some (Served keep) = sym none ∙ ap (λ z. z.ending) a.3 in cc)
waits_stop max from count ended later (Trailing start keep body) text more x y none fits (inl a) (inl b) =
    let w = waits_in trailer_form count start body text x none a in
    subst (λ z. Adds z y.body more) (sym w.1) (halts_adds trailer_form ended later start body (text ++ more) more y b)
waits_stop max from count ended later (Trailing start keep body) text more x y none fits (inl a) (inr b) =
    let w = waits_in trailer_form count start body text x none a in
    adds_none x.body y.body more (ap (λ z. z.body) b.3 ∙ sym w.1)

-- a longer way to a stop passes each stage of a shorter one
leads_rest : (max from : ℕ) (ended : Bool) (count n m : ℕ) (s : Stage) (text : List ℕ) (t u : Stage) (r q : List ℕ) (y : Heard) → Leads max from n s text t r → Leads max from m s text u q → Stops max from ended count u q y → (k : ℕ) × Leads max from k t r u q
leads_rest max from ended count zero m s text t u r q y a b stops = (m, subst (λ z. Leads max from m z r u q) a.0 (subst (λ z. Leads max from m s z u q) a.1 b))
leads_rest max from ended count (suc n) zero s text t u r q y a b stops =
    let here : Stops max from ended count s text y = subst (λ z. Stops max from ended count z text y) (sym b.0) (subst (λ z. Stops max from ended count u z y) (sym b.1) stops) in
    absurd (step_not_stop max from ended count s text a.0 a.1 y a.2 here)
leads_rest max from ended count (suc n) (suc m) s text t u r q y a b stops =
    let both = one_step max from s text b.0 a.0 b.1 a.1 b.2 a.2 in
    let rest : Leads max from m a.0 a.1 u q = subst (λ z. Leads max from m z a.1 u q) both.0 (subst (λ z. Leads max from m b.0 z u q) both.1 b.3) in
    leads_rest max from ended count n m a.0 a.1 t u r q y a.3 rest stops

waits_leads : (max from count : ℕ) (ended : Bool) (later k : ℕ) (s : Stage) (text more : List ℕ) (u : Stage) (q : List ℕ) (x y : Heard) → x.ending ≡ None → y.ending ≢ Some TooBig → Stops max from false count s text x → Leads max from k s (text ++ more) u q → Stops max from ended later u q y → Adds x.body y.body more
waits_leads max from count ended later zero s text more u q x y none fits a b stops =
    waits_stop max from count ended later s text more x y none fits a (subst (λ z. Stops max from ended later z (text ++ more) y) (sym b.0) (subst (λ z. Stops max from ended later u z y) (sym b.1) stops))
waits_leads max from count ended later (suc k) s text more u q x y none fits a b stops =
    adds_on x.body (read_at b.0) y.body more b.1 (waits_step max from count s text more x b.0 b.1 none a b.2) (leads_adds max from ended later k b.0 b.1 u q y fits b.3 stops)

grown_of : (x y : Heard) (more : List ℕ) → Adds x.body y.body more → Grows x y more
grown_of x y more adds = record { tail = adds.part; is = adds.is; few = adds.few }

stays_same : (max from : ℕ) (bytes more : List ℕ) (ended : Bool) (x y : Heard) → x.ending ≢ None → IsHeard max from bytes false x → IsHeard max from (bytes ++ more) ended y → y ≡ followed x more
stays_same max from bytes more false x y some a b = one_reading max from (bytes ++ more) false y (followed x more) b (decided max from bytes more x some a)
stays_same max from bytes more true x y some a b = one_reading max from (bytes ++ more) true y (followed x more) b (heard_end max from (bytes ++ more) (followed x more) some (decided max from bytes more x some a))

grows_at : (max from : ℕ) (bytes more : List ℕ) (ended : Bool) (x y : Heard) (e : Option Response) → x.ending ≡ e → IsHeard max from bytes false x → IsHeard max from (bytes ++ more) ended y → y.ending ≢ Some TooBig → Grows x y more
grows_at max from bytes more ended x y None is a b fits =
    let way = leads_rest max from ended (length (bytes ++ more)) a.parts b.parts (Heads 0) (bytes ++ more) a.stage b.stage (a.text ++ more) b.text y (leads_more max from a.parts (Heads 0) bytes a.stage a.text more a.leads) b.leads b.stops in
    grown_of x y more (waits_leads max from (length bytes) ended (length (bytes ++ more)) way.0 a.stage a.text more b.stage b.text x y is fits a.stops way.1 b.stops)
grows_at max from bytes more ended x y (Some how) is a b fits =
    let same = stays_same max from bytes more ended x y (λ none. let e : Some how ≡ None = sym is ∙ none in cc) a b in
    grown_of x y more (adds_none x.body y.body more (ap (λ z. z.body) same))

pub bodies_grow : (max from : ℕ) (bytes more : List ℕ) (ended : Bool) (x y : Heard) → IsHeard max from bytes false x → IsHeard max from (bytes ++ more) ended y → y.ending ≢ Some TooBig → Grows x y more
bodies_grow max from bytes more ended x y a b fits = grows_at max from bytes more ended x y x.ending refl a b fits

-- ---- a greater limit

wider_test : (max wide n : ℕ) → max ≤ wide → nat_lt max n ≡ false → nat_lt wide n ≡ false
wider_test max wide n wider test = grind (arith, nat_tests)

wider_body : (max wide start : ℕ) (how : Framing) (keep : Bool) (t : Stage) (test : Bool) → max ≤ wide → nat_lt max (start + announced how) ≡ test → (if test then Ends TooBig else Goes (stage_of how start keep)) ≡ Goes t → (if nat_lt wide (start + announced how) then Ends TooBig else Goes (stage_of how start keep)) ≡ Goes t
wider_body max wide start how keep t true wider test is = absurd cc
wider_body max wide start how keep t false wider test is = ap (λ z. if z then Ends TooBig else Goes (stage_of how start keep)) (wider_test max wide (start + announced how) wider test) ∙ is

wider_goes : (max wide passed start : ℕ) (m : Meaning) (t : Stage) → max ≤ wide → next_of max passed start m ≡ Goes t → next_of wide passed start m ≡ Goes t
wider_goes max wide passed start meanings.Interim t wider is = is
wider_goes max wide passed start (meanings.Absent status) t wider is = is
wider_goes max wide passed start (meanings.Moved place) t wider is = is
wider_goes max wide passed start meanings.Wrong t wider is = is
wider_goes max wide passed start (meanings.Body how keep) t wider is = wider_body max wide start how keep t (nat_lt max (start + announced how)) wider refl is

wider_head : (max wide from passed : ℕ) (h : ResponseHead) (t : Stage) → max ≤ wide → behind_head max from passed h ≡ Goes t → behind_head wide from passed h ≡ Goes t
unfolding behind_head
wider_head max wide from passed h t wider is = wider_goes max wide passed (start_of from (status_code h)) (meaning from (status_code h) h.minor (map name_and_value h.fields)) t wider is

wider_step : (max wide from : ℕ) (s : Stage) (text : List ℕ) (t : Stage) (rest : List ℕ) → max ≤ wide → Step max from s text t rest → Step wide from s text t rest
wider_step max wide from (Heads passed) text t rest wider a = (a.0, a.1, wider_head max wide from passed a.0 t wider a.2)
wider_step max wide from (Counted start keep size) text t rest wider a = a
wider_step max wide from (Unbounded start) text t rest wider a = a
wider_step max wide from (SizeLine start keep body) text t rest wider a = a
wider_step max wide from (Chunk start keep body size) text t rest wider a = (a.0, a.1, a.2, (let within = a.3 in omega (arith, within, wider)), a.4)
wider_step max wide from (Closing start keep body) text t rest wider a = a
wider_step max wide from (Trailing start keep body) text t rest wider a = a

wider_leads : (max wide from n : ℕ) (s : Stage) (text : List ℕ) (t : Stage) (rest : List ℕ) → max ≤ wide → Leads max from n s text t rest → Leads wide from n s text t rest
wider_leads max wide from zero s text t rest wider a = a
wider_leads max wide from (suc n) s text t rest wider a = (a.0, a.1, wider_step max wide from s text a.0 a.1 wider a.2, wider_leads max wide from n a.0 a.1 t rest wider a.3)

wider_big : (wide count start : ℕ) (how : Framing) (keep : Bool) (text rest : List ℕ) (x : Heard) (test : Bool) → x.ending ≢ Some TooBig → EndsBehind (if test then Ends TooBig else Goes (stage_of how start keep)) count text start rest x → ⊥
wider_big wide count start how keep text rest x true fits a = fits (ap (λ z. z.ending) a)
wider_big wide count start how keep text rest x false fits a = a

wider_ends : (max wide passed count start : ℕ) (m : Meaning) (text rest : List ℕ) (x : Heard) → x.ending ≢ Some TooBig → EndsBehind (next_of max passed start m) count text start rest x → EndsBehind (next_of wide passed start m) count text start rest x
wider_ends max wide passed count start meanings.Interim text rest x fits a = a
wider_ends max wide passed count start (meanings.Absent status) text rest x fits a = a
wider_ends max wide passed count start (meanings.Moved place) text rest x fits a = a
wider_ends max wide passed count start meanings.Wrong text rest x fits a = a
wider_ends max wide passed count start (meanings.Body how keep) text rest x fits a = absurd (wider_big wide count start how keep text rest x (nat_lt max (start + announced how)) fits a)

wider_final : (max wide from passed count : ℕ) (h : ResponseHead) (text rest : List ℕ) (x : Heard) → x.ending ≢ Some TooBig → EndsBehind (behind_head max from passed h) count text (start_of from (status_code h)) rest x → EndsBehind (behind_head wide from passed h) count text (start_of from (status_code h)) rest x
unfolding behind_head
wider_final max wide from passed count h text rest x fits a = wider_ends max wide passed count (start_of from (status_code h)) (meaning from (status_code h) h.minor (map name_and_value h.fields)) text rest x fits a

wider_stops : (max wide from : ℕ) (ended : Bool) (count : ℕ) (s : Stage) (text : List ℕ) (x : Heard) → max ≤ wide → x.ending ≢ Some TooBig → Stops max from ended count s text x → Stops wide from ended count s text x
wider_stops max wide from ended count (Heads passed) text x wider fits (inl a) = inl a
wider_stops max wide from ended count (Heads passed) text x wider fits (inr a) = inr (a.0, a.1, a.2, wider_final max wide from passed count a.0 text a.1 x fits a.3)
wider_stops max wide from ended count (Counted start keep size) text x wider fits a = a
wider_stops max wide from ended count (Unbounded start) text x wider fits (inl a) = absurd (fits (ap (λ z. z.ending) a.1))
wider_stops max wide from ended count (Unbounded start) text x wider fits (inr a) = inr ((let within = a.0 in omega (arith, within, wider)), a.1)
wider_stops max wide from ended count (SizeLine start keep body) text x wider fits a = a
wider_stops max wide from ended count (Chunk start keep body size) text x wider fits (inl a) = absurd (fits (ap (λ z. z.ending) a.1))
wider_stops max wide from ended count (Chunk start keep body size) text x wider fits (inr a) = inr (a.0, (let within = a.1 in omega (arith, within, wider)), a.2)
wider_stops max wide from ended count (Closing start keep body) text x wider fits a = a
wider_stops max wide from ended count (Trailing start keep body) text x wider fits a = a

pub limits_rise : (max wide from : ℕ) (bytes : List ℕ) (ended : Bool) (x : Heard) → max ≤ wide → x.ending ≢ Some TooBig → IsHeard max from bytes ended x → IsHeard wide from bytes ended x
limits_rise max wide from bytes ended x wider fits a = record {
  parts = a.parts;
  stage = a.stage;
  text = a.text;
  leads = wider_leads max wide from a.parts (Heads 0) bytes a.stage a.text wider a.leads;
  stops = wider_stops max wide from ended (length bytes) a.stage a.text x wider fits a.stops;
}
