-- One reading: two readings of one stream hear the same, places of refusals included.
use Rattle.std.proofs.Common.{◌≡◌, ℕ, zero, suc, ◌+◌, ◌<◌, ◌≤◌, ◌⊎◌, inl, inr, Bool, List, [], ◌∷◌, ◌++◌, length, take, arith, sym, ap, ◌∙◌, subst, append-nil, length-append, length-take}
use Rattle.httparse.specs.Grammar.{status_code, chunk_size}
use Rattle.http_wire.specs.Forms.{Form, Whole, head_form, size_form, trailer_form}
use Rattle.http_wire.specs.Stream.{Stage, Heads, Counted, Unbounded, SizeLine, Chunk, Closing, Trailing, Heard, Next, Goes, Ends, Breaks, start_of, behind_head, behind_size, Step, Halts, EndsBehind, NeverCloses, Stops, Leads, IsHeard}
use Rattle.http_wire.proofs.Lists.{cancel}
use Rattle.http_wire.proofs.FormLemmas.{one_whole, not_both}
use Rattle.http_wire.proofs.FormFacts.{head_facts, size_facts, trailer_facts}

halts_once : {V : Type 0} (form : Form V) (ended : Bool) (count start : ℕ) (body text : List ℕ) (x y : Heard) → Halts form ended count start body text x → Halts form ended count start body text y → x ≡ y
halts_once form ended count start body text x y (inl a) (inl b) = a.1 ∙ sym b.1
halts_once form ended count start body text x y (inl a) (inr b) = absurd (not_both form text a.0 b.0)
halts_once form ended count start body text x y (inr a) (inl b) = absurd (not_both form text b.0 a.0)
halts_once form ended count start body text x y (inr a) (inr b) = a.1 ∙ sym b.1

pub halts_not_whole : {V : Type 0} (form : Form V) (ended : Bool) (count start : ℕ) (body text : List ℕ) (x : Heard) (v : V) (rest : List ℕ) → Halts form ended count start body text x → Whole form text v rest → ⊥
halts_not_whole form ended count start body text x v rest (inl a) whole = a.0.none v rest whole
halts_not_whole form ended count start body text x v rest (inr a) whole = a.0.none v rest whole

ends_once : (n : Next) (count : ℕ) (text : List ℕ) (start : ℕ) (rest : List ℕ) (x y : Heard) → EndsBehind n count text start rest x → EndsBehind n count text start rest y → x ≡ y
ends_once (Goes next) count text start rest x y a b = absurd a
ends_once (Ends how) count text start rest x y a b = a ∙ sym b
ends_once Breaks count text start rest x y a b = a ∙ sym b

short_of : (size : ℕ) (text part rest : List ℕ) → length text < size → length part ≡ size → text ≡ part ++ rest → ⊥
short_of size text part rest short whole is =
    let e : length text ≡ length (part ++ rest) = ap length is in
    let a = length-append part rest in
    omega (arith, e, a)

in_limit : (start : ℕ) (body : List ℕ) (size : ℕ) (text : List ℕ) (max : ℕ) → max < start + length body + length (take size text) → length text < size → start + length body + length text ≤ max → ⊥
in_limit start body size text max past short within =
    let a = length-take size text in
    omega (arith, a)

may_close : (text : List ℕ) → (text ≡ []) ⊎ (text ≡ 13 ∷ []) → NeverCloses text → ⊥
may_close text (inl none) never = never (13 ∷ 10 ∷ []) [] (ap (λ t. t ++ 13 ∷ 10 ∷ []) none)
may_close text (inr one) never = never (10 ∷ []) [] (ap (λ t. t ++ 10 ∷ []) one)

-- one way to stop at a place
stops_once : (max from : ℕ) (ended : Bool) (count : ℕ) (s : Stage) (text : List ℕ) (x y : Heard) → Stops max from ended count s text x → Stops max from ended count s text y → x ≡ y
stops_once max from ended count (Heads passed) text x y (inl a) (inl b) = halts_once head_form ended count 0 [] text x y a b
stops_once max from ended count (Heads passed) text x y (inl a) (inr b) = absurd (halts_not_whole head_form ended count 0 [] text x b.0 b.1 a b.2)
stops_once max from ended count (Heads passed) text x y (inr a) (inl b) = absurd (halts_not_whole head_form ended count 0 [] text y a.0 a.1 b a.2)
stops_once max from ended count (Heads passed) text x y (inr a) (inr b) =
    let both = one_whole head_form head_facts text b.0 a.0 b.1 a.1 b.2 a.2 in
    let other : EndsBehind (behind_head max from passed a.0) count text (start_of from (status_code a.0)) a.1 y = subst (λ r. EndsBehind (behind_head max from passed a.0) count text (start_of from (status_code a.0)) r y) both.1 (subst (λ h. EndsBehind (behind_head max from passed h) count text (start_of from (status_code h)) b.1 y) both.0 b.3) in
    ends_once (behind_head max from passed a.0) count text (start_of from (status_code a.0)) a.1 x y a.3 other
stops_once max from ended count (Counted start keep size) text x y (inl a) (inl b) = a.1 ∙ sym b.1
stops_once max from ended count (Counted start keep size) text x y (inl a) (inr b) = absurd (short_of size text b.0 b.1 a.0 b.2 b.3)
stops_once max from ended count (Counted start keep size) text x y (inr a) (inl b) = absurd (short_of size text a.0 a.1 b.0 a.2 a.3)
stops_once max from ended count (Counted start keep size) text x y (inr a) (inr b) =
    let both = cancel a.0 b.0 a.1 b.1 (a.2 ∙ sym b.2) (sym a.3 ∙ b.3) in
    let e : x ≡ y = (let p = both.0 in let q = both.1 in let m = a.4 in let n = b.4 in cc) in
    e
stops_once max from ended count (Unbounded start) text x y (inl a) (inl b) = a.1 ∙ sym b.1
stops_once max from ended count (Unbounded start) text x y (inl a) (inr b) = absurd (let p = a.0 in let q = b.0 in omega arith)
stops_once max from ended count (Unbounded start) text x y (inr a) (inl b) = absurd (let p = a.0 in let q = b.0 in omega arith)
stops_once max from ended count (Unbounded start) text x y (inr a) (inr b) = a.1 ∙ sym b.1
stops_once max from ended count (SizeLine start keep body) text x y a b = halts_once size_form ended count start body text x y a b
stops_once max from ended count (Chunk start keep body size) text x y (inl a) (inl b) = a.1 ∙ sym b.1
stops_once max from ended count (Chunk start keep body size) text x y (inl a) (inr b) = absurd (in_limit start body size text max a.0 b.0 b.1)
stops_once max from ended count (Chunk start keep body size) text x y (inr a) (inl b) = absurd (in_limit start body size text max b.0 a.0 a.1)
stops_once max from ended count (Chunk start keep body size) text x y (inr a) (inr b) = a.2 ∙ sym b.2
stops_once max from ended count (Closing start keep body) text x y (inl a) (inl b) = a.1 ∙ sym b.1
stops_once max from ended count (Closing start keep body) text x y (inl a) (inr b) = absurd (may_close text a.0 b.0)
stops_once max from ended count (Closing start keep body) text x y (inr a) (inl b) = absurd (may_close text b.0 a.0)
stops_once max from ended count (Closing start keep body) text x y (inr a) (inr b) = a.1 ∙ sym b.1
stops_once max from ended count (Trailing start keep body) text x y (inl a) (inl b) = halts_once trailer_form ended count start body text x y a b
stops_once max from ended count (Trailing start keep body) text x y (inl a) (inr b) = absurd (halts_not_whole trailer_form ended count start body text x b.0 b.1 a b.2)
stops_once max from ended count (Trailing start keep body) text x y (inr a) (inl b) = absurd (halts_not_whole trailer_form ended count start body text y a.0 a.1 b a.2)
stops_once max from ended count (Trailing start keep body) text x y (inr a) (inr b) =
    let both = one_whole trailer_form trailer_facts text a.0 b.0 a.1 b.1 a.2 b.2 in
    let e : x ≡ y = (let q = both.1 in let m = a.3 in let n = b.3 in cc) in
    e

goes_on : (n : Next) (next : Stage) (count : ℕ) (text : List ℕ) (start : ℕ) (rest : List ℕ) (x : Heard) → n ≡ Goes next → EndsBehind n count text start rest x → ⊥
goes_on n next count text start rest x goes ends = subst (λ m. EndsBehind m count text start rest x) goes ends

-- the reading doesn't stop where it goes on
pub step_not_stop : (max from : ℕ) (ended : Bool) (count : ℕ) (s : Stage) (text : List ℕ) (t : Stage) (rest : List ℕ) (x : Heard) → Step max from s text t rest → Stops max from ended count s text x → ⊥
step_not_stop max from ended count (Heads passed) text t rest x a (inl b) = halts_not_whole head_form ended count 0 [] text x a.0 rest b a.1
step_not_stop max from ended count (Heads passed) text t rest x a (inr b) =
    let both = one_whole head_form head_facts text a.0 b.0 rest b.1 a.1 b.2 in
    goes_on (behind_head max from passed b.0) t count text (start_of from (status_code b.0)) b.1 x (ap (behind_head max from passed) (sym both.0) ∙ a.2) b.3
step_not_stop max from ended count (Counted start keep size) text t rest x a b = a
step_not_stop max from ended count (Unbounded start) text t rest x a b = a
step_not_stop max from ended count (SizeLine start keep body) text t rest x a b = halts_not_whole size_form ended count start body text x a.0 rest b a.1
step_not_stop max from ended count (Chunk start keep body size) text t rest x a (inl b) =
    let n = length-take size text in
    let big = b.0 in
    let within = a.3 in
    omega (arith, n, big, within)
step_not_stop max from ended count (Chunk start keep body size) text t rest x a (inr b) = short_of size text a.0 rest b.0 a.1 a.2
step_not_stop max from ended count (Closing start keep body) text t rest x a (inl b) = whole_close text rest b.0 a.0
  where
    whole_close : (text rest : List ℕ) → (text ≡ []) ⊎ (text ≡ 13 ∷ []) → text ≡ 13 ∷ 10 ∷ rest → ⊥
    whole_close text rest (inl none) is = cc
    whole_close text rest (inr one) is = cc
step_not_stop max from ended count (Closing start keep body) text t rest x a (inr b) = b.0 [] rest (append-nil text ∙ a.0)
step_not_stop max from ended count (Trailing start keep body) text t rest x a b = a

-- one way to go on
pub one_step : (max from : ℕ) (s : Stage) (text : List ℕ) (t u : Stage) (r q : List ℕ) → Step max from s text t r → Step max from s text u q → (t ≡ u) × (r ≡ q)
one_step max from (Heads passed) text t u r q a b =
    let both = one_whole head_form head_facts text a.0 b.0 r q a.1 b.1 in
    let e : Goes t ≡ Goes u = sym a.2 ∙ ap (behind_head max from passed) both.0 ∙ b.2 in
    ((cc), both.1)
one_step max from (Counted start keep size) text t u r q a b = absurd a
one_step max from (Unbounded start) text t u r q a b = absurd a
one_step max from (SizeLine start keep body) text t u r q a b =
    let both = one_whole size_form size_facts text a.0 b.0 r q a.1 b.1 in
    (a.2 ∙ ap (λ l. behind_size start keep body (chunk_size l)) both.0 ∙ sym b.2, both.1)
one_step max from (Chunk start keep body size) text t u r q a b =
    let both = cancel a.0 b.0 r q (a.1 ∙ sym b.1) (sym a.2 ∙ b.2) in
    (a.4 ∙ ap (λ p. Closing start keep (body ++ p)) both.0 ∙ sym b.4, both.1)
one_step max from (Closing start keep body) text t u r q a b =
    let e : 13 ∷ 10 ∷ r ≡ 13 ∷ 10 ∷ q = sym a.0 ∙ b.0 in
    (a.1 ∙ sym b.1, (cc))
one_step max from (Trailing start keep body) text t u r q a b = absurd a

at_once : (max from : ℕ) (ended : Bool) (count n m : ℕ) (s : Stage) (text : List ℕ) (t u : Stage) (r q : List ℕ) (x y : Heard) → Leads max from n s text t r → Leads max from m s text u q → Stops max from ended count t r x → Stops max from ended count u q y → x ≡ y
at_once max from ended count zero zero s text t u r q x y a b p o =
    let here : Stops max from ended count s text x = subst (λ z. Stops max from ended count z text x) (sym a.0) (subst (λ z. Stops max from ended count t z x) (sym a.1) p) in
    let there : Stops max from ended count s text y = subst (λ z. Stops max from ended count z text y) (sym b.0) (subst (λ z. Stops max from ended count u z y) (sym b.1) o) in
    stops_once max from ended count s text x y here there
at_once max from ended count zero (suc m) s text t u r q x y a b p o =
    let here : Stops max from ended count s text x = subst (λ z. Stops max from ended count z text x) (sym a.0) (subst (λ z. Stops max from ended count t z x) (sym a.1) p) in
    absurd (step_not_stop max from ended count s text b.0 b.1 x b.2 here)
at_once max from ended count (suc n) zero s text t u r q x y a b p o =
    let there : Stops max from ended count s text y = subst (λ z. Stops max from ended count z text y) (sym b.0) (subst (λ z. Stops max from ended count u z y) (sym b.1) o) in
    absurd (step_not_stop max from ended count s text a.0 a.1 y a.2 there)
at_once max from ended count (suc n) (suc m) s text t u r q x y a b p o =
    let both = one_step max from s text b.0 a.0 b.1 a.1 b.2 a.2 in
    let rest : Leads max from m a.0 a.1 u q = subst (λ z. Leads max from m z a.1 u q) both.0 (subst (λ z. Leads max from m b.0 z u q) both.1 b.3) in
    at_once max from ended count n m a.0 a.1 t u r q x y a.3 rest p o

pub one_reading : (max from : ℕ) (bytes : List ℕ) (ended : Bool) (x y : Heard) → IsHeard max from bytes ended x → IsHeard max from bytes ended y → x ≡ y
one_reading max from bytes ended x y a b =
    at_once max from ended (length bytes) a.parts b.parts (Heads 0) bytes a.stage b.stage a.text b.text x y a.leads b.leads a.stops b.stops
