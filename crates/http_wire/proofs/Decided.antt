-- What has been heard stays so, whatever follows.
use Rattle.std.proofs.Common.{◌≡◌, ◌≢◌, ℕ, zero, suc, ◌+◌, ◌-◌, ◌≤◌, inl, inr, false, List, [], ◌++◌, length, take, arith, sym, ap, ◌∙◌, refl, subst, append_assoc, length-append, length-take, Option, Some, None}
use Rattle.httparse.specs.Grammar.{status_code}
use Rattle.http_wire.specs.declared.ending.Response.{Response}
use Rattle.http_wire.specs.declared.ending.Response.TheVariants.{Garbled}
use Rattle.http_wire.specs.Forms.{Form, head_form, size_form, trailer_form}
use Rattle.http_wire.specs.Stream.{Stage, Heads, Counted, Unbounded, SizeLine, Chunk, Closing, Trailing, Heard, hear, Next, Goes, Ends, Breaks, start_of, behind_head, capped, Step, garbled_at, Halts, EndsBehind, Stops, Leads, IsHeard, followed}
use Rattle.http_wire.proofs.FormLemmas.{Facts, whole_more, bad_more}
use Rattle.http_wire.proofs.FormFacts.{head_facts, size_facts, trailer_facts}

-- a whole part is whole, whatever follows
pub step_more : (max from : ℕ) (s : Stage) (text : List ℕ) (t : Stage) (rest more : List ℕ) → Step max from s text t rest → Step max from s (text ++ more) t (rest ++ more)
step_more max from (Heads passed) text t rest more a = (a.0, whole_more head_form text a.0 rest more a.1, a.2)
step_more max from (Counted start keep size) text t rest more a = a
step_more max from (Unbounded start) text t rest more a = a
step_more max from (SizeLine start keep body) text t rest more a = (a.0, whole_more size_form text a.0 rest more a.1, a.2)
step_more max from (Chunk start keep body size) text t rest more a = (a.0, a.1, ap (λ z. z ++ more) a.2 ∙ append_assoc a.0 rest more, a.3, a.4)
step_more max from (Closing start keep body) text t rest more a = (ap (λ z. z ++ more) a.0, a.1)
step_more max from (Trailing start keep body) text t rest more a = a

pub leads_more : (max from n : ℕ) (s : Stage) (text : List ℕ) (t : Stage) (rest more : List ℕ) → Leads max from n s text t rest → Leads max from n s (text ++ more) t (rest ++ more)
leads_more max from zero s text t rest more a = (a.0, ap (λ z. z ++ more) a.1)
leads_more max from (suc n) s text t rest more a = (a.0, a.1 ++ more, step_more max from s text a.0 a.1 more a.2, leads_more max from n a.0 a.1 t rest more a.3)

-- one step more
pub leads_on : (max from n : ℕ) (s : Stage) (text : List ℕ) (t u : Stage) (middle rest : List ℕ) → Leads max from n s text t middle → Step max from t middle u rest → Leads max from (suc n) s text u rest
leads_on max from zero s text t u middle rest a b =
    let here : Step max from s text u rest = subst (λ z. Step max from z text u rest) (sym a.0) (subst (λ z. Step max from t z u rest) (sym a.1) b) in
    (u, rest, here, (refl, refl))
leads_on max from (suc n) s text t u middle rest a b = (a.0, a.1, a.2, leads_on max from n a.0 a.1 t u middle rest a.3 b)

same_place : (count : ℕ) (text more : List ℕ) → garbled_at (count + length more) (text ++ more) ≡ garbled_at count text
same_place count text more =
    let a = length-append text more in
    let e : (count + length more) - length (text ++ more) ≡ count - length text = omega (arith, a) in
    ap (λ n. Some (Garbled (capped n))) e

stays : (x : Heard) (start : ℕ) (body text more : List ℕ) (how other : Option Response) → x ≡ hear how start body text → how ≡ other → followed x more ≡ hear other start body (text ++ more)
stays x start body text more how other is same = ap (λ z. followed z more) is ∙ ap (λ h. hear h start body (text ++ more)) same

unheard : (x : Heard) (start : ℕ) (body text : List ℕ) → x.ending ≢ None → x ≡ hear None start body text → ⊥
unheard x start body text some is = some (ap (λ z. z.ending) is)

halts_more : {V : Type 0} (form : Form V) → Facts form → (count start : ℕ) (body text more : List ℕ) (x : Heard) → x.ending ≢ None → Halts form false count start body text x → Halts form false (count + length more) start body (text ++ more) (followed x more)
halts_more form facts count start body text more x some (inl a) = absurd (unheard x start body [] some a.1)
halts_more form facts count start body text more x some (inr a) =
    inr (bad_more form facts text more a.0, stays x start body text more (garbled_at count text) (garbled_at (count + length more) (text ++ more)) a.1 (sym (same_place count text more)))

ends_more : (n : Next) (count : ℕ) (text : List ℕ) (start : ℕ) (rest more : List ℕ) (x : Heard) → EndsBehind n count text start rest x → EndsBehind n (count + length more) (text ++ more) start (rest ++ more) (followed x more)
ends_more (Goes next) count text start rest more x a = a
ends_more (Ends how) count text start rest more x a = stays x start [] rest more (Some how) (Some how) a refl
ends_more Breaks count text start rest more x a = stays x start [] rest more (garbled_at count text) (garbled_at (count + length more) (text ++ more)) a (sym (same_place count text more))

take_grows : (n : ℕ) (text more : List ℕ) → length (take n text) ≤ length (take n (text ++ more))
take_grows n text more =
    let a = length-take n text in
    let b = length-take n (text ++ more) in
    let d = length-append text more in
    omega (arith, a, b, d)

stops_more : (max from count : ℕ) (s : Stage) (text more : List ℕ) (x : Heard) → x.ending ≢ None → Stops max from false count s text x → Stops max from false (count + length more) s (text ++ more) (followed x more)
stops_more max from count (Heads passed) text more x some (inl a) = inl (halts_more head_form head_facts count 0 [] text more x some a)
stops_more max from count (Heads passed) text more x some (inr a) =
    inr (a.0, a.1 ++ more, whole_more head_form text a.0 a.1 more a.2, ends_more (behind_head max from passed a.0) count text (start_of from (status_code a.0)) a.1 more x a.3)
stops_more max from count (Counted start keep size) text more x some (inl a) = absurd (unheard x start text [] some a.1)
stops_more max from count (Counted start keep size) text more x some (inr a) =
    inr (a.0, a.1 ++ more, a.2, ap (λ z. z ++ more) a.3 ∙ append_assoc a.0 a.1 more, stays x start a.0 a.1 more _ _ a.4 refl)
stops_more max from count (Unbounded start) text more x some (inl a) =
    inl ((let d = length-append text more in let p = a.0 in omega (arith, d, p)), stays x start [] text more _ _ a.1 refl)
stops_more max from count (Unbounded start) text more x some (inr a) = absurd (unheard x start text [] some a.1)
stops_more max from count (SizeLine start keep body) text more x some a = halts_more size_form size_facts count start body text more x some a
stops_more max from count (Chunk start keep body size) text more x some (inl a) =
    inl ((let d = take_grows size text more in let p = a.0 in omega (arith, d, p)), stays x start [] text more _ _ a.1 refl)
stops_more max from count (Chunk start keep body size) text more x some (inr a) = absurd (unheard x start (body ++ text) [] some a.2)
stops_more max from count (Closing start keep body) text more x some (inl a) = absurd (unheard x start body [] some a.1)
stops_more max from count (Closing start keep body) text more x some (inr a) =
    inr ((λ further rest same. a.0 (more ++ further) rest (sym (append_assoc text more further) ∙ same)), stays x start body text more (garbled_at count text) (garbled_at (count + length more) (text ++ more)) a.1 (sym (same_place count text more)))
stops_more max from count (Trailing start keep body) text more x some (inl a) = inl (halts_more trailer_form trailer_facts count start body text more x some a)
stops_more max from count (Trailing start keep body) text more x some (inr a) =
    inr (a.0, a.1 ++ more, whole_more trailer_form text a.0 a.1 more a.2, stays x start body a.1 more _ _ a.3 refl)

pub decided : (max from : ℕ) (bytes more : List ℕ) (x : Heard) → x.ending ≢ None → IsHeard max from bytes false x → IsHeard max from (bytes ++ more) false (followed x more)
decided max from bytes more x some a = record {
  parts = a.parts;
  stage = a.stage;
  text = a.text ++ more;
  leads = leads_more max from a.parts (Heads 0) bytes a.stage a.text more a.leads;
  stops = subst (λ n. Stops max from false n a.stage (a.text ++ more) (followed x more)) (sym (length-append bytes more)) (stops_more max from (length bytes) a.stage a.text more x some a.stops);
}
