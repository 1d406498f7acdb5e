-- How pieces add up, and what a wire does once the reading has ended.
use Rattle.std.proofs.Common.{◌≡◌, ◌≢◌, ℕ, ◌+◌, ◌≤◌, ◌⊎◌, inl, inr, Bool, true, false, List, [], ◌++◌, length, take, drop, arith, sym, ap, ◌∙◌, refl, subst, append_assoc, append-nil, Option, Some, None}
use Rattle.std.proofs.lemmas.List.{drop-take, take-take, take-append-drop}
use Rattle.std.proofs.Math.Seq.{take-length}
use Rattle.acq_base.specs.declared.fetch.Reply.{Reply}
use Rattle.acq_base.specs.declared.fetch.Reply.TheVariants as replies
use Rattle.acq_base.specs.declared.uri.Uri.{Uri}
use Rattle.http_wire.specs.declared.ending.Response.{Response}
use Rattle.http_wire.specs.declared.ending.Response.TheVariants.{Served, Absent, Moved, TooBig, Garbled}
use Rattle.http_wire.specs.declared.ending.State.TheVariants as states
use Rattle.http_wire.specs.Stream.{followed}
use Rattle.http_wire.specs.State.{WireState, state_of}
use Rattle.http_wire.specs.Wire.{HasEnded, IsAt, Follows, IsDone, wire_state, is_going, is_refused, reply_of, IsReply, Replies}
use Rattle.http_wire.specs.Steps.{Moves, Closes}
use Rattle.http_wire.proofs.Decided.{decided}
use Rattle.http_wire.proofs.EndMoves.{going_on, ended_stays}
use Rattle.http_wire.proofs.Moving.{stops_at}
use Rattle.http_wire.proofs.Telling.{tells}

-- ---- pieces add up

pub moves_none : (w : WireState) → Moves w w []
moves_none w max from given bytes h = subst (λ t. Follows w max from given t false) (sym (append-nil bytes)) h

take_more_of : (n m : ℕ) (xs : List ℕ) → n ≤ length xs → take n xs ++ take m (drop n xs) ≡ take (n + m) xs
take_more_of n m xs inside =
    let ys = take (n + m) xs in
    let back : drop n ys ≡ take m (drop n xs) = drop-take n m xs in
    let front : take n ys ≡ take n xs = take-take n (n + m) xs (omega arith) in
    ap (λ t. t ++ take m (drop n xs)) (sym front) ∙ ap (λ t. take n ys ++ t) (sym back) ∙ take-append-drop n ys

pub moves_on : (w u v : WireState) (piece : List ℕ) (n m : ℕ) → n ≤ length piece → Moves w u (take n piece) → Moves u v (take m (drop n piece)) → Moves w v (take (n + m) piece)
moves_on w u v piece n m inside first second max from given bytes h =
    let both : Follows v max from given ((bytes ++ take n piece) ++ take m (drop n piece)) false = second max from given (bytes ++ take n piece) (first max from given bytes h) in
    subst (λ t. Follows v max from given t false) (append_assoc bytes (take n piece) (take m (drop n piece)) ∙ ap (λ t. bytes ++ t) (take_more_of n m piece inside)) both

-- a refusal stands, whatever follows
holds_more : (w : WireState) (how : Response) → is_refused (Some how) ≡ true → w.ending ≡ Some how → (max from : ℕ) (given bytes more : List ℕ) → Follows w max from given bytes false → Follows w max from given (bytes ++ more) false
holds_more w (Served keep) refused is max from given bytes more h = cc
holds_more w (Absent status) refused is max from given bytes more h = cc
holds_more w (Moved place) refused is max from given bytes more h = cc
holds_more w TooBig refused is max from given bytes more h =
    let at : HasEnded TooBig w given bytes false = subst (λ e. IsAt e w given bytes false) is h.is_at in
    stops_at w max from given (bytes ++ more) false TooBig h.max_is h.from_is is (record {
      heard = followed at.heard more;
      is = decided w.max w.from bytes more at.heard (λ none. let e : Some TooBig ≡ None = sym at.ending ∙ none in cc) at.is;
      ending = at.ending;
      start = at.start;
      holds = tt;
    })
holds_more w (Garbled place) refused is max from given bytes more h =
    let at : HasEnded (Garbled place) w given bytes false = subst (λ e. IsAt e w given bytes false) is h.is_at in
    stops_at w max from given (bytes ++ more) false (Garbled place) h.max_is h.from_is is (record {
      heard = followed at.heard more;
      is = decided w.max w.from bytes more at.heard (λ none. let e : Some (Garbled place) ≡ None = sym at.ending ∙ none in cc) at.is;
      ending = at.ending;
      start = at.start;
      holds = at.holds;
    })

refused_at : (w : WireState) (e : Option Response) → w.ending ≡ e → is_refused e ≡ true → (max from : ℕ) (given bytes more : List ℕ) → Follows w max from given bytes false → Follows w max from given (bytes ++ more) false
refused_at w None is refused max from given bytes more h = cc
refused_at w (Some how) is refused max from given bytes more h = holds_more w how refused is max from given bytes more h

pub refused_whole : (w v : WireState) (piece : List ℕ) (n : ℕ) → is_refused v.ending ≡ true → Moves w v (take n piece) → Moves w v (take (length piece) piece)
refused_whole w v piece n refused moves max from given bytes h =
    let both : Follows v max from given ((bytes ++ take n piece) ++ drop n piece) false = refused_at v v.ending refl refused max from given (bytes ++ take n piece) (drop n piece) (moves max from given bytes h) in
    subst (λ t. Follows v max from given t false) (append_assoc bytes (take n piece) (drop n piece) ∙ ap (λ t. bytes ++ t) (take-append-drop n piece ∙ sym (take-length piece))) both

-- what isn't refused nor done goes on
pub on_or_done : (e : Option Response) → is_refused e ≡ false → ¬ (IsDone (state_of e)) → e ≡ None
on_or_done None refused other = refl
on_or_done (Some (Served keep)) refused other = absurd (other tt)
on_or_done (Some (Absent status)) refused other = absurd (other tt)
on_or_done (Some (Moved place)) refused other = absurd (other tt)
on_or_done (Some TooBig) refused other = cc
on_or_done (Some (Garbled at)) refused other = cc

pub more_is_none : (e : Option Response) → state_of e ≡ states.More → e ≡ None
more_is_none None more = refl
more_is_none (Some (Served keep)) more = cc
more_is_none (Some (Absent status)) more = cc
more_is_none (Some (Moved place)) more = cc
more_is_none (Some TooBig) more = cc
more_is_none (Some (Garbled at)) more = cc

-- a wire that goes on wasn't told of an end
pub takes : (w v : WireState) (took : List ℕ) → w.ending ≡ None → Moves w v took → (max from : ℕ) (given bytes : List ℕ) (ended : Bool) → Follows w max from given bytes ended → Follows v max from given (bytes ++ took) ended
takes w v took none moves max from given bytes ended h =
    let not_ended = going_on w none max from given bytes ended h in
    subst (λ e. Follows v max from given (bytes ++ took) e) (sym not_ended) (moves max from given bytes (subst (λ e. Follows w max from given bytes e) not_ended h))

pub takes_none : (w : WireState) (piece : List ℕ) (max from : ℕ) (given bytes : List ℕ) (ended : Bool) → Follows w max from given bytes ended → Follows w max from given (bytes ++ take 0 piece) ended
takes_none w piece max from given bytes ended h = subst (λ t. Follows w max from given t ended) (sym (append-nil bytes)) h

pub finishes : (w v : WireState) → w.ending ≡ None → Closes w v → (max from : ℕ) (given bytes : List ℕ) (ended : Bool) → Follows w max from given bytes ended → Follows v max from given bytes true
finishes w v none closes max from given bytes ended h =
    closes max from given bytes (subst (λ e. Follows w max from given bytes e) (going_on w none max from given bytes ended h) h)

finished_at : (w : WireState) (e : Option Response) → w.ending ≡ e → e ≢ None → (max from : ℕ) (given bytes : List ℕ) (ended : Bool) → Follows w max from given bytes ended → Follows w max from given bytes true
finished_at w None is some max from given bytes ended h = absurd (some refl)
finished_at w (Some how) is some max from given bytes ended h = ended_stays w how is max from given bytes ended h

pub finished : (w : WireState) → w.ending ≢ None → (max from : ℕ) (given bytes : List ℕ) (ended : Bool) → Follows w max from given bytes ended → Follows w max from given bytes true
finished w some max from given bytes ended h = finished_at w w.ending refl some max from given bytes ended h

-- ---- replies

replies_to : (uri : Uri) (given body held : List ℕ) (e : Option Response) (reply : Reply) → e ≢ None → reply ≡ reply_of uri e held → (e ≢ Some TooBig → body ≡ given ++ held) → IsReply uri given e body reply
replies_to uri given body held None reply some is whole = absurd (some refl)
replies_to uri given body held (Some (Served keep)) reply some is whole = (held, is, sym (whole (λ e. cc)))
replies_to uri given body held (Some (Absent status)) reply some is whole = is
replies_to uri given body held (Some (Moved place)) reply some is whole = is
replies_to uri given body held (Some TooBig) reply some is whole = is
replies_to uri given body held (Some (Garbled at)) reply some is whole = is

pub replies_so : (uri : Uri) (w : WireState) (reply : Reply) → wire_state w ≢ states.More → (reply ≡ replies.NoMemory) ⊎ (reply ≡ reply_of uri w.ending w.body) → (max from : ℕ) (given bytes : List ℕ) (ended : Bool) → Follows w max from given bytes ended → Replies uri w max from given bytes ended reply
replies_so uri w reply over (inl none) max from given bytes ended h = inl none
replies_so uri w reply over (inr is) max from given bytes ended h =
    let t = tells w max from given bytes ended h in
    let some : w.ending ≢ None = λ none. over (ap state_of none) in
    inr (t.heard, t.is, subst (λ e. IsReply uri given e t.heard.body reply) (sym t.ending) (replies_to uri given t.heard.body w.body w.ending reply some is t.body))

-- ---- a wire that goes on, and one that doesn't

pub going_none : (e : Option Response) → is_going e ≡ true → e ≡ None
going_none None test = refl
going_none (Some how) test = cc

pub over_some : (e : Option Response) → is_going e ≡ false → e ≢ None
over_some None test none = cc
over_some (Some how) test none = cc

pub over_state : (e : Option Response) → is_going e ≡ false → state_of e ≢ states.More
over_state e test more = over_some e test (more_is_none e more)
