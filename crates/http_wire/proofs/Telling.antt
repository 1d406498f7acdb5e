-- What a wire tells, and what stays when its body is taken.
use Rattle.std.proofs.Common.{◌≡◌, ◌≢◌, ℕ, ◌+◌, ◌<◌, ◌≤◌, inl, inr, Bool, false, List, [], ◌++◌, length, arith, sym, ap, ◌∙◌, refl, subst, append-nil, length-append, Option, Some, None}
use Rattle.http_wire.specs.declared.ending.Response.{Response}
use Rattle.http_wire.specs.declared.ending.Response.TheVariants.{Served, Absent, Moved, TooBig, Garbled}
use Rattle.http_wire.specs.declared.phase.Phase.{Phase}
use Rattle.http_wire.specs.declared.phase.Phase.TheVariants as phases
use Rattle.http_wire.specs.Stream.{Stage, Counted, SizeLine, Closing, Trailing, Heard, hear, Stops, IsHeard}
use Rattle.http_wire.specs.State.{WireState, state_of}
use Rattle.http_wire.specs.Wire.{InReach, Stands, IsBodyOf, IsAt, Follows, IsDone, IsStateOf}

-- ---- a wire that goes on waits for more

waits : (w : WireState) (given bytes : List ℕ) (p : Phase) (stage : Stage) (text : List ℕ) → Stands p w given stage text → Stops w.max w.from false (length bytes) stage text (hear None w.start (given ++ w.body) [])
waits w given bytes (phases.Heads passed) stage text s =
    let x = hear None w.start (given ++ w.body) [] in
    subst (λ z. Stops w.max w.from false (length bytes) z text x) (sym s.0) (inl (inl (s.4, (λ i. hear None (s.3 i) (s.2 i) []))))
waits w given bytes (phases.Counted left) stage text s =
    let x = hear None w.start (given ++ w.body) [] in
    let e : length text ≡ length (given ++ w.body) = ap length s.1 in
    let some = s.2 in
    let short : length text < length (given ++ w.body) + left = omega (arith, e, some) in
    subst (λ z. Stops w.max w.from false (length bytes) z text x) (sym s.0) (inl (short, ap (λ z. hear None w.start z []) (sym s.1)))
waits w given bytes phases.Unbounded stage text s =
    let x = hear None w.start (given ++ w.body) [] in
    let e : length text ≡ length (given ++ w.body) = ap length s.1 in
    let reach = s.2.is in
    let inside = s.2.within in
    let fits : w.start + length text ≤ w.max = omega (arith, e, reach, inside) in
    subst (λ z. Stops w.max w.from false (length bytes) z text x) (sym s.0) (inr (fits, ap (λ z. hear None w.start z []) (sym s.1)))
waits w given bytes phases.SizeLine stage text s =
    let x = hear None w.start (given ++ w.body) [] in
    subst (λ z. Stops w.max w.from false (length bytes) z text x) (sym s.0) (inl (s.3, refl))
waits w given bytes (phases.Chunk left) stage text s =
    let x = hear None w.start (given ++ w.body) [] in
    let some = s.3 in
    let reach = s.4.is in
    let inside = s.4.within in
    let b : length (given ++ w.body) ≡ length (s.0 ++ text) = ap length s.2 in
    let d = length-append s.0 text in
    let short : length text < length text + left = omega (arith, some) in
    let fits : w.start + length s.0 + length text ≤ w.max = omega (arith, reach, inside, b, d) in
    subst (λ z. Stops w.max w.from false (length bytes) z text x) (sym s.1) (inr (short, fits, ap (λ z. hear None w.start z []) s.2))
waits w given bytes phases.ChunkCr stage text s =
    let x = hear None w.start (given ++ w.body) [] in
    subst (λ z. Stops w.max w.from false (length bytes) z text x) (sym s.0) (inl (inl s.1, refl))
waits w given bytes phases.ChunkLf stage text s =
    let x = hear None w.start (given ++ w.body) [] in
    subst (λ z. Stops w.max w.from false (length bytes) z text x) (sym s.0) (inl (inr s.1, refl))
waits w given bytes phases.Trailing stage text s =
    let x = hear None w.start (given ++ w.body) [] in
    subst (λ z. Stops w.max w.from false (length bytes) z text x) (sym s.0) (inl (inl (s.2, refl)))

held_body : (how : Response) (heard : Heard) (bytes : List ℕ) → IsBodyOf how heard bytes → Some how ≢ Some TooBig → heard.body ≡ bytes
held_body (Served keep) heard bytes h other = h.0
held_body (Absent status) heard bytes h other = h.0
held_body (Moved place) heard bytes h other = h.0
held_body TooBig heard bytes h other = absurd (other refl)
held_body (Garbled at) heard bytes h other = h

no_rest : (how : Response) (heard : Heard) (bytes : List ℕ) → IsBodyOf how heard bytes → IsDone (state_of (Some how)) → heard.rest ≡ []
no_rest (Served keep) heard bytes h done = h.1
no_rest (Absent status) heard bytes h done = h.1
no_rest (Moved place) heard bytes h done = h.1
no_rest TooBig heard bytes h done = absurd done
no_rest (Garbled at) heard bytes h done = absurd done

tells_at : (w : WireState) (max from : ℕ) (given bytes : List ℕ) (ended : Bool) (e : Option Response) → w.max ≡ max → w.from ≡ from → w.ending ≡ e → IsAt e w given bytes ended → IsStateOf w max from given bytes ended
tells_at w max from given bytes ended None m f is at =
    let g = at.1 in
    let x = hear None w.start (given ++ w.body) [] in
    let heard : IsHeard w.max w.from bytes false x = record { parts = g.parts; stage = g.stage; text = g.text; leads = g.leads; stops = waits w given bytes w.phase g.stage g.text g.stands } in
    record {
      heard = x;
      is = subst (λ z. IsHeard max from bytes z x) (sym at.0) (subst (λ z. IsHeard max z bytes false x) f (subst (λ z. IsHeard z w.from bytes false x) m heard));
      ending = sym is;
      start = refl;
      body = λ other. refl;
      rest = λ done. refl;
    }
tells_at w max from given bytes ended (Some how) m f is at = record {
  heard = at.heard;
  is = subst (λ z. IsHeard max z bytes ended at.heard) f (subst (λ z. IsHeard z w.from bytes ended at.heard) m at.is);
  ending = at.ending ∙ sym is;
  start = at.start;
  body = λ other. held_body how at.heard (given ++ w.body) at.holds (λ big. other (is ∙ big));
  rest = λ done. no_rest how at.heard (given ++ w.body) at.holds (subst (λ e. IsDone (state_of e)) is done);
}

pub tells : (w : WireState) (max from : ℕ) (given bytes : List ℕ) (ended : Bool) → Follows w max from given bytes ended → IsStateOf w max from given bytes ended
tells w max from given bytes ended h = tells_at w max from given bytes ended w.ending h.max_is h.from_is refl h.is_at

-- ---- the body is taken

abbrev emptied : WireState → WireState
emptied w = record w { body = [] }

reach_kept : (w : WireState) (given : List ℕ) → InReach w given → InReach (emptied w) (given ++ w.body)
reach_kept w given r = record { is = r.is ∙ ap (λ z. w.start + length z) (sym (append-nil (given ++ w.body))); within = r.within }

stands_kept : (w : WireState) (given : List ℕ) (p : Phase) (stage : Stage) (text : List ℕ) → Stands p w given stage text → Stands p (emptied w) (given ++ w.body) stage text
stands_kept w given (phases.Heads passed) stage text s = (s.0, s.1, append-nil (given ++ w.body) ∙ s.2, s.3, s.4, s.5, s.6)
stands_kept w given (phases.Counted left) stage text s = (s.0 ∙ ap (λ z. Counted w.start w.keep (length z + left)) (sym (append-nil (given ++ w.body))), s.1 ∙ sym (append-nil (given ++ w.body)), s.2)
stands_kept w given phases.Unbounded stage text s = (s.0, s.1 ∙ sym (append-nil (given ++ w.body)), reach_kept w given s.2)
stands_kept w given phases.SizeLine stage text s = (s.0 ∙ ap (SizeLine w.start w.keep) (sym (append-nil (given ++ w.body))), s.1, reach_kept w given s.2, s.3)
stands_kept w given (phases.Chunk left) stage text s = (s.0, s.1, append-nil (given ++ w.body) ∙ s.2, s.3, reach_kept w given s.4)
stands_kept w given phases.ChunkCr stage text s = (s.0 ∙ ap (Closing w.start w.keep) (sym (append-nil (given ++ w.body))), s.1, reach_kept w given s.2)
stands_kept w given phases.ChunkLf stage text s = (s.0 ∙ ap (Closing w.start w.keep) (sym (append-nil (given ++ w.body))), s.1, reach_kept w given s.2)
stands_kept w given phases.Trailing stage text s = (s.0 ∙ ap (Trailing w.start w.keep) (sym (append-nil (given ++ w.body))), s.1, s.2, s.3)

kept_at : (w : WireState) (given bytes : List ℕ) (ended : Bool) (e : Option Response) → IsAt e w given bytes ended → IsAt e (emptied w) (given ++ w.body) bytes ended
kept_at w given bytes ended None at = (
  at.0,
  record {
    parts = at.1.parts;
    stage = at.1.stage;
    text = at.1.text;
    leads = at.1.leads;
    stands = stands_kept w given w.phase at.1.stage at.1.text at.1.stands;
    count = at.1.count;
    place = at.1.place;
  },
)
kept_at w given bytes ended (Some how) at = record {
  heard = at.heard;
  is = at.is;
  ending = at.ending;
  start = at.start;
  holds = subst (λ z. IsBodyOf how at.heard z) (sym (append-nil (given ++ w.body))) at.holds;
}

pub taken_out : (w : WireState) (max from : ℕ) (given bytes : List ℕ) (ended : Bool) → Follows w max from given bytes ended → Follows (emptied w) max from (given ++ w.body) bytes ended
taken_out w max from given bytes ended h = record { max_is = h.max_is; from_is = h.from_is; is_at = kept_at w given bytes ended w.ending h.is_at }
