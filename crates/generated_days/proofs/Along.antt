-- A walk that was answered by a mirror, without a fault, and has ended heard one answer for each position of its route.
use Rattle.std.proofs.Common.{◌≡◌, ◌∙◌, ℕ, zero, suc, ◌+◌, List, [], ◌∷◌, length, refl, sym, ap, subst, arith}
use Rattle.std.specs.List.{AllByRecursion as Each}
use Rattle.std.proofs.lemmas.List.Sums.{sum_by-cons}
use Rattle.acq_base.specs.Mirror.{MirrorMap, answer_at}
use Rattle.acq_base.specs.declared.fetch.Answer.{Answer}
use Rattle.acq_base.specs.declared.fetch.Answer.TheVariants as answers
use Rattle.acq_base.specs.declared.uri.Uri.{Uri}
use Rattle.board_model.specs.Runs.{Note}
use Rattle.board_model.specs.Stands.{AreAsked, lane_answers}
use Rattle.generated_days.specs.Asks.{asks_along}
use Rattle.generated_days.proofs.Answers.{NoFault, Said}
use Rattle.update_model.specs.Mirrored.{behind, heard_once, positions_by, seen, trails_over}
use Rattle.update_model.specs.Points.{Point, Over, At, lead, run, start, point_after}
use Rattle.update_model.specs.Reach.{Way, On, Stop, followed, reach, reach_by, way, within}
use Rattle.update_model.specs.Trails.{Leads, Position, IsFaultOr, Trail, answered}
use Rattle.update_model.specs.Walks.{Walk, Finish, Try}
use Rattle.update_model.specs.declared.ask.Ask.{Ask}
use Rattle.update_model.specs.declared.ask.Body.TheVariants.{Bytes, Staged}
use Rattle.update_model.specs.declared.ask.Closed.{Closed}
use Rattle.update_model.specs.declared.ask.Closed.TheVariants.{Served, Not}
use Rattle.acq_base.specs.declared.fetch.NotServed.TheVariants.{Moved, Absent, TooBig, Garbled, Fault}
use Rattle.update_model.specs.declared.ask.Ending.{Ending}
use Rattle.update_model.specs.declared.ask.Ending.TheVariants as endings
use Rattle.update_model.specs.declared.end.End.{End}
use Rattle.update_model.proofs.Routes.{seen_way, way-answered, no_moves}

-- ---- an ask at another URI is answered as the same ask

same-answer : (part : List ℕ) (ask : Ask) (at : Uri) (a : Answer) → answered part (record ask { uri = at }) a ≡ answered part ask a
same-answer part ask at (answers.Served bytes) = refl
same-answer part ask at (answers.Moved place) = refl
same-answer part ask at (answers.Absent status) = refl

same-seen : (part : List ℕ) (ask : Ask) (at : Uri) (e : Ending) → seen part (record ask { uri = at }) e ≡ seen part ask e
same-seen part ask at (endings.Served (Bytes bytes)) = refl
same-seen part ask at (endings.Served (Staged sum)) = refl
same-seen part ask at endings.TooBig = refl
same-seen part ask at (endings.Absent status) = refl
same-seen part ask at endings.Lost = refl
same-seen part ask at (endings.Garbled from) = refl
same-seen part ask at (endings.Dead lane before after) = refl

same-behind : (w : Way) (f g : Uri → List Position) → ((to : Uri) → f to ≡ g to) → behind w f ≡ behind w g
same-behind (On to) f g same = same to
same-behind (Stop ending) f g same = refl

same-positions : (mirror : MirrorMap) (part : List ℕ) (ask : Ask) (at : Uri) (left : ℕ) (uri : Uri) → positions_by left mirror part (record ask { uri = at }) uri ≡ positions_by left mirror part ask uri
same-positions mirror part ask at zero uri =
    ap (λ (c : Closed). record { uri = uri; told = record { lane = 0; closed = c } ∷ [] } ∷ []) (same-answer part ask at (answer_at mirror uri))
same-positions mirror part ask at (suc left) uri =
    ap (λ (c : Closed). record { uri = uri; told = record { lane = 0; closed = c } ∷ [] } ∷ behind (way (suc left) uri c) (λ to. positions_by left mirror part (record ask { uri = at }) to)) (same-answer part ask at (answer_at mirror uri))
    ∙ ap (λ (ps : List Position). heard_once mirror part ask uri ∷ ps)
    (same-behind (way (suc left) uri (answered part ask (answer_at mirror uri))) (λ to. positions_by left mirror part (record ask { uri = at }) to) (λ to. positions_by left mirror part ask to)
    (λ to. same-positions mirror part ask at left to))

-- ---- what is still to be heard

module _ (mirror : MirrorMap) (part : List ℕ) (retries : ℕ) where
  abbrev pub rest_of : Point → ℕ
  rest_of (Over end) = 0
  rest_of (At ask left faults next) =
      length (positions_by left mirror part ask ask.uri) + asks_along mirror part (next (seen part ask (reach_by left mirror ask.uri ask.max)))

  pub rest-start : (walk : Walk) → rest_of (start retries walk) ≡ asks_along mirror part walk
  rest-start (Finish end) = refl
  rest-start (Try ask next) =
      sym (sum_by-cons (λ (t : Trail). length t.positions) (record { ask = ask; positions = positions_by 10 mirror part ask ask.uri; ending = seen part ask (reach mirror ask.uri ask.max) })
      (trails_over mirror part (next (seen part ask (reach mirror ask.uri ask.max)))))

  -- where no move is left, or some are: what is behind one more answer is one less
  behind-last : (ask : Ask) (next : Ending → Walk) (w : Way) → w ≡ way zero ask.uri (within ask.max (answer_at mirror ask.uri))
      → 1 + asks_along mirror part (next (seen part ask (followed w (λ to. endings.Lost)))) ≡ suc (rest_of (lead retries ask zero next (seen_way part ask w)))
  behind-last ask next (On to) is = absurd (no_moves ask.uri to (within ask.max (answer_at mirror ask.uri)) is)
  behind-last ask next (Stop ending) is = let same = rest-start (next (seen part ask ending)) in omega (arith, same)

  behind-one : (left : ℕ) (ask : Ask) (next : Ending → Walk) (w : Way)
      → suc (length (behind (seen_way part ask w) (λ to. positions_by left mirror part ask to))) + asks_along mirror part (next (seen part ask (followed w (λ to. reach_by left mirror to ask.max))))
      ≡ suc (rest_of (lead retries ask (suc left) next (seen_way part ask w)))
  behind-one left ask next (On to) =
      let many : length (positions_by left mirror part (record ask { uri = to }) to) ≡ length (positions_by left mirror part ask to) = ap (λ (ps : List Position). length ps) (same-positions mirror part ask to left to) in
      let later : asks_along mirror part (next (seen part (record ask { uri = to }) (reach_by left mirror to ask.max))) ≡ asks_along mirror part (next (seen part ask (reach_by left mirror to ask.max))) =
      ap (λ (e : Ending). asks_along mirror part (next e)) (same-seen part ask to (reach_by left mirror to ask.max)) in
      sum-up _ _ _ _ many later
    where
      sum-up : (a b c d : ℕ) → a ≡ c → b ≡ d → suc c + d ≡ suc (a + b)
      sum-up a b c d same other = omega (arith, same, other)
  behind-one left ask next (Stop ending) = let same = rest-start (next (seen part ask ending)) in omega (arith, same)

  one-less : (left faults : ℕ) (ask : Ask) (next : Ending → Walk)
      → rest_of (At ask left faults next) ≡ suc (rest_of (lead retries ask left next (way left ask.uri (answered part ask (answer_at mirror ask.uri)))))
  one-less zero faults ask next =
      subst (λ (v : Way). 1 + asks_along mirror part (next (seen part ask (reach_by zero mirror ask.uri ask.max))) ≡ suc (rest_of (lead retries ask zero next v)))
      (sym (way-answered part ask zero ask.uri (answer_at mirror ask.uri)))
      (behind-last ask next (way zero ask.uri (within ask.max (answer_at mirror ask.uri))) refl)
  one-less (suc left) faults ask next =
      subst (λ (v : Way). suc (length (behind v (λ to. positions_by left mirror part ask to))) + asks_along mirror part (next (seen part ask (reach_by (suc left) mirror ask.uri ask.max))) ≡ suc (rest_of (lead retries ask (suc left) next v)))
      (sym (way-answered part ask (suc left) ask.uri (answer_at mirror ask.uri)))
      (behind-one left ask next (way (suc left) ask.uri (within ask.max (answer_at mirror ask.uri))))

  -- ---- one answer after another

  led : (left faults lane : ℕ) (ask : Ask) (next : Ending → Walk) (closed : Closed) → NoFault closed
      → Leads left ask.uri lane closed faults (λ n. At ask left n next) (λ w. lead retries ask left next w) ≡ lead retries ask left next (way left ask.uri closed)
  led left faults lane ask next (Served body) quiet = refl
  led left faults lane ask next (Not (Moved place)) quiet = refl
  led left faults lane ask next (Not (Absent status)) quiet = refl
  led left faults lane ask next (Not TooBig) quiet = refl
  led left faults lane ask next (Not (Garbled at)) quiet = refl
  led left faults lane ask next (Not (Fault from to)) quiet = absurd quiet

  says-it : (closed said : Closed) → NoFault closed → IsFaultOr closed said → closed ≡ said
  says-it (Served body) said quiet says = says
  says-it (Not (Moved place)) said quiet says = says
  says-it (Not (Absent status)) said quiet says = says
  says-it (Not TooBig) said quiet says = says
  says-it (Not (Garbled at)) said quiet says = says
  says-it (Not (Fault from to)) said quiet says = absurd quiet

  pub counts : (p : Point) (notes : List Note) (end : End) → AreAsked retries p notes → run retries p (lane_answers notes) ≡ Over end
      → Each (Said mirror part) notes → Each (λ note. NoFault note.told.closed) notes → length notes ≡ rest_of p
  counts p [] end asks over said quiet = sym (ap rest_of over)
  counts (Over last) (note ∷ notes) end asks over said quiet = let none = asks.0 in absurd (cc)
  counts (At ask left faults next) (note ∷ notes) end asks over said quiet =
      let is = asks.0 in
      let same : ask ≡ note.ask = cc in
      let here : IsFaultOr note.told.closed (answered part ask (answer_at mirror ask.uri)) = subst (λ (a : Ask). IsFaultOr note.told.closed (answered part a (answer_at mirror a.uri))) (sym same) said.0 in
      let answer : note.told.closed ≡ answered part ask (answer_at mirror ask.uri) = says-it note.told.closed (answered part ask (answer_at mirror ask.uri)) quiet.0 here in
      let later : length notes ≡ rest_of (point_after retries (At ask left faults next) note.told) = counts (point_after retries (At ask left faults next) note.told) notes end asks.1 over said.1 quiet.1 in
      ap suc (later ∙ ap rest_of (led left faults note.told.lane ask next note.told.closed quiet.0 ∙ ap (λ (c : Closed). lead retries ask left next (way left ask.uri c)) answer))
      ∙ sym (one-less left faults ask next)

  pub counts-walk : (walk : Walk) (notes : List Note) (end : End) → AreAsked retries (start retries walk) notes → run retries (start retries walk) (lane_answers notes) ≡ Over end
      → Each (Said mirror part) notes → Each (λ note. NoFault note.told.closed) notes → length notes ≡ asks_along mirror part walk
  counts-walk walk notes end asks over said quiet = counts (start retries walk) notes end asks over said quiet ∙ rest-start walk
