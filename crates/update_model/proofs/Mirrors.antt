-- The trails over a mirror are a route that agrees with it and holds no dead position.
use Rattle.std.proofs.Common.{◌≡◌, ℕ, zero, suc, List, [], ◌∷◌, ◌++◌, length, take, drop, true, false, refl, sym, subst, if◌then◌else◌, ◌&&◌, nat_lt, nat_le}
use Rattle.acq_base.specs.declared.fetch.Answer.{Answer}
use Rattle.acq_base.specs.declared.fetch.Answer.TheVariants as answers
use Rattle.acq_base.specs.declared.uri.Uri.{Uri}
use Rattle.update_model.specs.declared.ask.Ask.{Ask}
use Rattle.update_model.specs.declared.ask.Closed.{Closed}
use Rattle.update_model.specs.declared.ask.Closed.TheVariants.{Served, Not}
use Rattle.acq_base.specs.declared.fetch.NotServed.TheVariants.{Moved, Absent, TooBig, Garbled, Fault}
use Rattle.update_model.specs.declared.ask.Ending.{Ending}
use Rattle.update_model.specs.declared.ask.Ending.TheVariants as endings
use Rattle.update_model.proofs.Routes.{no_moves, seen_way, way-answered}
use Rattle.update_model.specs.Laws.{MirrorsGiveRoutes}
use Rattle.update_model.specs.Mirrored.{behind, positions_by, seen}
use Rattle.update_model.specs.Reach.{On, Stop, Way, followed, reach, reach_by, way, within}
use Rattle.update_model.specs.Trails.{Along, HasAnswer, IsPosition, IsTrail, Position, IsFaultOr, LaneAnswer, answered, body_for}
use Rattle.update_model.specs.Walks.{Finish, Try}
use Rattle.std.specs.List.{AllByRecursion as Each}
use Rattle.acq_base.specs.Mirror.{MirrorMap, answer_at}

-- an answer that is no fault
abbrev NoFault : Closed → Type 0
NoFault (Not (Fault from to)) = ⊥
NoFault closed = Unit {0}

no-fault : (part : List ℕ) (ask : Ask) (a : Answer) → NoFault (answered part ask a)
no-fault part ask (answers.Absent status) = tt
no-fault part ask (answers.Moved place) = tt
no-fault part ask (answers.Served bytes) =
    elim (nat_le (length bytes) ask.max) as (λ b. NoFault (if b then (if nat_lt 0 ask.from && nat_le (length bytes) ask.from then Not (Absent 416) else Served (body_for ask.stage (take ask.from part ++ drop ask.from bytes))) else Not TooBig)) [
      | true ↦ elim (nat_lt 0 ask.from && nat_le (length bytes) ask.from) as (λ c. NoFault (if c then Not (Absent 416) else Served (body_for ask.stage (take ask.from part ++ drop ask.from bytes)))) [ true ↦ tt | false ↦ tt ]
      | false ↦ tt
    ]

-- one answer makes a position, agrees with itself and is alive
one-answer : (retries left : ℕ) (uri : Uri) (closed : Closed) (P : Way → Type 0) → NoFault closed → P (way left uri closed)
    → IsPosition retries left uri (record { lane = 0; closed = closed } ∷ []) P
one-answer retries left uri (Not (Fault from to)) P n p = absurd n
one-answer retries left uri (Served body) P n p = (refl, p)
one-answer retries left uri (Not (Moved place)) P n p = (refl, p)
one-answer retries left uri (Not (Absent status)) P n p = (refl, p)
one-answer retries left uri (Not TooBig) P n p = (refl, p)
one-answer retries left uri (Not (Garbled at)) P n p = (refl, p)

says-itself : (closed : Closed) → IsFaultOr closed closed
says-itself (Not (Fault from to)) = tt
says-itself (Served body) = refl
says-itself (Not (Moved place)) = refl
says-itself (Not (Absent status)) = refl
says-itself (Not TooBig) = refl
says-itself (Not (Garbled at)) = refl

is-alive : (closed : Closed) → NoFault closed → HasAnswer (record { lane = 0; closed = closed } ∷ [])
is-alive (Not (Fault from to)) n = n
is-alive (Served body) n = tt
is-alive (Not (Moved place)) n = tt
is-alive (Not (Absent status)) n = tt
is-alive (Not TooBig) n = tt
is-alive (Not (Garbled at)) n = tt

-- where the mirror's answer leads, the rest of its positions are a trail
leads-on : (part : List ℕ) (ask : Ask) (w : Way) (more : Uri → List Position) (there : Uri → Ending) (T : Uri → List Position → Ending → Type 0)
    → ((to : Uri) → T to (more to) (seen part ask (there to)))
    → Along (seen_way part ask w) (λ to. T to (behind (seen_way part ask w) more) (seen part ask (followed w there)))
    (λ e. (behind (seen_way part ask w) more ≡ []) × (seen part ask (followed w there) ≡ e))
leads-on part ask (On to) more there T rest = rest to
leads-on part ask (Stop ending) more there T rest = (refl, refl)

last : (part : List ℕ) (ask : Ask) (uri : Uri) (closed : Closed) (there : Uri → Ending) (w : Way) → w ≡ way zero uri closed → (T : Uri → List Position → Ending → Type 0)
    → Along (seen_way part ask w) (λ to. T to [] (seen part ask (followed w there))) (λ e. (◌≡◌ {A = List Position} [] []) × (seen part ask (followed w there) ≡ e))
last part ask uri closed there (On to) e T = absurd (no_moves uri to closed e)
last part ask uri closed there (Stop ending) e T = (refl, refl)

trail-by : (world : MirrorMap) (part : List ℕ) (ask : Ask) (retries left : ℕ) (uri : Uri)
    → IsTrail retries left uri (positions_by left world part ask uri) (seen part ask (reach_by left world uri ask.max))
trail-by world part ask retries zero uri =
    let end : Ending = seen part ask (reach_by zero world uri ask.max) in
    let P : List Position → Way → Type 0 = λ ps w. Along w (λ to. IsTrail retries zero to ps end) (λ e. (ps ≡ []) × (end ≡ e)) in (
      refl,
      one-answer retries zero uri (answered part ask (answer_at world uri)) (P []) (no-fault part ask (answer_at world uri))
          (subst (P []) (sym (way-answered part ask zero uri (answer_at world uri)))
          (last part ask uri (within ask.max (answer_at world uri)) (λ to. endings.Lost) (way zero uri (within ask.max (answer_at world uri))) refl (λ to ps e. IsTrail retries zero to ps e))),
    )
trail-by world part ask retries (suc left) uri =
    let end : Ending = seen part ask (reach_by (suc left) world uri ask.max) in
    let more : Uri → List Position = λ to. positions_by left world part ask to in
    let P : List Position → Way → Type 0 = λ ps w. Along w (λ to. IsTrail retries left to ps end) (λ e. (ps ≡ []) × (end ≡ e)) in (
      refl,
      one-answer retries (suc left) uri (answered part ask (answer_at world uri)) (P (behind (way (suc left) uri (answered part ask (answer_at world uri))) more)) (no-fault part ask (answer_at world uri))
          (subst (λ v. P (behind v more) v) (sym (way-answered part ask (suc left) uri (answer_at world uri)))
          (leads-on part ask (way (suc left) uri (within ask.max (answer_at world uri))) more (λ to. reach_by left world to ask.max) (λ to ps e. IsTrail retries left to ps e)
          (λ to. trail-by world part ask retries left to))),
    )

agrees-here : (world : MirrorMap) (part : List ℕ) (ask : Ask) (uri : Uri) → Each (λ (t : LaneAnswer). IsFaultOr t.closed (answered part ask (answer_at world uri))) (record { lane = 0; closed = answered part ask (answer_at world uri) } ∷ [])
agrees-here world part ask uri = (says-itself (answered part ask (answer_at world uri)), tt)

positions-agree : (world : MirrorMap) (part : List ℕ) (ask : Ask) (left : ℕ) (uri : Uri)
    → Each (λ p. Each (λ t. IsFaultOr t.closed (answered part ask (answer_at world p.uri))) p.told) (positions_by left world part ask uri)
positions-agree world part ask zero uri = (agrees-here world part ask uri, tt)
positions-agree world part ask (suc left) uri =
    (agrees-here world part ask uri, more (way (suc left) uri (answered part ask (answer_at world uri))) (λ to. positions-agree world part ask left to))
  where
    more : (w : Way) → ((to : Uri) → Each (λ p. Each (λ t. IsFaultOr t.closed (answered part ask (answer_at world p.uri))) p.told) (positions_by left world part ask to))
        → Each (λ p. Each (λ t. IsFaultOr t.closed (answered part ask (answer_at world p.uri))) p.told) (behind w (λ to. positions_by left world part ask to))
    more (On to) h = h to
    more (Stop e) h = tt

positions-live : (world : MirrorMap) (part : List ℕ) (ask : Ask) (left : ℕ) (uri : Uri) → Each (λ p. HasAnswer p.told) (positions_by left world part ask uri)
positions-live world part ask zero uri = (is-alive (answered part ask (answer_at world uri)) (no-fault part ask (answer_at world uri)), tt)
positions-live world part ask (suc left) uri =
    (is-alive (answered part ask (answer_at world uri)) (no-fault part ask (answer_at world uri)), more (way (suc left) uri (answered part ask (answer_at world uri))) (λ to. positions-live world part ask left to))
  where
    more : (w : Way) → ((to : Uri) → Each (λ p. HasAnswer p.told) (positions_by left world part ask to)) → Each (λ p. HasAnswer p.told) (behind w (λ to. positions_by left world part ask to))
    more (On to) h = h to
    more (Stop e) h = tt

pub mirrors-give : MirrorsGiveRoutes
mirrors-give world part (Finish end) retries = ((refl, refl), tt, tt)
mirrors-give world part (Try ask next) retries =
    let rest = mirrors-give world part (next (seen part ask (reach world ask.uri ask.max))) retries in
    ((refl, trail-by world part ask retries 10 ask.uri, rest.0), (positions-agree world part ask 10 ask.uri, rest.1), (positions-live world part ask 10 ask.uri, rest.2))
