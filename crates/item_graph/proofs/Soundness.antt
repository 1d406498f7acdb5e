-- Walks that ask at sound URIs, and answers that keep them.
use Rattle.std.proofs.Common.{ℕ, zero, suc, Bool, true, false, List, [], ◌∷◌, Option, Some, None, refl}
use Rattle.std.specs.Prelude.{if◌then◌else◌}
use Rattle.std.specs.List.{AllByRecursion as Each}
use Rattle.acq_base.specs.Uri.{IsSound}
use Rattle.acq_base.specs.declared.uri.Uri.{Uri}
use Rattle.update_model.specs.Laws.{AsksAreSound, MirrorsGiveRoutes}
use Rattle.update_model.specs.Mirrored.{over, trails_over}
use Rattle.update_model.specs.Points.{Point, Over, At, start, point_after, lead}
use Rattle.update_model.specs.Reach.{Way, On, Stop, moved, may_move}
use Rattle.update_model.specs.Trails.{LaneAnswer, Trail, Leads, IsTrail}
use Rattle.update_model.specs.Obtained.{list_cause}
use Rattle.update_model.specs.Walks.{Walk, Finish, Try, IsRoute, fitting_body, on_some, plain_walk, target_walk}
use Rattle.update_model.specs.declared.ask.Body.{Body}
use Rattle.update_model.specs.declared.wanted.Wanted.{Wanted}
use Rattle.update_model.specs.declared.ask.Ask.{Ask}
use Rattle.update_model.specs.declared.ask.Closed.{Closed}
use Rattle.update_model.specs.declared.ask.Closed.TheVariants.{Served, Not}
use Rattle.acq_base.specs.declared.fetch.NotServed.TheVariants.{Moved, Absent, TooBig, Garbled, Fault}
use Rattle.update_model.specs.declared.ask.Ending.{Ending}
use Rattle.update_model.specs.declared.ask.Ending.TheVariants as endings
use Rattle.update_model.specs.declared.end.End.{End}
use Rattle.update_model.specs.declared.end.End.TheVariants.{Got, Ended}
use Rattle.item_graph.specs.Sound.{AsksSoundly, IsSoundAt, IsSoundAnswer, ListsAskSoundly}

-- ---- one answer

pub start-sound : (retries : ℕ) (walk : Walk) → AsksSoundly walk → IsSoundAt (start retries walk)
start-sound retries (Finish end) h = tt
start-sound retries (Try ask next) h = h

-- on to a sound place, or to an end
abbrev IsSoundWay : Way → Type 0
IsSoundWay (On to) = IsSound to
IsSoundWay (Stop ending) = Unit {0}

lead-sound : (retries : ℕ) (ask : Ask) (left : ℕ) (next : Ending → Walk) (w : Way) → IsSoundWay w → ((e : Ending) → AsksSoundly (next e)) → IsSoundAt (lead retries ask left next w)
lead-sound retries ask left next (On to) sound h = (sound, h)
lead-sound retries ask left next (Stop ending) sound h = start-sound retries (next ending) (h ending)

moved-sound : (left : ℕ) (from to : Uri) → IsSound to → IsSoundWay (moved left from to)
moved-sound zero from to sound = tt
moved-sound (suc left) from to sound = one (may_move from.scheme to.scheme)
  where
    one : (b : Bool) → IsSoundWay (if b then On to else Stop endings.Lost)
    one true = sound
    one false = tt

led-sound : (retries : ℕ) (ask : Ask) (left : ℕ) (next : Ending → Walk) (lane : ℕ) (closed : Closed) (faults : ℕ) → IsSoundAnswer closed
    → IsSound ask.uri → ((e : Ending) → AsksSoundly (next e))
    → IsSoundAt (Leads left ask.uri lane closed faults (λ n. At ask left n next) (λ w. lead retries ask left next w))
led-sound retries ask left next lane (Not (Fault from to)) zero sound at h = start-sound retries (next (endings.Dead lane from to)) (h (endings.Dead lane from to))
led-sound retries ask left next lane (Not (Fault from to)) (suc n) sound at h = (at, h)
led-sound retries ask left next lane (Served body) faults sound at h = lead-sound retries ask left next (Stop (endings.Served body)) tt h
led-sound retries ask left next lane (Not (Moved None)) faults sound at h = lead-sound retries ask left next (Stop endings.Lost) tt h
led-sound retries ask left next lane (Not (Moved (Some to))) faults sound at h = lead-sound retries ask left next (moved left ask.uri to) (moved-sound left ask.uri to sound) h
led-sound retries ask left next lane (Not (Absent status)) faults sound at h = lead-sound retries ask left next (Stop (endings.Absent status)) tt h
led-sound retries ask left next lane (Not TooBig) faults sound at h = lead-sound retries ask left next (Stop endings.TooBig) tt h
led-sound retries ask left next lane (Not (Garbled at_byte)) faults sound at h = lead-sound retries ask left next (Stop (endings.Garbled at_byte)) tt h

pub step-sound : (retries : ℕ) (p : Point) (t : LaneAnswer) → IsSoundAt p → IsSoundAnswer t.closed → IsSoundAt (point_after retries p t)
step-sound retries (Over end) t h sound = tt
step-sound retries (At ask left faults next) t h sound = led-sound retries ask left next t.lane t.closed faults sound h.0 h.1

-- ---- a whole walk: each of its trails is one of a route

-- an answer without a fault before it, by which a trail ends so
answer_for : Ending → LaneAnswer
answer_for (endings.Served body) = record { lane = 0; closed = Served body }
answer_for endings.TooBig = record { lane = 0; closed = Not TooBig }
answer_for (endings.Absent status) = record { lane = 0; closed = Not (Absent status) }
answer_for endings.Lost = record { lane = 0; closed = Not (Moved None) }
answer_for (endings.Garbled at) = record { lane = 0; closed = Not (Garbled at) }
answer_for (endings.Dead lane before after) = record { lane = lane; closed = Not (Fault before after) }

trail_for : Ask → Ending → Trail
trail_for ask e = record { ask = ask; positions = record { uri = ask.uri; told = answer_for e ∷ [] } ∷ []; ending = e }

is-trail : (ask : Ask) (e : Ending) → IsTrail 0 10 ask.uri (trail_for ask e).positions e
unfolding trail_for answer_for
is-trail ask (endings.Served body) = (refl, (refl, (refl, refl)))
is-trail ask endings.TooBig = (refl, (refl, (refl, refl)))
is-trail ask (endings.Absent status) = (refl, (refl, (refl, refl)))
is-trail ask endings.Lost = (refl, (refl, (refl, refl)))
is-trail ask (endings.Garbled at) = (refl, (refl, (refl, refl)))
is-trail ask (endings.Dead lane before after) = (refl, (refl, (refl, refl)))

walk-sound : MirrorsGiveRoutes → (walk : Walk) → ((trails : List Trail) (end : End) → IsRoute 0 walk trails end → Each (λ t. IsSound t.ask.uri) trails) → AsksSoundly walk
unfolding trail_for
walk-sound given (Finish end) all = tt
walk-sound given (Try ask next) all = (
  (all (trails_over [] [] (Try ask next)) (over [] [] (Try ask next)) (given [] [] (Try ask next) 0).0).0,
  λ e. walk-sound given (next e) (λ trails end route. (all (trail_for ask e ∷ trails) end (refl, is-trail ask e, route)).1),
)

pub lists-sound : MirrorsGiveRoutes → AsksAreSound → ListsAskSoundly
lists-sound given sound installed part w at hashed short =
    walk-sound given (target_walk installed part w) (λ trails end route. sound installed part w 0 trails end at hashed short route)

-- a list's own URI is asked for alone
got-soundly : (o : Option Body) (end : End) → AsksSoundly (on_some o (λ body. Finish (Got body)) (Finish end))
got-soundly None end = tt
got-soundly (Some body) end = tt

pub plain-sound : (w : Wanted) → IsSound w.uri → AsksSoundly (plain_walk w)
plain-sound w at = (at, λ e. got-soundly (fitting_body w.sum e) (Ended (list_cause w e)))
