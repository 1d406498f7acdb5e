-- Whatever is answered, the entries are the first of a route.
use Rattle.std.proofs.Common.{◌≡◌, ℕ, zero, suc, List, [], ◌∷◌, ◌++◌, append_assoc, map, refl, sym, ap, ◌∙◌, subst}
use Rattle.std.specs.List.{flat_map}
use Rattle.acq_base.specs.declared.uri.Uri.{Uri}
use Rattle.update_model.specs.declared.ask.Ask.{Ask}
use Rattle.update_model.specs.declared.ask.Closed.{Closed}
use Rattle.update_model.specs.declared.ask.Closed.TheVariants.{Served, Not}
use Rattle.acq_base.specs.declared.fetch.NotServed.TheVariants.{Moved, Absent, TooBig, Garbled, Fault}
use Rattle.update_model.specs.declared.ask.Ending.{Ending}
use Rattle.update_model.specs.declared.ask.Ending.TheVariants as endings
use Rattle.update_model.specs.declared.end.End.{End}
use Rattle.update_model.specs.declared.log.Asked.{Asked}
use Rattle.update_model.proofs.Mirrors.{mirrors-give}
use Rattle.update_model.specs.Laws.{RunsStandInRoutes}
use Rattle.update_model.specs.Mirrored.{over, trails_over}
use Rattle.update_model.specs.Points.{AsksFirst, At, Over, Point, entry, entry_at, lead, ran, run, start, point_after}
use Rattle.update_model.specs.Reach.{On, Stop, Way, way}
use Rattle.update_model.specs.Trails.{Along, IsPosition, IsTrail, Leads, Position, LaneAnswer, Trail, entries, heard_of, less}
use Rattle.update_model.specs.Walks.{Finish, IsRoute, Try, Walk}

abbrev entries_of : ℕ → List ℕ → ℕ → Uri → List LaneAnswer → List Asked
entries_of source path from uri = map (λ t. record { source = source; path = path; uri = uri; from = from; lane = t.lane; heard = heard_of t.closed })

abbrev positions_entries : ℕ → List ℕ → ℕ → List Position → List Asked
positions_entries source path from = flat_map (λ p. entries_of source path from p.uri p.told)

abbrev Goes : ℕ → ℕ → List Position → Ending → Way → Type 0
Goes retries left ps e w = Along w (λ to. IsTrail retries (less left) to ps e) (λ x. (ps ≡ []) × (e ≡ x))

-- what may still come at a point, with its entries
abbrev Completes : ℕ → ℕ → List ℕ → Point → List Asked → End → Type 0
Completes retries source path (Over last) rest end = (rest ≡ []) × (end ≡ last)
Completes retries source path (At ask left faults next) rest end =
    (ts : List LaneAnswer) × (ps : List Position) × (e : Ending) × (h : List Trail)
    × IsPosition faults left ask.uri ts (Goes retries left ps e)
    × IsRoute retries (next e) h end
    × (rest ≡ entries_of source path ask.from ask.uri ts ++ (positions_entries source path ask.from ps ++ entries source path h))

-- at the start that is a route
to-route : (retries source : ℕ) (path : List ℕ) (w : Walk) (rest : List Asked) (end : End) → Completes retries source path (start retries w) rest end
    → (h : List Trail) × IsRoute retries w h end × (rest ≡ entries source path h)
to-route retries source path (Finish last) rest end c = ([], (refl, c.1), c.0)
to-route retries source path (Try ask next) rest end c = (
  record { ask = ask; positions = record { uri = ask.uri; told = c.0 } ∷ c.1; ending = c.2 } ∷ c.3,
  (refl, (refl, c.4), c.5),
  c.6 ∙ sym (append_assoc (entries_of source path ask.from ask.uri c.0) (positions_entries source path ask.from c.1) (entries source path c.3)),
)

-- an answer that leads on, in front
answer : (retries source : ℕ) (path : List ℕ) (ask : Ask) (left faults : ℕ) (next : Ending → Walk) (t : LaneAnswer) (rest : List Asked) (end : End) (w : Way)
    → ((ps : List Position) (e : Ending) → Goes retries left ps e w → IsPosition faults left ask.uri (t ∷ []) (Goes retries left ps e))
    → Completes retries source path (lead retries ask left next w) rest end
    → Completes retries source path (At ask left faults next) (entry source path ask t ∷ rest) end
answer retries source path ask left faults next t rest end (On to) makes c = (
  t ∷ [],
  record { uri = to; told = c.0 } ∷ c.1,
  c.2,
  c.3,
  makes (record { uri = to; told = c.0 } ∷ c.1) c.2 (refl, c.4),
  c.5,
  ap (λ r. entry source path ask t ∷ r) (c.6 ∙ sym (append_assoc (entries_of source path ask.from to c.0) (positions_entries source path ask.from c.1) (entries source path c.3))),
)
answer retries source path ask left faults next t rest end (Stop ending) makes c =
    let r = to-route retries source path (next ending) rest end c in
    (t ∷ [], [], ending, r.0, makes [] ending (refl, refl), r.1, ap (λ r. entry source path ask t ∷ r) r.2)

-- one answer in front
in-front-at : (retries source : ℕ) (path : List ℕ) (ask : Ask) (left : ℕ) (next : Ending → Walk) (lane : ℕ) (closed : Closed) (faults : ℕ) (rest : List Asked) (end : End)
    → Completes retries source path (Leads left ask.uri lane closed faults (λ n. At ask left n next) (λ w. lead retries ask left next w)) rest end
    → Completes retries source path (At ask left faults next) (entry source path ask (record { lane = lane; closed = closed }) ∷ rest) end
in-front-at retries source path ask left next lane (Not (Fault from to)) zero rest end c =
    answer retries source path ask left zero next (record { lane = lane; closed = Not (Fault from to) }) rest end (Stop (endings.Dead lane from to)) (λ ps e g. (refl, g)) c
in-front-at retries source path ask left next lane (Not (Fault from to)) (suc n) rest end c =
    (record { lane = lane; closed = Not (Fault from to) } ∷ c.0, c.1, c.2, c.3, c.4, c.5, ap (λ r. entry source path ask (record { lane = lane; closed = Not (Fault from to) }) ∷ r) c.6)
in-front-at retries source path ask left next lane (Served body) faults rest end c =
    answer retries source path ask left faults next (record { lane = lane; closed = Served body }) rest end (way left ask.uri (Served body)) (λ ps e g. (refl, g)) c
in-front-at retries source path ask left next lane (Not (Moved place)) faults rest end c =
    answer retries source path ask left faults next (record { lane = lane; closed = Not (Moved place) }) rest end (way left ask.uri (Not (Moved place))) (λ ps e g. (refl, g)) c
in-front-at retries source path ask left next lane (Not (Absent status)) faults rest end c =
    answer retries source path ask left faults next (record { lane = lane; closed = Not (Absent status) }) rest end (way left ask.uri (Not (Absent status))) (λ ps e g. (refl, g)) c
in-front-at retries source path ask left next lane (Not TooBig) faults rest end c =
    answer retries source path ask left faults next (record { lane = lane; closed = Not TooBig }) rest end (way left ask.uri (Not TooBig)) (λ ps e g. (refl, g)) c
in-front-at retries source path ask left next lane (Not (Garbled at)) faults rest end c =
    answer retries source path ask left faults next (record { lane = lane; closed = Not (Garbled at) }) rest end (way left ask.uri (Not (Garbled at))) (λ ps e g. (refl, g)) c

in-front : (retries source : ℕ) (path : List ℕ) (p : Point) (t : LaneAnswer) (rest : List Asked) (end : End)
    → Completes retries source path (point_after retries p t) rest end → Completes retries source path p (entry_at source path p t ++ rest) end
in-front retries source path (Over last) t rest end c = c
in-front retries source path (At ask left faults next) t rest end c = in-front-at retries source path ask left next t.lane t.closed faults rest end c

all-in-front : (retries source : ℕ) (path : List ℕ) (p : Point) (ts : List LaneAnswer) (rest : List Asked) (end : End)
    → Completes retries source path (run retries p ts) rest end → Completes retries source path p (ran retries source path p ts ++ rest) end
all-in-front retries source path p [] rest end c = c
all-in-front retries source path p (t ∷ ts) rest end c =
    subst (λ r. Completes retries source path p r end) (sym (append_assoc (entry_at source path p t) (ran retries source path (point_after retries p t) ts) rest))
    (in-front retries source path p t (ran retries source path (point_after retries p t) ts ++ rest) end (all-in-front retries source path (point_after retries p t) ts rest end c))

-- ---- each point can be completed: nothing is there

completed : (retries source : ℕ) (path : List ℕ) (p : Point) → (rest : List Asked) × (end : End) × Completes retries source path p rest end × AsksFirst p rest end
completed retries source path (Over last) = ([], last, (refl, refl), (refl, refl))
completed retries source path (At ask left faults next) =
    let t : LaneAnswer = record { lane = 0; closed = Not (Absent 404) } in
    let w : Walk = next (endings.Absent 404) in
    let h : List Trail = trails_over [] [] w in (
      entry source path ask t ∷ entries source path h,
      over [] [] w,
      (t ∷ [], [], endings.Absent 404, h, (refl, (refl, refl)), (mirrors-give [] [] w retries).0, refl),
      (refl, refl),
    )

pub runs-stand : RunsStandInRoutes
runs-stand walk retries source path ts =
    let c = completed retries source path (run retries (start retries walk) ts) in
    let r = to-route retries source path walk (ran retries source path (start retries walk) ts ++ c.0) c.1 (all-in-front retries source path (start retries walk) ts c.0 c.1 c.2) in
    (r.0, c.1, c.0, r.1, sym r.2, c.3)
