-- Whatever is answered to a walk, once it has ended, is a route of it.
use Rattle.std.proofs.Common.{◌≡◌, ◌∙◌, ℕ, zero, suc, List, [], ◌∷◌, ◌++◌, append_assoc, map, refl, sym, ap, subst}
use Rattle.std.specs.List.{flat_map, AllByRecursion as Each}
use Rattle.acq_base.specs.Mirror.{MirrorMap, answer_at}
use Rattle.acq_base.specs.declared.fetch.Answer.{Answer}
use Rattle.acq_base.specs.declared.fetch.Answer.TheVariants as answers
use Rattle.acq_base.specs.declared.uri.Uri.{Uri}
use Rattle.update_model.specs.declared.ask.Ask.{Ask}
use Rattle.update_model.specs.declared.ask.Closed.{Closed}
use Rattle.update_model.specs.declared.ask.Closed.TheVariants.{Served, Not}
use Rattle.acq_base.specs.declared.fetch.NotServed.TheVariants.{Moved, Absent, TooBig, Garbled, Fault}
use Rattle.update_model.specs.declared.ask.Ending.{Ending}
use Rattle.update_model.specs.declared.ask.Ending.TheVariants as endings
use Rattle.update_model.specs.declared.end.End.{End}
use Rattle.update_model.specs.declared.log.Asked.{Asked}
use Rattle.update_model.specs.Points.{At, Over, Point, entry, lead, ran, run, start, point_after}
use Rattle.update_model.specs.Reach.{On, Stop, Way, way}
use Rattle.update_model.specs.Trails.{Along, IsPosition, IsTrail, Leads, Position, LaneAnswer, Trail, Agrees, Lives, HasAnswer, IsFaultOr, answered, entries, heard_of, less}
use Rattle.update_model.specs.Walks.{Finish, IsRoute, Try, Walk}
use Rattle.item_graph.specs.Histories.{AgreesAlong, LivesAt, LivesAlong}
use Rattle.item_graph.specs.Laws.{IsHeardRoute}

abbrev entries_of : ℕ → List ℕ → ℕ → Uri → List LaneAnswer → List Asked
entries_of source path from uri = map (λ t. record { source = source; path = path; uri = uri; from = from; lane = t.lane; heard = heard_of t.closed })

abbrev positions_entries : ℕ → List ℕ → ℕ → List Position → List Asked
positions_entries source path from = flat_map (λ p. entries_of source path from p.uri p.told)

abbrev Goes : ℕ → ℕ → List Position → Ending → Way → Type 0
Goes retries left ps e w = Along w (λ to. IsTrail retries (less left) to ps e) (λ x. (ps ≡ []) × (e ≡ x))

-- the answers at one place are a mirror's
abbrev AgreesHere : MirrorMap → List ℕ → Ask → Uri → List LaneAnswer → Type 0
AgreesHere world part ask uri = Each (λ t. IsFaultOr t.closed (answered part ask (answer_at world uri)))

abbrev AgreesThere : MirrorMap → List ℕ → Ask → List Position → Type 0
AgreesThere world part ask = Each (λ p. AgreesHere world part ask p.uri p.told)

abbrev LivesThere : List Position → Type 0
LivesThere = Each (λ p. HasAnswer p.told)

-- What is told from an ask on: the answers at its place, the places behind it, how the trail ends and the trails behind it,
-- with these entries, and whether they agree with a mirror and are alive.
record Tells (retries : ℕ) (ask : Ask) (left faults : ℕ) (next : Ending → Walk) (end : End) (log : ℕ → List ℕ → List Asked) (A : MirrorMap → List ℕ → Type 0) (L : Type 0) : Type 0 where
  here : List LaneAnswer
  there : List Position
  ending : Ending
  behind : List Trail
  position : IsPosition faults left ask.uri here (Goes retries left there ending)
  route : IsRoute retries (next ending) behind end
  told : (source : ℕ) (path : List ℕ) → log source path
      ≡ entries_of source path ask.from ask.uri here ++ (positions_entries source path ask.from there ++ entries source path behind)
  agrees : (world : MirrorMap) (part : List ℕ) → A world part → AgreesHere world part ask ask.uri here × AgreesThere world part ask there × Agrees world part behind
  lives : L → HasAnswer here × LivesThere there × Lives behind

-- what is told from a point on by these answers: nothing, or what is told from its ask on
TellsAt : ℕ → Point → List LaneAnswer → End → Type 0
TellsAt retries (Over last) ts end = last ≡ end
TellsAt retries (At ask left faults next) ts end =
    Tells retries ask left faults next end (λ source path. ran retries source path (At ask left faults next) ts) (λ world part. AgreesAlong world part retries (At ask left faults next) ts) (LivesAlong retries (At ask left faults next) ts)

-- ---- at the start of a walk that is a route

-- where nothing is asked, no entry is told
over-ran : (retries source : ℕ) (path : List ℕ) (end : End) (ts : List LaneAnswer) → ran retries source path (Over end) ts ≡ []
over-ran retries source path end [] = refl
over-ran retries source path end (t ∷ ts) = over-ran retries source path end ts

whole-of : (retries : ℕ) (walk : Walk) (ts : List LaneAnswer) (end : End) → TellsAt retries (start retries walk) ts end → IsHeardRoute retries walk ts end
unfolding TellsAt
whole-of retries (Finish last) ts end e = record {
  trails = [];
  route = (refl, sym e);
  entries_are = λ source path. sym (over-ran retries source path last ts);
  agrees = λ world part h. tt;
  lives = λ h. tt;
}
whole-of retries (Try ask next) ts end t = record {
  trails = record { ask = ask; positions = record { uri = ask.uri; told = t.here } ∷ t.there; ending = t.ending } ∷ t.behind;
  route = (refl, (refl, t.position), t.route);
  entries_are = λ source path. append_assoc (entries_of source path ask.from ask.uri t.here) (positions_entries source path ask.from t.there) (entries source path t.behind) ∙ sym (t.told source path);
  agrees = λ world part h. let a = t.agrees world part h in ((a.0, a.1), a.2);
  lives = λ h. let l = t.lives h in ((l.0, l.1), l.2);
}

-- ---- an ask at another place is the same but for its URI

same-answer : (part : List ℕ) (ask : Ask) (to : Uri) (a : Answer) → answered part (record ask { uri = to }) a ≡ answered part ask a
same-answer part ask to (answers.Served bytes) = refl
same-answer part ask to (answers.Moved place) = refl
same-answer part ask to (answers.Absent status) = refl

same-here : (world : MirrorMap) (part : List ℕ) (ask : Ask) (to uri : Uri) (ts : List LaneAnswer) → AgreesHere world part (record ask { uri = to }) uri ts → AgreesHere world part ask uri ts
same-here world part ask to uri [] h = tt
same-here world part ask to uri (t ∷ ts) h = (subst (IsFaultOr t.closed) (same-answer part ask to (answer_at world uri)) h.0, same-here world part ask to uri ts h.1)

same-there : (world : MirrorMap) (part : List ℕ) (ask : Ask) (to : Uri) (ps : List Position) → AgreesThere world part (record ask { uri = to }) ps → AgreesThere world part ask ps
same-there world part ask to [] h = tt
same-there world part ask to (p ∷ ps) h = (same-here world part ask to p.uri p.told h.0, same-there world part ask to ps h.1)

-- ---- one answer in front

-- an answer that leads this way
answer : (retries : ℕ) (ask : Ask) (left faults : ℕ) (next : Ending → Walk) (t : LaneAnswer) (ts : List LaneAnswer) (end : End) (w : Way) (Q : Type 0)
    → ((ps : List Position) (e : Ending) → Goes retries left ps e w → IsPosition faults left ask.uri (t ∷ []) (Goes retries left ps e))
    → (Q → HasAnswer (t ∷ []))
    → TellsAt retries (lead retries ask left next w) ts end
    → Tells retries ask left faults next end
    (λ source path. entry source path ask t ∷ ran retries source path (lead retries ask left next w) ts)
    (λ world part. IsFaultOr t.closed (answered part ask (answer_at world ask.uri)) × AgreesAlong world part retries (lead retries ask left next w) ts)
    (Q × LivesAlong retries (lead retries ask left next w) ts)
unfolding TellsAt
answer retries ask left faults next t ts end (On to) Q makes alive r = record {
  here = t ∷ [];
  there = record { uri = to; told = r.here } ∷ r.there;
  ending = r.ending;
  behind = r.behind;
  position = makes (record { uri = to; told = r.here } ∷ r.there) r.ending (refl, r.position);
  route = r.route;
  told = λ source path. ap (λ es. entry source path ask t ∷ es)
      (r.told source path ∙ sym (append_assoc (entries_of source path ask.from to r.here) (positions_entries source path ask.from r.there) (entries source path r.behind)));
  agrees = λ world part h. let a = r.agrees world part h.1 in
      ((h.0, tt), (same-here world part ask to to r.here a.0, same-there world part ask to r.there a.1), a.2);
  lives = λ h. let l = r.lives h.1 in (alive h.0, (l.0, l.1), l.2);
}
answer retries ask left faults next t ts end (Stop ending) Q makes alive r =
    let w = whole-of retries (next ending) ts end r in
    record {
      here = t ∷ [];
      there = [];
      ending = ending;
      behind = w.trails;
      position = makes [] ending (refl, refl);
      route = w.route;
      told = λ source path. ap (λ es. entry source path ask t ∷ es) (sym (w.entries_are source path));
      agrees = λ world part h. ((h.0, tt), tt, w.agrees world part h.1);
      lives = λ h. (alive h.0, tt, w.lives h.1);
    }

in-front-at : (retries : ℕ) (ask : Ask) (left : ℕ) (next : Ending → Walk) (lane : ℕ) (closed : Closed) (faults : ℕ) (ts : List LaneAnswer) (end : End)
    → TellsAt retries (Leads left ask.uri lane closed faults (λ n. At ask left n next) (λ w. lead retries ask left next w)) ts end
    → TellsAt retries (At ask left faults next) (record { lane = lane; closed = closed } ∷ ts) end
unfolding TellsAt
in-front-at retries ask left next lane (Not (Fault from to)) zero ts end r =
    answer retries ask left zero next (record { lane = lane; closed = Not (Fault from to) }) ts end (Stop (endings.Dead lane from to)) ⊥ (λ ps e g. (refl, g)) (λ h. absurd h) r
in-front-at retries ask left next lane (Not (Fault from to)) (suc n) ts end r = record {
  here = record { lane = lane; closed = Not (Fault from to) } ∷ r.here;
  there = r.there;
  ending = r.ending;
  behind = r.behind;
  position = r.position;
  route = r.route;
  told = λ source path. ap (λ es. entry source path ask (record { lane = lane; closed = Not (Fault from to) }) ∷ es) (r.told source path);
  agrees = λ world part h. let a = r.agrees world part h.1 in ((h.0, a.0), a.1, a.2);
  lives = λ h. r.lives h.1;
}
in-front-at retries ask left next lane (Served body) faults ts end r =
    let t : LaneAnswer = record { lane = lane; closed = Served body } in
    answer retries ask left faults next t ts end (way left ask.uri (Served body)) (LivesAt (At ask left faults next) t) (λ ps e g. (refl, g)) (λ h. tt) r
in-front-at retries ask left next lane (Not (Moved place)) faults ts end r =
    let t : LaneAnswer = record { lane = lane; closed = Not (Moved place) } in
    answer retries ask left faults next t ts end (way left ask.uri (Not (Moved place))) (LivesAt (At ask left faults next) t) (λ ps e g. (refl, g)) (λ h. tt) r
in-front-at retries ask left next lane (Not (Absent status)) faults ts end r =
    let t : LaneAnswer = record { lane = lane; closed = Not (Absent status) } in
    answer retries ask left faults next t ts end (way left ask.uri (Not (Absent status))) (LivesAt (At ask left faults next) t) (λ ps e g. (refl, g)) (λ h. tt) r
in-front-at retries ask left next lane (Not TooBig) faults ts end r =
    let t : LaneAnswer = record { lane = lane; closed = Not TooBig } in
    answer retries ask left faults next t ts end (way left ask.uri (Not TooBig)) (LivesAt (At ask left faults next) t) (λ ps e g. (refl, g)) (λ h. tt) r
in-front-at retries ask left next lane (Not (Garbled at)) faults ts end r =
    let t : LaneAnswer = record { lane = lane; closed = Not (Garbled at) } in
    answer retries ask left faults next t ts end (way left ask.uri (Not (Garbled at))) (LivesAt (At ask left faults next) t) (λ ps e g. (refl, g)) (λ h. tt) r

-- ---- all answers

over-run : (retries : ℕ) (last end : End) (ts : List LaneAnswer) → run retries (Over last) ts ≡ Over end → last ≡ end
over-run retries last end [] e = cc
over-run retries last end (t ∷ ts) e = over-run retries last end ts e

is-asking : Point → Type 0
is-asking (Over last) = ⊥
is-asking (At ask left faults next) = Unit {0}

not-over : (ask : Ask) (left faults : ℕ) (next : Ending → Walk) (end : End) → At ask left faults next ≡ Over end → ⊥
unfolding is-asking
not-over ask left faults next end e = subst is-asking e tt

all-told : (retries : ℕ) (p : Point) (ts : List LaneAnswer) (end : End) → run retries p ts ≡ Over end → TellsAt retries p ts end
unfolding TellsAt
all-told retries (Over last) ts end e = over-run retries last end ts e
all-told retries (At ask left faults next) [] end e = absurd (not-over ask left faults next end e)
all-told retries (At ask left faults next) (t ∷ ts) end e =
    in-front-at retries ask left next t.lane t.closed faults ts end (all-told retries (point_after retries (At ask left faults next) t) ts end e)

pub told-routes : (retries : ℕ) (walk : Walk) (ts : List LaneAnswer) (end : End) → run retries (start retries walk) ts ≡ Over end → IsHeardRoute retries walk ts end
told-routes retries walk ts end e = whole-of retries walk ts end (all-told retries (start retries walk) ts end e)
