-- The last answer shows what an item comes to.
use Rattle.std.proofs.Common.{◌≡◌, ◌∙◌, ◌⊎◌, inl, inr, ℕ, zero, suc, Bool, true, false, List, [], ◌∷◌, Option, Some, None, refl, sym, ap, subst}
use Rattle.std.specs.Prelude.{if◌then◌else◌, option_and_then}
use Rattle.std.specs.List.{AllByRecursion as Each}
use Rattle.acq_base.specs.declared.installed.Old.{Old}
use Rattle.acq_base.specs.declared.plan.Source.{Source}
use Rattle.acq_base.specs.declared.uri.Uri.{Uri}
use Rattle.pdiff_index.specs.declared.index.Step.{Step}
use Rattle.update_model.specs.Files.{fitting, served}
use Rattle.update_model.specs.Obtained.{first_uri, is_resumed, list_cause}
use Rattle.update_model.specs.Points.{Point, Over, At, lead, run, start, point_after}
use Rattle.update_model.specs.Reach.{On, Stop, may_move, moved}
use Rattle.update_model.specs.Releases.{release_end, release_limit}
use Rattle.update_model.specs.Trails.{Leads, LaneAnswer, less}
use Rattle.update_model.specs.Walks.{Walk, Finish, Try, after_in_release, candidates_walk, fitting_body, got_else, index_walk, list_ask, on_some, patches_walk, patched_walk, plain_walk, release_walk, resume_walk, target_walk, whole_ask}
use Rattle.update_model.specs.Wanted.{chain, edited_by}
use Rattle.update_model.specs.declared.ask.Ask.{Ask}
use Rattle.update_model.specs.declared.ask.Body.{Body}
use Rattle.update_model.specs.declared.ask.Body.TheVariants.{Bytes}
use Rattle.update_model.specs.declared.ask.Closed.{Closed}
use Rattle.acq_base.specs.declared.fetch.NotServed.TheVariants as nots
use Rattle.update_model.specs.declared.ask.Closed.TheVariants as closings
use Rattle.update_model.specs.declared.ask.Ending.{Ending}
use Rattle.update_model.specs.declared.ask.Ending.TheVariants.{Served, TooBig, Absent, Lost, Garbled, Dead}
use Rattle.update_model.specs.declared.cause.Cause.{Cause}
use Rattle.update_model.specs.declared.end.End.{End}
use Rattle.update_model.specs.declared.end.End.TheVariants.{Got, Stands, Ended}
use Rattle.update_model.specs.declared.wanted.Wanted.{Wanted}
use Rattle.board_model.specs.CauseLaws.{IsLast, IsShown, LastAnswersShowCauses, LastAnswersShowOutcomes, LastAnswersShowReleases, closing, ending_of}
use Rattle.board_model.specs.Ends.{ListEnd, ListEndsInRoute, walk_for}
use Rattle.board_model.specs.Keys.{named}
use Rattle.board_model.specs.Runs.{Note}
use Rattle.board_model.specs.Slots.{Setup}
use Rattle.board_model.specs.Stands.{AreAsked, History, lane_answers}

-- ---- walks that show their ends

abbrev Shows : Type 1
Shows = Ending → End → Type 0

-- where a walk ends behind a trail, that stands so to the trail's ending
abbrev LastIs : Shows → Ending → Walk → Type 0
LastIs R e (Finish end) = R e end
LastIs R e (Try ask next) = Unit {0}

abbrev ShowsAll : Shows → Walk → Type 0
ShowsAll R (Finish end) = Unit {0}
ShowsAll R (Try ask next) = (e : Ending) → LastIs R e (next e) × ShowsAll R (next e)

abbrev ShowsAt : Shows → Point → Type 0
ShowsAt R (Over end) = Unit {0}
ShowsAt R (At ask left retries next) = (e : Ending) → LastIs R e (next e) × ShowsAll R (next e)

record Shown (R : Shows) (t : LaneAnswer) (p : Point) : Type 0 where
  now : ShowsAt R p
  over : (end : End) → p ≡ Over end → R (ending_of t) end

start-shows : (R : Shows) (retries : ℕ) (t : LaneAnswer) (walk : Walk) → LastIs R (ending_of t) walk → ShowsAll R walk → Shown R t (start retries walk)
start-shows R retries t (Finish last) is all = record { now = tt; over = λ end e. let same : last ≡ end = cc in subst (R (ending_of t)) same is }
start-shows R retries t (Try ask next) is all = record { now = all; over = λ end e. absurd (cc) }

at-shows : (R : Shows) (t : LaneAnswer) (ask : Ask) (left retries : ℕ) (next : Ending → Walk) → ShowsAt R (At ask left retries next) → Shown R t (At ask left retries next)
at-shows R t ask left retries next h = record { now = h; over = λ end e. absurd (cc) }

step-shows : (R : Shows) (retries : ℕ) (ask : Ask) (left faults : ℕ) (next : Ending → Walk) (t : LaneAnswer) → ShowsAt R (At ask left faults next) → Shown R t (point_after retries (At ask left faults next) t)
step-shows R retries ask left faults next t h = one t.closed faults
  where
    ends : (closed : Closed) (e : Ending) → closing t.lane closed ≡ e → Shown R (record { lane = t.lane; closed = closed }) (start retries (next e))
    ends closed e is = start-shows R retries (record { lane = t.lane; closed = closed }) (next e) (subst (λ (x : Ending). LastIs R x (next e)) (sym is) (h e).0) (h e).1

    follows : (l : ℕ) (to : Uri) (go : Bool) → Shown R (record { lane = t.lane; closed = closings.Not (nots.Moved (Some to)) }) (lead retries ask left next (if go then On to else Stop Lost))
    follows l to true = at-shows R (record { lane = t.lane; closed = closings.Not (nots.Moved (Some to)) }) (record ask { uri = to }) (less left) retries next h
    follows l to false = ends (closings.Not (nots.Moved (Some to))) Lost refl

    goes : (l : ℕ) (to : Uri) → Shown R (record { lane = t.lane; closed = closings.Not (nots.Moved (Some to)) }) (lead retries ask left next (moved l ask.uri to))
    goes zero to = ends (closings.Not (nots.Moved (Some to))) Lost refl
    goes (suc l) to = follows l to (may_move ask.uri.scheme to.scheme)

    one : (closed : Closed) (faults : ℕ) → Shown R (record { lane = t.lane; closed = closed }) (Leads left ask.uri t.lane closed faults (λ n. At ask left n next) (λ w. lead retries ask left next w))
    one (closings.Not (nots.Fault from to)) zero = ends (closings.Not (nots.Fault from to)) (Dead t.lane from to) refl
    one (closings.Not (nots.Fault from to)) (suc n) = at-shows R (record { lane = t.lane; closed = closings.Not (nots.Fault from to) }) ask left n next h
    one (closings.Served body) faults = ends (closings.Served body) (Served body) refl
    one (closings.Not (nots.Moved None)) faults = ends (closings.Not (nots.Moved None)) Lost refl
    one (closings.Not (nots.Moved (Some to))) faults = goes left to
    one (closings.Not (nots.Absent status)) faults = ends (closings.Not (nots.Absent status)) (Absent status) refl
    one (closings.Not nots.TooBig) faults = ends (closings.Not nots.TooBig) TooBig refl
    one (closings.Not (nots.Garbled at)) faults = ends (closings.Not (nots.Garbled at)) (Garbled at) refl

-- what was heard last, if anything was
run-shows : (R : Shows) (retries : ℕ) (p : Point) (notes : List Note) (end : End) → ShowsAt R p → AreAsked retries p notes → run retries p (lane_answers notes) ≡ Over end
    → (p ≡ Over end) ⊎ ((note : Note) × IsLast note notes × R (ending_of note.told) end)
run-shows R retries p [] end h asks over = inl over
run-shows R retries (Over last) (note ∷ notes) end h asks over = let none = asks.0 in absurd (cc)
run-shows R retries (At ask left faults next) (note ∷ notes) end h asks over =
    let shown = step-shows R retries ask left faults next note.told h in
    one notes shown.over asks.1 (run-shows R retries (point_after retries (At ask left faults next) note.told) notes end shown.now asks.1 over)
  where
    here : (rest : List Note) (q : Point) → AreAsked retries q rest → q ≡ Over end → rest ≡ []
    here [] q asks over = refl
    here (x ∷ rest) (Over last) asks over = let none = asks.0 in absurd (cc)
    here (x ∷ rest) (At a l f n) asks over = absurd (cc)

    one : (rest : List Note) → ((e : End) → point_after retries (At ask left faults next) note.told ≡ Over e → R (ending_of note.told) e) → AreAsked retries (point_after retries (At ask left faults next) note.told) rest
        → (point_after retries (At ask left faults next) note.told ≡ Over end) ⊎ ((n : Note) × IsLast n rest × R (ending_of n.told) end)
        → (At ask left faults next ≡ Over end) ⊎ ((n : Note) × IsLast n (note ∷ rest) × R (ending_of n.told) end)
    one rest last asks (inl ended) = inr (note, ([], ap (λ ns. note ∷ ns) (here rest (point_after retries (At ask left faults next) note.told) asks ended)), last end ended)
    one rest last asks (inr (n, (front, is), shows)) = inr (n, (note ∷ front, ap (λ ns. note ∷ ns) is), shows)

-- ---- a list

abbrev Causes : Wanted → Shows
Causes w e (Ended cause) = cause ≡ list_cause w e
Causes w e (Got body) = Unit {0}
Causes w e Stands = Unit {0}

-- a walk that doesn't begin with a cause
abbrev NoCause : Walk → Type 0
NoCause (Finish (Ended cause)) = ⊥
NoCause (Finish (Got body)) = Unit {0}
NoCause (Finish Stands) = Unit {0}
NoCause (Try ask next) = Unit {0}

some-shows : {A : Type 0} (w : Wanted) (o : Option A) (goes : A → Walk) (other : Walk) → ((x : A) → NoCause (goes x) × ShowsAll (Causes w) (goes x)) → NoCause other × ShowsAll (Causes w) other
    → NoCause (on_some o goes other) × ShowsAll (Causes w) (on_some o goes other)
some-shows w None goes other h k = k
some-shows w (Some x) goes other h k = h x

last-of : (w : Wanted) (e : Ending) (walk : Walk) → NoCause walk → LastIs (Causes w) e walk
last-of w e (Finish (Ended cause)) none = absurd none
last-of w e (Finish (Got body)) none = tt
last-of w e (Finish Stands) none = tt
last-of w e (Try ask next) none = tt

got-shows : (w : Wanted) (e : Ending) (other : Walk) → LastIs (Causes w) e other → ShowsAll (Causes w) other → LastIs (Causes w) e (got_else w e other) × ShowsAll (Causes w) (got_else w e other)
got-shows w e other last all = one (fitting_body w.sum e)
  where
    one : (o : Option Body) → LastIs (Causes w) e (on_some o (λ body. Finish (Got body)) other) × ShowsAll (Causes w) (on_some o (λ body. Finish (Got body)) other)
    one None = (last, all)
    one (Some body) = (tt, tt)

plain-shows : (w : Wanted) → ShowsAll (Causes w) (plain_walk w)
plain-shows w = λ e. got-shows w e (Finish (Ended (list_cause w e))) refl tt

candidates-show : (w : Wanted) (o : Option Uri) → NoCause (candidates_walk w o) × ShowsAll (Causes w) (candidates_walk w o)
candidates-show w None = (tt, plain-shows w)
candidates-show w (Some uri) = (tt, λ e. got-shows w e (plain_walk w) tt (plain-shows w))

resume-shows : (w : Wanted) (part : ℕ) → NoCause (resume_walk w part) × ShowsAll (Causes w) (resume_walk w part)
resume-shows w part = one (is_resumed part w)
  where
    one : (c : Bool) → NoCause (if c then Try (list_ask (first_uri w w.hashed) w part) (λ e. got_else w e (candidates_walk w w.hashed)) else candidates_walk w w.hashed)
        × ShowsAll (Causes w) (if c then Try (list_ask (first_uri w w.hashed) w part) (λ e. got_else w e (candidates_walk w w.hashed)) else candidates_walk w w.hashed)
    one true = (tt, λ e. got-shows w e (candidates_walk w w.hashed) (last-of w e (candidates_walk w w.hashed) (candidates-show w w.hashed).0) (candidates-show w w.hashed).1)
    one false = candidates-show w w.hashed

both-last : (w : Wanted) (e : Ending) (walk : Walk) → NoCause walk × ShowsAll (Causes w) walk → LastIs (Causes w) e walk × ShowsAll (Causes w) walk
both-last w e walk h = (last-of w e walk h.0, h.1)

patches-show : (w : Wanted) (part : ℕ) (steps : List Step) (file : List ℕ) → NoCause (patches_walk w (resume_walk w part) steps file) × ShowsAll (Causes w) (patches_walk w (resume_walk w part) steps file)
patches-show w part [] file = some-shows w (fitting w.sum (Some file)) (λ bytes. Finish (Got (Bytes bytes))) (resume_walk w part) (λ bytes. (tt, tt)) (resume-shows w part)
patches-show w part (s ∷ steps) file = (
  tt,
  λ e. both-last w e (on_some (option_and_then (edited_by file) (fitting s.sum (served e))) (λ next. patches_walk w (resume_walk w part) steps next) (resume_walk w part))
      (some-shows w (option_and_then (edited_by file) (fitting s.sum (served e))) (λ next. patches_walk w (resume_walk w part) steps next) (resume_walk w part)
      (λ next. patches-show w part steps next) (resume-shows w part)),
)

target-shows : (installed : Option (List ℕ)) (part : ℕ) (w : Wanted) → NoCause (target_walk installed part w) × ShowsAll (Causes w) (target_walk installed part w)
target-shows installed part w =
    some-shows w (fitting w.sum installed) (λ bytes. Finish Stands) (patched_walk installed w (resume_walk w part)) (λ bytes. (tt, tt))
    (some-shows w installed (λ file. on_some w.index (λ sum. index_walk w (resume_walk w part) file sum) (resume_walk w part)) (resume_walk w part)
    (λ file. some-shows w w.index (λ sum. index_walk w (resume_walk w part) file sum) (resume_walk w part)
    (λ sum. (
      tt,
      λ e. both-last w e (on_some (option_and_then (chain w file) (fitting sum (served e))) (λ steps. patches_walk w (resume_walk w part) steps file) (resume_walk w part))
          (some-shows w (option_and_then (chain w file) (fitting sum (served e))) (λ steps. patches_walk w (resume_walk w part) steps file) (resume_walk w part)
          (λ steps. patches-show w part steps file) (resume-shows w part)),
    ))
    (resume-shows w part))
    (resume-shows w part))

started : (R : Shows) (retries : ℕ) (walk : Walk) → ShowsAll R walk → ShowsAt R (start retries walk)
started R retries (Finish end) h = tt
started R retries (Try ask next) h = h

not-begun : (retries : ℕ) (walk : Walk) (cause : Cause) → NoCause walk → start retries walk ≡ Over (Ended cause) → ⊥
not-begun retries (Finish (Ended c)) cause none e = none
not-begun retries (Finish (Got body)) cause none e = cc
not-begun retries (Finish Stands) cause none e = cc
not-begun retries (Try ask next) cause none e = cc

pub causes-shown : LastAnswersShowCauses
causes-shown retries n path installed part w heard item cause h over =
    let walk = target_walk installed part w in
    let shows = target-shows installed part w in
    elim (run-shows (Causes w) retries (start retries walk) heard (Ended cause) (started (Causes w) retries walk shows.1) h.asks (sym h.stands ∙ over)) [
      | inl begun ↦ absurd (not-begun retries walk cause shows.0 begun)
      | inr last ↦ last
    ]

-- ---- a Release

abbrev Releases : Shows
Releases e end = end ≡ release_end e

again-shows : (source : Source) → ShowsAll Releases (Try (whole_ask source.release release_limit) (λ e. Finish (release_end e)))
again-shows source = λ e. (refl, tt)

release-shows : (source : Source) → ShowsAll Releases (release_walk source)
release-shows source = one
  where
    one : (e : Ending) → LastIs Releases e (after_in_release e (Try (whole_ask source.release release_limit) (λ e. Finish (release_end e))))
        × ShowsAll Releases (after_in_release e (Try (whole_ask source.release release_limit) (λ e. Finish (release_end e))))
    one (Served body) = (refl, tt)
    one TooBig = (tt, again-shows source)
    one (Absent status) = (tt, again-shows source)
    one Lost = (tt, again-shows source)
    one (Garbled at) = (tt, again-shows source)
    one (Dead lane from to) = (refl, tt)

pub releases-shown : LastAnswersShowReleases
releases-shown retries n path source heard item end h over =
    elim (run-shows Releases retries (start retries (release_walk source)) heard end (started Releases retries (release_walk source) (release-shows source)) h.asks (sym h.stands ∙ over)) [
      | inl begun ↦ absurd (cc)
      | inr last ↦ last
    ]

-- ---- a source

lists-shown : (config : Setup) (n : ℕ) (old : Old) (history : History) (lists : List ListEnd) → Each (ListEndsInRoute config n old history) lists → Each (IsShown history) lists
lists-shown config n old history [] routes = tt
lists-shown config n old history (l ∷ lists) routes = (
  (λ cause is.
      let route : ListEndsInRoute config n old history l = routes.0 in
      let retries = config.settings.retries in
      let walk = walk_for config old l.wanted in
      let shows = target-shows (named old.lists l.wanted.name.0) (config.sizes l.wanted.name.0) l.wanted in
      elim (run-shows (Causes l.wanted) retries (start retries walk) (history l.place) (Ended cause) (started (Causes l.wanted) retries walk shows.1) route.asks (route.ends ∙ ap Over is)) [
        | inl begun ↦ absurd (not-begun retries walk cause shows.0 begun)
        | inr last ↦ last
      ]),
  lists-shown config n old history lists routes.1,
)

pub outcomes-shown : LastAnswersShowOutcomes
outcomes-shown config n source old history verdict came = (
  elim (run-shows Releases config.settings.retries (start config.settings.retries (release_walk source)) (history 0) came.end
      (started Releases config.settings.retries (release_walk source) (release-shows source)) came.release.asks came.release.ends) [
        | inl begun ↦ absurd (cc)
        | inr last ↦ last
      ],
  lists-shown config n old history came.lists came.routes,
)
