-- What a source comes to whose items have all ended.
use Rattle.std.proofs.Common.{◌≡◌, ◌∙◌, ℕ, suc, ◌+◌, ◌++◌, Bool, true, false, List, [], ◌∷◌, map, length, Option, Some, None, refl, sym, ap, subst, arith}
use Rattle.std.specs.Prelude.{◌&&◌, is_none, filter_map, option_map, slice_get, Result, Ok, Err}
use Rattle.std.specs.List.{list_all, AllByRecursion as Each}
use Rattle.std.proofs.lemmas.Bool.{and_parts}
use Rattle.acq_base.specs.Mirror.{MirrorMap}
use Rattle.acq_base.specs.Sum.{sum_of}
use Rattle.acq_base.specs.declared.installed.Old.{Old}
use Rattle.acq_base.specs.declared.plan.Source.{Source}
use Rattle.acq_base.specs.declared.plan.Target.{Target}
use Rattle.acq_base.specs.declared.sum.Sum.{Sum}
use Rattle.item_graph.specs.Refinement.{asked}
use Rattle.item_graph.specs.Laws.{IsHeardRoute, PointsEndInRoutes}
use Rattle.release_file.specs.Release.{listed_sum}
use Rattle.release_file.specs.declared.release.Release.{Release}
use Rattle.update_model.specs.Laws.{ListEnd as RouteEnd, AreRoutesOver, RoutesMakeNewSets, RunsStandInRoutes}
use Rattle.update_model.specs.Next.{same_bytes, same_sums}
use Rattle.update_model.specs.Outcomes.{AdmittedRelease, Staying, Directory, PartFiles, ◌>>=◌, admitted, all_had, outcome, wanted_by, new_set}
use Rattle.update_model.specs.Points.{Point, Over, At, ran, run, start, AsksFirst}
use Rattle.update_model.specs.Releases.{release_text}
use Rattle.update_model.specs.Walks.{Walk, IsRoute, release_walk, target_walk}
use Rattle.update_model.specs.Wanted.{want}
use Rattle.update_model.specs.declared.end.End.{End}
use Rattle.update_model.specs.declared.log.Asked.{Asked}
use Rattle.update_model.specs.declared.settled.Settled.{Settled}
use Rattle.update_model.specs.declared.settled.Verdict2.{Verdict2}
use Rattle.update_model.specs.declared.wanted.Wanted.{Wanted}
use Rattle.board_model.specs.Ends.{ComesTo, EndsInRoute, ListEnd, ListEndsInRoute, ListIsHeardFrom, verdict_for, walk_for}
use Rattle.board_model.specs.Keys.{name_at, named}
use Rattle.board_model.specs.Laws.{ItemsAskNext, SettledSourcesCome, SetsThereAreHeld, VerdictsAreMirrors}
use Rattle.board_model.specs.Settling.{ends_in, had, settled_in, settled_lists, staying_verdict, unchanged}
use Rattle.board_model.specs.Slots.{Setup, Standing, Slot, Asking, Listing, Refused, SettledSlot, has_ended, is_there, is_ready}
use Rattle.board_model.specs.Stands.{AreAsked, HasCome, ItemHasHeard, History, IsOpen, ListsStand, entries_of, lane_answers}

-- ---- routes

routed : PointsEndInRoutes → (config : Setup) (n place : ℕ) (path : List ℕ) (walk : Walk) (history : History) (end : End)
    → run config.settings.retries (start config.settings.retries walk) (lane_answers (history place)) ≡ Over end
    → AreAsked config.settings.retries (start config.settings.retries walk) (history place)
    → entries_of (history place) ≡ ran config.settings.retries n path (start config.settings.retries walk) (lane_answers (history place))
    → EndsInRoute config n place path walk history end
routed law config n place path walk history end over asks logged =
    let told : IsHeardRoute config.settings.retries walk (lane_answers (history place)) end = law config.settings.retries walk (lane_answers (history place)) end over in
    record { told = told; asks = asks; ends = over; logged = logged ∙ sym (told.entries_are n path) }

pub asks-next : RunsStandInRoutes → ItemsAskNext
asks-next law retries n path walk heard item h =
    let found = law walk retries n path (lane_answers heard) in (
      found.0,
      found.1,
      found.2,
      found.3,
      found.4 ∙ ap (λ (es : List Asked). es ++ found.2) (sym h.logged),
      subst (λ (p : Point). AsksFirst p found.2 found.1) (sym h.stands) found.5,
    )

-- ---- lists

over-at : (p : Point) → is_none (asked p) ≡ true → (end : End) × (p ≡ Over end)
over-at (Over end) e = (end, refl)
over-at (At ask left faults next) e = absurd (cc)

ends-cons : (item : Standing) (end : End) (lists : List (Option Standing)) → item.point ≡ Over end → ends_in (Some item ∷ lists) ≡ end ∷ ends_in lists
ends-cons item end lists e = rw e refl

suc-one : (k : ℕ) → 1 + k ≡ suc k
suc-one k = omega arith

-- the lists from a place on, all of which have ended
record ListsCome (config : Setup) (n : ℕ) (source : Source) (old : Old) (release : Release) (targets : List Target) (lists : List (Option Standing)) (history : History) : Type 0 where
  came : List ListEnd
  names : map (λ l. l.wanted) came ≡ filter_map (λ target. option_map (want source release config.settings target) (listed_sum release target.path)) targets
  ends : map (λ l. l.end) came ≡ ends_in lists
  routes : Each (ListEndsInRoute config n old history) came
  places : Each (λ l. name_at source l.place ≡ Some l.wanted.name) came

lists-come : PointsEndInRoutes → (config : Setup) (n : ℕ) (source : Source) (old : Old) (release : Release) (place : ℕ) (targets : List Target) (lists : List (Option Standing)) (history : History)
    → ((k : ℕ) → name_at source (place + k) ≡ option_map (λ (t : Target). t.name) (slice_get targets k))
    → ListsStand config n source old release place targets lists history → list_all has_ended lists ≡ true
    → ListsCome config n source old release targets lists history
lists-come law config n source old release place [] lists history at h ended =
    record { came = []; names = refl; ends = sym (ap ends_in h); routes = tt; places = tt }
lists-come law config n source old release place (target ∷ targets) [] history at h ended = absurd h
lists-come law config n source old release place (target ∷ targets) (None ∷ lists) history at h ended =
    let rest = lists-come law config n source old release (suc place) targets lists history (λ k. subst (λ (p : ℕ). name_at source p ≡ option_map (λ (t : Target). t.name) (slice_get targets k)) (omega arith) (at (suc k))) h.1 ended in
    record { came = rest.came; names = rw h.0.0 rest.names; ends = rest.ends; routes = rest.routes; places = rest.places }
lists-come law config n source old release place (target ∷ targets) (Some item ∷ lists) history at h ended =
    let parts = and_parts (has_ended (Some item)) (list_all has_ended lists) ended in
    let rest = lists-come law config n source old release (suc place) targets lists history (λ k. subst (λ (p : ℕ). name_at source p ≡ option_map (λ (t : Target). t.name) (slice_get targets k)) (omega arith) (at (suc k))) h.1 parts.1 in
    let sum : Sum = h.0.0 in
    let w : Wanted = want source release config.settings target sum in
    let heard : ItemHasHeard config.settings.retries n target.path (walk_for config old w) (history place) item = h.0.2 in
    let over = over-at item.point parts.0 in
    let route : EndsInRoute config n place target.path (walk_for config old w) history over.0 =
    routed law config n place target.path (walk_for config old w) history over.0 (sym heard.stands ∙ over.1) heard.asks heard.logged in
    record {
      came = (record { wanted = w; place = place; end = over.0 }) ∷ rest.came;
      names = rw h.0.1 (ap (λ ws. w ∷ ws) rest.names);
      ends = ap (λ es. over.0 ∷ es) rest.ends ∙ sym (ends-cons item over.0 lists over.1);
      routes = (route, rest.routes);
      places = (subst (λ (p : ℕ). name_at source p ≡ Some target.name) (omega arith) (at 0), rest.places);
    }

-- ---- a source

pub listing-verdict : (source : Source) (old : Old) (set : AdmittedRelease) (there : Bool) (lists : List (Option Standing)) (had_all : Result (Unit {0}) Staying) (verdict : Verdict2) → there ≡ is_there source old set
    → verdict ≡ (settled_lists source set there lists had_all).verdict → verdict ≡ verdict_for source old (had set had_all)
listing-verdict source old set true lists (Ok each) verdict is e = e ∙ sym (rw (← is) refl)
listing-verdict source old set false lists (Ok each) verdict is e = e ∙ sym (rw (← is) refl)
listing-verdict source old set there lists (Err why) verdict is e = e

outcome-listing : (end : End) (ends : List End) (old : Option (List ℕ)) (config : Setup) (set : AdmittedRelease) → admitted end old config.settings config.change config.now ≡ Ok set
    → outcome end ends old config.settings config.change config.now ≡ had set (all_had ends)
outcome-listing end ends old config set is = rw is (one (all_had ends))
  where
    one : (r : Result (Unit {0}) Staying) → (r >>= (λ each. Ok set)) ≡ had set r
    one (Ok each) = refl
    one (Err why) = refl

outcome-refused : (end : End) (ends : List End) (old : Option (List ℕ)) (config : Setup) (why : Staying) → admitted end old config.settings config.change config.now ≡ Err why
    → outcome end ends old config.settings config.change config.now ≡ Err why
outcome-refused end ends old config why is = rw is refl

pub sources-come : PointsEndInRoutes → SettledSourcesCome
sources-come law config n source old verdict history was = one was.slot was.open_slot was.ready was.comes_to
  where
    one : (slot : Slot) → IsOpen config n source old slot history → is_ready slot ≡ true → settled_in source slot ≡ Some was.settled → ComesTo config n source old history verdict
    one (Asking kept release) h ready is = absurd (cc)
    one (Listing set there lists) h ready is =
        let came : HasCome config n source old (history 0) (Ok set) = h.0 in
        let ls = lists-come law config n source old set.release 1 source.targets lists history (λ k. ap (name_at source) (suc-one k)) h.2 ready in
        let settled : settled_lists source set there lists (all_had (ends_in lists)) ≡ was.settled = cc in
        let told : verdict ≡ (settled_lists source set there lists (all_had (ends_in lists))).verdict = was.told ∙ ap (λ (s : Settled). s.verdict) (sym settled) in
        record {
          end = came.end;
          release = routed law config n 0 release_text (release_walk source) history came.end came.ends came.asks came.logged;
          lists = ls.came;
          named_lists = ls.names ∙ sym (ap (wanted_by source config.settings) came.came_to);
          routes = ls.routes;
          places = ls.places;
          is = listing-verdict source old set there lists (all_had (ends_in lists)) verdict h.1 told
              ∙ ap (λ (es : List End). verdict_for source old (had set (all_had es))) (sym ls.ends)
              ∙ ap (verdict_for source old) (sym (outcome-listing came.end (map (λ (l : ListEnd). l.end) ls.came) old.release config set came.came_to));
        }
    one (Refused why) h ready is =
        let came : HasCome config n source old (history 0) (Err why) = h.0 in
        let settled : unchanged (staying_verdict why) ≡ was.settled = cc in
        record {
          end = came.end;
          release = routed law config n 0 release_text (release_walk source) history came.end came.ends came.asks came.logged;
          lists = [];
          named_lists = sym (ap (wanted_by source config.settings) came.came_to);
          routes = tt;
          places = tt;
          is = was.told ∙ ap (λ (s : Settled). s.verdict) (sym settled) ∙ ap (verdict_for source old) (sym (outcome-refused came.end [] old.release config why came.came_to));
        }
    one SettledSlot h ready is = absurd h

-- ---- over a mirror

abbrev route_end : (config : Setup) (n : ℕ) (old : Old) (history : History) (l : ListEnd) → ListEndsInRoute config n old history l → RouteEnd
route_end config n old history l route = record { wanted = l.wanted; trails = route.told.trails; end = l.end }

record RoutesOver (mirror : MirrorMap) (dir : Directory) (parts : PartFiles) (config : Setup) (came : List ListEnd) : Type 0 where
  lists : List RouteEnd
  names : map (λ l. l.wanted) lists ≡ map (λ l. l.wanted) came
  ends : map (λ l. l.end) lists ≡ map (λ l. l.end) came
  over : AreRoutesOver mirror dir parts config.settings.retries lists

routes-over : (mirror : MirrorMap) (dir : Directory) (parts : PartFiles) (config : Setup) (n : ℕ) (old : Old) (history : History) (came : List ListEnd)
    → Each (ListEndsInRoute config n old history) came → Each (ListIsHeardFrom mirror dir parts config old history) came → RoutesOver mirror dir parts config came
routes-over mirror dir parts config n old history [] routes heard = record { lists = []; names = refl; ends = refl; over = tt }
routes-over mirror dir parts config n old history (l ∷ ls) routes heard =
    let rest = routes-over mirror dir parts config n old history ls routes.1 heard.1 in
    let route : ListEndsInRoute config n old history l = routes.0 in
    let from : ListIsHeardFrom mirror dir parts config old history l = heard.0 in
    let walk : walk_for config old l.wanted ≡ target_walk (dir l.wanted.name.0) (length (parts l.wanted.name.0)) l.wanted =
    ap (λ (o : Option (List ℕ)). target_walk o (config.sizes l.wanted.name.0) l.wanted) from.installed ∙ ap (λ (k : ℕ). target_walk (dir l.wanted.name.0) k l.wanted) from.size in
    let is_route : IsRoute config.settings.retries (target_walk (dir l.wanted.name.0) (length (parts l.wanted.name.0)) l.wanted) route.told.trails l.end =
    subst (λ (w : Walk). IsRoute config.settings.retries w route.told.trails l.end) walk route.told.route in
    record {
      lists = route_end config n old history l route ∷ rest.lists;
      names = ap (λ ws. l.wanted ∷ ws) rest.names;
      ends = ap (λ es. l.end ∷ es) rest.ends;
      over = ((is_route, route.told.agrees mirror (parts l.wanted.name.0) from.heard.agrees, route.told.lives from.heard.lives), rest.over);
    }

pub verdicts-are : RoutesMakeNewSets → VerdictsAreMirrors
verdicts-are law config n source old verdict history mirror dir parts came installed heard lists =
    let over = routes-over mirror dir parts config n old history came.lists came.routes lists in
    let told = came.release.told in
    let named_lists : map (λ (l : RouteEnd). l.wanted) over.lists ≡ wanted_by source config.settings (admitted came.end (dir source.release_name.0) config.settings config.change config.now) =
    over.names ∙ came.named_lists ∙ ap (λ (o : Option (List ℕ)). wanted_by source config.settings (admitted came.end o config.settings config.change config.now)) installed in
    let made : outcome came.end (map (λ (l : RouteEnd). l.end) over.lists) (dir source.release_name.0) config.settings config.change config.now ≡ new_set mirror dir parts source config.settings config.change config.now =
    law mirror dir parts source config.settings config.change config.now config.settings.retries told.trails came.end over.lists told.route (told.agrees mirror [] heard.agrees) (told.lives heard.lives) named_lists over.over in
    came.is
    ∙ ap (λ (es : List End). verdict_for source old (outcome came.end es old.release config.settings config.change config.now)) (sym over.ends)
    ∙ ap (λ (o : Option (List ℕ)). verdict_for source old (outcome came.end (map (λ (l : RouteEnd). l.end) over.lists) o config.settings config.change config.now)) installed
    ∙ ap (verdict_for source old) made

-- ---- what is there

lists-there : (dir : Directory) (release : Release) (installed : List ℕ → Option (List ℕ)) (targets : List Target) → Each (λ target. installed target.name.0 ≡ dir target.name.0) targets
    → list_all (λ target. same_sums (option_map sum_of (installed target.name.0)) (listed_sum release target.path)) targets
    ≡ list_all (λ target. same_sums (option_map sum_of (dir target.name.0)) (listed_sum release target.path)) targets
lists-there dir release installed [] same = refl
lists-there dir release installed (target ∷ targets) same =
    ap (λ (o : Option (List ℕ)). same_sums (option_map sum_of o) (listed_sum release target.path) && list_all (λ t. same_sums (option_map sum_of (installed t.name.0)) (listed_sum release t.path)) targets) same.0
    ∙ ap (λ (b : Bool). same_sums (option_map sum_of (dir target.name.0)) (listed_sum release target.path) && b) (lists-there dir release installed targets same.1)

pub sets-there : SetsThereAreHeld
sets-there dir source old set release lists =
    ap (λ (o : Option (List ℕ)). same_bytes o set.bytes && list_all (λ target. same_sums (option_map sum_of (named old.lists target.name.0)) (listed_sum set.release target.path)) source.targets) release
    ∙ ap (λ (b : Bool). same_bytes (dir source.release_name.0) set.bytes && b) (lists-there dir set.release (named old.lists) source.targets lists)
