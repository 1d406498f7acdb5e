-- What was heard from a mirror, item by item.
use Rattle.std.proofs.Common.{◌≡◌, ◌∙◌, inl, inr, ℕ, zero, suc, Bool, true, false, List, [], ◌∷◌, length, map, Option, Some, None, refl, sym, ap, subst, arith}
use Rattle.std.specs.Prelude.{if◌then◌else◌, option_map, option_and_then, slice_get, Ok, Err}
use Rattle.std.specs.List.{AllByRecursion as Each}
use Rattle.std.proofs.lemmas.Bool.Decides.{nat_tests}
use Rattle.acq_base.specs.Mirror.{MirrorMap, answer_at}
use Rattle.acq_base.specs.declared.installed.Old.{Old}
use Rattle.acq_base.specs.declared.plan.Source.{Source}
use Rattle.acq_base.specs.declared.plan.Target.{Target}
use Rattle.acq_base.specs.declared.uri.ListName.{ListName}
use Rattle.item_graph.specs.Histories.{AgreesAlong, LivesAlong, LivesAt}
use Rattle.item_graph.specs.Laws.{PointsEndInRoutes}
use Rattle.update_model.specs.Faults.{AreAgreeing, AreRoutes, ListsEndAsListed, SetsAreAsListed, SetsMadeAreNew}
use Rattle.update_model.specs.Laws.{HeldSetsAreFound, ListEnd as RouteEnd, RoutesMakeNewSets}
use Rattle.update_model.specs.Outcomes.{AdmittedRelease, Directory, Outcome, PartFiles, Older, Kept, admitted, all_had, outcome, wanted_by}
use Rattle.update_model.specs.Points.{Point, Over, At, lead, start, point_after}
use Rattle.update_model.specs.Reach.{Way, On, Stop, way}
use Rattle.update_model.specs.Trails.{IsFaultOr, Leads, answered}
use Rattle.update_model.specs.Walks.{Walk, Finish, Try, IsRoute, release_walk, target_walk}
use Rattle.update_model.specs.declared.ask.Ask.{Ask}
use Rattle.update_model.specs.declared.ask.Closed.{Closed}
use Rattle.update_model.specs.declared.ask.Closed.TheVariants.{Served, Not}
use Rattle.acq_base.specs.declared.fetch.NotServed.TheVariants.{Moved, Absent, TooBig, Garbled, Fault}
use Rattle.update_model.specs.declared.ask.Ending.{Ending}
use Rattle.update_model.specs.declared.end.End.{End}
use Rattle.update_model.specs.declared.settled.Held.{Held}
use Rattle.update_model.specs.declared.settled.Settled.{Settled}
use Rattle.update_model.specs.declared.settled.Verdict2.{Verdict2}
use Rattle.update_model.specs.declared.settled.Verdict2.TheVariants as verdicts
use Rattle.update_model.specs.declared.settled.Verdict2.TheVariants.{Installed, Hit}
use Rattle.board_model.specs.Agreeing.{AfterAnswer, Agrees, IsAnswered, NoneIsDead, part_at, part_of}
use Rattle.board_model.specs.Boards.{Board, is_finished}
use Rattle.board_model.specs.Changes.{IsInstalled}
use Rattle.board_model.specs.Ends.{ComesTo, IsHeardFrom, ListEnd, ListEndsInRoute, ListIsHeardFrom, verdict_for, walk_for}
use Rattle.board_model.specs.Keys.{name_at, named, same_key}
use Rattle.board_model.specs.Reached.{Reached}
use Rattle.board_model.specs.RunLaws.{FinishedBoardsTell, FinishedBoardsTellMirrors, FinishedRunsAgree, HasSet, IsSourceAt, ReadySourcesLeaveOutcomes, ToldSetsAreListed, ToldSetsAreMirrors}
use Rattle.board_model.specs.Runs.{Note, BoardRun, run as run_world, start as start_world}
use Rattle.board_model.specs.Settling.{ends_in, had, held_of, outcome_in, settled_in, settled_lists, staying_verdict, unchanged}
use Rattle.board_model.specs.Slots.{Setup, Slot, Asking, Listing, Refused, SettledSlot, is_ready, is_there}
use Rattle.board_model.specs.Stands.{AreAsked, History, IsOpen, SourceStands, StandsAt, WasSettled, history_of, of_key, lane_answers}
use Rattle.board_model.specs.declared.key.Key.{Key}
use Rattle.board_model.proofs.Ends.{listing-verdict, sets-there, sources-come, verdicts-are}
use Rattle.board_model.proofs.Events.{ready-slot}
use Rattle.board_model.proofs.Finished.{finished-exactly}
use Rattle.board_model.proofs.Making.{changes-leave}
use Rattle.board_model.proofs.Places.{bound}
use Rattle.board_model.proofs.Resting.{reached-stands}

-- ---- one item

agrees-along : (mirror : MirrorMap) (part : List ℕ) (retries : ℕ) (p : Point) (notes : List Note) → AreAsked retries p notes
    → Each (λ note. IsFaultOr note.told.closed (answered part note.ask (answer_at mirror note.ask.uri))) notes → AgreesAlong mirror part retries p (lane_answers notes)
agrees-along mirror part retries p [] h said = tt
agrees-along mirror part retries (Over end) (note ∷ notes) h said = let none = h.0 in absurd (cc)
agrees-along mirror part retries (At ask left faults next) (note ∷ notes) h said =
    let is = h.0 in
    let same : ask ≡ note.ask = cc in (
      subst (λ (a : Ask). IsFaultOr note.told.closed (answered part a (answer_at mirror a.uri))) (sym same) said.0,
      agrees-along mirror part retries (point_after retries (At ask left faults next) note.told) notes h.1 said.1,
    )

-- how many faults may follow at a point
abbrev left_at : ℕ → Point → ℕ
left_at retries (Over end) = retries
left_at retries (At ask left faults next) = faults

left-start : (retries : ℕ) (walk : Walk) → left_at retries (start retries walk) ≡ retries
left-start retries (Finish end) = refl
left-start retries (Try ask next) = refl

left-lead : (retries : ℕ) (ask : Ask) (left : ℕ) (next : Ending → Walk) (w : Way) → left_at retries (lead retries ask left next w) ≡ retries
left-lead retries ask left next (On to) = refl
left-lead retries ask left next (Stop ending) = left-start retries (next ending)

lives-along : (retries : ℕ) (p : Point) (notes : List Note) → AreAsked retries p notes → IsAnswered retries (left_at retries p) notes → LivesAlong retries p (lane_answers notes)
lives-along retries p [] h live = tt
lives-along retries (Over end) (note ∷ notes) h live = let none = h.0 in absurd (cc)
lives-along retries (At ask left faults next) (note ∷ notes) h live = one note.told.closed faults live h.1 (λ q asks alive. lives-along retries q notes asks alive)
  where
    goes : (w : Way) → IsAnswered retries retries notes → AreAsked retries (lead retries ask left next w) notes
        → ((q : Point) → AreAsked retries q notes → IsAnswered retries (left_at retries q) notes → LivesAlong retries q (lane_answers notes))
        → LivesAlong retries (lead retries ask left next w) (lane_answers notes)
    goes w live asks later = later (lead retries ask left next w) asks (subst (λ (n : ℕ). IsAnswered retries n notes) (sym (left-lead retries ask left next w)) live)

    one : (closed : Closed) (faults : ℕ) → AfterAnswer closed faults (λ n. IsAnswered retries n notes) (IsAnswered retries retries notes)
        → AreAsked retries (Leads left ask.uri note.told.lane closed faults (λ n. At ask left n next) (λ w. lead retries ask left next w)) notes
        → ((q : Point) → AreAsked retries q notes → IsAnswered retries (left_at retries q) notes → LivesAlong retries q (lane_answers notes))
        → LivesAt (At ask left faults next) (record { lane = note.told.lane; closed = closed })
        × LivesAlong retries (Leads left ask.uri note.told.lane closed faults (λ n. At ask left n next) (λ w. lead retries ask left next w)) (lane_answers notes)
    one (Not (Fault from to)) zero live asks later = absurd live
    one (Not (Fault from to)) (suc n) live asks later = (tt, later (At ask left n next) asks live)
    one (Served body) zero live asks later = (tt, goes (way left ask.uri (Served body)) live asks later)
    one (Served body) (suc n) live asks later = (tt, goes (way left ask.uri (Served body)) live asks later)
    one (Not (Moved place)) zero live asks later = (tt, goes (way left ask.uri (Not (Moved place))) live asks later)
    one (Not (Moved place)) (suc n) live asks later = (tt, goes (way left ask.uri (Not (Moved place))) live asks later)
    one (Not (Absent status)) zero live asks later = (tt, goes (way left ask.uri (Not (Absent status))) live asks later)
    one (Not (Absent status)) (suc n) live asks later = (tt, goes (way left ask.uri (Not (Absent status))) live asks later)
    one (Not TooBig) zero live asks later = (tt, goes (way left ask.uri (Not TooBig)) live asks later)
    one (Not TooBig) (suc n) live asks later = (tt, goes (way left ask.uri (Not TooBig)) live asks later)
    one (Not (Garbled at)) zero live asks later = (tt, goes (way left ask.uri (Not (Garbled at))) live asks later)
    one (Not (Garbled at)) (suc n) live asks later = (tt, goes (way left ask.uri (Not (Garbled at))) live asks later)

-- the notes of one item
said-by : (mirror : MirrorMap) (parts : PartFiles) (sources : List Source) (key : Key) (part : List ℕ) (notes : List Note) → part_at parts sources key ≡ part → Agrees mirror parts sources notes
    → Each (λ note. IsFaultOr note.told.closed (answered part note.ask (answer_at mirror note.ask.uri))) (of_key key notes)
said-by mirror parts sources key part [] is h = tt
said-by mirror parts sources key part (note ∷ notes) is h = one (same_key note.key key) refl (said-by mirror parts sources key part notes is h.1)
  where
    said : List Note → Type 0
    said ns = Each (λ note. IsFaultOr note.told.closed (answered part note.ask (answer_at mirror note.ask.uri))) ns

    here : same_key note.key key ≡ true → IsFaultOr note.told.closed (answered part note.ask (answer_at mirror note.ask.uri))
    here same =
        let source : note.key.source ≡ key.source = grind (arith, nat_tests, same) in
        let place : note.key.place ≡ key.place = grind (arith, nat_tests, same) in
        let part_is : part_at parts sources note.key ≡ part =
        ap (λ (s : ℕ). part_at parts sources (record { source = s; place = note.key.place })) source
        ∙ ap (λ (p : ℕ). part_at parts sources (record { source = key.source; place = p })) place ∙ is in
        subst (λ (x : List ℕ). IsFaultOr note.told.closed (answered x note.ask (answer_at mirror note.ask.uri))) part_is h.0

    one : (c : Bool) → same_key note.key key ≡ c → Each (λ note. IsFaultOr note.told.closed (answered part note.ask (answer_at mirror note.ask.uri))) (of_key key notes)
        → Each (λ note. IsFaultOr note.told.closed (answered part note.ask (answer_at mirror note.ask.uri))) (if c then note ∷ of_key key notes else of_key key notes)
    one true same rest = (here same, rest)
    one false same rest = rest

heard-from : (mirror : MirrorMap) (parts : PartFiles) (config : Setup) (n place : ℕ) (walk : Walk) (part : List ℕ) (notes : List Note)
    → part_at parts config.sources (record { source = n; place = place }) ≡ part → Agrees mirror parts config.sources notes → NoneIsDead config.settings.retries notes
    → AreAsked config.settings.retries (start config.settings.retries walk) (history_of n notes place) → IsHeardFrom mirror part config.settings.retries walk (history_of n notes) place
heard-from mirror parts config n place walk part notes is agrees lives asks = record {
  agrees = agrees-along mirror part config.settings.retries (start config.settings.retries walk) (history_of n notes place) asks
      (said-by mirror parts config.sources (record { source = n; place = place }) part notes is agrees);
  lives = lives-along config.settings.retries (start config.settings.retries walk) (history_of n notes place) asks
      (subst (λ (k : ℕ). IsAnswered config.settings.retries k (history_of n notes place)) (sym (left-start config.settings.retries walk)) (lives (record { source = n; place = place })));
}

-- ---- a source

target-of : (source : Source) (place : ℕ) (name : ListName) → name_at source place ≡ Some name → (k : ℕ) × ((target : Target) × (slice_get source.targets k ≡ Some target) × (target.name ≡ name))
target-of source zero name e = absurd (cc)
target-of source (suc k) name e = one (slice_get source.targets k) refl e
  where
    one : (o : Option Target) → slice_get source.targets k ≡ o → option_map (λ (target : Target). target.name) o ≡ Some name
        → (k : ℕ) × ((target : Target) × (slice_get source.targets k ≡ Some target) × (target.name ≡ name))
    one None is e = absurd (cc)
    one (Some target) is e = (k, (target, is, cc))

each-get : {A : Type 0} (P : A → Type 0) (xs : List A) (k : ℕ) (x : A) → Each P xs → slice_get xs k ≡ Some x → P x
each-get P [] k x h e = absurd (cc)
each-get P (y ∷ ys) zero x h e = let same : y ≡ x = cc in subst P same h.0
each-get P (y ∷ ys) (suc k) x h e = each-get P ys k x h.1 e

lists-heard : (mirror : MirrorMap) (dir : Directory) (parts : PartFiles) (config : Setup) (olds : List Old) (n : ℕ) (source : Source) (old : Old) (notes : List Note) → IsSourceAt config olds n source old
    → IsInstalled source old dir → ((name : List ℕ) → config.sizes name ≡ length (parts name)) → Agrees mirror parts config.sources notes → NoneIsDead config.settings.retries notes
    → (lists : List ListEnd) → Each (ListEndsInRoute config n old (history_of n notes)) lists → Each (λ l. name_at source l.place ≡ Some l.wanted.name) lists
    → Each (ListIsHeardFrom mirror dir parts config old (history_of n notes)) lists
lists-heard mirror dir parts config olds n source old notes at installed sizes agrees lives [] routes places = tt
lists-heard mirror dir parts config olds n source old notes at installed sizes agrees lives (l ∷ lists) routes places =
    let target = target-of source l.place l.wanted.name places.0 in
    let name : ((target.1).0).name ≡ l.wanted.name = (target.1).2 in
    let lies : named old.lists ((target.1).0).name.0 ≡ dir ((target.1).0).name.0 = each-get (λ (t : Target). named old.lists t.name.0 ≡ dir t.name.0) source.targets target.0 (target.1).0 installed.lists (target.1).1 in
    let part : part_at parts config.sources (record { source = n; place = l.place }) ≡ parts l.wanted.name.0 =
    ap (λ (s : Option Source). part_of parts (option_and_then (λ source. name_at source l.place) s)) at.source_is ∙ ap (part_of parts) places.0 in
    let route : ListEndsInRoute config n old (history_of n notes) l = routes.0 in (
      record {
        installed = subst (λ (x : ListName). named old.lists x.0 ≡ dir x.0) name lies;
        size = sizes l.wanted.name.0;
        heard = heard-from mirror parts config n l.place (walk_for config old l.wanted) (parts l.wanted.name.0) notes part agrees lives route.asks;
      },
      lists-heard mirror dir parts config olds n source old notes at installed sizes agrees lives lists routes.1 places.1,
    )

-- ---- a finished board

was-settled : (config : Setup) (olds : List Old) (notes : List Note) (b : Board) (n : ℕ) (source : Source) (old : Old) → Reached config olds notes b → is_finished b ≡ true → IsSourceAt config olds n source old
    → (verdict : Verdict2) × (slice_get b.verdicts n ≡ Some verdict) × WasSettled config n source old verdict (history_of n notes)
was-settled config olds notes b n source old r finished at =
    let stand = reached-stands config olds notes b r in
    let s : StandsAt config n source old (record { board = b; jobs = r.jobs; queue = []; notes = notes }) = stand.sources n source old at.source_is at.old_is in
    let board : (run_world r.events (start_world config olds r.lanes)).board ≡ b = ap (λ (w : BoardRun). w.board) r.leads in
    let all : Each (λ slot. slot ≡ SettledSlot) b.slots =
    subst (λ (x : Board). Each (λ slot. slot ≡ SettledSlot) x.slots) board ((finished-exactly config olds r.lanes r.events r.each).0 (ap is_finished board ∙ finished)) in
    let closed : s.slot ≡ SettledSlot = each-get (λ (slot : Slot). slot ≡ SettledSlot) b.slots n s.slot all s.slot_is in
    (s.verdict, s.verdict_is, one s.slot closed s.stands)
  where
    one : (slot : Slot) → slot ≡ SettledSlot → {verdict : Verdict2} → SourceStands config n source old slot verdict (history_of n notes) → WasSettled config n source old verdict (history_of n notes)
    one slot closed (inl h) = absurd (subst (λ (s : Slot). IsOpen config n source old s (history_of n notes)) closed h)
    one slot closed (inr h) = h.1

pub finished-tell : PointsEndInRoutes → FinishedBoardsTell
finished-tell law config olds notes b n source old r finished at =
    let was = was-settled config olds notes b n source old r finished at in
    (was.0, was.1, sources-come law config n source old was.0 (history_of n notes) was.2)

pub finished-mirrors : PointsEndInRoutes → RoutesMakeNewSets → FinishedBoardsTellMirrors
finished-mirrors law sets config olds notes b mirror dir parts n source old r finished at begun agrees lives =
    let told = finished-tell law config olds notes b n source old r finished at in
    let came : ComesTo config n source old (history_of n notes) told.0 = told.2 in
    let installed = begun.installed n source old at in
    let none : part_at parts config.sources (record { source = n; place = 0 }) ≡ [] = ap (λ (s : Option Source). part_of parts (option_and_then (λ source. name_at source 0) s)) at.source_is in
    let release = heard-from mirror parts config n 0 (release_walk source) [] notes none agrees lives came.release.asks in
    let lists = lists-heard mirror dir parts config olds n source old notes at installed begun.sizes agrees lives came.lists came.routes came.places in
    told.1 ∙ ap Some (verdicts-are sets config n source old told.0 (history_of n notes) mirror dir parts came installed.release release lists)

pub runs-agree : PointsEndInRoutes → RoutesMakeNewSets → FinishedRunsAgree
runs-agree law sets config olds notes notes' b b' mirror dir parts r finished agrees lives r' finished' agrees' lives' begun n source old at =
    finished-mirrors law sets config olds notes b mirror dir parts n source old r finished at begun agrees lives
    ∙ sym (finished-mirrors law sets config olds notes' b' mirror dir parts n source old r' finished' at begun agrees' lives')

-- ---- a source that is ready

pub come-open : (config : Setup) (n : ℕ) (source : Source) (old : Old) (slot : Slot) (verdict : Verdict2) (history : History) → SourceStands config n source old slot verdict history → is_ready slot ≡ true
    → IsOpen config n source old slot history
come-open config n source old slot verdict history (inl h) ready = h
come-open config n source old slot verdict history (inr h) ready = let none : false ≡ true = subst (λ (s : Slot). is_ready s ≡ true) h.0 ready in absurd (cc)

-- the outcome of a slot that is ready, whose verdict it is settled with
outcome-of : (config : Setup) (n : ℕ) (source : Source) (old : Old) (slot : Slot) (history : History) (settled : Settled) → IsOpen config n source old slot history → settled_in source slot ≡ Some settled
    → (outcome : Outcome) × (outcome_in slot ≡ Some outcome) × (settled.verdict ≡ verdict_for source old outcome)
outcome-of config n source old (Asking kept release) history settled h is = absurd (cc)
outcome-of config n source old (Listing set there lists) history settled h is =
    let came : settled_lists source set there lists (all_had (ends_in lists)) ≡ settled = cc in
    (had set (all_had (ends_in lists)), refl, listing-verdict source old set there lists (all_had (ends_in lists)) settled.verdict h.1 (ap (λ (s : Settled). s.verdict) (sym came)))
outcome-of config n source old (Refused why) history settled h is =
    let came : unchanged (staying_verdict why) ≡ settled = cc in
    (Err why, refl, ap (λ (s : Settled). s.verdict) (sym came))
outcome-of config n source old SettledSlot history settled h is = absurd h

pub ready-leave : PointsEndInRoutes → ListsEndAsListed → HeldSetsAreFound → ReadySourcesLeaveOutcomes
ready-leave routes listed found config olds notes b n source old settled before after r ready is at planned installed made =
    let stand = reached-stands config olds notes b r in
    let s : StandsAt config n source old (record { board = b; jobs = r.jobs; queue = []; notes = notes }) = stand.sources n source old at.source_is at.old_is in
    let x = ready-slot b.slots n ready in
    let slot_both : Some x.0 ≡ Some s.slot = sym x.1 ∙ s.slot_is in
    let slot_same : x.0 ≡ s.slot = cc in
    let is_ready_slot : is_ready s.slot ≡ true = subst (λ (y : Slot). is_ready y ≡ true) slot_same x.2 in
    let open_slot = come-open config n source old s.slot s.verdict (history_of n notes) s.stands is_ready_slot in
    let p = bound (slice_get b.config.sources n) _ settled is in
    let q = bound (slice_get b.slots n) _ settled p.2 in
    let source_both : Some p.0 ≡ Some source = sym p.1 ∙ ap (λ (c : Setup). slice_get c.sources n) stand.config_is ∙ at.source_is in
    let source_same : p.0 ≡ source = cc in
    let q_both : Some q.0 ≡ Some s.slot = sym q.1 ∙ s.slot_is in
    let q_same : q.0 ≡ s.slot = cc in
    let comes : settled_in source s.slot ≡ Some settled = subst (λ (z : Slot). settled_in source z ≡ Some settled) q_same (subst (λ (z : Source). settled_in z q.0 ≡ Some settled) source_same q.2) in
    let o = outcome-of config n source old s.slot (history_of n notes) settled open_slot comes in
    (o.0, o.2, changes-leave routes listed sets-there found config n source old s.slot (history_of n notes) settled o.0 before after open_slot is_ready_slot comes o.1 planned installed made)

-- ---- whatever is answered

record RoutesOf (dir : Directory) (parts : PartFiles) (config : Setup) (came : List ListEnd) : Type 0 where
  lists : List RouteEnd
  names : map (λ l. l.wanted) lists ≡ map (λ l. l.wanted) came
  ends : map (λ l. l.end) lists ≡ map (λ l. l.end) came
  routes : AreRoutes dir parts config.settings.retries lists

-- the lists lie beside a directory and partial files
abbrev pub LiesBeside : Directory → PartFiles → Setup → Old → ListEnd → Type 0
LiesBeside dir parts config old l = (named old.lists l.wanted.name.0 ≡ dir l.wanted.name.0) × (config.sizes l.wanted.name.0 ≡ length (parts l.wanted.name.0))

pub lists-lie : (dir : Directory) (parts : PartFiles) (config : Setup) (source : Source) (old : Old) → IsInstalled source old dir → ((name : List ℕ) → config.sizes name ≡ length (parts name))
    → (lists : List ListEnd) → Each (λ l. name_at source l.place ≡ Some l.wanted.name) lists → Each (LiesBeside dir parts config old) lists
lists-lie dir parts config source old installed sizes [] places = tt
lists-lie dir parts config source old installed sizes (l ∷ lists) places =
    let target = target-of source l.place l.wanted.name places.0 in
    let lies : named old.lists ((target.1).0).name.0 ≡ dir ((target.1).0).name.0 = each-get (λ (t : Target). named old.lists t.name.0 ≡ dir t.name.0) source.targets target.0 (target.1).0 installed.lists (target.1).1 in
    ((subst (λ (x : ListName). named old.lists x.0 ≡ dir x.0) (target.1).2 lies, sizes l.wanted.name.0), lists-lie dir parts config source old installed sizes lists places.1)

route-at : (dir : Directory) (parts : PartFiles) (config : Setup) (n : ℕ) (old : Old) (history : History) (l : ListEnd) → (route : ListEndsInRoute config n old history l) → LiesBeside dir parts config old l
    → IsRoute config.settings.retries (target_walk (dir l.wanted.name.0) (length (parts l.wanted.name.0)) l.wanted) route.told.trails l.end
route-at dir parts config n old history l route lies =
    let walk : walk_for config old l.wanted ≡ target_walk (dir l.wanted.name.0) (length (parts l.wanted.name.0)) l.wanted =
    ap (λ (o : Option (List ℕ)). target_walk o (config.sizes l.wanted.name.0) l.wanted) lies.0 ∙ ap (λ (k : ℕ). target_walk (dir l.wanted.name.0) k l.wanted) lies.1 in
    subst (λ (w : Walk). IsRoute config.settings.retries w route.told.trails l.end) walk route.told.route

routes-of : (dir : Directory) (parts : PartFiles) (config : Setup) (n : ℕ) (old : Old) (history : History) (came : List ListEnd)
    → Each (ListEndsInRoute config n old history) came → Each (LiesBeside dir parts config old) came → RoutesOf dir parts config came
routes-of dir parts config n old history [] routes lie = record { lists = []; names = refl; ends = refl; routes = tt }
routes-of dir parts config n old history (l ∷ ls) routes lie =
    let rest = routes-of dir parts config n old history ls routes.1 lie.1 in
    let route : ListEndsInRoute config n old history l = routes.0 in
    record {
      lists = record { wanted = l.wanted; trails = route.told.trails; end = l.end } ∷ rest.lists;
      names = ap (λ ws. l.wanted ∷ ws) rest.names;
      ends = ap (λ es. l.end ∷ es) rest.ends;
      routes = (route-at dir parts config n old history l route lie.0, rest.routes);
    }

-- a verdict with a set is that of an outcome with one
set-of : (source : Source) (old : Old) (outcome : Outcome) (verdict : Verdict2) (held : Held) → verdict ≡ verdict_for source old outcome → HasSet verdict held
    → (set : AdmittedRelease) × (held ≡ held_of source set) × (outcome ≡ Ok set)
set-of source old (Ok set) verdict held is has = (set, one (is_there source old set) is has, refl)
  where
    one : (c : Bool) → verdict ≡ (if c then Hit (held_of source set) else Installed (held_of source set)) → HasSet verdict held → held ≡ held_of source set
    one true is (inl e) = let both : Hit (held_of source set) ≡ Installed held = sym is ∙ e in absurd (cc)
    one true is (inr e) = let both : Hit (held_of source set) ≡ Hit held = sym is ∙ e in cc
    one false is (inl e) = let both : Installed (held_of source set) ≡ Installed held = sym is ∙ e in cc
    one false is (inr e) = let both : Installed (held_of source set) ≡ Hit held = sym is ∙ e in absurd (cc)
set-of source old (Err (Older date)) verdict held is (inl e) = let both : verdicts.Older date ≡ Installed held = sym is ∙ e in absurd (cc)
set-of source old (Err (Older date)) verdict held is (inr e) = let both : verdicts.Older date ≡ Hit held = sym is ∙ e in absurd (cc)
set-of source old (Err (Kept cause)) verdict held is (inl e) = let both : verdicts.Kept cause ≡ Installed held = sym is ∙ e in absurd (cc)
set-of source old (Err (Kept cause)) verdict held is (inr e) = let both : verdicts.Kept cause ≡ Hit held = sym is ∙ e in absurd (cc)

pub same-verdict : (o : Option Verdict2) (a b : Verdict2) → o ≡ Some a → o ≡ Some b → a ≡ b
same-verdict o a b x y = let both : Some a ≡ Some b = sym x ∙ y in cc

-- the outcome beside a directory
outcome-beside : (dir : Directory) (parts : PartFiles) (config : Setup) (n : ℕ) (source : Source) (old : Old) (history : History) (verdict : Verdict2) (came : ComesTo config n source old history verdict)
    → IsInstalled source old dir → (over : RoutesOf dir parts config came.lists)
    → (map (λ (l : RouteEnd). l.wanted) over.lists ≡ wanted_by source config.settings (admitted came.end (dir source.release_name.0) config.settings config.change config.now))
    × (outcome came.end (map (λ (l : ListEnd). l.end) came.lists) old.release config.settings config.change config.now
    ≡ outcome came.end (map (λ (l : RouteEnd). l.end) over.lists) (dir source.release_name.0) config.settings config.change config.now)
outcome-beside dir parts config n source old history verdict came installed over = (
  over.names ∙ came.named_lists ∙ ap (λ (o : Option (List ℕ)). wanted_by source config.settings (admitted came.end o config.settings config.change config.now)) installed.release,
  ap (λ (es : List End). outcome came.end es old.release config.settings config.change config.now) (sym over.ends)
      ∙ ap (λ (o : Option (List ℕ)). outcome came.end (map (λ (l : RouteEnd). l.end) over.lists) o config.settings config.change config.now) installed.release,
)

pub told-listed : PointsEndInRoutes → SetsAreAsListed → ToldSetsAreListed
told-listed law sets config olds notes b dir parts n source old verdict held r finished at begun is has =
    let told = finished-tell law config olds notes b n source old r finished at in
    let came : ComesTo config n source old (history_of n notes) told.0 = told.2 in
    let installed = begun.installed n source old at in
    let same : verdict ≡ told.0 = same-verdict (slice_get b.verdicts n) verdict told.0 is told.1 in
    let set = set-of source old (outcome came.end (map (λ (l : ListEnd). l.end) came.lists) old.release config.settings config.change config.now) verdict held (same ∙ came.is) has in
    let over = routes-of dir parts config n old (history_of n notes) came.lists came.routes (lists-lie dir parts config source old installed begun.sizes came.lists came.places) in
    let beside = outcome-beside dir parts config n source old (history_of n notes) told.0 came installed over in
    (set.0, set.1, (came.end, (over.lists, sets dir parts source config.settings config.change config.now config.settings.retries came.end over.lists set.0 beside.0 over.routes (sym beside.1 ∙ set.2))))

-- the routes agree with the mirror
agreeing : (mirror : MirrorMap) (dir : Directory) (parts : PartFiles) (config : Setup) (olds : List Old) (n : ℕ) (source : Source) (old : Old) (notes : List Note) → IsSourceAt config olds n source old
    → Agrees mirror parts config.sources notes → (came : List ListEnd) (routes : Each (ListEndsInRoute config n old (history_of n notes)) came) (lie : Each (LiesBeside dir parts config old) came)
    → Each (λ l. name_at source l.place ≡ Some l.wanted.name) came
    → AreAgreeing mirror dir parts config.settings.retries (routes-of dir parts config n old (history_of n notes) came routes lie).lists
unfolding routes-of
agreeing mirror dir parts config olds n source old notes at agrees [] routes lie places = tt
agreeing mirror dir parts config olds n source old notes at agrees (l ∷ ls) routes lie places =
    let route : ListEndsInRoute config n old (history_of n notes) l = routes.0 in
    let part : part_at parts config.sources (record { source = n; place = l.place }) ≡ parts l.wanted.name.0 =
    ap (λ (s : Option Source). part_of parts (option_and_then (λ source. name_at source l.place) s)) at.source_is ∙ ap (part_of parts) places.0 in (
      (
        route-at dir parts config n old (history_of n notes) l route lie.0,
        route.told.agrees mirror (parts l.wanted.name.0)
            (agrees-along mirror (parts l.wanted.name.0) config.settings.retries (start config.settings.retries (walk_for config old l.wanted)) (history_of n notes l.place) route.asks
            (said-by mirror parts config.sources (record { source = n; place = l.place }) (parts l.wanted.name.0) notes part agrees)),
      ),
      agreeing mirror dir parts config olds n source old notes at agrees ls routes.1 lie.1 places.1,
    )

pub told-mirrors : PointsEndInRoutes → SetsMadeAreNew → ToldSetsAreMirrors
told-mirrors law sets config olds notes b mirror dir parts n source old verdict held r finished at begun agrees is has =
    let told = finished-tell law config olds notes b n source old r finished at in
    let came : ComesTo config n source old (history_of n notes) told.0 = told.2 in
    let installed = begun.installed n source old at in
    let same : verdict ≡ told.0 = same-verdict (slice_get b.verdicts n) verdict told.0 is told.1 in
    let set = set-of source old (outcome came.end (map (λ (l : ListEnd). l.end) came.lists) old.release config.settings config.change config.now) verdict held (same ∙ came.is) has in
    let lie = lists-lie dir parts config source old installed begun.sizes came.lists came.places in
    let over = routes-of dir parts config n old (history_of n notes) came.lists came.routes lie in
    let beside = outcome-beside dir parts config n source old (history_of n notes) told.0 came installed over in
    let none : part_at parts config.sources (record { source = n; place = 0 }) ≡ [] = ap (λ (s : Option Source). part_of parts (option_and_then (λ source. name_at source 0) s)) at.source_is in
    let release = came.release.told.agrees mirror []
    (agrees-along mirror [] config.settings.retries (start config.settings.retries (release_walk source)) (history_of n notes 0) came.release.asks
    (said-by mirror parts config.sources (record { source = n; place = 0 }) [] notes none agrees)) in (
      set.0,
      set.1,
      sets mirror dir parts source config.settings config.change config.now config.settings.retries came.release.told.trails came.end over.lists set.0 came.release.told.route release beside.0
          (agreeing mirror dir parts config olds n source old notes at agrees came.lists came.routes lie came.places) (sym beside.1 ∙ set.2),
    )
