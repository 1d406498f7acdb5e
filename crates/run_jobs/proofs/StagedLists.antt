-- What is staged is a list of its source.
use Rattle.std.proofs.Common.{◌≡◌, ℕ, zero, suc, true, false, List, [], ◌∷◌, Option, Some, None, refl, sym, subst, inl, inr}
use Rattle.std.specs.Prelude.{slice_get}
use Rattle.acq_base.specs.declared.installed.Old.{Old}
use Rattle.acq_base.specs.declared.plan.Source.{Source}
use Rattle.acq_base.specs.declared.plan.Target.{Target}
use Rattle.item_graph.specs.Refinement.{asked}
use Rattle.release_file.specs.declared.release.Release.{Release}
use Rattle.update_model.specs.Points.{Point, Over, At, run, start, point_after, lead}
use Rattle.update_model.specs.Reach.{Way, On, Stop, way}
use Rattle.update_model.specs.Trails.{LaneAnswer, Leads}
use Rattle.update_model.specs.Walks.{Walk, Finish, Try, after_in_release, release_walk}
use Rattle.update_model.specs.declared.ask.Ask.{Ask}
use Rattle.update_model.specs.declared.ask.Closed.{Closed}
use Rattle.acq_base.specs.declared.fetch.NotServed.TheVariants as nots
use Rattle.update_model.specs.declared.ask.Closed.TheVariants as closings
use Rattle.update_model.specs.declared.ask.Ending.{Ending}
use Rattle.update_model.specs.declared.ask.Ending.TheVariants as endings
use Rattle.update_model.specs.declared.settled.Verdict2.{Verdict2}
use Rattle.board_model.specs.Boards.{Asker, Board, asker_of}
use Rattle.board_model.specs.Keys.{name_at}
use Rattle.board_model.specs.Laws.{BoardsStand}
use Rattle.board_model.specs.Reached.{Reached}
use Rattle.board_model.specs.Runs.{Note, BoardRun}
use Rattle.board_model.specs.Slots.{Setup, Standing, Slot, Asking, Listing, Refused, SettledSlot, ask_of, item_in, joined}
use Rattle.board_model.specs.Stands.{AllStand, History, IsOpen, ListsStand, SourceStands, history_of, lane_answers}
use Rattle.board_model.proofs.Askers.{asker-asks}
use Rattle.board_model.proofs.Resting.{olds-there}

-- ---- a Release is held in memory

abbrev HeldWalk : Walk → Type 0
HeldWalk (Finish end) = Unit {0}
HeldWalk (Try ask next) = (ask.stage ≡ false) × ((e : Ending) → HeldWalk (next e))

abbrev HeldPoint : Point → Type 0
HeldPoint (Over end) = Unit {0}
HeldPoint (At ask left faults next) = (ask.stage ≡ false) × ((e : Ending) → HeldWalk (next e))

held_start : (retries : ℕ) (walk : Walk) → HeldWalk walk → HeldPoint (start retries walk)
held_start retries (Finish end) h = tt
held_start retries (Try ask next) h = h

held_lead : (retries : ℕ) (ask : Ask) (left : ℕ) (next : Ending → Walk) (w : Way) → ask.stage ≡ false → ((e : Ending) → HeldWalk (next e)) → HeldPoint (lead retries ask left next w)
held_lead retries ask left next (On to) stage h = (stage, h)
held_lead retries ask left next (Stop ending) stage h = held_start retries (next ending) (h ending)

held_led : (retries : ℕ) (ask : Ask) (left : ℕ) (next : Ending → Walk) (lane : ℕ) (closed : Closed) (faults : ℕ) → ask.stage ≡ false → ((e : Ending) → HeldWalk (next e))
    → HeldPoint (Leads left ask.uri lane closed faults (λ n. At ask left n next) (λ w. lead retries ask left next w))
held_led retries ask left next lane (closings.Not (nots.Fault from to)) zero stage h = held_start retries (next (endings.Dead lane from to)) (h (endings.Dead lane from to))
held_led retries ask left next lane (closings.Not (nots.Fault from to)) (suc n) stage h = (stage, h)
held_led retries ask left next lane (closings.Served body) faults stage h = held_lead retries ask left next (way left ask.uri (closings.Served body)) stage h
held_led retries ask left next lane (closings.Not (nots.Moved place)) faults stage h = held_lead retries ask left next (way left ask.uri (closings.Not (nots.Moved place))) stage h
held_led retries ask left next lane (closings.Not (nots.Absent status)) faults stage h = held_lead retries ask left next (way left ask.uri (closings.Not (nots.Absent status))) stage h
held_led retries ask left next lane (closings.Not nots.TooBig) faults stage h = held_lead retries ask left next (way left ask.uri (closings.Not nots.TooBig)) stage h
held_led retries ask left next lane (closings.Not (nots.Garbled at)) faults stage h = held_lead retries ask left next (way left ask.uri (closings.Not (nots.Garbled at))) stage h

held_step : (retries : ℕ) (p : Point) (t : LaneAnswer) → HeldPoint p → HeldPoint (point_after retries p t)
held_step retries (Over end) t h = tt
held_step retries (At ask left faults next) t h = held_led retries ask left next t.lane t.closed faults h.0 h.1

held_run : (retries : ℕ) (p : Point) (ts : List LaneAnswer) → HeldPoint p → HeldPoint (run retries p ts)
held_run retries p [] h = h
held_run retries p (t ∷ ts) h = held_run retries (point_after retries p t) ts (held_step retries p t h)

held_after : (e : Ending) (release : Walk) → HeldWalk release → HeldWalk (after_in_release e release)
held_after (endings.Served body) release h = tt
held_after (endings.Dead lane before after) release h = tt
held_after endings.TooBig release h = h
held_after (endings.Absent status) release h = h
held_after endings.Lost release h = h
held_after (endings.Garbled at) release h = h

held_release : (source : Source) → HeldWalk (release_walk source)
held_release source = (refl, λ e. held_after e _ (refl, λ e. tt))

held_asks : (p : Point) (ask : Ask) → HeldPoint p → asked p ≡ Some ask → ask.stage ≡ false
held_asks (Over end) ask h e = absurd (cc)
held_asks (At other left faults next) ask h e = let same : other ≡ ask = cc in subst (λ (x : Ask). x.stage ≡ false) same h.0

-- ---- an item that asks

list_of : (config : Setup) (n : ℕ) (source : Source) (old : Old) (release : Release) (place : ℕ) (targets : List Target) (lists : List (Option Standing)) (history : History) (k : ℕ) (item : Standing)
    → ListsStand config n source old release place targets lists history → slice_get lists k ≡ Some (Some item) → (target : Target) × (slice_get targets k ≡ Some target)
list_of config n source old release place [] lists history k item h e =
    let none : slice_get [] k ≡ Some (Some item) = subst (λ (xs : List (Option Standing)). slice_get xs k ≡ Some (Some item)) h e in
    absurd (cc)
list_of config n source old release place (t ∷ targets) [] history k item h e = absurd h
list_of config n source old release place (t ∷ targets) (list ∷ lists) history zero item h e = (t, refl)
list_of config n source old release place (t ∷ targets) (list ∷ lists) history (suc k) item h e = list_of config n source old release (suc place) targets lists history k item h.1 e

-- a list of the source
pub record IsNamed (source : Source) (place : ℕ) : Type 0 where
  pub k : ℕ
  pub target : Target
  pub at : slice_get source.targets k ≡ Some target
  pub is : name_at source place ≡ Some target.name

open_named : (config : Setup) (n : ℕ) (source : Source) (old : Old) (slot : Slot) (history : History) (place : ℕ) (ask : Ask) → IsOpen config n source old slot history
    → ask_of (item_in slot place) ≡ Some ask → ask.stage ≡ true → IsNamed source place
open_named config n source old (Asking kept release) history zero ask h e stage =
    let held = held_asks release.point ask (rw h.1.stands (held_run config.settings.retries (start config.settings.retries (release_walk source)) (lane_answers (history 0)) (held_start config.settings.retries (release_walk source) (held_release source)))) e in
    absurd (cc)
open_named config n source old (Asking kept release) history (suc place) ask h e stage = absurd (cc)
open_named config n source old (Listing set there lists) history zero ask h e stage = absurd (cc)
open_named config n source old (Listing set there lists) history (suc k) ask h e stage = one (slice_get lists k) refl e
  where
    one : (o : Option (Option Standing)) → slice_get lists k ≡ o → ask_of (joined o) ≡ Some ask → IsNamed source (suc k)
    one None is e = absurd (cc)
    one (Some None) is e = absurd (cc)
    one (Some (Some item)) is e =
        let t = list_of config n source old set.release 1 source.targets lists history k item h.2 is in
        record { k = k; target = t.0; at = t.1; is = rw t.1 refl }
open_named config n source old (Refused why) history place ask h e stage = absurd (cc)
open_named config n source old SettledSlot history place ask h e stage = absurd h

stands_named : (config : Setup) (a : Asker) (old : Old) (slot : Slot) (verdict : Verdict2) (history : History) → ask_of (item_in slot a.key.place) ≡ Some a.ask → a.ask.stage ≡ true
    → SourceStands config a.key.source a.source old slot verdict history → IsNamed a.source a.key.place
stands_named config a old slot verdict history asks stage (inl opened) = open_named config a.key.source a.source old slot history a.key.place a.ask opened asks stage
stands_named config a old slot verdict history asks stage (inr closed) =
    let none : ask_of (item_in SettledSlot a.key.place) ≡ Some a.ask = subst (λ (s : Slot). ask_of (item_in s a.key.place) ≡ Some a.ask) closed.0 asks in absurd (cc)

pub staged_named : BoardsStand → (config : Setup) (olds : List Old) (notes : List Note) (b : Board) (number : ℕ) (a : Asker) → Reached config olds notes b → asker_of b number ≡ Some a → a.ask.stage ≡ true
    → IsNamed a.source a.key.place
staged_named law config olds notes b number a reached e stage =
    let i = asker-asks b number a e in
    let w : BoardRun = record { board = b; jobs = reached.jobs; queue = []; notes = notes } in
    let all : AllStand config olds w = subst (λ (x : BoardRun). AllStand config olds x) reached.leads (law config olds reached.lanes reached.events) in
    let source_is : slice_get config.sources a.key.source ≡ Some a.source = subst (λ (c : Setup). slice_get c.sources a.key.source ≡ Some a.source) all.config_is i.source_is in
    let old = olds-there config.sources olds a.key.source a.source reached.each source_is in
    let at = all.sources a.key.source a.source old.0 source_is old.1 in
    let same : at.slot ≡ i.slot = cc in
    stands_named config a old.0 at.slot at.verdict (history_of a.key.source notes) (subst (λ (s : Slot). ask_of (item_in s a.key.place) ≡ Some a.ask) (sym same) i.asks) stage at.stands
