-- Which items have heard anything.
use Rattle.std.proofs.Common.{◌≡◌, ◌∙◌, ◌⊎◌, inl, inr, refl, ap, subst, arith, ℕ, zero, suc, ◌+◌, Bool, true, false, List, [], ◌∷◌, ◌++◌, Contains, Option, Some, None, Ok}
use Rattle.std.specs.Prelude.{◌==◌, if◌then◌else◌, slice_get}
use Rattle.std.specs.List.{list_any, AllByRecursion as Each}
use Rattle.acq_base.specs.declared.fetch.Job.{Job}
use Rattle.acq_base.specs.declared.installed.Old.{Old}
use Rattle.acq_base.specs.declared.plan.Source.{Source}
use Rattle.acq_base.specs.declared.plan.Target.{Target}
use Rattle.board_model.specs.Boards.{Asker, Board, asker_of, first_ready, is_finished, lane_with, settled_of, took_from}
use Rattle.board_model.specs.Keys.{key_at, keys_from}
use Rattle.board_model.specs.Laws.{BoardsStand, FinishedExactly}
use Rattle.board_model.specs.Runs.{Answered, Event, Issue, Answer, Absorb, Settle, Note, BoardRun, answered, happens, noted, run, settle_as, settle_first, start, take_first, lane_answer_of}
use Rattle.board_model.specs.Slots.{Setup, Standing, Slot, Asking, Listing, Refused, SettledSlot, is_ready, item_at, ask_of, joined}
use Rattle.board_model.specs.Stands.{HasCome, History, IsOpen, ListStands, ListsStand, SourceStands, StandsAt, history_of}
use Rattle.board_model.specs.declared.key.Key.{Key}
use Rattle.release_file.specs.declared.release.Release.{Release}
use Rattle.update_model.specs.Trails.{LaneAnswer}
use Rattle.update_model.specs.declared.ask.Closed.{Closed}
use Rattle.update_model.specs.declared.settled.Settled.{Settled}
use Rattle.update_model.specs.declared.settled.Verdict2.{Verdict2}
use Rattle.update_model.proofs.Carried.{each-at}
use Rattle.board_model.proofs.Places.{bound}
use Rattle.board_bounds.proofs.Asking.{reached-stands}
use Rattle.run_model.specs.Asked.{IsListed, LogsTellNotes, NotesAreOfItems, OthersHearNothing}
use Rattle.run_model.proofs.Names.{get_in}

-- ---- each note is of an item

abbrev OfItem : Setup → Note → Type 0
OfItem config note = Contains (keys_from 0 config.sources) note.key

record AreOfItems (config : Setup) (w : BoardRun) : Type 0 where
  same : w.board.config ≡ config
  notes : Each (OfItem config) w.notes

asker_in : (b : Board) (number : ℕ) (a : Asker) → asker_of b number ≡ Some a → Contains (keys_from 0 b.config.sources) a.key
asker_in b number a is =
    let key = bound (key_at b.config.sources number) _ a is in
    let source = bound (slice_get b.config.sources (key.0).source) _ a key.2 in
    let ask = bound (ask_of (item_at b.slots key.0)) _ a source.2 in
    let same : (key.0) ≡ a.key = let whole : Some (record { key = key.0; source = source.0; ask = ask.0 }) ≡ Some a = ask.2 in cc in
    get_in (keys_from 0 b.config.sources) number a.key (key.1 ∙ ap (λ (k : Key). Some k) same)

each_added : (P : Note → Type 0) (notes more : List Note) → Each P notes → Each P more → Each P (notes ++ more)
each_added P [] more h h' = h'
each_added P (note ∷ notes) more h h' = (h.0, each_added P notes more h.1 h')

noted_of : (config : Setup) (b : Board) (number : ℕ) (told : LaneAnswer) (from : Option ℕ) (asker : Option Asker) → b.config ≡ config → asker_of b number ≡ asker → Each (OfItem config) (noted told from asker)
noted_of config b number told (Some from) (Some a) same is = (subst (λ (c : Setup). Contains (keys_from 0 c.sources) a.key) same (asker_in b number a is), tt)
noted_of config b number told None asker same is = tt
noted_of config b number told (Some from) None same is = tt

took_config : (b : Board) (number : ℕ) (told : LaneAnswer) (from : Option ℕ) (asker : Option Asker) → (took_from b number told from asker).config ≡ b.config
took_config b number told (Some from) (Some a) = refl
took_config b number told None asker = refl
took_config b number told (Some from) None = refl

taken_of : (config : Setup) (w : BoardRun) (queue : List Answered) → AreOfItems config w → AreOfItems config (take_first w queue)
taken_of config w [] h = h
taken_of config w (a ∷ queue) h = record {
  same = took_config w.board a.job.no (lane_answer_of a) (lane_with w.board.out a.job.no) (asker_of w.board a.job.no) ∙ h.same;
  notes = each_added (OfItem config) w.notes (noted (lane_answer_of a) (lane_with w.board.out a.job.no) (asker_of w.board a.job.no)) h.notes
      (noted_of config w.board a.job.no (lane_answer_of a) (lane_with w.board.out a.job.no) (asker_of w.board a.job.no) h.same refl);
}

answered_of : (config : Setup) (w : BoardRun) (method : ℕ) (closed : Closed) (job : Option Job) → AreOfItems config w → AreOfItems config (answered w method closed job)
answered_of config w method closed None h = h
answered_of config w method closed (Some job) h = one (list_any (λ (a : Answered). a.job.no == job.no) w.queue)
  where
    one : (c : Bool) → AreOfItems config (if c then w else record w { queue = w.queue ++ (record { job = job; lane = method; closed = closed }) ∷ [] })
    one true = h
    one false = record { same = h.same; notes = h.notes }

settled_as_of : (config : Setup) (w : BoardRun) (n : ℕ) (settled : Option Settled) → AreOfItems config w → AreOfItems config (settle_as w n settled)
settled_as_of config w n None h = h
settled_as_of config w n (Some settled) h = record { same = h.same; notes = h.notes }

settled_first_of : (config : Setup) (w : BoardRun) (first : Option ℕ) → AreOfItems config w → AreOfItems config (settle_first w first)
settled_first_of config w None h = h
settled_first_of config w (Some n) h = settled_as_of config w n (settled_of w.board n) h

happens_of : (config : Setup) (w : BoardRun) (event : Event) → AreOfItems config w → AreOfItems config (happens w event)
happens_of config w (Issue lane) h = record { same = h.same; notes = h.notes }
happens_of config w (Answer lane method closed) h = answered_of config w method closed (joined (slice_get w.jobs lane)) h
happens_of config w Absorb h = taken_of config w w.queue h
happens_of config w Settle h = settled_first_of config w (first_ready w.board.slots) h

run_of : (config : Setup) (events : List Event) (w : BoardRun) → AreOfItems config w → AreOfItems config (run events w)
run_of config [] w h = h
run_of config (event ∷ events) w h = run_of config events (happens w event) (happens_of config w event h)

pub notes_are_of_items : NotesAreOfItems
notes_are_of_items config olds notes b r =
    let all = run_of config r.events (start config olds r.lanes) (record { same = refl; notes = tt }) in
    (subst (AreOfItems config) r.leads all).notes

-- ---- lists that are not named

list_heard : (config : Setup) (n : ℕ) (source : Source) (old : Old) (release : Release) (place : ℕ) (targets : List Target) (lists : List (Option Standing)) (history : History) (k : ℕ) (target : Target)
    → ListsStand config n source old release place targets lists history → slice_get targets k ≡ Some target → (o : Option Standing) × ListStands config n source old release target (history (place + k)) o
list_heard config n source old release place [] lists history k target stand is = absurd (cc)
list_heard config n source old release place (t ∷ targets) [] history k target stand is = absurd stand
list_heard config n source old release place (t ∷ targets) (list ∷ lists) history zero target stand is =
    let same : t ≡ target = cc in
    let here : place ≡ place + 0 = omega arith in
    (list, subst (λ (p : ℕ). ListStands config n source old release target (history p) list) here (subst (λ (x : Target). ListStands config n source old release x (history place) list) same stand.0))
list_heard config n source old release place (t ∷ targets) (list ∷ lists) history (suc k) target stand is =
    let rest = list_heard config n source old release (suc place) targets lists history k target stand.1 is in
    let there : suc place + k ≡ place + suc k = omega arith in
    (rest.0, subst (λ (p : ℕ). ListStands config n source old release target (history p) rest.0) there rest.1)

abbrev NothingOrListed : Setup → ℕ → Source → Old → Target → List Note → History → Type 0
NothingOrListed config n source old target heard history = (heard ≡ []) ⊎ IsListed config old source target (history 0)

open_heard : (config : Setup) (n k : ℕ) (source : Source) (old : Old) (target : Target) (slot : Slot) (history : History) → IsOpen config n source old slot history → is_ready slot ≡ true → slice_get source.targets k ≡ Some target
    → NothingOrListed config n source old target (history (suc k)) history
open_heard config n k source old target (Asking kept release) history h ready is = absurd (cc)
open_heard config n k source old target (Listing set there lists) history h ready is =
    let came : HasCome config n source old (history 0) (Ok set) = h.0 in
    let one = list_heard config n source old set.release 1 source.targets lists history k target h.2 is in
    let place : 1 + k ≡ suc k = omega arith in
    two came one.0 (subst (λ (p : ℕ). ListStands config n source old set.release target (history p) one.0) place one.1)
  where
    two : HasCome config n source old (history 0) (Ok set) → (o : Option Standing) → ListStands config n source old set.release target (history (suc k)) o → NothingOrListed config n source old target (history (suc k)) history
    two came None stands = inl stands.1
    two came (Some item) stands = inr (record { end = came.end; ends = came.ends; set = set; came_to = came.came_to; sum = stands.0; listed = stands.1 })
open_heard config n k source old target (Refused why) history h ready is = inl (h.1 k)
open_heard config n k source old target SettledSlot history h ready is = absurd h

pub others_hear_nothing : BoardsStand → FinishedExactly → OthersHearNothing
others_hear_nothing stand exactly config olds notes b n k source old target r finished at is =
    let all_stand = reached-stands stand config olds notes b r in
    let s : StandsAt config n source old (record { board = b; jobs = r.jobs; queue = []; notes = notes }) = all_stand.sources n source old at.source_is at.old_is in
    let board : (run r.events (start config olds r.lanes)).board ≡ b = ap (λ (w : BoardRun). w.board) r.leads in
    let all : Each (λ slot. slot ≡ SettledSlot) b.slots =
    subst (λ (x : Board). Each (λ slot. slot ≡ SettledSlot) x.slots) board ((exactly config olds r.lanes r.events r.each).0 (ap is_finished board ∙ finished)) in
    let closed : s.slot ≡ SettledSlot = each-at (λ (slot : Slot). slot ≡ SettledSlot) b.slots s.slot all (get_in b.slots n s.slot s.slot_is) in
    one s.slot s.verdict closed s.stands
  where
    one : (slot : Slot) (verdict : Verdict2) → slot ≡ SettledSlot → SourceStands config n source old slot verdict (history_of n notes) → NothingOrListed config n source old target (history_of n notes (suc k)) (history_of n notes)
    one slot verdict closed (inl open_slot) = absurd (subst (λ (x : Slot). IsOpen config n source old x (history_of n notes)) closed open_slot)
    one slot verdict closed (inr settled) = let was = settled.1 in open_heard config n k source old target was.slot (history_of n notes) was.open_slot was.ready is

pub logs_tell_notes : BoardsStand → LogsTellNotes
logs_tell_notes stand config olds notes b r = (reached-stands stand config olds notes b r).log
