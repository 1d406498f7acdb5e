-- A board is finished exactly where each of its sources is settled.
use Rattle.std.proofs.Common.{◌≡◌, ◌∙◌, ℕ, zero, suc, ◌+◌, nat_eq, Bool, true, false, List, [], ◌∷◌, ◌++◌, length, Option, Some, None, refl, ap, arith, zero-add}
use Rattle.std.specs.Prelude.{if◌then◌else◌, slice_get, Result, Ok, Err}
use Rattle.std.specs.List.{AllByRecursion as Each, list_any}
use Rattle.std.proofs.lemmas.Bool.Decides.{nat_tests}
use Rattle.std.proofs.lemmas.List.{length-append}
use Rattle.acq_base.specs.declared.fetch.Job.{Job}
use Rattle.acq_base.specs.declared.installed.Old.{Old}
use Rattle.acq_base.specs.declared.plan.Source.{Source}
use Rattle.host_queues.specs.Lanes.{changed_at}
use Rattle.update_model.specs.Outcomes.{AdmittedRelease, Staying, admitted}
use Rattle.update_model.specs.Points.{Point, Over, At}
use Rattle.update_model.specs.Trails.{LaneAnswer}
use Rattle.update_model.specs.declared.ask.Closed.{Closed}
use Rattle.update_model.specs.declared.settled.Settled.{Settled}
use Rattle.board_model.specs.Boards.{Asker, asker_of, first_ready, first_slots, lane_with, settled_of, took_from}
use Rattle.board_model.specs.Laws.{FinishedExactly}
use Rattle.board_model.specs.Runs.{Answered, Event, Issue, Answer, Absorb, Settle, BoardRun, answered, happens, run, settle_as, settle_first, start, take_first, lane_answer_of}
use Rattle.board_model.specs.Slots.{Setup, Standing, Slot, Asking, Listing, Refused, SettledSlot, after_release, heard_at, is_ready, joined, listed, item_after}
use Rattle.board_model.proofs.Events.{ready-slot}

abbrev open_one : Slot → ℕ
open_one (Asking old release) = 1
open_one (Listing set there lists) = 1
open_one (Refused why) = 1
open_one SettledSlot = 0

abbrev count_open : List Slot → ℕ
count_open [] = 0
count_open (slot ∷ slots) = open_one slot + count_open slots

-- ---- an answer neither settles a source nor opens one

listed-open : (config : Setup) (source : Source) (old : Old) (came : Result AdmittedRelease Staying) → open_one (listed config source old came) ≡ 1
listed-open config source old (Ok set) = refl
listed-open config source old (Err why) = refl

released-open : (config : Setup) (source : Source) (old : Old) (item : Standing) (point : Point) → open_one (after_release config source old item point) ≡ 1
released-open config source old item (Over end) = listed-open config source old (admitted end old.release config.settings config.change config.now)
released-open config source old item (At ask left faults next) = refl

heard-open : (config : Setup) (source : Source) (place : ℕ) (told : LaneAnswer) (slot : Slot) → open_one (heard_at config source place told slot) ≡ open_one slot
heard-open config source zero told (Asking old release) = released-open config source old (item_after told release) (item_after told release).point
heard-open config source (suc place) told (Asking old release) = refl
heard-open config source zero told (Listing set there lists) = refl
heard-open config source (suc place) told (Listing set there lists) = refl
heard-open config source zero told (Refused why) = refl
heard-open config source (suc place) told (Refused why) = refl
heard-open config source zero told SettledSlot = refl
heard-open config source (suc place) told SettledSlot = refl

changed-open : (f : Slot → Slot) (slots : List Slot) (n : ℕ) → ((slot : Slot) → open_one (f slot) ≡ open_one slot) → count_open (changed_at n f slots) ≡ count_open slots
changed-open f [] n same = refl
changed-open f (slot ∷ slots) zero same = ap (λ k. k + count_open slots) (same slot)
changed-open f (slot ∷ slots) (suc n) same = ap (λ k. open_one slot + k) (changed-open f slots n same)

-- ---- settling one does

ready-open : (slot : Slot) → is_ready slot ≡ true → open_one slot ≡ 1
ready-open (Asking old release) ready = refl
ready-open (Listing set there lists) ready = refl
ready-open (Refused why) ready = refl
ready-open SettledSlot ready = absurd (cc)

closed-count : (slots : List Slot) (n : ℕ) (slot : Slot) → slice_get slots n ≡ Some slot → open_one slot ≡ 1 → count_open slots ≡ count_open (changed_at n (λ s. SettledSlot) slots) + 1
closed-count [] n slot there one = absurd (cc)
closed-count (s ∷ slots) zero slot there one =
    let same : s ≡ slot = cc in
    let here : open_one s ≡ 1 = ap open_one same ∙ one in
    omega arith
closed-count (s ∷ slots) (suc n) slot there one =
    let rest = closed-count slots n slot there one in
    omega (arith, rest)

-- ---- all events

-- the settled sources and those that aren't are all
abbrev Counted : BoardRun → Type 0
Counted w = length w.board.settled + count_open w.board.slots ≡ length w.board.config.sources

started : (config : Setup) (sources : List Source) (olds : List Old) → length olds ≡ length sources → count_open (first_slots config sources olds) ≡ length sources
started config [] olds same = refl
started config (source ∷ sources) [] same = absurd (omega (arith, same))
started config (source ∷ sources) (old ∷ olds) same =
    let rest = started config sources olds (omega (arith, same)) in
    omega (arith, rest)

absorbed-counted : (w : BoardRun) (queue : List Answered) → Counted w → Counted (take_first w queue)
absorbed-counted w [] h = h
absorbed-counted w (x ∷ queue) h = one (lane_with w.board.out x.job.no) (asker_of w.board x.job.no)
  where
    one : (from : Option ℕ) (asker : Option Asker)
        → length (took_from w.board x.job.no (lane_answer_of x) from asker).settled + count_open (took_from w.board x.job.no (lane_answer_of x) from asker).slots ≡ length (took_from w.board x.job.no (lane_answer_of x) from asker).config.sources
    one None asker = h
    one (Some from) None = h
    one (Some from) (Some a) =
        let same = changed-open (heard_at w.board.config a.source a.key.place (lane_answer_of x)) w.board.slots a.key.source (heard-open w.board.config a.source a.key.place (lane_answer_of x)) in
        omega (arith, same, h)

settled-counted : (w : BoardRun) → Counted w → Counted (happens w Settle)
settled-counted w h = one (first_ready w.board.slots) refl
  where
    two : (n : ℕ) (settled : Option Settled) → first_ready w.board.slots ≡ Some n → Counted (settle_as w n settled)
    two n None ready = h
    two n (Some settled) ready =
        let found = ready-slot w.board.slots n ready in
        let fewer = closed-count w.board.slots n found.0 found.1 (ready-open found.0 found.2) in
        let more = length-append w.board.settled (n ∷ []) in
        omega (arith, fewer, more, h)

    one : (first : Option ℕ) → first_ready w.board.slots ≡ first → Counted (settle_first w first)
    one None ready = h
    one (Some n) ready = two n (settled_of w.board n) ready

answered-counted : (w : BoardRun) (method : ℕ) (closed : Closed) (job : Option Job) → Counted w → Counted (answered w method closed job)
answered-counted w method closed None h = h
answered-counted w method closed (Some job) h = one (list_any (λ (a : Answered). nat_eq a.job.no job.no) w.queue)
  where
    one : (b : Bool) → Counted (if b then w else record w { queue = w.queue ++ (record { job = job; lane = method; closed = closed }) ∷ [] })
    one true = h
    one false = h

event-counted : (w : BoardRun) (event : Event) → Counted w → Counted (happens w event)
event-counted w (Issue lane) h = h
event-counted w (Answer lane method closed) h = answered-counted w method closed (joined (slice_get w.jobs lane)) h
event-counted w Absorb h = absorbed-counted w w.queue h
event-counted w Settle h = settled-counted w h

run-counted : (events : List Event) (w : BoardRun) → Counted w → Counted (run events w)
run-counted [] w h = h
run-counted (event ∷ events) w h = run-counted events (happens w event) (event-counted w event h)

none-open : (slots : List Slot) → count_open slots ≡ 0 → Each (λ slot. slot ≡ SettledSlot) slots
none-open [] none = tt
none-open (slot ∷ slots) none = (one slot (omega (arith, none)), none-open slots (omega (arith, none)))
  where
    one : (s : Slot) → open_one s ≡ 0 → s ≡ SettledSlot
    one (Asking old release) e = absurd (omega (arith, e))
    one (Listing set there lists) e = absurd (omega (arith, e))
    one (Refused why) e = absurd (omega (arith, e))
    one SettledSlot e = refl

all-closed : (slots : List Slot) → Each (λ slot. slot ≡ SettledSlot) slots → count_open slots ≡ 0
all-closed [] all = refl
all-closed (slot ∷ slots) all =
    let here : open_one slot ≡ 0 = ap open_one all.0 in
    let rest = all-closed slots all.1 in
    omega (arith, here, rest)

pub finished-exactly : FinishedExactly
finished-exactly config olds lanes events same =
    let w = run events (start config olds lanes) in
    let counted : Counted w = run-counted events (start config olds lanes) (zero-add (count_open (first_slots config config.sources olds)) ∙ started config config.sources olds same) in (
      λ finished. none-open w.board.slots (grind (arith, nat_tests, counted, finished)),
      λ all. let none = all-closed w.board.slots all in grind (arith, nat_tests, counted, none),
    )
