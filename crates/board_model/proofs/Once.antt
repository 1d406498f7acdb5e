-- Each source is settled once, and an item that is asked for asks.
use Rattle.std.proofs.Common.{◌≡◌, ◌≢◌, ◌<◌, ◌∙◌, ◌⊎◌, inl, inr, ℕ, zero, suc, nat_eq, Bool, true, false, List, [], ◌∷◌, ◌++◌, Contains, Option, Some, None, refl, sym, ap, subst, arith}
use Rattle.std.specs.Prelude.{if◌then◌else◌, option_map, slice_get, Result, Ok, Err}
use Rattle.std.specs.List.{list_any, slice_index_or, AllByRecursion as Each}
use Rattle.std.proofs.lemmas.Bool.{cases_Bool}
use Rattle.std.proofs.lemmas.Bool.Decides.{nat_tests}
use Rattle.std.proofs.lemmas.List.Elements.{Contains-append_cases, Contains-append_left, Contains-append_right}
use Rattle.acq_base.specs.declared.fetch.Job.{Job}
use Rattle.acq_base.specs.declared.installed.Old.{Old}
use Rattle.acq_base.specs.declared.plan.Source.{Source}
use Rattle.host_queues.specs.Lanes.{changed_at}
use Rattle.host_queues.proofs.Changes.{get-changed, get-other}
use Rattle.update_model.specs.Outcomes.{AdmittedRelease, Staying, admitted}
use Rattle.update_model.specs.Points.{Point, Over, At}
use Rattle.update_model.specs.Trails.{LaneAnswer}
use Rattle.update_model.specs.declared.ask.Closed.{Closed}
use Rattle.update_model.specs.declared.settled.Settled.{Settled}
use Rattle.update_model.specs.declared.settled.Verdict2.{Verdict2}
use Rattle.board_model.specs.Boards.{Asker, Board, asker_of, first_ready, first_slots, lane_with, settled_as, settled_of, took, took_from}
use Rattle.board_model.specs.CallLaws.{AreOnce, SourcesAreSettledOnce}
use Rattle.board_model.specs.Runs.{Answered, Event, Issue, Answer, Absorb, Settle, BoardRun, answered, happens, run, settle_as, settle_first, start, take_first, lane_answer_of}
use Rattle.board_model.specs.Slots.{Setup, Standing, Slot, Asking, Listing, Refused, SettledSlot, after_release, ask_of, heard_at, is_ready, joined, listed, item_after}
use Rattle.board_model.proofs.Events.{ready-slot}

-- a Release that is asked for asks
abbrev pub KeepsAsking : Slot → Type 0
KeepsAsking (Asking old release) = ask_of (Some release) ≢ None
KeepsAsking other = Unit {0}

-- each source is settled once, and each that isn't has an item that asks or has ended
pub record GoesWell (b : Board) : Type 0 where
  pub once : AreOnce b.settled
  pub closed : (n : ℕ) → Contains b.settled n → slice_get b.slots n ≡ Some SettledSlot
  pub back : (n : ℕ) → slice_get b.slots n ≡ Some SettledSlot → Contains b.settled n
  pub asking : Each KeepsAsking b.slots
  pub sources : (n : ℕ) (slot : Slot) → slice_get b.slots n ≡ Some slot → (source : Source) × (slice_get b.config.sources n ≡ Some source)

-- ---- at the beginning

first-asking : (config : Setup) (sources : List Source) (olds : List Old) → Each KeepsAsking (first_slots config sources olds)
first-asking config [] olds = tt
first-asking config (source ∷ sources) [] = tt
first-asking config (source ∷ sources) (old ∷ olds) = (λ none. cc, first-asking config sources olds)

first-open : (config : Setup) (sources : List Source) (olds : List Old) (n : ℕ) → slice_get (first_slots config sources olds) n ≡ Some SettledSlot → ⊥
first-open config [] olds n e = absurd (cc)
first-open config (source ∷ sources) [] n e = absurd (cc)
first-open config (source ∷ sources) (old ∷ olds) zero e = absurd (cc)
first-open config (source ∷ sources) (old ∷ olds) (suc n) e = first-open config sources olds n e

first-sources : (config : Setup) (sources : List Source) (olds : List Old) (n : ℕ) (slot : Slot) → slice_get (first_slots config sources olds) n ≡ Some slot
    → (source : Source) × (slice_get sources n ≡ Some source)
first-sources config [] olds n slot e = absurd (cc)
first-sources config (source ∷ sources) [] n slot e = absurd (cc)
first-sources config (source ∷ sources) (old ∷ olds) zero slot e = (source, refl)
first-sources config (source ∷ sources) (old ∷ olds) (suc n) slot e = first-sources config sources olds n slot e

start-well : (config : Setup) (olds : List Old) (lanes : ℕ) → GoesWell (start config olds lanes).board
start-well config olds lanes = record {
  once = tt;
  closed = λ n c. absurd (omega (arith, c.1));
  back = λ n e. absurd (first-open config config.sources olds n e);
  asking = first-asking config config.sources olds;
  sources = first-sources config config.sources olds;
}

-- ---- an answer

listed-keeps : (config : Setup) (source : Source) (old : Old) (came : Result AdmittedRelease Staying) → KeepsAsking (listed config source old came)
listed-keeps config source old (Ok set) = tt
listed-keeps config source old (Err why) = tt

listed-open : (config : Setup) (source : Source) (old : Old) (came : Result AdmittedRelease Staying) → listed config source old came ≢ SettledSlot
listed-open config source old (Ok set) e = absurd (cc)
listed-open config source old (Err why) e = absurd (cc)

released-keeps : (config : Setup) (source : Source) (old : Old) (item : Standing) (p : Point) → item.point ≡ p → KeepsAsking (after_release config source old item p)
released-keeps config source old item (Over end) is = listed-keeps config source old (admitted end old.release config.settings config.change config.now)
released-keeps config source old item (At ask left faults next) is = λ none. let asks : ask_of (Some item) ≡ Some ask = rw is refl in absurd (cc)

released-open : (config : Setup) (source : Source) (old : Old) (item : Standing) (p : Point) → after_release config source old item p ≢ SettledSlot
released-open config source old item (Over end) e = listed-open config source old (admitted end old.release config.settings config.change config.now) e
released-open config source old item (At ask left faults next) e = absurd (cc)

heard-keeps : (config : Setup) (source : Source) (place : ℕ) (told : LaneAnswer) (slot : Slot) → KeepsAsking slot → KeepsAsking (heard_at config source place told slot)
heard-keeps config source zero told (Asking old release) h = released-keeps config source old (item_after told release) (item_after told release).point refl
heard-keeps config source (suc place) told (Asking old release) h = h
heard-keeps config source zero told (Listing set there lists) h = tt
heard-keeps config source (suc place) told (Listing set there lists) h = tt
heard-keeps config source zero told (Refused why) h = tt
heard-keeps config source (suc place) told (Refused why) h = tt
heard-keeps config source zero told SettledSlot h = tt
heard-keeps config source (suc place) told SettledSlot h = tt

heard-open : (config : Setup) (source : Source) (place : ℕ) (told : LaneAnswer) (slot : Slot) → heard_at config source place told slot ≡ SettledSlot → slot ≡ SettledSlot
heard-open config source zero told (Asking old release) e = absurd (released-open config source old (item_after told release) (item_after told release).point e)
heard-open config source (suc place) told (Asking old release) e = e
heard-open config source zero told (Listing set there lists) e = absurd (cc)
heard-open config source (suc place) told (Listing set there lists) e = absurd (cc)
heard-open config source zero told (Refused why) e = e
heard-open config source (suc place) told (Refused why) e = e
heard-open config source zero told SettledSlot e = e
heard-open config source (suc place) told SettledSlot e = e

changed-each : (f : Slot → Slot) (n : ℕ) (slots : List Slot) → ((slot : Slot) → KeepsAsking slot → KeepsAsking (f slot)) → Each KeepsAsking slots → Each KeepsAsking (changed_at n f slots)
changed-each f n [] keeps h = tt
changed-each f zero (slot ∷ slots) keeps h = (keeps slot h.0, h.1)
changed-each f (suc n) (slot ∷ slots) keeps h = (h.0, changed-each f n slots keeps h.1)

-- a slot that is changed so is closed where it was
changed-closed : (f : Slot → Slot) (m n : ℕ) (slots : List Slot) → ((slot : Slot) → f slot ≡ SettledSlot → slot ≡ SettledSlot) → slice_get (changed_at m f slots) n ≡ Some SettledSlot → slice_get slots n ≡ Some SettledSlot
changed-closed f m n [] back e = e
changed-closed f zero zero (slot ∷ slots) back e = ap Some (back slot cc)
changed-closed f zero (suc n) (slot ∷ slots) back e = e
changed-closed f (suc m) zero (slot ∷ slots) back e = e
changed-closed f (suc m) (suc n) (slot ∷ slots) back e = changed-closed f m n slots back e

closed-changed : (f : Slot → Slot) (m n : ℕ) (slots : List Slot) → f SettledSlot ≡ SettledSlot → slice_get slots n ≡ Some SettledSlot → slice_get (changed_at m f slots) n ≡ Some SettledSlot
closed-changed f m n [] same e = e
closed-changed f zero zero (slot ∷ slots) same e = let is : slot ≡ SettledSlot = cc in ap (λ (s : Slot). Some (f s)) is ∙ ap Some same
closed-changed f zero (suc n) (slot ∷ slots) same e = e
closed-changed f (suc m) zero (slot ∷ slots) same e = e
closed-changed f (suc m) (suc n) (slot ∷ slots) same e = closed-changed f m n slots same e

heard-closed : (config : Setup) (source : Source) (place : ℕ) (told : LaneAnswer) → heard_at config source place told SettledSlot ≡ SettledSlot
heard-closed config source zero told = refl
heard-closed config source (suc place) told = refl

was-there : (f : Slot → Slot) (m n : ℕ) (slots : List Slot) (slot : Slot) → slice_get (changed_at m f slots) n ≡ Some slot → (old : Slot) × (slice_get slots n ≡ Some old)
was-there f m n [] slot e = absurd (cc)
was-there f zero zero (s ∷ slots) slot e = (s, refl)
was-there f zero (suc n) (s ∷ slots) slot e = (slot, e)
was-there f (suc m) zero (s ∷ slots) slot e = (s, refl)
was-there f (suc m) (suc n) (s ∷ slots) slot e = was-there f m n slots slot e

took-well : (b : Board) (number from : ℕ) (a : Asker) (told : LaneAnswer) → GoesWell b → GoesWell (took b number a from told)
took-well b number from a told h = record {
  once = h.once;
  closed = λ n c. closed-changed (heard_at b.config a.source a.key.place told) a.key.source n b.slots (heard-closed b.config a.source a.key.place told) (h.closed n c);
  back = λ n e. h.back n (changed-closed (heard_at b.config a.source a.key.place told) a.key.source n b.slots (heard-open b.config a.source a.key.place told) e);
  asking = changed-each (heard_at b.config a.source a.key.place told) a.key.source b.slots (heard-keeps b.config a.source a.key.place told) h.asking;
  sources = λ n slot e. let old = was-there (heard_at b.config a.source a.key.place told) a.key.source n b.slots slot e in h.sources n old.0 old.1;
}

take-well : (w : BoardRun) (queue : List Answered) → GoesWell w.board → GoesWell (take_first w queue).board
take-well w [] h = h
take-well w (x ∷ queue) h = one (lane_with w.board.out x.job.no) (asker_of w.board x.job.no)
  where
    one : (from : Option ℕ) (asker : Option Asker) → GoesWell (took_from w.board x.job.no (lane_answer_of x) from asker)
    one None asker = h
    one (Some from) None = h
    one (Some from) (Some a) = took-well w.board x.job.no from a (lane_answer_of x) h

-- ---- a source is settled

new-behind : (ns : List ℕ) (n : ℕ) → Each (λ m. m ≢ n) ns → AreOnce ns → AreOnce (ns ++ n ∷ [])
new-behind [] n new once = (tt, tt)
new-behind (m ∷ ns) n new once =
    let apart : m ≢ n = new.0 in
    (behind ns once.0 (λ same. apart (sym same)), new-behind ns n new.1 once.1)
  where
    behind : (xs : List ℕ) → Each (λ x. x ≢ m) xs → n ≢ m → Each (λ x. x ≢ m) (xs ++ n ∷ [])
    behind [] h new = (new, tt)
    behind (x ∷ xs) h new = (h.0, behind xs h.1 new)

not-among : (ns : List ℕ) (n : ℕ) → (Contains ns n → ⊥) → Each (λ m. m ≢ n) ns
not-among [] n none = tt
not-among (m ∷ ns) n none = ((λ same. none (0, omega arith, same)), not-among ns n (λ c. none (suc c.0, omega (arith, c.1), c.2)))

settled-well : (b : Board) (n : ℕ) (verdict : Verdict2) → first_ready b.slots ≡ Some n → GoesWell b → GoesWell (settled_as b n verdict)
settled-well b n verdict ready h = record {
  once = new-behind b.settled n (not-among b.settled n (λ c. still-open c)) h.once;
  closed = λ m c. closes m (Contains-append_cases b.settled (n ∷ []) m c);
  back = λ m e. opened m e (cases_Bool (nat_eq m n));
  asking = changed-each (λ slot. SettledSlot) n b.slots (λ slot keeps. tt) h.asking;
  sources = λ m slot e. let old = was-there (λ (s : Slot). SettledSlot) n m b.slots slot e in h.sources m old.0 old.1;
}
  where
    found : (slot : Slot) × (slice_get b.slots n ≡ Some slot) × (is_ready slot ≡ true)
    found = ready-slot b.slots n ready

    still-open : Contains b.settled n → ⊥
    still-open c =
        let both : Some found.0 ≡ Some SettledSlot = sym found.1 ∙ h.closed n c in
        let same : found.0 ≡ SettledSlot = cc in
        let none : is_ready SettledSlot ≡ true = subst (λ (s : Slot). is_ready s ≡ true) same found.2 in
        cc

    now : slice_get (changed_at n (λ slot. SettledSlot) b.slots) n ≡ Some SettledSlot
    now = get-changed (λ (slot : Slot). SettledSlot) b.slots n ∙ ap (option_map (λ (slot : Slot). SettledSlot)) found.1

    closes : (m : ℕ) → Contains b.settled m ⊎ Contains (n ∷ []) m → slice_get (changed_at n (λ slot. SettledSlot) b.slots) m ≡ Some SettledSlot
    closes m (inl c) = closed-changed (λ (slot : Slot). SettledSlot) n m b.slots refl (h.closed m c)
    closes m (inr c) = let same : n ≡ m = only c.0 c.1 c.2 in subst (λ (k : ℕ). slice_get (changed_at n (λ slot. SettledSlot) b.slots) k ≡ Some SettledSlot) same now
      where
        only : (k : ℕ) → k < 1 → slice_index_or (n ∷ []) k m ≡ m → n ≡ m
        only zero below is = is
        only (suc k) below is = absurd (omega (arith, below))

    opened : (m : ℕ) → slice_get (changed_at n (λ slot. SettledSlot) b.slots) m ≡ Some SettledSlot → (nat_eq m n ≡ true) ⊎ (nat_eq m n ≡ false) → Contains (b.settled ++ n ∷ []) m
    opened m e (inl is) = let same : m ≡ n = grind (arith, nat_tests, is) in Contains-append_right b.settled (n ∷ []) m (0, omega arith, sym same)
    opened m e (inr other) = Contains-append_left b.settled (n ∷ []) m (h.back m (sym (get-other (λ (slot : Slot). SettledSlot) b.slots n m other) ∙ e))

settle-well : (w : BoardRun) → GoesWell w.board → GoesWell (happens w Settle).board
settle-well w h = one (first_ready w.board.slots) refl
  where
    two : (n : ℕ) (settled : Option Settled) → first_ready w.board.slots ≡ Some n → GoesWell (settle_as w n settled).board
    two n None ready = h
    two n (Some settled) ready = settled-well w.board n settled.verdict ready h

    one : (first : Option ℕ) → first_ready w.board.slots ≡ first → GoesWell (settle_first w first).board
    one None ready = h
    one (Some n) ready = two n (settled_of w.board n) ready

answered-well : (w : BoardRun) (method : ℕ) (closed : Closed) (job : Option Job) → GoesWell w.board → GoesWell (answered w method closed job).board
answered-well w method closed None h = h
answered-well w method closed (Some job) h = one (list_any (λ (a : Answered). nat_eq a.job.no job.no) w.queue)
  where
    one : (c : Bool) → GoesWell (if c then w else record w { queue = w.queue ++ (record { job = job; lane = method; closed = closed }) ∷ [] }).board
    one true = h
    one false = h

event-well : (w : BoardRun) (event : Event) → GoesWell w.board → GoesWell (happens w event).board
event-well w (Issue lane) h = record { once = h.once; closed = h.closed; back = h.back; asking = h.asking; sources = h.sources }
event-well w (Answer lane method closed) h = answered-well w method closed (joined (slice_get w.jobs lane)) h
event-well w Absorb h = take-well w w.queue h
event-well w Settle h = settle-well w h

run-well : (events : List Event) (w : BoardRun) → GoesWell w.board → GoesWell (run events w).board
run-well [] w h = h
run-well (event ∷ events) w h = run-well events (happens w event) (event-well w event h)

pub boards-go-well : (config : Setup) (olds : List Old) (lanes : ℕ) (events : List Event) → GoesWell (run events (start config olds lanes)).board
boards-go-well config olds lanes events = run-well events (start config olds lanes) (start-well config olds lanes)

pub settled-once : SourcesAreSettledOnce
settled-once config olds notes b r =
    let h : GoesWell b = subst (λ (w : BoardRun). GoesWell w.board) r.leads (boards-go-well config olds r.lanes r.events) in
    record { once = h.once; settled = λ n. (h.closed n, h.back n) }
