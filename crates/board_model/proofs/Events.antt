-- Each event leaves each source standing.
use Rattle.std.proofs.Common.{◌≡◌, ◌∙◌, ◌⊎◌, inl, inr, ℕ, zero, suc, ◌+◌, nat_eq, Bool, true, false, List, [], ◌∷◌, ◌++◌, map, Option, Some, None, refl, sym, ap, subst, arith}
use Rattle.std.specs.Prelude.{if◌then◌else◌, option_map, option_and_then, slice_get}
use Rattle.std.proofs.lemmas.Bool.{cases_Bool}
use Rattle.std.proofs.lemmas.List.{append-nil, map-append}
use Rattle.std.proofs.lemmas.Bool.Decides.{nat_tests}
use Rattle.std.proofs.Math.Path.{fun_ext}
use Rattle.std.specs.List.{list_any}
use Rattle.acq_base.specs.declared.fetch.Job.{Job}
use Rattle.acq_base.specs.declared.installed.Old.{Old}
use Rattle.acq_base.specs.declared.plan.Source.{Source}
use Rattle.host_queues.specs.Lanes.{changed_at}
use Rattle.host_queues.proofs.Changes.{get-changed, get-other}
use Rattle.update_model.specs.Points.{entry}
use Rattle.update_model.specs.Releases.{release_text}
use Rattle.update_model.specs.Trails.{LaneAnswer}
use Rattle.update_model.specs.Walks.{release_walk}
use Rattle.update_model.specs.declared.ask.Ask.{Ask}
use Rattle.update_model.specs.declared.ask.Closed.{Closed}
use Rattle.update_model.specs.declared.settled.Settled.{Settled}
use Rattle.update_model.specs.declared.settled.Verdict2.{Verdict2}
use Rattle.board_model.specs.Boards.{Board, Asker, asker_of, first_ready, first_release, first_slots, heard_by, issued, issued_job, lane_with, no_verdict, settled_as, settled_of, took, took_from}
use Rattle.board_model.specs.Keys.{key_at, path_at, same_key}
use Rattle.board_model.specs.Laws.{BoardsStand}
use Rattle.board_model.specs.Runs.{Answered, Event, Issue, Answer, Absorb, Settle, Note, BoardRun, answered, entry_of, sent_job, without_job, happens, note_of, noted, run, settle_as, settle_first, start, take_first, lane_answer_of}
use Rattle.board_model.specs.Settling.{settled_in}
use Rattle.board_model.specs.Slots.{Setup, Slot, Asking, SettledSlot, ask_of, item_in, item_at, joined, heard_at, is_ready}
use Rattle.board_model.specs.Stands.{History, IsOpen, SourceStands, StandsAt, AllStand, history_of, of_key}
use Rattle.board_model.specs.declared.key.Key.{Key}
use Rattle.board_model.proofs.Hearing.{none-heard, of-same, of-other, apart-source, apart-place}
use Rattle.board_model.proofs.Places.{bound}
use Rattle.board_model.proofs.Sources.{with_note, heard-open}

-- ---- at the beginning

pub first-slot : (config : Setup) (sources : List Source) (olds : List Old) (n : ℕ) (source : Source) (old : Old)
    → slice_get sources n ≡ Some source → slice_get olds n ≡ Some old
    → slice_get (first_slots config sources olds) n ≡ Some (Asking old (first_release config source))
first-slot config [] olds n source old s o = absurd (cc)
first-slot config (x ∷ xs) [] n source old s o = absurd (cc)
first-slot config (x ∷ xs) (y ∷ ys) zero source old s o =
    let a : x ≡ source = cc in
    let b : y ≡ old = cc in
    ap (λ (z : Source). Some (Asking y (first_release config z))) a ∙ ap (λ (z : Old). Some (Asking z (first_release config source))) b
first-slot config (x ∷ xs) (y ∷ ys) (suc n) source old s o = first-slot config xs ys n source old s o

mapped-there : {A B : Type 0} (f : A → B) (xs : List A) (n : ℕ) (x : A) → slice_get xs n ≡ Some x → slice_get (map f xs) n ≡ Some (f x)
mapped-there f [] n x e = absurd (cc)
mapped-there f (y ∷ ys) zero x e = let same : y ≡ x = cc in ap (λ z. Some (f z)) same
mapped-there f (y ∷ ys) (suc n) x e = mapped-there f ys n x e

start-stands : (config : Setup) (olds : List Old) (lanes : ℕ) → AllStand config olds (start config olds lanes)
start-stands config olds lanes = record {
  config_is = refl;
  sources = λ n source old s o. record {
    slot = Asking old (first_release config source);
    verdict = no_verdict;
    slot_is = first-slot config config.sources olds n source old s o;
    verdict_is = mapped-there (λ (x : Source). no_verdict) config.sources n source s;
    stands = inl (refl, none-heard config.settings.retries n release_text (release_walk source), λ place. refl);
  };
  log = refl;
}

-- ---- an answer is taken in

-- what is known of an item that asks
record IsAsker (b : Board) (a : Asker) : Type 0 where
  source : slice_get b.config.sources a.key.source ≡ Some a.source
  slot : Slot
  slot_is : slice_get b.slots a.key.source ≡ Some slot
  asks : ask_of (item_in slot a.key.place) ≡ Some a.ask

slot-asks : (slots : List Slot) (key : Key) (ask : Ask) → ask_of (item_at slots key) ≡ Some ask → (slot : Slot) × (slice_get slots key.source ≡ Some slot) × (ask_of (item_in slot key.place) ≡ Some ask)
slot-asks slots key ask e = one (slice_get slots key.source) refl e
  where
    one : (o : Option Slot) → slice_get slots key.source ≡ o → ask_of (option_and_then (λ slot. item_in slot key.place) o) ≡ Some ask
        → (slot : Slot) × (slice_get slots key.source ≡ Some slot) × (ask_of (item_in slot key.place) ≡ Some ask)
    one None is e = absurd (cc)
    one (Some slot) is e = (slot, is, e)

is-asker : (b : Board) (number : ℕ) (a : Asker) → asker_of b number ≡ Some a → IsAsker b a
is-asker b number a e =
    let k = bound (key_at b.config.sources number) _ a e in
    let s = bound (slice_get b.config.sources k.0.source) _ a k.2 in
    let q = bound (ask_of (item_at b.slots k.0)) _ a s.2 in
    let same : (record { key = k.0; source = s.0; ask = q.0 }) ≡ a = cc in
    let there = slot-asks b.slots k.0 q.0 q.1 in
    subst (λ (x : Asker). IsAsker b x) same (record { source = s.1; slot = there.0; slot_is = there.1; asks = there.2 })

-- the history of a source with one more note
history-here : (notes : List Note) (note : Note) → history_of note.key.source (notes ++ note ∷ []) ≡ with_note (history_of note.key.source notes) note.key.place note
history-here notes note = fun_ext (λ place. one place (cases_Bool (nat_eq place note.key.place)))
  where
    one : (place : ℕ) → (nat_eq place note.key.place ≡ true) ⊎ (nat_eq place note.key.place ≡ false)
        → of_key (record { source = note.key.source; place = place }) (notes ++ note ∷ []) ≡ with_note (history_of note.key.source notes) note.key.place note place
    one place (inl is) =
        let key : Key = record { source = note.key.source; place = place } in
        let same : same_key note.key key ≡ true = grind (arith, nat_tests) in
        rw is (of-same key notes note same)
    one place (inr isnt) =
        let key : Key = record { source = note.key.source; place = place } in
        rw isnt (of-other key notes note (apart-place note.key key isnt))

history-there : (n : ℕ) (notes : List Note) (note : Note) → nat_eq n note.key.source ≡ false → history_of n (notes ++ note ∷ []) ≡ history_of n notes
history-there n notes note apart = fun_ext (λ place. of-other (record { source = n; place = place }) notes note (apart-source note.key (record { source = n; place = place }) apart))

-- a source of which no item asks isn't closed where one does
pub still-open : (config : Setup) (n : ℕ) (source : Source) (old : Old) (slot : Slot) (verdict : Verdict2) (history : History) (place : ℕ) (ask : Ask)
    → SourceStands config n source old slot verdict history → ask_of (item_in slot place) ≡ Some ask → IsOpen config n source old slot history
still-open config n source old slot verdict history place ask (inl h) asks = h
still-open config n source old slot verdict history place ask (inr h) asks =
    let none : ask_of (item_in SettledSlot place) ≡ Some ask = subst (λ (s : Slot). ask_of (item_in s place) ≡ Some ask) h.0 asks in
    absurd (cc)

took-stands : (config : Setup) (olds : List Old) (w : BoardRun) (jobs : List (Option Job)) (queue : List Answered) (number from : ℕ) (a : Asker) (told : LaneAnswer) → AllStand config olds w → IsAsker w.board a
    → AllStand config olds (record { board = took w.board number a from told; jobs = jobs; queue = queue; notes = w.notes ++ note_of a told ∷ [] })
took-stands config olds w jobs queue number from a told h asker = record {
  config_is = h.config_is;
  sources = λ n source old s o. one n source old s o (h.sources n source old s o) (cases_Bool (nat_eq n a.key.source));
  log = ap (λ es. es ++ entry_of (note_of a told) ∷ []) h.log ∙ sym (map-append entry_of w.notes (note_of a told ∷ []));
}
  where
    one : (n : ℕ) (source : Source) (old : Old) → slice_get config.sources n ≡ Some source → slice_get olds n ≡ Some old → StandsAt config n source old w
        → (nat_eq n a.key.source ≡ true) ⊎ (nat_eq n a.key.source ≡ false)
        → StandsAt config n source old (record { board = took w.board number a from told; jobs = jobs; queue = queue; notes = w.notes ++ note_of a told ∷ [] })
    one n source old s o at (inr apart) = record {
      slot = at.slot;
      verdict = at.verdict;
      slot_is = get-other (heard_at w.board.config a.source a.key.place told) w.board.slots a.key.source n apart ∙ at.slot_is;
      verdict_is = at.verdict_is;
      stands = subst (λ (history : History). SourceStands config n source old at.slot at.verdict history) (sym (history-there n w.notes (note_of a told) apart)) at.stands;
    }
    one n source old s o at (inl here) =
        let is : n ≡ a.key.source = grind (arith, nat_tests, here) in
        let slot_same : Some asker.slot ≡ Some at.slot = sym asker.slot_is ∙ ap (slice_get w.board.slots) (sym is) ∙ at.slot_is in
        let slot : asker.slot ≡ at.slot = cc in
        let source_same : Some a.source ≡ Some source = sym asker.source ∙ ap (λ (c : Setup). slice_get c.sources a.key.source) h.config_is ∙ ap (slice_get config.sources) (sym is) ∙ s in
        let the_source : a.source ≡ source = cc in
        let asks : ask_of (item_in at.slot a.key.place) ≡ Some a.ask = subst (λ (x : Slot). ask_of (item_in x a.key.place) ≡ Some a.ask) slot asker.asks in
        let entry_is : entry_of (note_of a told) ≡ entry n (path_at source a.key.place) a.ask told =
        ap (λ (x : ℕ). entry x (path_at a.source a.key.place) a.ask told) (sym is) ∙ ap (λ (x : Source). entry n (path_at x a.key.place) a.ask told) the_source in
        let open_slot : IsOpen config n source old at.slot (history_of n w.notes) = still-open config n source old at.slot at.verdict (history_of n w.notes) a.key.place a.ask at.stands asks in
        let heard : IsOpen config n source old (heard_at config source a.key.place told at.slot) (with_note (history_of n w.notes) a.key.place (note_of a told)) =
        heard-open config n source old at.slot (history_of n w.notes) a.key.place a.ask (note_of a told) open_slot asks refl entry_is in
        let history : history_of n (w.notes ++ note_of a told ∷ []) ≡ with_note (history_of n w.notes) a.key.place (note_of a told) =
        ap (λ (x : ℕ). history_of x (w.notes ++ note_of a told ∷ [])) is ∙ history-here w.notes (note_of a told) ∙ ap (λ (x : ℕ). with_note (history_of x w.notes) a.key.place (note_of a told)) (sym is) in
        record {
          slot = heard_at config source a.key.place told at.slot;
          verdict = at.verdict;
          slot_is = ap (slice_get (heard_by w.board a told)) is
              ∙ get-changed (heard_at w.board.config a.source a.key.place told) w.board.slots a.key.source
              ∙ ap (option_map (heard_at w.board.config a.source a.key.place told)) (ap (slice_get w.board.slots) (sym is) ∙ at.slot_is)
              ∙ ap (λ (c : Setup). Some (heard_at c a.source a.key.place told at.slot)) h.config_is
              ∙ ap (λ (x : Source). Some (heard_at config x a.key.place told at.slot)) the_source;
          verdict_is = at.verdict_is;
          stands = inl (subst (λ (x : History). IsOpen config n source old (heard_at config source a.key.place told at.slot) x) (sym history) heard);
        }

-- where nothing is noted, the board stays
kept-stands : (config : Setup) (olds : List Old) (w : BoardRun) (jobs : List (Option Job)) (queue : List Answered) (board : Board) (notes : List Note) → board ≡ w.board → notes ≡ [] → AllStand config olds w
    → AllStand config olds (record { board = board; jobs = jobs; queue = queue; notes = w.notes ++ notes })
kept-stands config olds w jobs queue board notes b none h =
    let same : w.notes ≡ w.notes ++ notes = sym (append-nil w.notes) ∙ ap (λ ns. w.notes ++ ns) (sym none) in
    let base : AllStand config olds (record { board = w.board; jobs = jobs; queue = queue; notes = w.notes }) = record { config_is = h.config_is; sources = λ n source old s o. carried (h.sources n source old s o); log = h.log } in
    subst (λ (ns : List Note). AllStand config olds (record { board = board; jobs = jobs; queue = queue; notes = ns })) same
    (subst (λ (x : Board). AllStand config olds (record { board = x; jobs = jobs; queue = queue; notes = w.notes })) (sym b) base)
  where
    carried : {n : ℕ} {source : Source} {old : Old} → StandsAt config n source old w → StandsAt config n source old (record { board = w.board; jobs = jobs; queue = queue; notes = w.notes })
    carried at = record { slot = at.slot; verdict = at.verdict; slot_is = at.slot_is; verdict_is = at.verdict_is; stands = at.stands }

absorb-stands : (config : Setup) (olds : List Old) (w : BoardRun) (queue : List Answered) → AllStand config olds w → AllStand config olds (take_first w queue)
absorb-stands config olds w [] h = h
absorb-stands config olds w (x ∷ queue) h = one (lane_with w.board.out x.job.no) (asker_of w.board x.job.no) refl
  where
    one : (from : Option ℕ) (asker : Option Asker) → asker_of w.board x.job.no ≡ asker
        → AllStand config olds (record { board = took_from w.board x.job.no (lane_answer_of x) from asker; jobs = without_job from asker w.jobs; queue = queue; notes = w.notes ++ noted (lane_answer_of x) from asker })
    one None asker e = kept-stands config olds w w.jobs queue w.board [] refl refl h
    one (Some from) None e = kept-stands config olds w w.jobs queue w.board [] refl refl h
    one (Some from) (Some a) e = took-stands config olds w (changed_at from (λ (other : Option Job). None) w.jobs) queue x.job.no from a (lane_answer_of x) h (is-asker w.board x.job.no a e)

-- ---- a source is settled

pub ready-slot : (slots : List Slot) (n : ℕ) → first_ready slots ≡ Some n → (slot : Slot) × (slice_get slots n ≡ Some slot) × (is_ready slot ≡ true)
ready-slot [] n e = absurd (cc)
ready-slot (slot ∷ slots) n e = elim (cases_Bool (is_ready slot)) [
  | inl is ↦
      let zero_is : Some 0 ≡ Some n = rw is at e in
      let same : 0 ≡ n = cc in
      (slot, ap (λ (k : ℕ). slice_get (slot ∷ slots) k) (sym same), is)
  | inr isnt ↦ later (ready-slot slots) (first_ready slots) refl (rw isnt at e)
]
  where
    later : ((k : ℕ) → first_ready slots ≡ Some k → (s : Slot) × (slice_get slots k ≡ Some s) × (is_ready s ≡ true)) → (o : Option ℕ) → first_ready slots ≡ o → option_map (λ k. k + 1) o ≡ Some n
        → (s : Slot) × (slice_get (slot ∷ slots) n ≡ Some s) × (is_ready s ≡ true)
    later find None is e = absurd (cc)
    later find (Some k) is e =
        let found = find k is in
        let same : suc k ≡ n = let q : k + 1 ≡ n = cc in omega arith in
        (found.0, ap (λ (m : ℕ). slice_get (slot ∷ slots) m) (sym same) ∙ found.1, found.2)

settled-stands : (config : Setup) (olds : List Old) (w : BoardRun) (m : ℕ) (settled : Settled) → AllStand config olds w → first_ready w.board.slots ≡ Some m → settled_of w.board m ≡ Some settled
    → AllStand config olds (record w { board = settled_as w.board m settled.verdict })
settled-stands config olds w m settled h ready is = record {
  config_is = h.config_is;
  sources = λ n source old s o. one n source old s o (h.sources n source old s o) (cases_Bool (nat_eq n m));
  log = h.log;
}
  where
    one : (n : ℕ) (source : Source) (old : Old) → slice_get config.sources n ≡ Some source → slice_get olds n ≡ Some old → StandsAt config n source old w
        → (nat_eq n m ≡ true) ⊎ (nat_eq n m ≡ false) → StandsAt config n source old (record w { board = settled_as w.board m settled.verdict })
    one n source old s o at (inr apart) = record {
      slot = at.slot;
      verdict = at.verdict;
      slot_is = get-other (λ (slot : Slot). SettledSlot) w.board.slots m n apart ∙ at.slot_is;
      verdict_is = get-other (λ (other : Verdict2). settled.verdict) w.board.verdicts m n apart ∙ at.verdict_is;
      stands = at.stands;
    }
    one n source old s o at (inl here) =
        let same : n ≡ m = grind (arith, nat_tests, here) in
        let found = ready-slot w.board.slots m ready in
        let slot_same : Some found.0 ≡ Some at.slot = sym found.1 ∙ ap (slice_get w.board.slots) (sym same) ∙ at.slot_is in
        let slot : found.0 ≡ at.slot = cc in
        let is_ready_slot : is_ready at.slot ≡ true = subst (λ (x : Slot). is_ready x ≡ true) slot found.2 in
        let x = bound (slice_get w.board.config.sources m) _ settled is in
        let y = bound (slice_get w.board.slots m) _ settled x.2 in
        let source_same : Some x.0 ≡ Some source = sym x.1 ∙ ap (λ (c : Setup). slice_get c.sources m) h.config_is ∙ ap (slice_get config.sources) (sym same) ∙ s in
        let the_source : x.0 ≡ source = cc in
        let y_same : Some y.0 ≡ Some at.slot = sym y.1 ∙ ap (slice_get w.board.slots) (sym same) ∙ at.slot_is in
        let the_slot : y.0 ≡ at.slot = cc in
        let comes : settled_in source at.slot ≡ Some settled = subst (λ (z : Slot). settled_in source z ≡ Some settled) the_slot (subst (λ (z : Source). settled_in z y.0 ≡ Some settled) the_source y.2) in
        record {
          slot = SettledSlot;
          verdict = settled.verdict;
          slot_is = ap (slice_get (changed_at m (λ (slot : Slot). SettledSlot) w.board.slots)) same ∙ get-changed (λ (slot : Slot). SettledSlot) w.board.slots m
              ∙ ap (option_map (λ (slot : Slot). SettledSlot)) (ap (slice_get w.board.slots) (sym same) ∙ at.slot_is);
          verdict_is = ap (slice_get (changed_at m (λ (other : Verdict2). settled.verdict) w.board.verdicts)) same ∙ get-changed (λ (other : Verdict2). settled.verdict) w.board.verdicts m
              ∙ ap (option_map (λ (other : Verdict2). settled.verdict)) (ap (slice_get w.board.verdicts) (sym same) ∙ at.verdict_is);
          stands = inr (refl, record { slot = at.slot; open_slot = was-open at.slot at.stands is_ready_slot; ready = is_ready_slot; settled = settled; comes_to = comes; told = refl });
        }
      where
        was-open : (slot : Slot) → SourceStands config n source old slot at.verdict (history_of n w.notes) → is_ready slot ≡ true → IsOpen config n source old slot (history_of n w.notes)
        was-open slot (inl open_slot) r = open_slot
        was-open slot (inr closed) r =
            let none : false ≡ true = subst (λ (x : Slot). is_ready x ≡ true) closed.0 r in
            absurd (cc)

settle-stands : (config : Setup) (olds : List Old) (w : BoardRun) → AllStand config olds w → AllStand config olds (happens w Settle)
settle-stands config olds w h = one (first_ready w.board.slots) refl
  where
    two : (n : ℕ) (settled : Option Settled) → first_ready w.board.slots ≡ Some n → settled_of w.board n ≡ settled → AllStand config olds (settle_as w n settled)
    two n None r e = h
    two n (Some settled) r e = settled-stands config olds w n settled h r e

    one : (first : Option ℕ) → first_ready w.board.slots ≡ first → AllStand config olds (settle_first w first)
    one None e = h
    one (Some n) e = two n (settled_of w.board n) e refl

-- ---- all events

answer-stands : (config : Setup) (olds : List Old) (w : BoardRun) (method : ℕ) (closed : Closed) (job : Option Job) → AllStand config olds w → AllStand config olds (answered w method closed job)
answer-stands config olds w method closed None h = h
answer-stands config olds w method closed (Some job) h = one (list_any (λ (a : Answered). nat_eq a.job.no job.no) w.queue)
  where
    one : (b : Bool) → AllStand config olds (if b then w else record w { queue = w.queue ++ (record { job = job; lane = method; closed = closed }) ∷ [] })
    one true = h
    one false = record { config_is = h.config_is; sources = λ n source old s o. carried (h.sources n source old s o); log = h.log }
      where
        carried : {n : ℕ} {source : Source} {old : Old} → StandsAt config n source old w
            → StandsAt config n source old (record w { queue = w.queue ++ (record { job = job; lane = method; closed = closed }) ∷ [] })
        carried at = record { slot = at.slot; verdict = at.verdict; slot_is = at.slot_is; verdict_is = at.verdict_is; stands = at.stands }

issue-stands : (config : Setup) (olds : List Old) (w : BoardRun) (lane : ℕ) → AllStand config olds w → AllStand config olds (happens w (Issue lane))
issue-stands config olds w lane h = record { config_is = h.config_is; sources = λ n source old s o. carried (h.sources n source old s o); log = h.log }
  where
    carried : {n : ℕ} {source : Source} {old : Old} → StandsAt config n source old w → StandsAt config n source old (record w { board = issued w.board lane; jobs = sent_job lane (issued_job w.board lane) w.jobs })
    carried at = record { slot = at.slot; verdict = at.verdict; slot_is = at.slot_is; verdict_is = at.verdict_is; stands = at.stands }

event-stands : (config : Setup) (olds : List Old) (w : BoardRun) (event : Event) → AllStand config olds w → AllStand config olds (happens w event)
event-stands config olds w (Issue lane) h = issue-stands config olds w lane h
event-stands config olds w (Answer lane method closed) h = answer-stands config olds w method closed (joined (slice_get w.jobs lane)) h
event-stands config olds w Absorb h = absorb-stands config olds w w.queue h
event-stands config olds w Settle h = settle-stands config olds w h

run-stands : (config : Setup) (olds : List Old) (events : List Event) (w : BoardRun) → AllStand config olds w → AllStand config olds (run events w)
run-stands config olds [] w h = h
run-stands config olds (event ∷ events) w h = run-stands config olds events (happens w event) (event-stands config olds w event h)

pub boards-stand : BoardsStand
boards-stand config olds lanes events = run-stands config olds events (start config olds lanes) (start-stands config olds lanes)
