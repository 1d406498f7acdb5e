-- Boards that read anew what is installed of a source.
use Rattle.std.proofs.Common.{◌≡◌, ◌≢◌, ◌∙◌, ℕ, zero, suc, ◌+◌, nat_eq, Bool, true, false, List, [], ◌∷◌, ◌++◌, map, Option, Some, None, refl, sym, ap, subst}
use Rattle.std.specs.Prelude.{if◌then◌else◌, bytes_eq, option_map, option_and_then, slice_get, Result, Ok, Err}
use Rattle.std.specs.List.{list_any}
use Rattle.std.proofs.Math.Path.{fun_ext}
use Rattle.acq_base.specs.declared.fetch.Job.{Job}
use Rattle.acq_base.specs.declared.installed.Old.{Old}
use Rattle.acq_base.specs.declared.plan.Source.{Source}
use Rattle.acq_base.specs.declared.plan.Target.{Target}
use Rattle.host_queues.specs.Lanes.{Lanes, changed_at, first_of, freed_at, taken_from}
use Rattle.host_queues.proofs.Changes.{get-changed, length-changed}
use Rattle.update_model.specs.Obtained.{◌>>=◌}
use Rattle.update_model.specs.Outcomes.{AdmittedRelease, Staying, admitted}
use Rattle.update_model.specs.Points.{Point, Over, At}
use Rattle.update_model.specs.Trails.{LaneAnswer}
use Rattle.update_model.specs.declared.ask.Ask.{Ask}
use Rattle.update_model.specs.declared.ask.Closed.{Closed}
use Rattle.update_model.specs.declared.settled.Settled.{Settled}
use Rattle.update_model.specs.declared.settled.Verdict2.{Verdict2}
use Rattle.board_model.specs.Boards.{Asker, Board, absorbed, asker_of, first_board, first_ready, first_release, first_slots, heard_by, issued, issued_job, job_for, lane_with, put_heard, put_out, settled_as, settled_of, took, took_from}
use Rattle.board_model.specs.Keys.{key_at}
use Rattle.board_model.specs.ReadAnew.{beside, with_old, StandsOn, ReachedBeside, ReadAnewAreReached}
use Rattle.board_model.specs.Reached.{Reached}
use Rattle.board_model.specs.Runs.{Answered, Event, Issue, Answer, Absorb, Settle, BoardRun, Note, answered, happens, lane_answer_of, noted, run, sent_job, settle_as, settle_first, start, take_first, without_job}
use Rattle.board_model.specs.Settling.{settled_in}
use Rattle.board_model.specs.Slots.{Setup, Standing, Slot, Asking, Listing, Refused, SettledSlot, after_release, ask_of, heard_at, is_ready, item_after, item_at, item_in, items_in, joined, listed}
use Rattle.board_model.specs.Uses.{WantedPart, or_use, use_among, use_in, use_under, wanted_part}
use Rattle.board_model.specs.declared.key.Key.{Key}

-- ---- where nothing is another

changed-same : (f : Slot → Slot) (n : ℕ) (slots : List Slot) → ((slot : Slot) → slice_get slots n ≡ Some slot → f slot ≡ slot) → changed_at n f slots ≡ slots
changed-same f n [] same = refl
changed-same f zero (slot ∷ slots) same = ap (λ (s : Slot). s ∷ slots) (same slot refl)
changed-same f (suc n) (slot ∷ slots) same = ap (λ ss. slot ∷ ss) (changed-same f n slots same)

pub anew-same : (n : ℕ) (old : Old) (release : Standing) (b : Board) → slice_get b.slots n ≡ Some (Asking old release) → with_old n old b ≡ b
anew-same n old release b is = ap (λ (ss : List Slot). record b { slots = ss }) (changed-same (beside old) n b.slots one)
  where
    one : (slot : Slot) → slice_get b.slots n ≡ Some slot → beside old slot ≡ slot
    one slot at =
        let both : Some slot ≡ Some (Asking old release) = sym at ∙ is in
        let same : slot ≡ Asking old release = cc in
        ap (beside old) same ∙ sym same

pub anew-other : (n : ℕ) (old : Old) (b : Board) → ((kept : Old) (release : Standing) → slice_get b.slots n ≢ Some (Asking kept release)) → with_old n old b ≡ b
anew-other n old b none = ap (λ (ss : List Slot). record b { slots = ss }) (changed-same (beside old) n b.slots one)
  where
    one : (slot : Slot) → slice_get b.slots n ≡ Some slot → beside old slot ≡ slot
    one (Asking kept release) at = absurd (none kept release at)
    one (Listing set there lists) at = refl
    one (Refused why) at = refl
    one SettledSlot at = refl

-- ---- what doesn't show what is installed

-- what is the same of each slot beside other files is so of any place
alike : {B : Type 0} (old : Old) (h : Option Slot → B) → ((slot : Slot) → h (Some (beside old slot)) ≡ h (Some slot)) → (slots : List Slot) (n m : ℕ)
    → h (slice_get (changed_at n (beside old) slots) m) ≡ h (slice_get slots m)
alike old h same [] n m = refl
alike old h same (slot ∷ slots) zero zero = same slot
alike old h same (slot ∷ slots) zero (suc m) = refl
alike old h same (slot ∷ slots) (suc n) zero = refl
alike old h same (slot ∷ slots) (suc n) (suc m) = alike old h same slots n m

items-alike : (old : Old) (slot : Slot) → items_in (beside old slot) ≡ items_in slot
items-alike old (Asking kept release) = refl
items-alike old (Listing set there lists) = refl
items-alike old (Refused why) = refl
items-alike old SettledSlot = refl

item-alike : (n : ℕ) (old : Old) (slots : List Slot) (key : Key) → item_at (changed_at n (beside old) slots) key ≡ item_at slots key
item-alike n old slots key =
    alike old (λ (o : Option Slot). option_and_then (λ slot. item_in slot key.place) o)
    (λ slot. ap (λ (items : List (Option Standing)). joined (slice_get items key.place)) (items-alike old slot)) slots n key.source

pub anew-asker : (n : ℕ) (old : Old) (b : Board) (number : ℕ) → asker_of (with_old n old b) number ≡ asker_of b number
anew-asker n old b number =
    ap (λ (items : Key → Option Standing).
    ◌>>=◌ {A = Key} {B = Asker} (key_at b.config.sources number) (λ key.
    ◌>>=◌ {A = Source} {B = Asker} (slice_get b.config.sources key.source) (λ source.
    ◌>>=◌ {A = Ask} {B = Asker} (ask_of (items key)) (λ ask. Some (record { key = key; source = source; ask = ask })))))
    (fun_ext (λ key. item-alike n old b.slots key))

among-alike : (old : Old) (sizes : List ℕ → ℕ) (slot : Slot) (place : ℕ) (targets : List Target) (name : List ℕ) → use_among sizes (beside old slot) place targets name ≡ use_among sizes slot place targets name
among-alike old sizes (Asking kept release) place [] name = refl
among-alike old sizes (Asking kept release) place (target ∷ targets) name =
    ap (λ (o : Option WantedPart). if bytes_eq target.name.0 name then Some (use_in (sizes name) place (Asking kept release)) else o) (among-alike old sizes (Asking kept release) (suc place) targets name)
among-alike old sizes (Listing set there lists) place targets name = refl
among-alike old sizes (Refused why) place targets name = refl
among-alike old sizes SettledSlot place targets name = refl

under-alike : (n : ℕ) (old : Old) (sizes : List ℕ → ℕ) (sources : List Source) (slots : List Slot) (name : List ℕ)
    → use_under sizes sources (changed_at n (beside old) slots) name ≡ use_under sizes sources slots name
under-alike n old sizes [] slots name = refl
under-alike n old sizes (source ∷ sources) [] name = refl
under-alike zero old sizes (source ∷ sources) (slot ∷ slots) name = ap (λ (o : Option WantedPart). or_use o (use_under sizes sources slots name)) (among-alike old sizes slot 0 source.targets name)
under-alike (suc n) old sizes (source ∷ sources) (slot ∷ slots) name = ap (or_use (use_among sizes slot 0 source.targets name)) (under-alike n old sizes sources slots name)

pub anew-wanted : (n : ℕ) (old : Old) (b : Board) (name : List ℕ) → wanted_part (with_old n old b) name ≡ wanted_part b name
anew-wanted n old b name = under-alike n old b.config.sizes b.config.sources b.slots name

job-alike : (n : ℕ) (old : Old) (b : Board) (lane : ℕ) → issued_job (with_old n old b) lane ≡ issued_job b lane
job-alike n old b lane =
    ap (λ (asks : ℕ → Option Asker). option_and_then (λ number. option_map (λ (a : Asker). job_for number a.ask) (asks number)) (first_of b.lanes lane))
    (fun_ext (λ number. anew-asker n old b number))

ready-alike : (n : ℕ) (old : Old) (slots : List Slot) → first_ready (changed_at n (beside old) slots) ≡ first_ready slots
ready-alike n old [] = refl
ready-alike zero old (slot ∷ slots) = ap (λ (c : Bool). if c then Some 0 else option_map (λ k. k + 1) (first_ready slots)) (one slot)
  where
    one : (s : Slot) → is_ready (beside old s) ≡ is_ready s
    one (Asking kept release) = refl
    one (Listing set there lists) = refl
    one (Refused why) = refl
    one SettledSlot = refl
ready-alike (suc n) old (slot ∷ slots) = ap (λ (o : Option ℕ). if is_ready slot then Some 0 else option_map (λ k. k + 1) o) (ready-alike n old slots)

settled-alike : (n : ℕ) (old : Old) (b : Board) (m : ℕ) → settled_of (with_old n old b) m ≡ settled_of b m
settled-alike n old b m =
    alike old (λ (o : Option Slot). ◌>>=◌ {A = Source} {B = Settled} (slice_get b.config.sources m) (λ source. ◌>>=◌ {A = Slot} {B = Settled} o (λ slot. settled_in source slot))) one b.slots n m
  where
    one : (s : Slot) → ◌>>=◌ {A = Source} {B = Settled} (slice_get b.config.sources m) (λ source. settled_in source (beside old s)) ≡ ◌>>=◌ {A = Source} {B = Settled} (slice_get b.config.sources m) (λ source. settled_in source s)
    one (Asking kept release) = refl
    one (Listing set there lists) = refl
    one (Refused why) = refl
    one SettledSlot = refl

put-alike : (n : ℕ) (old : Old) (number place m : ℕ) (slots : List Slot) (lanes : Lanes)
    → put_heard number place (slice_get (changed_at n (beside old) slots) m) lanes ≡ put_heard number place (slice_get slots m) lanes
put-alike n old number place m slots lanes = alike old (λ (o : Option Slot). put_heard number place o lanes) (one place) slots n m
  where
    one : (p : ℕ) (s : Slot) → put_heard number p (Some (beside old s)) lanes ≡ put_heard number p (Some s) lanes
    one zero (Asking kept release) = refl
    one (suc p) (Asking kept release) = refl
    one p (Listing set there lists) = refl
    one p (Refused why) = refl
    one p SettledSlot = refl

-- ---- a source whose Release is asked for behind a change was so before, beside the same files

-- the slot of a source asks for its Release, beside these files
abbrev Waits : ℕ → Old → Board → Type 0
Waits n kept b = (release : Standing) × (slice_get b.slots n ≡ Some (Asking kept release))

abbrev LeavesWaiting : (Slot → Slot) → Type 0
LeavesWaiting f = (slot : Slot) (kept : Old) (release : Standing) → f slot ≡ Asking kept release → (before : Standing) × (slot ≡ Asking kept before)

changed-waits : (f : Slot → Slot) (m n : ℕ) (slots : List Slot) (kept : Old) (release : Standing) → LeavesWaiting f → slice_get (changed_at m f slots) n ≡ Some (Asking kept release)
    → (before : Standing) × (slice_get slots n ≡ Some (Asking kept before))
changed-waits f m n [] kept release back e = absurd (cc)
changed-waits f zero zero (slot ∷ slots) kept release back e = let was = back slot kept release cc in (was.0, ap Some was.1)
changed-waits f zero (suc n) (slot ∷ slots) kept release back e = (release, e)
changed-waits f (suc m) zero (slot ∷ slots) kept release back e = (release, e)
changed-waits f (suc m) (suc n) (slot ∷ slots) kept release back e = changed-waits f m n slots kept release back e

listed-waits : (config : Setup) (source : Source) (old : Old) (came : Result AdmittedRelease Staying) (kept : Old) (release : Standing) → listed config source old came ≢ Asking kept release
listed-waits config source old (Ok set) kept release e = absurd (cc)
listed-waits config source old (Err why) kept release e = absurd (cc)

released-waits : (config : Setup) (source : Source) (old : Old) (item : Standing) (p : Point) (kept : Old) (release : Standing) → after_release config source old item p ≡ Asking kept release → old ≡ kept
released-waits config source old item (Over end) kept release e = absurd (listed-waits config source old (admitted end old.release config.settings config.change config.now) kept release e)
released-waits config source old item (At ask left faults next) kept release e = cc

heard-waits : (config : Setup) (source : Source) (place : ℕ) (told : LaneAnswer) → LeavesWaiting (heard_at config source place told)
heard-waits config source zero told (Asking old before) kept release e =
    (before, ap (λ (o : Old). Asking o before) (released-waits config source old (item_after told before) (item_after told before).point kept release e))
heard-waits config source (suc place) told (Asking old before) kept release e = (release, e)
heard-waits config source zero told (Listing set there lists) kept release e = absurd (cc)
heard-waits config source (suc place) told (Listing set there lists) kept release e = absurd (cc)
heard-waits config source zero told (Refused why) kept release e = absurd (cc)
heard-waits config source (suc place) told (Refused why) kept release e = absurd (cc)
heard-waits config source zero told SettledSlot kept release e = absurd (cc)
heard-waits config source (suc place) told SettledSlot kept release e = absurd (cc)

closed-waits : LeavesWaiting (λ slot. SettledSlot)
closed-waits slot kept release e = absurd (cc)

took-waits : (b : Board) (number : ℕ) (told : LaneAnswer) (from : Option ℕ) (asker : Option Asker) (n : ℕ) (kept : Old) → Waits n kept (took_from b number told from asker) → Waits n kept b
took-waits b number told None asker n kept h = h
took-waits b number told (Some from) None n kept h = h
took-waits b number told (Some from) (Some a) n kept h =
    changed-waits (heard_at b.config a.source a.key.place told) a.key.source n b.slots kept h.0 (heard-waits b.config a.source a.key.place told) h.1

settled-waits : (b : Board) (m : ℕ) (verdict : Verdict2) (n : ℕ) (kept : Old) → Waits n kept (settled_as b m verdict) → Waits n kept b
settled-waits b m verdict n kept h = changed-waits (λ slot. SettledSlot) m n b.slots kept h.0 closed-waits h.1

answered-board : (w : BoardRun) (method : ℕ) (closed : Closed) (job : Option Job) → (answered w method closed job).board ≡ w.board
answered-board w method closed None = refl
answered-board w method closed (Some job) = one (list_any (λ (a : Answered). nat_eq a.job.no job.no) w.queue)
  where
    one : (c : Bool) → (if c then w else record w { queue = w.queue ++ (record { job = job; lane = method; closed = closed }) ∷ [] }).board ≡ w.board
    one true = refl
    one false = refl

event-waits : (w : BoardRun) (event : Event) (n : ℕ) (kept : Old) → Waits n kept (happens w event).board → Waits n kept w.board
event-waits w (Issue lane) n kept h = h
event-waits w (Answer lane method closed) n kept h = subst (Waits n kept) (answered-board w method closed (joined (slice_get w.jobs lane))) h
event-waits w Absorb n kept h = one w.queue h
  where
    one : (queue : List Answered) → Waits n kept (take_first w queue).board → Waits n kept w.board
    one [] h = h
    one (x ∷ queue) h = took-waits w.board x.job.no (lane_answer_of x) (lane_with w.board.out x.job.no) (asker_of w.board x.job.no) n kept h
event-waits w Settle n kept h = one (first_ready w.board.slots) h
  where
    two : (m : ℕ) (settled : Option Settled) → Waits n kept (settle_as w m settled).board → Waits n kept w.board
    two m None h = h
    two m (Some settled) h = settled-waits w.board m settled.verdict n kept h

    one : (first : Option ℕ) → Waits n kept (settle_first w first).board → Waits n kept w.board
    one None h = h
    one (Some m) h = two m (settled_of w.board m) h

run-waits : (events : List Event) (w : BoardRun) (n : ℕ) (kept : Old) → Waits n kept (run events w).board → Waits n kept w.board
run-waits [] w n kept h = h
run-waits (event ∷ events) w n kept h = event-waits w event n kept (run-waits events (happens w event) n kept h)

-- ---- an event, beside other files

-- the order of two changes is no matter, where it is none for an element that has both
two-changes : (f g : Slot → Slot) (m n : ℕ) (slots : List Slot) → (m ≡ n → (slot : Slot) → slice_get slots n ≡ Some slot → f (g slot) ≡ g (f slot))
    → changed_at m f (changed_at n g slots) ≡ changed_at n g (changed_at m f slots)
two-changes f g m n [] same = refl
two-changes f g zero zero (slot ∷ slots) same = ap (λ (s : Slot). s ∷ slots) (same refl slot refl)
two-changes f g zero (suc n) (slot ∷ slots) same = refl
two-changes f g (suc m) zero (slot ∷ slots) same = refl
two-changes f g (suc m) (suc n) (slot ∷ slots) same = ap (λ ss. slot ∷ ss) (two-changes f g m n slots (λ e. same (ap suc e)))

released-beside : (config : Setup) (source : Source) (old was : Old) (item : Standing) (p : Point) (kept : Old) (release : Standing) → after_release config source was item p ≡ Asking kept release
    → after_release config source old item p ≡ beside old (after_release config source was item p)
released-beside config source old was item (Over end) kept release e = absurd (listed-waits config source was (admitted end was.release config.settings config.change config.now) kept release e)
released-beside config source old was item (At ask left faults next) kept release e = refl

heard-beside : (config : Setup) (source : Source) (place : ℕ) (told : LaneAnswer) (old : Old) (slot : Slot) (kept : Old) (release : Standing) → heard_at config source place told slot ≡ Asking kept release
    → heard_at config source place told (beside old slot) ≡ beside old (heard_at config source place told slot)
heard-beside config source zero told old (Asking was before) kept release e = released-beside config source old was (item_after told before) (item_after told before).point kept release e
heard-beside config source (suc place) told old (Asking was before) kept release e = refl
heard-beside config source zero told old (Listing set there lists) kept release e = refl
heard-beside config source (suc place) told old (Listing set there lists) kept release e = refl
heard-beside config source zero told old (Refused why) kept release e = refl
heard-beside config source (suc place) told old (Refused why) kept release e = refl
heard-beside config source zero told old SettledSlot kept release e = refl
heard-beside config source (suc place) told old SettledSlot kept release e = refl

heard-by-anew : (n : ℕ) (old kept : Old) (b : Board) (a : Asker) (told : LaneAnswer) → (release : Standing) × (slice_get (heard_by b a told) n ≡ Some (Asking kept release))
    → heard_by (with_old n old b) a told ≡ changed_at n (beside old) (heard_by b a told)
heard-by-anew n old kept b a told (release, at) =
    let hears : Slot → Slot = heard_at b.config a.source a.key.place told in
    two-changes hears (beside old) a.key.source n b.slots (λ same slot is.
    let heard : slice_get (heard_by b a told) n ≡ Some (hears slot) =
    ap (λ (k : ℕ). slice_get (changed_at k hears b.slots) n) same ∙ get-changed hears b.slots n ∙ ap (option_map hears) is in
    let both : Some (hears slot) ≡ Some (Asking kept release) = sym heard ∙ at in
    let again : hears slot ≡ Asking kept release = cc in
    heard-beside b.config a.source a.key.place told old slot kept release again)

took-anew : (n : ℕ) (old kept : Old) (b : Board) (number : ℕ) (told : LaneAnswer) (from : Option ℕ) (asker : Option Asker) → Waits n kept (took_from b number told from asker)
    → took_from (with_old n old b) number told from asker ≡ with_old n old (took_from b number told from asker)
took-anew n old kept b number told None asker h = refl
took-anew n old kept b number told (Some from) None h = refl
took-anew n old kept b number told (Some from) (Some a) h =
    ap (λ (ss : List Slot). record (took b number a from told) { slots = ss; lanes = put_heard number a.key.place (slice_get ss a.key.source) (freed_at from b.lanes) }) (heard-by-anew n old kept b a told h)
    ∙ ap (λ (lanes : Lanes). record (took b number a from told) { slots = changed_at n (beside old) (heard_by b a told); lanes = lanes })
    (put-alike n old number a.key.place a.key.source (heard_by b a told) (freed_at from b.lanes))

-- the same but for what is installed of one source
abbrev beside_run : ℕ → Old → BoardRun → BoardRun
beside_run n old w = record w { board = with_old n old w.board }

take-anew : (n : ℕ) (old kept : Old) (w : BoardRun) (queue : List Answered) → Waits n kept (take_first w queue).board → take_first (beside_run n old w) queue ≡ beside_run n old (take_first w queue)
take-anew n old kept w [] h = refl
take-anew n old kept w (x ∷ queue) h =
    let from : Option ℕ = lane_with w.board.out x.job.no in
    let told : LaneAnswer = lane_answer_of x in
    ap (λ (asker : Option Asker). record (take_first w (x ∷ queue)) {
      board = took_from (with_old n old w.board) x.job.no told from asker;
      jobs = without_job from asker w.jobs;
      notes = w.notes ++ noted told from asker;
    }) (anew-asker n old w.board x.job.no)
    ∙ ap (λ (board : Board). record (take_first w (x ∷ queue)) { board = board }) (took-anew n old kept w.board x.job.no told from (asker_of w.board x.job.no) h)

settle-anew : (n : ℕ) (old : Old) (w : BoardRun) → happens (beside_run n old w) Settle ≡ beside_run n old (happens w Settle)
settle-anew n old w = ap (settle_first (beside_run n old w)) (ready-alike n old w.board.slots) ∙ one (first_ready w.board.slots)
  where
    two : (m : ℕ) (settled : Option Settled) → settle_as (beside_run n old w) m settled ≡ beside_run n old (settle_as w m settled)
    two m None = refl
    two m (Some settled) =
        ap (λ (ss : List Slot). record w { board = record (settled_as w.board m settled.verdict) { slots = ss } })
        (two-changes (λ slot. SettledSlot) (beside old) m n w.board.slots (λ same slot is. refl))

    one : (first : Option ℕ) → settle_first (beside_run n old w) first ≡ beside_run n old (settle_first w first)
    one None = refl
    one (Some m) = ap (settle_as (beside_run n old w) m) (settled-alike n old w.board m) ∙ two m (settled_of w.board m)

answered-anew : (n : ℕ) (old : Old) (w : BoardRun) (method : ℕ) (closed : Closed) (job : Option Job) → answered (beside_run n old w) method closed job ≡ beside_run n old (answered w method closed job)
answered-anew n old w method closed None = refl
answered-anew n old w method closed (Some job) = one (list_any (λ (a : Answered). nat_eq a.job.no job.no) w.queue)
  where
    one : (c : Bool)
        → (if c then beside_run n old w else record (beside_run n old w) { queue = w.queue ++ (record { job = job; lane = method; closed = closed }) ∷ [] })
        ≡ beside_run n old (if c then w else record w { queue = w.queue ++ (record { job = job; lane = method; closed = closed }) ∷ [] })
    one true = refl
    one false = refl

event-anew : (n : ℕ) (old kept : Old) (w : BoardRun) (event : Event) → Waits n kept (happens w event).board → happens (beside_run n old w) event ≡ beside_run n old (happens w event)
event-anew n old kept w (Issue lane) h =
    ap (λ (job : Option Job). record w {
      board = record (with_old n old w.board) { lanes = taken_from lane w.board.lanes; out = put_out lane job w.board.out };
      jobs = sent_job lane job w.jobs;
    }) (job-alike n old w.board lane)
event-anew n old kept w (Answer lane method closed) h = answered-anew n old w method closed (joined (slice_get w.jobs lane))
event-anew n old kept w Absorb h = take-anew n old kept w w.queue h
event-anew n old kept w Settle h = settle-anew n old w

run-anew : (n : ℕ) (old kept : Old) (events : List Event) (w : BoardRun) → Waits n kept (run events w).board → run events (beside_run n old w) ≡ beside_run n old (run events w)
run-anew n old kept [] w h = refl
run-anew n old kept (event ∷ events) w h =
    ap (run events) (event-anew n old kept w event (run-waits events (happens w event) n kept h)) ∙ run-anew n old kept events (happens w event) h

-- ---- boards to which calls led

first-anew : (config : Setup) (n : ℕ) (old : Old) (sources : List Source) (olds : List Old)
    → first_slots config sources (changed_at n (λ o. old) olds) ≡ changed_at n (beside old) (first_slots config sources olds)
first-anew config n old [] olds = refl
first-anew config n old (source ∷ sources) [] = refl
first-anew config zero old (source ∷ sources) (o ∷ olds) = refl
first-anew config (suc n) old (source ∷ sources) (o ∷ olds) = ap (λ ss. Asking o (first_release config source) ∷ ss) (first-anew config n old sources olds)

start-anew : (config : Setup) (n : ℕ) (old : Old) (olds : List Old) (lanes : ℕ) → start config (changed_at n (λ o. old) olds) lanes ≡ beside_run n old (start config olds lanes)
start-anew config n old olds lanes =
    ap (λ (ss : List Slot). record (start config olds lanes) { board = record (first_board config olds lanes) { slots = ss } }) (first-anew config n old config.sources olds)

waiting-reached : (config : Setup) (olds : List Old) (notes : List Note) (b : Board) (n : ℕ) (old kept : Old) → Waits n kept b → Reached config olds notes b → ReachedBeside config notes (with_old n old b)
waiting-reached config olds notes b n old kept waits h = record {
  olds = changed_at n (λ o. old) olds;
  reached = record {
    each = length-changed (λ (o : Old). old) olds n ∙ h.each;
    lanes = h.lanes;
    some = h.some;
    events = h.events;
    jobs = h.jobs;
    leads = ap (run h.events) (start-anew config n old olds h.lanes)
        ∙ run-anew n old kept h.events (start config olds h.lanes) (subst (λ (w : BoardRun). Waits n kept w.board) (sym h.leads) waits)
        ∙ ap (beside_run n old) h.leads;
  };
}

pub read-anew-reached : ReadAnewAreReached
read-anew-reached config olds notes b c h anew = subst (ReachedBeside config notes) (sym anew.is) (one (slice_get b.slots anew.n) refl)
  where
    stays : ((kept : Old) (release : Standing) → slice_get b.slots anew.n ≢ Some (Asking kept release)) → ReachedBeside config notes (with_old anew.n anew.old b)
    stays none = subst (ReachedBeside config notes) (sym (anew-other anew.n anew.old b none)) (record { olds = olds; reached = h })

    one : (slot : Option Slot) → slice_get b.slots anew.n ≡ slot → ReachedBeside config notes (with_old anew.n anew.old b)
    one None is = stays (λ kept release at. absurd (cc))
    one (Some (Asking kept release)) is = waiting-reached config olds notes b anew.n anew.old kept (release, is) h
    one (Some (Listing set there lists)) is = stays (λ kept release at. absurd (cc))
    one (Some (Refused why)) is = stays (λ kept release at. absurd (cc))
    one (Some SettledSlot) is = stays (λ kept release at. absurd (cc))

-- ---- what is installed of each source

pub issued-stands : (installed : Source → Old) (b : Board) (lane : ℕ) → StandsOn installed b → StandsOn installed (issued b lane)
issued-stands installed b lane h = h

pub absorbed-stands : (installed : Source → Old) (b : Board) (method number : ℕ) (closed : Closed) → StandsOn installed b → StandsOn installed (absorbed b method number closed)
absorbed-stands installed b method number closed h n source old release s at = one (lane_with b.out number) (asker_of b number) s at
  where
    one : (from : Option ℕ) (asker : Option Asker) → slice_get (took_from b number (record { lane = method; closed = closed }) from asker).config.sources n ≡ Some source
        → slice_get (took_from b number (record { lane = method; closed = closed }) from asker).slots n ≡ Some (Asking old release) → old ≡ installed source
    one None asker s at = h n source old release s at
    one (Some from) None s at = h n source old release s at
    one (Some from) (Some a) s at =
        let was = took-waits b number (record { lane = method; closed = closed }) (Some from) (Some a) n old (release, at) in
        h n source old was.0 s was.1

pub settled-stands : (installed : Source → Old) (b : Board) (n : ℕ) (verdict : Verdict2) → StandsOn installed b → StandsOn installed (settled_as b n verdict)
settled-stands installed b n verdict h m source old release s at = let was = settled-waits b n verdict m old (release, at) in h m source old was.0 s was.1

pub stands-first : (installed : Source → Old) (config : Setup) (lanes : ℕ) → StandsOn installed (first_board config (map installed config.sources) lanes)
stands-first installed config lanes n source old release s at = one config.sources n s at
  where
    one : (sources : List Source) (m : ℕ) → slice_get sources m ≡ Some source → slice_get (first_slots config sources (map installed sources)) m ≡ Some (Asking old release) → old ≡ installed source
    one [] m s at = absurd (cc)
    one (x ∷ xs) zero s at =
        let same : x ≡ source = cc in
        let here : installed x ≡ old = cc in
        sym here ∙ ap installed same
    one (x ∷ xs) (suc m) s at = one xs m s at

pub stands-alike : (installed other : Source → Old) (b : Board)
    → ((n : ℕ) (source : Source) (old : Old) (release : Standing) → slice_get b.config.sources n ≡ Some source → slice_get b.slots n ≡ Some (Asking old release) → installed source ≡ other source)
    → StandsOn installed b → StandsOn other b
stands-alike installed other b same h n source old release s at = h n source old release s at ∙ same n source old release s at
