-- Calls are events of a world in which nothing waits.
use Rattle.std.proofs.Common.{◌≡◌, ◌∙◌, inl, inr, ℕ, zero, suc, ◌+◌, nat_eq, Bool, true, false, List, [], ◌∷◌, ◌++◌, map, Option, Some, None, refl, sym, ap, subst, arith}
use Rattle.std.specs.Prelude.{if◌then◌else◌, option_map, replicate, slice_get}
use Rattle.std.specs.List.{list_any}
use Rattle.std.proofs.lemmas.Bool.{cases_Bool}
use Rattle.std.proofs.lemmas.Bool.Decides.{nat_tests}
use Rattle.acq_base.specs.declared.fetch.Job.{Job}
use Rattle.acq_base.specs.declared.installed.Old.{Old}
use Rattle.host_queues.specs.Lanes.{changed_at}
use Rattle.update_model.specs.declared.ask.Closed.{Closed}
use Rattle.update_model.specs.declared.settled.Settled.{Settled}
use Rattle.board_model.specs.Boards.{Asker, absorbed, asker_of, first_ready, is_out_as, issued_job, lane_with, put_out, settled_of, took_from}
use Rattle.board_model.specs.Reached.{NewBoardsAreReached, IssuedBoardsAreReached, AbsorbedBoardsAreReached, SettledBoardsAreReached}
use Rattle.board_model.specs.Runs.{Answered, Event, Issue, Answer, Absorb, Settle, BoardRun, answered, happens, note_of, run, sent_job, settle_as, settle_first, start, take_first, lane_answer_of, without_job}
use Rattle.board_model.specs.Slots.{Setup, joined}

-- ---- the numbers of the jobs

abbrev pub numbers_of : List (Option Job) → List (Option ℕ)
numbers_of jobs = map (option_map (λ (job : Job). job.no)) jobs

pub numbers-changed : (lane : ℕ) (o : Option Job) (jobs : List (Option Job))
    → numbers_of (changed_at lane (λ other. o) jobs) ≡ changed_at lane (λ other. option_map (λ (job : Job). job.no) o) (numbers_of jobs)
numbers-changed lane o [] = refl
numbers-changed zero o (job ∷ jobs) = refl
numbers-changed (suc lane) o (job ∷ jobs) = ap (λ xs. option_map (λ (j : Job). j.no) job ∷ xs) (numbers-changed lane o jobs)

numbers-none : (lanes : ℕ) → replicate lanes None ≡ numbers_of (replicate lanes None)
numbers-none zero = refl
numbers-none (suc lanes) = ap (λ xs. None ∷ xs) (numbers-none lanes)

-- what is out are the numbers of the jobs
abbrev pub AreNumbers : BoardRun → Type 0
AreNumbers w = w.board.out ≡ numbers_of w.jobs

sent-numbers : (lane : ℕ) (job : Option Job) (out : List (Option ℕ)) (jobs : List (Option Job)) → out ≡ numbers_of jobs → put_out lane job out ≡ numbers_of (sent_job lane job jobs)
sent-numbers lane None out jobs h = h
sent-numbers lane (Some job) out jobs h = ap (changed_at lane (λ o. Some job.no)) h ∙ sym (numbers-changed lane (Some job) jobs)

take-numbers : (w : BoardRun) (queue : List Answered) → AreNumbers w → AreNumbers (take_first w queue)
take-numbers w [] h = h
take-numbers w (x ∷ queue) h = one (lane_with w.board.out x.job.no) (asker_of w.board x.job.no)
  where
    one : (from : Option ℕ) (asker : Option Asker)
        → (took_from w.board x.job.no (lane_answer_of x) from asker).out ≡ numbers_of (without_job from asker w.jobs)
    one None asker = h
    one (Some from) None = h
    one (Some from) (Some a) = ap (changed_at from (λ o. None)) h ∙ sym (numbers-changed from None w.jobs)

settle-numbers : (w : BoardRun) → AreNumbers w → AreNumbers (happens w Settle)
settle-numbers w h = one (first_ready w.board.slots)
  where
    two : (n : ℕ) (settled : Option Settled) → AreNumbers (settle_as w n settled)
    two n None = h
    two n (Some settled) = h

    one : (first : Option ℕ) → AreNumbers (settle_first w first)
    one None = h
    one (Some n) = two n (settled_of w.board n)

answered-numbers : (w : BoardRun) (method : ℕ) (closed : Closed) (job : Option Job) → AreNumbers w → AreNumbers (answered w method closed job)
answered-numbers w method closed None h = h
answered-numbers w method closed (Some job) h = one (list_any (λ (a : Answered). nat_eq a.job.no job.no) w.queue)
  where
    one : (b : Bool) → AreNumbers (if b then w else record w { queue = w.queue ++ (record { job = job; lane = method; closed = closed }) ∷ [] })
    one true = h
    one false = h

pub event-numbers : (w : BoardRun) (event : Event) → AreNumbers w → AreNumbers (happens w event)
event-numbers w (Issue lane) h = sent-numbers lane (issued_job w.board lane) w.board.out w.jobs h
event-numbers w (Answer lane method closed) h = answered-numbers w method closed (joined (slice_get w.jobs lane)) h
event-numbers w Absorb h = take-numbers w w.queue h
event-numbers w Settle h = settle-numbers w h

pub run-numbers : (events : List Event) (w : BoardRun) → AreNumbers w → AreNumbers (run events w)
run-numbers [] w h = h
run-numbers (event ∷ events) w h = run-numbers events (happens w event) (event-numbers w event h)

pub start-numbers : (config : Setup) (olds : List Old) (lanes : ℕ) → AreNumbers (start config olds lanes)
start-numbers config olds lanes = numbers-none lanes

-- ---- runs

pub run-then : (events more : List Event) (w : BoardRun) → run (events ++ more) w ≡ run more (run events w)
run-then [] more w = refl
run-then (event ∷ events) more w = run-then events more (happens w event)

-- what is out from a lane
pub lane-out : (outs : List (Option ℕ)) (number from : ℕ) → lane_with outs number ≡ Some from → slice_get outs from ≡ Some (Some number)
lane-out [] number from e = absurd (cc)
lane-out (out ∷ outs) number from e = elim (cases_Bool (is_out_as number out)) [
  | inl is ↦ here out is (rw is at e)
  | inr isnt ↦ later (lane-out outs number) (lane_with outs number) refl (rw isnt at e)
]
  where
    here : (o : Option ℕ) → is_out_as number o ≡ true → Some 0 ≡ Some from → slice_get (o ∷ outs) from ≡ Some (Some number)
    here None is z = absurd (cc)
    here (Some other) is z =
        let zero_is : 0 ≡ from = cc in
        let same : other ≡ number = grind (arith, nat_tests, is) in
        ap (λ (k : ℕ). slice_get (Some other ∷ outs) k) (sym zero_is) ∙ ap (λ (k : ℕ). Some (Some k)) same

    later : ((k : ℕ) → lane_with outs number ≡ Some k → slice_get outs k ≡ Some (Some number)) → (o : Option ℕ) → lane_with outs number ≡ o → option_map (λ lane. lane + 1) o ≡ Some from → slice_get (out ∷ outs) from ≡ Some (Some number)
    later find None is s = absurd (cc)
    later find (Some k) is s =
        let same : suc k ≡ from = let q : k + 1 ≡ from = cc in omega arith in
        ap (λ (m : ℕ). slice_get (out ∷ outs) m) (sym same) ∙ find k is

-- the job of a lane from which a number is out
pub job-there : (jobs : List (Option Job)) (lane number : ℕ) → slice_get (numbers_of jobs) lane ≡ Some (Some number)
    → (job : Job) × (slice_get jobs lane ≡ Some (Some job)) × (job.no ≡ number)
job-there [] lane number e = absurd (cc)
job-there (None ∷ jobs) zero number e = absurd (cc)
job-there (Some job ∷ jobs) zero number e = (job, refl, cc)
job-there (job ∷ jobs) (suc lane) number e = job-there jobs lane number e

-- ---- each call

pub new-reached : NewBoardsAreReached
new-reached config olds lanes each some = record { each = each; lanes = lanes; some = some; events = []; jobs = replicate lanes None; leads = refl }

pub issued-reached : IssuedBoardsAreReached
issued-reached config olds notes b lane r = record {
  each = r.each;
  lanes = r.lanes;
  some = r.some;
  events = r.events ++ Issue lane ∷ [];
  jobs = sent_job lane (issued_job b lane) r.jobs;
  leads = run-then r.events (Issue lane ∷ []) (start config olds r.lanes) ∙ ap (λ (w : BoardRun). happens w (Issue lane)) r.leads;
}

pub settled-reached : SettledBoardsAreReached
settled-reached config olds notes b n settled r first is = record {
  each = r.each;
  lanes = r.lanes;
  some = r.some;
  events = r.events ++ Settle ∷ [];
  jobs = r.jobs;
  leads = run-then r.events (Settle ∷ []) (start config olds r.lanes) ∙ ap (λ (w : BoardRun). happens w Settle) r.leads
      ∙ ap (settle_first w) first ∙ ap (settle_as w n) is;
}
  where
    w : BoardRun
    w = record { board = b; jobs = r.jobs; queue = []; notes = notes }

-- the only answer that waits is taken in
taken : (w : BoardRun) (number from method : ℕ) (closed : Closed) (a : Asker) (job : Job) → job.no ≡ number → lane_with w.board.out number ≡ Some from → asker_of w.board number ≡ Some a
    → take_first w (record { job = job; lane = method; closed = closed } ∷ [])
    ≡ record { board = absorbed w.board method number closed; jobs = changed_at from (λ other. None) w.jobs; queue = []; notes = w.notes ++ note_of a (record { lane = method; closed = closed }) ∷ [] }
taken w number from method closed a job same out is = rw same (rw out (rw is refl))

pub absorbed-reached : AbsorbedBoardsAreReached
absorbed-reached config olds notes b method number from closed a r out is =
    let w : BoardRun = record { board = b; jobs = r.jobs; queue = []; notes = notes } in
    let numbers : b.out ≡ numbers_of r.jobs = subst AreNumbers r.leads (run-numbers r.events (start config olds r.lanes) (start-numbers config olds r.lanes)) in
    let there = job-there r.jobs from number (ap (λ (outs : List (Option ℕ)). slice_get outs from) (sym numbers) ∙ lane-out b.out number from out) in
    let waits : Answered = record { job = there.0; lane = method; closed = closed } in
    let answered_w : happens w (Answer from method closed) ≡ record w { queue = waits ∷ [] } = ap (λ (o : Option (Option Job)). answered w method closed (joined o)) there.1 in
    record {
      each = r.each;
      lanes = r.lanes;
      some = r.some;
      events = r.events ++ Answer from method closed ∷ Absorb ∷ [];
      jobs = changed_at from (λ other. None) r.jobs;
      leads = run-then r.events (Answer from method closed ∷ Absorb ∷ []) (start config olds r.lanes)
          ∙ ap (λ (x : BoardRun). happens (happens x (Answer from method closed)) Absorb) r.leads
          ∙ ap (λ (x : BoardRun). happens x Absorb) answered_w
          ∙ taken (record w { queue = waits ∷ [] }) number from method closed a there.0 there.2 out is;
    }
