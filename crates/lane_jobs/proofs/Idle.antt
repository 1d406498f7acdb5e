-- A board from which nothing goes out, over several lanes.
use Rattle.std.proofs.Common.{◌≡◌, ◌∙◌, ◌≤◌, ◌<◌, ◌+◌, inl, inr, ℕ, zero, suc, nat_eq, nat_lt, Bool, true, false, List, [], ◌∷◌, length, map, Option, Some, None, refl, sym, ap, subst, arith}
use Rattle.std.specs.Prelude.{is_some, option_and_then, option_map, replicate, slice_get}
use Rattle.std.specs.List.{list_any}
use Rattle.std.proofs.lemmas.Bool.{cases_Bool}
use Rattle.std.proofs.lemmas.Bool.Decides.{nat_tests}
use Rattle.std.proofs.lemmas.List.{length-map}
use Rattle.acq_base.specs.declared.fetch.Job.{Job}
use Rattle.acq_outside.specs.Crash.{State}
use Rattle.board_model.specs.Boards.{Asker, Board, asker_of, is_out, issued, issued_job, job_for, lane_with}
use Rattle.board_model.specs.CallLaws.{BoardsWithoutJobsAskNothing, JobsAlwaysStand}
use Rattle.board_model.specs.Jobs.{JobsStand, NoneAsks}
use Rattle.board_model.specs.Reached.{Reached}
use Rattle.board_model.specs.Runs.{BoardRun}
use Rattle.host_queues.specs.Lanes.{Lanes, Queue, first, first_of, taken_from, without_first}
use Rattle.host_queues.proofs.Changes.{get-changed, get-other, get-past}
use Rattle.lane_jobs.specs.Going.{MayAskOver, NoneGoesOutBelow, RunLanes}
use Rattle.lane_jobs.specs.JobsOut.{number_of}
use Rattle.lane_jobs.specs.declared.transfers.Transfer.{Transfer}
use Rattle.lane_jobs.proofs.Rows.{none_some}

-- ---- a lane from which a job may have gone out

queue_gone : (o : Option Queue) → option_and_then first (option_map without_first o) ≡ None
queue_gone None = refl
queue_gone (Some q) = one q.is_out q.waiting
  where
    one : (b : Bool) (numbers : List ℕ) → first (without_first (record { waiting = numbers; is_out = b })) ≡ None
    one true numbers = refl
    one false [] = refl
    one false (number ∷ numbers) = refl

first_gone : (lanes : Lanes) (lane : ℕ) → first_of (taken_from lane lanes) lane ≡ None
first_gone lanes lane = ap (option_and_then first) (get-changed without_first lanes.queues lane) ∙ queue_gone (slice_get lanes.queues lane)

-- what goes out of a lane with this number at its front
abbrev job_at : Board → Option ℕ → Option Job
job_at b o = option_and_then (λ (number : ℕ). option_map (λ (a : Asker). job_for number a.ask) (asker_of b number)) o

pub issued_gone : (b : Board) (lane : ℕ) → issued_job (issued b lane) lane ≡ None
issued_gone b lane = ap (job_at b) (first_gone b.lanes lane)

pub issued_other : (b : Board) (lane other : ℕ) → nat_eq other lane ≡ false → issued_job (issued b lane) other ≡ issued_job b other
issued_other b lane other isnt = ap (λ (o : Option Queue). job_at b (option_and_then first o)) (get-other without_first b.lanes.queues lane other isnt)

pub none_first : (b : Board) → NoneGoesOutBelow 0 b
none_first b = λ lane below. absurd (omega (arith, below))

-- one more lane
pub none_more : (b c : Board) (lane : ℕ) → c ≡ issued b lane → NoneGoesOutBelow lane b → NoneGoesOutBelow (lane + 1) c
none_more b c lane is none = subst (NoneGoesOutBelow (lane + 1)) (sym is) (λ other below. elim (cases_Bool (nat_eq other lane)) [
  | inl here ↦
      let same : other ≡ lane = grind (arith, nat_tests, here) in
      subst (λ (k : ℕ). issued_job (issued b lane) k ≡ None) (sym same) (issued_gone b lane)
  | inr isnt ↦
      let lower : other < lane = grind (arith, nat_tests, isnt, below) in
      issued_other b lane other isnt ∙ none other lower
])

-- ---- nothing is out, and nothing waits

none_with : (lanes number : ℕ) → lane_with (replicate lanes None) number ≡ None
none_with zero number = refl
none_with (suc lanes) number = ap (option_map (λ (lane : ℕ). lane + 1)) (none_with lanes number)

none_out_of : (b : Board) (rows : List (Option Transfer)) (number : ℕ) → b.out ≡ map number_of rows → list_any is_some rows ≡ false → is_out b number ≡ false
none_out_of b rows number numbers none =
    ap (λ (outs : List (Option ℕ)). is_some (lane_with outs number)) (numbers ∙ none_some rows none)
    ∙ ap (λ (lane : Option ℕ). is_some lane) (none_with (length rows) number)

-- there are as many queues as rows
as_many : (b : Board) (rows : List (Option Transfer)) → map (λ (q : Queue). q.is_out) b.lanes.queues ≡ map is_some b.out → b.out ≡ map number_of rows → length b.lanes.queues ≡ length rows
as_many b rows busy numbers =
    sym (length-map b.lanes.queues (λ (q : Queue). q.is_out)) ∙ ap (λ (bs : List Bool). length bs) busy ∙ length-map b.out is_some
    ∙ ap (λ (ns : List (Option ℕ)). length ns) numbers ∙ length-map rows number_of

none_goes : (b : Board) (rows : List (Option Transfer)) → length b.lanes.queues ≡ length rows → NoneGoesOutBelow (length rows) b → (lane : ℕ) → issued_job b lane ≡ None
none_goes b rows many waits lane = elim (cases_Bool (nat_lt lane (length rows))) [
  | inl there ↦
      let below : lane < length rows = grind (arith, nat_tests, there) in
      waits lane below
  | inr past ↦
      let over : length b.lanes.queues ≤ lane = grind (arith, nat_tests, past, many) in
      ap (λ (o : Option Queue). job_at b (option_and_then first o)) (get-past b.lanes.queues lane over)
]

-- then no item asks any more
pub none_over : (state : RunLanes) (now : List State) → JobsAlwaysStand → BoardsWithoutJobsAskNothing → MayAskOver state now → list_any is_some state.jobs.rows ≡ false → NoneGoesOutBelow (length state.jobs.rows) state.board → NoneAsks state.board
none_over state now stand idle ready none waits =
    let b = state.board in
    let rows = state.jobs.rows in
    let heard = ready.running.under_way.heard in
    let r : Reached ready.begun.config heard.olds ready.notes b = heard.reached in
    let w : BoardRun = record { board = b; jobs = r.jobs; queue = []; notes = ready.notes } in
    let jobs : JobsStand w = subst JobsStand r.leads (stand ready.begun.config heard.olds r.lanes r.events r.each r.some) in
    let numbers = ready.running.out.numbers in
    idle ready.begun.config heard.olds ready.notes b r
    (none_goes b rows (as_many b rows jobs.busy numbers) waits) (λ number. none_out_of b rows number numbers none)
