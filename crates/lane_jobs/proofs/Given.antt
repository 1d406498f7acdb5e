-- A job is handed to a worker, or isn't.
use Rattle.std.proofs.Common.{◌≡◌, ◌∙◌, ◌⊎◌, ◌<◌, ℕ, suc, nat_eq, true, false, Bool, List, [], length, Option, Some, None, refl, sym, ap, subst, arith, inl, inr}
use Rattle.std.specs.Prelude.{option_map, slice_get}
use Rattle.std.proofs.lemmas.Bool.{cases_Bool}
use Rattle.std.proofs.lemmas.Bool.Decides.{nat_tests}
use Rattle.std.proofs.lemmas.List.{append-nil}
use Rattle.acq_base.specs.Uri.{IsSound}
use Rattle.acq_base.specs.declared.fetch.Job.{Job}
use Rattle.acq_base.specs.declared.uri.ListName.{ListName}
use Rattle.acq_base.specs.declared.uri.Uri.{Uri}
use Rattle.acq_outside.proofs.Going.{no_time}
use Rattle.acq_outside.specs.Crash.{State}
use Rattle.acq_outside.specs.Word.{CanBegin, begun as begun_fetch}
use Rattle.acq_outside.specs.declared.word.Fetch.{Fetch}
use Rattle.board_model.specs.Boards.{Board, issued, issued_job, name_staged, staged_name}
use Rattle.board_model.specs.CallLaws.{JobsAlwaysStand}
use Rattle.board_model.specs.Runs.{Note}
use Rattle.host_queues.proofs.Changes.{get-changed, get-some, length-changed}
use Rattle.job_fetch.specs.Hearing.{fetch_of}
use Rattle.job_fetch.specs.declared.intake.Intake.{Intake}
use Rattle.journal_model.specs.Rest.{KeptAtRestSince}
use Rattle.lane_pool.specs.Pool.{Pool}
use Rattle.run_jobs.proofs.OneJob.{Laws, issued_is}
use Rattle.run_jobs.specs.Counting.{FaultsRise}
use Rattle.run_jobs.specs.Running.{IsSoundBegun, RunStart}
use Rattle.lane_jobs.proofs.Answered.{lane_of_out, own_of}
use Rattle.lane_jobs.proofs.Fresh.{may_be, nothing_begun, sound_job, staged_as, staged_name_is}
use Rattle.lane_jobs.proofs.Handed.{job_issued, lane_free, row_none}
use Rattle.lane_jobs.proofs.Left.{out_of}
use Rattle.lane_jobs.proofs.Steps.{goes_then, ready_then}
use Rattle.lane_jobs.proofs.Over.{set_here, set_length, set_other, within_at}
use Rattle.lane_jobs.specs.Going.{AreLanesOf, IsGiven, IsHandedOver, IsRunningOver, IsUnused, JobsGoOn, MayAskOver, RunLanes, WasGiven, WasRefused, run_lanes}
use Rattle.lane_jobs.specs.JobsOut.{JobsOut, nothing_yet, with_row}
use Rattle.lane_jobs.specs.declared.transfers.Transfer.{Transfer}

-- a run whose lanes alone differ
still : (begun : RunStart) (notes : List Note) (state : RunLanes) (pool : Pool) (now : List State) → IsRunningOver begun notes state now → pool.counts ≡ state.pool.counts → AreLanesOf begun pool
    → (state.jobs.alone ≡ false → (lane : ℕ) (fetch : Fetch) → slice_get pool.outs (suc lane) ≡ Some (Some fetch) → IsGiven state.jobs.rows lane fetch) → IsRunningOver begun notes (run_lanes pool state.jobs state.board) now
still begun notes state pool now running counts methods given = record {
  under_way = running.under_way;
  counted = record { sized = ap length counts ∙ running.counted.sized; faults = subst (λ (ns : List ℕ). FaultsRise begun.counts ns state.board.asks) (sym counts) running.counted.faults };
  methods = methods;
  out = record { numbers = running.out.numbers; each = running.out.each; given = given };
}

goes_still : (state : RunLanes) (pool : Pool) (now : List State)
    → ((begun : RunStart) (notes : List Note) → IsSoundBegun begun → IsRunningOver begun notes state now → IsRunningOver begun notes (run_lanes pool state.jobs state.board) now) → JobsGoOn state (run_lanes pool state.jobs state.board) now now
goes_still state pool now so = λ begun notes sound running. record {
  more = [];
  left = λ told name isnt. inl (refl, tt);
  ended = λ told name was isnt. let wrong : true ≡ false = sym was ∙ isnt in absurd (cc);
  running = subst (λ (ns : List Note). IsRunningOver begun ns (run_lanes pool state.jobs state.board) now) (sym (append-nil notes)) (so begun notes sound running);
}

pub goes_refused : (state : RunLanes) (pool : Pool) (now : List State) → WasRefused state.pool pool → JobsGoOn state (run_lanes pool state.jobs state.board) now now
goes_refused state pool now was = goes_still state pool now (λ begun notes sound running. still begun notes state pool now running was.counts
    (record { worlds = was.worlds ∙ running.methods.worlds; mirrors = running.methods.mirrors; outs = ap length was.outs ∙ running.methods.outs; some = running.methods.some })
    (λ used lane fetch at. running.out.given used lane fetch (subst (λ (outs : List (Option Fetch)). slice_get outs (suc lane) ≡ Some (Some fetch)) was.outs at)))

-- the worker begins where nothing has come
pub goes_given : Laws → JobsAlwaysStand → (state : RunLanes) (pool : Pool) (now : List State) (lane : ℕ) (job : Job) → slice_get state.jobs.rows lane ≡ Some (Some (record { job = job; intake = nothing_yet (staged_name state.board job.no) }))
    → WasGiven state.jobs.alone (suc lane) (begun_fetch job) state.pool pool → JobsGoOn state (run_lanes pool state.jobs state.board) now now
goes_given laws law state pool now lane job row was = goes_still state pool now (λ begun notes sound running.
    still begun notes state pool now running was.counts
    (record { worlds = was.worlds ∙ running.methods.worlds; mirrors = running.methods.mirrors; outs = ap length was.outs ∙ set_length state.pool.outs (suc lane) (Some (begun_fetch job)) ∙ running.methods.outs; some = running.methods.some })
    (λ used l fetch at. by begun notes sound running l fetch at used (cases_Bool (nat_eq l lane))))
  where
    t : Transfer
    t = record { job = job; intake = nothing_yet (staged_name state.board job.no) }

    starts : (begun : RunStart) (notes : List Note) → IsSoundBegun begun → IsRunningOver begun notes state now → begun_fetch job ≡ fetch_of job t.intake
    starts begun notes sound running =
        let p = out_of state now lane t sound running row in
        let own = own_of p in
        let heard = p.under.heard in
        let there = lane_of_out law begun notes state.board state.jobs now lane t p in
        let kind = staged_as laws begun notes state.board job.no own.a sound heard.config heard.sound heard.reached own.asks in
        nothing_begun state.board own.a (name_staged own.a) job kind (ap (λ (j : Job). j.from) own.job_is)
        ∙ ap (λ (staged : Option ListName). fetch_of job (nothing_yet staged)) (sym (staged_name_is state.board job.no lane own.a there own.asks))

    by : (begun : RunStart) (notes : List Note) → IsSoundBegun begun → IsRunningOver begun notes state now → (l : ℕ) (fetch : Fetch) → slice_get pool.outs (suc l) ≡ Some (Some fetch) → state.jobs.alone ≡ false
        → (nat_eq l lane ≡ true) ⊎ (nat_eq l lane ≡ false) → IsGiven state.jobs.rows l fetch
    by begun notes sound running l fetch at used (inl same) =
        let here : l ≡ lane = grind (arith, nat_tests, same) in
        let set : slice_get pool.outs (suc lane) ≡ Some (Some (begun_fetch job)) =
        ap (λ (outs : List (Option Fetch)). slice_get outs (suc lane)) was.outs ∙ set_here state.pool.outs (suc lane) (Some (begun_fetch job)) (within_at state.pool.outs (suc lane) None was.free) in
        let there : slice_get pool.outs (suc lane) ≡ Some (Some fetch) = subst (λ (n : ℕ). slice_get pool.outs (suc n) ≡ Some (Some fetch)) here at in
        let both : Some (Some (begun_fetch job)) ≡ Some (Some fetch) = sym set ∙ there in
        let is : begun_fetch job ≡ fetch = cc in
        record { transfer = t; at = subst (λ (n : ℕ). slice_get state.jobs.rows n ≡ Some (Some t)) (sym here) row; is = sym is ∙ starts begun notes sound running }
    by begun notes sound running l fetch at used (inr apart) =
        running.out.given used l fetch (sym (ap (λ (outs : List (Option Fetch)). slice_get outs (suc l)) was.outs ∙ set_other state.pool.outs (suc lane) (suc l) (Some (begun_fetch job)) (grind (arith, nat_tests, apart))) ∙ at)

-- from a lane out of which a job may go no worker has one under way
pub unused_before : JobsAlwaysStand → (state : RunLanes) (now : List State) (lane : ℕ) (job : Job) → MayAskOver state now → issued_job state.board lane ≡ Some job → IsUnused lane state
unused_before law state now lane job ready e = λ used fetch at.
    let running = ready.running in
    let free = lane_free law ready.begun ready.notes state.board lane job running.under_way.heard.reached e in
    let row : slice_get state.jobs.rows lane ≡ Some None = row_none state.jobs.rows lane (subst (λ (o : List (Option ℕ)). slice_get o lane ≡ Some None) running.out.numbers free) in
    let given = running.out.given used lane fetch at in
    let both : Some None ≡ Some (Some given.transfer) = sym row ∙ given.at in
    absurd (cc)

-- ---- a job that goes out

-- a method may be handed it
pub issued_sound : Laws → (state : RunLanes) (now : List State) (lane : ℕ) (job : Job) → MayAskOver state now → issued_job state.board lane ≡ Some job → IsSound job.uri × CanBegin job
issued_sound laws state now lane job ready e =
    let i = issued_is state.board lane job e in
    let heard = ready.running.under_way.heard in
    let may = may_be laws ready.begun ready.notes state.board job.no i.a ready.sound heard.sound heard.reached i.asks in
    (subst (λ (u : Uri). IsSound u) (sym (ap (λ (j : Job). j.uri) i.is)) may.sound, sound_job job.no i.a job i.is may)

-- the run in which it stands in its lane's row
abbrev pub put_in : RunLanes → ℕ → Job → RunLanes
put_in state lane job = run_lanes state.pool (with_row lane (Some (record { job = job; intake = nothing_yet (staged_name (issued state.board lane) job.no) })) state.jobs) (issued state.board lane)

pub row_put : (state : RunLanes) (lane : ℕ) (job : Job) → lane < length state.jobs.rows
    → slice_get (put_in state lane job).jobs.rows lane ≡ Some (Some (record { job = job; intake = nothing_yet (staged_name (issued state.board lane) job.no) }))
row_put state lane job few =
    let was = get-some state.jobs.rows lane few in
    get-changed (λ w. Some (record { job = job; intake = nothing_yet (staged_name (issued state.board lane) job.no) })) state.jobs.rows lane
    ∙ ap (option_map (λ (w : Option Transfer). Some (record { job = job; intake = nothing_yet (staged_name (issued state.board lane) job.no) }))) was.1

-- it was handed to its lane's worker
pub goes_out_given : Laws → JobsAlwaysStand → (state : RunLanes) (pool : Pool) (now : List State) (lane : ℕ) (job : Job) → lane < length state.jobs.rows → issued_job state.board lane ≡ Some job
    → WasGiven state.jobs.alone (suc lane) (begun_fetch job) state.pool pool → JobsGoOn state (run_lanes pool (put_in state lane job).jobs (issued state.board lane)) now now
goes_out_given laws law state pool now lane job few e was =
    goes_then state (put_in state lane job) (run_lanes pool (put_in state lane job).jobs (issued state.board lane)) now now now (no_time now now (KeptAtRestSince now) refl)
    (job_issued laws law state now lane job e) (goes_given laws law (put_in state lane job) pool now lane job (row_put state lane job few) was)

-- none took it
pub goes_out_refused : Laws → JobsAlwaysStand → (state : RunLanes) (pool : Pool) (now : List State) (lane : ℕ) (job : Job) → issued_job state.board lane ≡ Some job
    → WasRefused state.pool pool → JobsGoOn state (run_lanes pool (put_in state lane job).jobs (issued state.board lane)) now now
goes_out_refused laws law state pool now lane job e was =
    goes_then state (put_in state lane job) (run_lanes pool (put_in state lane job).jobs (issued state.board lane)) now now now (no_time now now (KeptAtRestSince now) refl)
    (job_issued laws law state now lane job e) (goes_refused (put_in state lane job) pool now was)

-- then it may be fetched
pub ready_refused : Laws → JobsAlwaysStand → (state : RunLanes) (pool : Pool) (now : List State) (lane : ℕ) (job : Job) → MayAskOver state now → issued_job state.board lane ≡ Some job
    → WasRefused state.pool pool → MayAskOver (run_lanes pool (put_in state lane job).jobs (issued state.board lane)) now
ready_refused laws law state pool now lane job ready e was =
    ready_then state (run_lanes pool (put_in state lane job).jobs (issued state.board lane)) now now ready (no_time now now (KeptAtRestSince now) refl) (goes_out_refused laws law state pool now lane job e was)

pub unused_refused : JobsAlwaysStand → (state : RunLanes) (pool : Pool) (now : List State) (lane : ℕ) (job : Job) → MayAskOver state now → issued_job state.board lane ≡ Some job
    → WasRefused state.pool pool → IsUnused lane (run_lanes pool (put_in state lane job).jobs (issued state.board lane))
unused_refused law state pool now lane job ready e was = λ used fetch at.
    unused_before law state now lane job ready e used fetch (subst (λ (outs : List (Option Fetch)). slice_get outs (suc lane) ≡ Some (Some fetch)) was.outs at)

-- ---- whether it was handed over

pub refused_of : (alone : Bool) (lane : ℕ) (fetch : Fetch) (old new : Pool) (is : Bool) → IsHandedOver alone lane fetch old new is → is ≡ false → WasRefused old new
refused_of alone lane fetch old new true was isnt = absurd (cc)
refused_of alone lane fetch old new false was isnt = was

pub given_of : (alone : Bool) (lane : ℕ) (fetch : Fetch) (old new : Pool) (is : Bool) → IsHandedOver alone lane fetch old new is → is ≡ true → WasGiven alone lane fetch old new
given_of alone lane fetch old new true was isnt = was
given_of alone lane fetch old new false was isnt = absurd (cc)

-- the rows in which a job was put
pub put_is : (state : RunLanes) (lane : ℕ) (job : Job) (b : Board) (intake : Intake) (jobs : JobsOut) → b ≡ issued state.board lane → intake ≡ nothing_yet (staged_name b job.no) → jobs ≡ with_row lane (Some (record { job = job; intake = intake })) state.jobs
    → jobs ≡ (put_in state lane job).jobs
put_is state lane job b intake jobs board first put =
    put ∙ ap (λ (i : Intake). with_row lane (Some (record { job = job; intake = i })) state.jobs) (first ∙ ap (λ (x : Board). nothing_yet (staged_name x job.no)) board)

pub rows_len : (lane : ℕ) (row : Option Transfer) (old new : JobsOut) → new ≡ with_row lane row old → length new.rows ≡ length old.rows
rows_len lane row old new is = ap (λ (jobs : JobsOut). length jobs.rows) is ∙ length-changed (λ was. row) old.rows lane
