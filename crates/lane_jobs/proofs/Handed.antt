-- A job goes out.
use Rattle.std.proofs.Common.{◌≡◌, ◌∙◌, ◌⊎◌, ◌≤◌, ℕ, zero, suc, nat_eq, true, false, List, [], ◌∷◌, length, map, Option, Some, None, refl, sym, ap, subst, arith, inl, inr}
use Rattle.std.specs.Prelude.{option_and_then, option_map, slice_get, slice_index_or}
use Rattle.std.proofs.lemmas.Bool.{cases_Bool}
use Rattle.std.proofs.lemmas.Bool.Decides.{nat_tests}
use Rattle.std.proofs.lemmas.List.{append-nil}
use Rattle.acq_base.specs.declared.fetch.Job.{Job}
use Rattle.acq_base.specs.declared.installed.Old.{Old}
use Rattle.acq_base.specs.declared.uri.ListName.{ListName}
use Rattle.acq_outside.specs.Crash.{State, reads}
use Rattle.acq_outside.specs.declared.word.Fetch.{Fetch}
use Rattle.board_model.proofs.JobRuns.{free-lane}
use Rattle.board_model.specs.Boards.{Asker, Board, asker_of, issued, issued_job, job_for, lane_with, name_staged, put_out, staged_name}
use Rattle.board_model.specs.CallLaws.{JobsAlwaysStand}
use Rattle.board_model.specs.ReadAnew.{StandsOn}
use Rattle.board_model.specs.Reached.{Reached}
use Rattle.board_model.specs.Runs.{Note}
use Rattle.host_queues.proofs.Changes.{get-changed, get-other}
use Rattle.host_queues.specs.Lanes.{Queue, changed_at, first, first_of}
use Rattle.lists_dir.specs.Installed.{installed_of}
use Rattle.run_jobs.proofs.Lists.{now_map}
use Rattle.run_jobs.proofs.OneJob.{Laws, issued_is}
use Rattle.run_jobs.specs.Running.{IsUnderWay, RunStart}
use Rattle.lane_jobs.proofs.Fresh.{fresh_job, fresh_transfer, nothing_fills, staged_name_is}
use Rattle.lane_jobs.proofs.Kept.{jobs_stand, lane_at, out_once}
use Rattle.lane_jobs.proofs.Rows.{filled_same, numbers_changed}
use Rattle.lane_jobs.specs.Going.{IsGiven, IsRunningOver, IsTransfer, JobsGoOn, RunLanes, run_lanes}
use Rattle.lane_jobs.specs.JobsOut.{is_filled, nothing_yet, number_of, with_row}
use Rattle.lane_jobs.specs.declared.transfers.Transfer.{Transfer}

-- ---- the lane from which it goes out

pub row_none : (rows : List (Option Transfer)) (lane : ℕ) → slice_get (map number_of rows) lane ≡ Some None → slice_get rows lane ≡ Some None
row_none [] lane at = absurd (cc)
row_none (None ∷ rows) zero at = refl
row_none (Some t ∷ rows) zero at = absurd (cc)
row_none (row ∷ rows) (suc lane) at = row_none rows lane at

some_lane : {A : Type 0} (xs : List A) (n : ℕ) (x : A) → slice_get xs n ≡ Some x → 1 ≤ length xs
some_lane [] n x at = absurd (cc)
some_lane (y ∷ xs) n x at = omega arith

record IsNext (b : Board) (lane : ℕ) : Type 0 where
  number : ℕ
  is : first_of b.lanes lane ≡ Some number
  some : 1 ≤ length b.lanes.queues

next_number : (b : Board) (lane : ℕ) (job : Job) → issued_job b lane ≡ Some job → IsNext b lane
next_number b lane job e = by (first_of b.lanes lane) refl e
  where
    queue : (o : Option Queue) (n : ℕ) → slice_get b.lanes.queues lane ≡ o → option_and_then first o ≡ Some n → 1 ≤ length b.lanes.queues
    queue None n at is = absurd (cc)
    queue (Some q) n at is = some_lane b.lanes.queues lane q at

    by : (o : Option ℕ) → first_of b.lanes lane ≡ o → option_and_then (λ number. option_map (λ (a : Asker). job_for number a.ask) (asker_of b number)) o ≡ Some job → IsNext b lane
    by None is e = absurd (cc)
    by (Some n) is e = record { number = n; is = is; some = queue (slice_get b.lanes.queues lane) n refl is }

-- no job is out from it
pub lane_free : {olds : List Old} → JobsAlwaysStand → (begun : RunStart) (notes : List Note) (b : Board) (lane : ℕ) (job : Job) → Reached begun.config olds notes b → issued_job b lane ≡ Some job → slice_get b.out lane ≡ Some None
lane_free {olds = olds} law begun notes b lane job reached e =
    let next = next_number b lane job e in
    let stands = jobs_stand law begun.config olds notes b reached in
    free-lane b lane next.number (record { some = next.some; once = stands.once; hosts = stands.hosts; busy = stands.busy }) next.is

-- ---- the job is out

pub out_now : (b : Board) (lane : ℕ) (job : Job) → issued_job b lane ≡ Some job → (issued b lane).out ≡ changed_at lane (λ o. Some job.no) b.out
out_now b lane job e = ap (λ (j : Option Job). put_out lane j b.out) e

pub record IsOutNow (begun : RunStart) (b : Board) (lane : ℕ) (job : Job) : Type 0 where
  pub a : Asker
  pub asks : asker_of (issued b lane) job.no ≡ Some a
  pub job_is : job ≡ job_for job.no a.ask
  pub free : slice_get b.out lane ≡ Some None
  pub lane_is : lane_with (issued b lane).out job.no ≡ Some lane
  pub staged : staged_name (issued b lane) job.no ≡ name_staged a

pub is_out_now : {olds : List Old} → Laws → JobsAlwaysStand → (begun : RunStart) (notes : List Note) (b : Board) (lane : ℕ) (job : Job) → Reached begun.config olds notes b → issued_job b lane ≡ Some job → IsOutNow begun b lane job
is_out_now {olds = olds} laws law begun notes b lane job reached e =
    let i = issued_is b lane job e in
    let free = lane_free law begun notes b lane job reached e in
    let at : slice_get (issued b lane).out lane ≡ Some (Some job.no) =
    ap (λ (out : List (Option ℕ)). slice_get out lane) (out_now b lane job e) ∙ get-changed (λ o. Some job.no) b.out lane ∙ ap (option_map (λ (o : Option ℕ). Some job.no)) free in
    let there = lane_at (issued b lane).out lane job.no at (out_once law begun.config olds notes (issued b lane) job.no (laws.issued begun.config olds notes b lane reached)) in
    record { a = i.a; asks = i.asks; job_is = i.is; free = free; lane_is = there; staged = staged_name_is (issued b lane) job.no lane i.a there i.asks }

same_job : (job : Job) (a : Asker) (staged : Option ListName) → job ≡ job_for job.no a.ask → staged ≡ name_staged a → (record { job = job; intake = nothing_yet staged }) ≡ fresh_job job.no a
same_job job a staged is named = rw named (ap (λ (j : Job). record { job = j; intake = nothing_yet (name_staged a) }) is)

-- ---- the run behind it

under_issued : Laws → (begun : RunStart) (notes : List Note) (b : Board) (now : List State) (lane : ℕ) → IsUnderWay begun notes b now → IsUnderWay begun notes (issued b lane) now
under_issued laws begun notes b now lane under = record {
  heard = record {
    config = under.heard.config;
    olds = under.heard.olds;
    same = under.heard.same;
    reached = laws.issued begun.config under.heard.olds notes b lane under.heard.reached;
    sound = under.heard.sound;
    answers = under.heard.answers;
  };
  uses = under.uses;
  lists = now_map (λ s. StandsOn (installed_of (reads s)) b) (λ s. StandsOn (installed_of (reads s)) (issued b lane)) now (λ s. laws.lists.after_issued (installed_of (reads s)) b lane) under.lists;
}

moved : (begun : RunStart) (b : Board) (now : List State) (lane : ℕ) (world : _) (t : Transfer) → IsTransfer begun b now world t → IsTransfer begun (issued b lane) now world t
moved begun b now lane world t is = record { a = is.a; asks = is.asks; job_is = is.job_is; list = is.list; can = is.can; past = is.past; come = is.come }

-- where no job goes out a run goes on
pub none_issued : Laws → (state : RunLanes) (now : List State) (lane : ℕ) → issued_job state.board lane ≡ None → JobsGoOn state (run_lanes state.pool state.jobs (issued state.board lane)) now now
none_issued laws state now lane e = λ begun notes sound running. record {
  more = [];
  left = λ told name isnt. inl (refl, tt);
  ended = λ told name was isnt. let wrong : true ≡ false = sym was ∙ isnt in absurd (cc);
  running = subst (λ (ns : List Note). IsRunningOver begun ns (run_lanes state.pool state.jobs (issued state.board lane)) now) (sym (append-nil notes)) (record {
    under_way = under_issued laws begun notes state.board now lane running.under_way;
    counted = record { sized = running.counted.sized; faults = running.counted.faults };
    methods = running.methods;
    out = record {
      numbers = ap (λ (j : Option Job). put_out lane j state.board.out) e ∙ running.out.numbers;
      each = λ l t at. moved begun state.board now lane (slice_index_or begun.mirrors (suc l) None) t (running.out.each l t at);
      given = running.out.given;
    };
  });
}

each_issued : (begun : RunStart) (b : Board) (now : List State) (lane : ℕ) (t : Transfer) (rows : List (Option Transfer)) → ((world : _) → IsTransfer begun (issued b lane) now world t)
    → ((l : ℕ) (x : Transfer) → slice_get rows l ≡ Some (Some x) → IsTransfer begun b now (slice_index_or begun.mirrors (suc l) None) x)
    → (l : ℕ) (other : Transfer) → slice_get (changed_at lane (λ was. Some t) rows) l ≡ Some (Some other) → slice_get rows lane ≡ Some None → IsTransfer begun (issued b lane) now (slice_index_or begun.mirrors (suc l) None) other
each_issued begun b now lane t rows own each l other at row = by (cases_Bool (nat_eq l lane))
  where
    by : (nat_eq l lane ≡ true) ⊎ (nat_eq l lane ≡ false) → IsTransfer begun (issued b lane) now (slice_index_or begun.mirrors (suc l) None) other
    by (inl same) =
        let here : l ≡ lane = grind (arith, nat_tests, same) in
        let put : slice_get (changed_at lane (λ was. Some t) rows) lane ≡ Some (Some t) = get-changed (λ was. Some t) rows lane ∙ ap (option_map (λ (was : Option Transfer). Some t)) row in
        let there : slice_get (changed_at lane (λ was. Some t) rows) lane ≡ Some (Some other) = subst (λ (k : ℕ). slice_get (changed_at lane (λ was. Some t) rows) k ≡ Some (Some other)) here at in
        let both : Some (Some t) ≡ Some (Some other) = sym put ∙ there in
        let is : t ≡ other = cc in
        subst (IsTransfer begun (issued b lane) now (slice_index_or begun.mirrors (suc l) None)) is (own (slice_index_or begun.mirrors (suc l) None))
    by (inr differs) = moved begun b now lane (slice_index_or begun.mirrors (suc l) None) other (each l other (sym (get-other (λ was. Some t) rows lane l differs) ∙ at))

given_issued : (rows : List (Option Transfer)) (lane : ℕ) (t : Transfer) (l : ℕ) (fetch : Fetch) → slice_get rows lane ≡ Some None → IsGiven rows l fetch → IsGiven (changed_at lane (λ was. Some t) rows) l fetch
given_issued rows lane t l fetch row is = by (cases_Bool (nat_eq l lane))
  where
    by : (nat_eq l lane ≡ true) ⊎ (nat_eq l lane ≡ false) → IsGiven (changed_at lane (λ was. Some t) rows) l fetch
    by (inl same) =
        let here : l ≡ lane = grind (arith, nat_tests, same) in
        let both : Some None ≡ Some (Some is.transfer) = sym row ∙ subst (λ (k : ℕ). slice_get rows k ≡ Some (Some is.transfer)) here is.at in
        absurd (cc)
    by (inr differs) = record { transfer = is.transfer; at = get-other (λ was. Some t) rows lane l differs ∙ is.at; is = is.is }

-- the job stands in its lane's row, whether or not a worker has it
pub job_issued : Laws → JobsAlwaysStand → (state : RunLanes) (now : List State) (lane : ℕ) (job : Job) → issued_job state.board lane ≡ Some job
    → JobsGoOn state (run_lanes state.pool (with_row lane (Some (record { job = job; intake = nothing_yet (staged_name (issued state.board lane) job.no) })) state.jobs) (issued state.board lane)) now now
job_issued laws law state now lane job e = λ begun notes sound running.
    let b = state.board in
    let rows = state.jobs.rows in
    let out = is_out_now laws law begun notes b lane job running.under_way.heard.reached e in
    let under = under_issued laws begun notes b now lane running.under_way in
    let t : Transfer = record { job = job; intake = nothing_yet (staged_name (issued b lane) job.no) } in
    let row : slice_get rows lane ≡ Some None = row_none rows lane (subst (λ (o : List (Option ℕ)). slice_get o lane ≡ Some None) running.out.numbers out.free) in
    let own : (world : _) → IsTransfer begun (issued b lane) now world t = λ world.
    subst (IsTransfer begun (issued b lane) now world) (sym (same_job job out.a (staged_name (issued b lane) job.no) out.job_is out.staged)) (fresh_transfer laws begun notes (issued b lane) now world job.no out.a sound under out.asks) in
    let filled : (name : List ℕ) → is_filled (with_row lane (Some t) state.jobs) name ≡ is_filled state.jobs name = λ name. filled_same name lane (Some t) None rows row (nothing_fills (staged_name (issued b lane) job.no) name) in
    record {
      more = [];
      left = λ told name isnt. inl (refl, tt);
      ended = λ told name was isnt. let wrong : true ≡ false = sym was ∙ (sym (filled name) ∙ isnt) in absurd (cc);
      running = subst (λ (ns : List Note). IsRunningOver begun ns (run_lanes state.pool (with_row lane (Some t) state.jobs) (issued b lane)) now) (sym (append-nil notes)) (record {
        under_way = under;
        counted = record { sized = running.counted.sized; faults = running.counted.faults };
        methods = running.methods;
        out = record {
          numbers = out_now b lane job e ∙ ap (changed_at lane (λ (o : Option ℕ). Some job.no)) running.out.numbers ∙ sym (numbers_changed lane (Some t) rows);
          each = λ l other at. each_issued begun b now lane t rows own (λ m x there. running.out.each m x there) l other at row;
          given = λ used l fetch at. given_issued rows lane t l fetch row (running.out.given used l fetch at);
        };
      });
    }
