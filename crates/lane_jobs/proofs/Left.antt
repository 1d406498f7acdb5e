-- A job that the coordinator fetches.
use Rattle.std.proofs.Common.{◌≡◌, ◌∙◌, ◌<◌, ℕ, Bool, true, List, length, Option, Some, None, sym, ap, subst, arith}
use Rattle.std.specs.Prelude.{is_some, slice_get, slice_index_or}
use Rattle.acq_base.specs.Mirror.{MirrorMap}
use Rattle.acq_base.specs.Uri.{IsSound}
use Rattle.acq_base.specs.declared.fetch.Job.{Job}
use Rattle.acq_base.specs.declared.uri.Uri.{Uri}
use Rattle.acq_outside.specs.Crash.{IsShown, State}
use Rattle.acq_outside.specs.Disk.{Files}
use Rattle.acq_outside.specs.Word.{CanBegin}
use Rattle.board_model.specs.Agreeing.{part_at}
use Rattle.board_model.specs.Boards.{Board, is_out, name_staged, staged_name}
use Rattle.board_model.specs.CallLaws.{JobsAlwaysStand}
use Rattle.board_model.specs.Runs.{Note}
use Rattle.job_fetch.specs.Hearing.{CanHear, HasComeIn, at_of, name_of}
use Rattle.job_fetch.specs.declared.intake.Intake.{Intake}
use Rattle.lane_pool.specs.Pool.{OthersStay, Pool, own_count, own_world}
use Rattle.run_jobs.proofs.OneJob.{Laws}
use Rattle.run_jobs.proofs.Rising.{IsCountedOn}
use Rattle.run_jobs.specs.Running.{IsSoundBegun, RunStart}
use Rattle.update_core.specs.TakenIn.{TakesIn}
use Rattle.update_model.specs.declared.ask.Closed.{Closed}
use Rattle.lane_jobs.proofs.Anew.{answer_anew, takes_told}
use Rattle.lane_jobs.proofs.Answered.{HasTakenIn, IsOutAt, lane_of_out, own_of}
use Rattle.lane_jobs.proofs.Fresh.{may_be, nothing_at, nothing_can, nothing_come, nothing_named, sound_job, staged_as, staged_name_is}
use Rattle.lane_jobs.proofs.Over.{fell_at, given_unused, got, none_changed, own_methods, own_outs, set_here, set_length, taken_in}
use Rattle.lane_jobs.proofs.Steps.{goes_same}
use Rattle.lane_jobs.specs.Answering.{IsAnswered}
use Rattle.lane_jobs.specs.Going.{IsRunningOver, IsUnused, JobsGoOn, MayAskOver, RunLanes, run_lanes}
use Rattle.lane_jobs.specs.JobsOut.{nothing_yet, with_row}
use Rattle.lane_jobs.specs.declared.transfers.Transfer.{Transfer}

pub out_of : {begun : RunStart} {notes : List Note} (state : RunLanes) (now : List State) (lane : ℕ) (t : Transfer) → IsSoundBegun begun → IsRunningOver begun notes state now → slice_get state.jobs.rows lane ≡ Some (Some t)
    → IsOutAt begun notes state.board state.jobs now lane t
out_of state now lane t sound running at = record { sound = sound; under = running.under_way; numbers = running.out.numbers; each = running.out.each; at = at }

-- ---- before it

pub record CanFetchLeft (b : Board) (job : Job) (first : Intake) (now : List State) : Type 0 where
  pub sound : IsSound job.uri
  pub begin : CanBegin job
  pub can : CanHear job now first
  pub nothing : at_of job first ≡ job.from
  pub out : is_out b job.no ≡ true

pub can_fetch_left : Laws → JobsAlwaysStand → (state : RunLanes) (now : List State) (lane : ℕ) (t : Transfer) (first : Intake) → MayAskOver state now → slice_get state.jobs.rows lane ≡ Some (Some t)
    → first ≡ nothing_yet (staged_name state.board t.job.no) → CanFetchLeft state.board t.job first now
can_fetch_left laws law state now lane t first ready at is =
    let begun = ready.begun in
    let b = state.board in
    let p = out_of state now lane t ready.sound ready.running at in
    let own = own_of p in
    let heard = p.under.heard in
    let there = lane_of_out law begun ready.notes b state.jobs now lane t p in
    let from_is : t.job.from ≡ own.a.ask.from = ap (λ (j : Job). j.from) own.job_is in
    let kind = staged_as laws begun ready.notes b t.job.no own.a ready.sound heard.config heard.sound heard.reached own.asks in
    let may = may_be laws begun ready.notes b t.job.no own.a ready.sound heard.sound heard.reached own.asks in
    let first_is : first ≡ nothing_yet (name_staged own.a) = is ∙ ap nothing_yet (staged_name_is b t.job.no lane own.a there own.asks) in
    record {
      sound = subst (λ (u : Uri). IsSound u) (sym (ap (λ (j : Job). j.uri) own.job_is)) may.sound;
      begin = sound_job t.job.no own.a t.job own.job_is may;
      can = subst (CanHear t.job now) (sym first_is) (nothing_can begun b own.a (name_staged own.a) t.job now kind from_is p.under.uses);
      nothing = ap (at_of t.job) first_is ∙ nothing_at b own.a (name_staged own.a) t.job kind from_is;
      out = ap is_some there;
    }

-- ---- behind it

pub goes_left : Laws → JobsAlwaysStand → (tells : Bool) (files : Files) (state : RunLanes) (pool : Pool) (after : Board) (old now : List State) (lane : ℕ) (t : Transfer) (first : Intake) (closed : Closed)
    → IsUnused lane state → slice_get state.jobs.rows lane ≡ Some (Some t) → first ≡ nothing_yet (staged_name state.board t.job.no) → OthersStay state.pool pool → IsShown tells files now → TakesIn tells files state.board 0 t.job.no closed after
    → ((part : List ℕ) → HasComeIn (own_world state.pool) part t.job old first → IsAnswered (own_world state.pool) part t.job (name_of first) (own_count state.pool) (own_count pool) old now closed)
    → JobsGoOn state (run_lanes pool (with_row lane None state.jobs) after) old now
goes_left laws law tells files state pool after old now lane t first closed unused at is stay shown takes answers = λ begun notes sound running.
    let b = state.board in
    let world = own_world state.pool in
    let p = out_of state old lane t sound running at in
    let own = own_of p in
    let a = own.a in
    let heard = p.under.heard in
    let part = part_at begun.parts begun.config.sources a.key in
    let there = lane_of_out law begun notes b state.jobs old lane t p in
    let from_is : t.job.from ≡ a.ask.from = ap (λ (j : Job). j.from) own.job_is in
    let kind = staged_as laws begun notes b t.job.no a sound heard.config heard.sound heard.reached own.asks in
    let first_is : first ≡ nothing_yet (name_staged a) = is ∙ ap nothing_yet (staged_name_is b t.job.no lane a there own.asks) in
    let come = subst (HasComeIn world part t.job old) (sym first_is) (nothing_come begun b t.job.no a (name_staged a) world t.job old kind heard.config own.asks from_is p.under.uses) in
    let named : name_of first ≡ name_of t.intake = ap name_of first_is ∙ nothing_named (name_staged a) ∙ sym own.list in
    let answer = subst (λ (o : Option (List ℕ)). IsAnswered world part t.job o (own_count state.pool) (own_count pool) old now closed) named (answers part come) in
    let sized = running.counted.sized in
    let some = running.methods.some in
    let counts : 0 < length state.pool.counts = omega (arith, sized, some) in
    let mirrors : 0 < length begun.mirrors = let many = running.methods.mirrors in omega (arith, many, some) in
    let mirror : slice_get begun.mirrors 0 ≡ Some world = got begun.mirrors 0 None mirrors ∙ ap (λ (ws : List (Option MirrorMap)). Some (slice_index_or ws 0 None)) (sym running.methods.worlds) in
    let on : IsCountedOn state.pool.counts pool.counts 0 (own_count state.pool) (own_count pool) closed = record {
      last = own_count state.pool;
      was = got state.pool.counts 0 0 counts;
      low = omega arith;
      now = subst (λ (ns : List ℕ). slice_get ns 0 ≡ Some (own_count pool)) (sym stay.counts) (set_here state.pool.counts 0 (own_count pool) counts);
      rises = stay.count;
      counted = answer.counted;
      fell = rw stay.counts (fell_at state.pool.counts 0 (own_count pool) stay.count);
    } in
    let told = takes_told laws begun tells files b after 0 t.job.no closed (name_of t.intake) old now sound heard.config shown answer.changes p.under.lists takes in
    let has = answer_anew laws law begun notes b takes.between state.jobs old now lane t 0 (own_count state.pool) (own_count pool) state.pool.counts pool.counts world closed takes.anew told p mirror some
    (ap length stay.counts ∙ set_length state.pool.counts 0 (own_count pool) ∙ sized) running.counted on answer in
    taken_in begun notes state (run_lanes pool (with_row lane None state.jobs) after) old now (own_methods begun state.pool pool stay running.methods)
    (given_unused state pool lane None running.out.given unused (own_outs state.pool pool stay))
    (subst (λ (x : Board). HasTakenIn begun notes pool.counts state.jobs (with_row lane None state.jobs) x old now) (sym takes.is) has)

-- nothing is out from the lane
pub goes_without : (state : RunLanes) (now : List State) (lane : ℕ) → ((t : Transfer) → slice_get state.jobs.rows lane ≡ Some (Some t) → ⊥) → JobsGoOn state (run_lanes state.pool (with_row lane None state.jobs) state.board) now now
goes_without state now lane never =
    subst (λ (rows : List (Option Transfer)). JobsGoOn state (run_lanes state.pool (record { rows = rows; alone = state.jobs.alone }) state.board) now now) (sym (none_changed state.jobs.rows lane never)) (goes_same state now)
