-- A worker's word comes in.
use Rattle.std.proofs.Common.{◌≡◌, ◌∙◌, ◌⊎◌, ◌<◌, ◌≤◌, ◌-◌, ℕ, suc, nat_eq, Bool, true, false, List, length, Option, Some, None, refl, sym, ap, subst, arith, inl, inr}
use Rattle.std.specs.Prelude.{is_some, option_map, slice_get, slice_index, slice_index_or}
use Rattle.std.proofs.lemmas.Bool.{cases_Bool}
use Rattle.std.proofs.lemmas.Bool.Decides.{nat_tests}
use Rattle.acq_base.specs.Mirror.{MirrorMap}
use Rattle.acq_outside.specs.Crash.{IsShown, State}
use Rattle.acq_outside.specs.Disk.{Files}
use Rattle.acq_outside.specs.Word.{CanBegin, IsWithinLimit, IsWord, after_word}
use Rattle.acq_outside.specs.declared.word.Fetch.{Fetch}
use Rattle.board_model.specs.Agreeing.{part_at}
use Rattle.board_model.specs.Boards.{Board, is_out}
use Rattle.board_model.specs.CallLaws.{JobsAlwaysStand}
use Rattle.board_model.specs.Runs.{Note}
use Rattle.host_queues.proofs.Changes.{get-changed}
use Rattle.host_queues.specs.Lanes.{changed_at}
use Rattle.job_fetch.proofs.Words.{leads_on, within_limit}
use Rattle.job_fetch.specs.Hearing.{CanHear, Ends, HasComeIn, Hears, HearsOn, KeepsBytes, LeadsTo, Touches, WhoeverSaid, fetch_of, name_of}
use Rattle.job_fetch.specs.declared.intake.Heard.TheVariants.{More, Last}
use Rattle.job_fetch.specs.declared.intake.Intake.{Intake}
use Rattle.lane_pool.specs.Pool.{IsWordTaken, Pool}
use Rattle.lane_pool.specs.Words.{count_after}
use Rattle.lane_pool.specs.declared.told.Told.{Told}
use Rattle.run_jobs.proofs.OneJob.{Laws}
use Rattle.run_jobs.proofs.Rising.{IsCountedOn}
use Rattle.run_jobs.specs.Running.{RunStart}
use Rattle.update_core.specs.TakenIn.{TakesIn}
use Rattle.update_model.specs.declared.ask.Closed.{Closed}
use Rattle.lane_jobs.proofs.Anew.{answer_anew, takes_told}
use Rattle.lane_jobs.proofs.Answered.{HasTakenIn, lane_of_out, own_of}
use Rattle.lane_jobs.proofs.Fresh.{may_be, sound_job}
use Rattle.lane_jobs.proofs.Left.{out_of}
use Rattle.lane_jobs.proofs.OwnFetch.{list_left, word_changes}
use Rattle.lane_jobs.proofs.Over.{counted_more, fell_at, given_other, gone_on, got, set_here, set_length, set_other, taken_in, within_at}
use Rattle.lane_jobs.proofs.Pieces.{piece_comes}
use Rattle.lane_jobs.specs.Answering.{IsAnswered}
use Rattle.lane_jobs.specs.Going.{AreLanesOf, IsDue, IsGiven, IsRunningOver, JobsGoOn, run_lanes}
use Rattle.lane_jobs.specs.JobsOut.{JobsOut, with_row}
use Rattle.lane_jobs.specs.declared.transfers.Transfer.{Transfer}

-- ---- the job to which it is

-- a worker's lane is that of the job's row behind lane 0
pub row_of : (lane : ℕ) → 0 < lane → lane ≡ suc (lane - 1)
row_of lane some = omega (arith, some)

pub record IsDueAt (b : Board) (jobs : JobsOut) (now : List State) (told : Told) (k : ℕ) (fetch : Fetch) : Type 0 where
  pub transfer : Transfer
  pub at : slice_get jobs.rows k ≡ Some (Some transfer)
  pub is : fetch ≡ fetch_of transfer.job transfer.intake
  pub can : CanHear transfer.job now transfer.intake
  pub begin : CanBegin transfer.job
  pub fits : IsWithinLimit (fetch_of transfer.job transfer.intake) told.word
  pub out : is_out b transfer.job.no ≡ true

pub due_at : Laws → JobsAlwaysStand → (told : Told) (pool : Pool) (jobs : JobsOut) (b : Board) (now : List State) → (due : IsDue told pool jobs b now) → IsDueAt b jobs now told (told.lane - 1) due.taken.fetch
due_at laws law told pool jobs b now due =
    let ready = due.ready in
    let taken = due.taken in
    let given = ready.running.out.given due.used (told.lane - 1) taken.fetch (subst (λ (n : ℕ). slice_get due.before.outs n ≡ Some (Some taken.fetch)) (row_of told.lane taken.worker) taken.out) in
    let p = out_of (run_lanes due.before jobs b) now (told.lane - 1) given.transfer ready.sound ready.running given.at in
    let own = own_of p in
    let heard = p.under.heard in
    let may = may_be laws ready.begun ready.notes b given.transfer.job.no own.a ready.sound heard.sound heard.reached own.asks in
    record {
      transfer = given.transfer;
      at = given.at;
      is = given.is;
      can = own.can;
      begin = sound_job given.transfer.job.no own.a given.transfer.job own.job_is may;
      fits = subst (λ (f : Fetch). IsWithinLimit f told.word) given.is (within_limit taken.heard.before (count_after (slice_index due.before.counts told.lane) told.word) (slice_index_or due.before.worlds told.lane None) taken.fetch (after_word taken.fetch told.word) told.word taken.heard.says);
      out = ap is_some (lane_of_out law ready.begun ready.notes b jobs now (told.lane - 1) given.transfer p);
    }

-- ---- behind it

-- the fetch that was out is what has come of the job
pub fetch_is : (begun : RunStart) (notes : List Note) (before pool : Pool) (jobs : JobsOut) (b : Board) (old : List State) (told : Told) (k : ℕ) (t : Transfer) → told.lane ≡ suc k → slice_get jobs.rows k ≡ Some (Some t) → jobs.alone ≡ false
    → IsRunningOver begun notes (run_lanes before jobs b) old → (taken : IsWordTaken before told pool) → taken.fetch ≡ fetch_of t.job t.intake
fetch_is begun notes before pool jobs b old told k t lane at used running taken =
    let given = running.out.given used k taken.fetch (subst (λ (n : ℕ). slice_get before.outs n ≡ Some (Some taken.fetch)) lane taken.out) in
    let both : Some (Some given.transfer) ≡ Some (Some t) = sym given.at ∙ at in
    let same : given.transfer ≡ t = cc in
    given.is ∙ ap (λ (x : Transfer). fetch_of x.job x.intake) same

taken_methods : (begun : RunStart) (before pool : Pool) (told : Told) → IsWordTaken before told pool → AreLanesOf begun before → AreLanesOf begun pool
taken_methods begun before pool told taken are = record {
  worlds = taken.worlds ∙ are.worlds;
  mirrors = are.mirrors;
  outs = ap length taken.outs ∙ set_length before.outs told.lane (after_word taken.fetch told.word) ∙ are.outs;
  some = are.some;
}

-- what workers have under way behind the word
taken_given : (before pool : Pool) (told : Told) (jobs : JobsOut) (k : ℕ) (row : Option Transfer) → told.lane ≡ suc k → (taken : IsWordTaken before told pool)
    → (jobs.alone ≡ false → (lane : ℕ) (fetch : Fetch) → slice_get before.outs (suc lane) ≡ Some (Some fetch) → IsGiven jobs.rows lane fetch)
    → ((fetch : Fetch) → after_word taken.fetch told.word ≡ Some fetch → IsGiven (changed_at k (λ was. row) jobs.rows) k fetch)
    → jobs.alone ≡ false → (l : ℕ) (fetch : Fetch) → slice_get pool.outs (suc l) ≡ Some (Some fetch) → IsGiven (changed_at k (λ was. row) jobs.rows) l fetch
taken_given before pool told jobs k row lane taken given own used l fetch at = by (cases_Bool (nat_eq l k))
  where
    by : (nat_eq l k ≡ true) ⊎ (nat_eq l k ≡ false) → IsGiven (changed_at k (λ was. row) jobs.rows) l fetch
    by (inl same) =
        let here : l ≡ k = grind (arith, nat_tests, same) in
        let lanes : suc l ≡ told.lane = ap suc here ∙ sym lane in
        let set : slice_get pool.outs told.lane ≡ Some (after_word taken.fetch told.word) =
        ap (λ (outs : List (Option Fetch)). slice_get outs told.lane) taken.outs ∙ set_here before.outs told.lane (after_word taken.fetch told.word) (within_at before.outs told.lane (Some taken.fetch) taken.out) in
        let there : slice_get pool.outs told.lane ≡ Some (Some fetch) = subst (λ (n : ℕ). slice_get pool.outs n ≡ Some (Some fetch)) lanes at in
        let both : Some (after_word taken.fetch told.word) ≡ Some (Some fetch) = sym set ∙ there in
        let is : after_word taken.fetch told.word ≡ Some fetch = cc in
        subst (λ (n : ℕ). IsGiven (changed_at k (λ was. row) jobs.rows) n fetch) (sym here) (own fetch is)
    by (inr apart) =
        let other : nat_eq (suc l) told.lane ≡ false = grind (arith, nat_tests, apart, lane) in
        given_other jobs.rows k l row fetch apart (given used l fetch (sym (ap (λ (outs : List (Option Fetch)). slice_get outs (suc l)) taken.outs ∙ set_other before.outs told.lane (suc l) (after_word taken.fetch told.word) other) ∙ at))

taken_fell : (before pool : Pool) (told : Told) → (taken : IsWordTaken before told pool) → slice_index before.counts told.lane ≤ count_after (slice_index before.counts told.lane) told.word
taken_fell before pool told taken = let low = taken.heard.in_order in let up = taken.heard.rises in omega (arith, low, up)

-- the mirror of the lane, as the run began with it
world_is : (begun : RunStart) (before : Pool) (lane : ℕ) → AreLanesOf begun before → slice_index_or before.worlds lane None ≡ slice_index_or begun.mirrors lane None
world_is begun before lane are = ap (λ (ws : List (Option MirrorMap)). slice_index_or ws lane None) are.worlds

-- a piece
pub goes_piece : Laws → JobsAlwaysStand → (before pool : Pool) (jobs : JobsOut) (b : Board) (old now : List State) (told : Told) (k : ℕ) (t : Transfer) (next : Intake)
    → told.lane ≡ suc k → slice_get jobs.rows k ≡ Some (Some t) → jobs.alone ≡ false → IsWordTaken before told pool
    → Touches told.word (name_of t.intake) old now → KeepsBytes (name_of t.intake) t.job.from old now → LeadsTo t.job t.intake told.word now (More next)
    → HearsOn t.job old t.intake told.word (λ world part. Hears world part t.job t.intake now (More next))
    → JobsGoOn (run_lanes before jobs b) (run_lanes pool (with_row k (Some (record { job = t.job; intake = next })) jobs) b) old now
goes_piece laws law before pool jobs b old now told k t next lane at used taken touches kept leads hears = λ begun notes sound running.
    let state = run_lanes before jobs b in
    let p = out_of state old k t sound running at in
    let own = own_of p in
    let last = slice_index before.counts told.lane in
    let after = count_after last told.word in
    let world = slice_index_or before.worlds told.lane None in
    let is = fetch_is begun notes before pool jobs b old told k t lane at used running taken in
    let says : IsWord taken.heard.before after world (fetch_of t.job t.intake) (after_word taken.fetch told.word) told.word =
    subst (λ (f : Fetch). IsWord taken.heard.before after world f (after_word taken.fetch told.word) told.word) is taken.heard.says in
    let on = leads_on taken.heard.before after world (fetch_of t.job t.intake) (fetch_of t.job next) (after_word taken.fetch told.word) told.word says leads.1 in
    let mirror : world ≡ slice_index_or begun.mirrors (suc k) None = world_is begun before told.lane running.methods ∙ ap (λ (n : ℕ). slice_index_or begun.mirrors n None) lane in
    let part = part_at begun.parts begun.config.sources own.a.key in
    let come = subst (λ (w : Option MirrorMap). HasComeIn w part t.job now next) mirror (hears taken.heard.before after world part (after_word taken.fetch told.word) says (subst (λ (w : Option MirrorMap). HasComeIn w part t.job old t.intake) (sym mirror) own.come)) in
    let later : Transfer = record { job = t.job; intake = next } in
    let has = piece_comes laws law begun notes b jobs old now k t next p (word_changes told.word (name_of t.intake) old now touches) kept leads.0 leads.2 on.further come in
    let put : slice_get (changed_at k (λ was. Some later) jobs.rows) k ≡ Some (Some later) = get-changed (λ was. Some later) jobs.rows k ∙ ap (option_map (λ (was : Option Transfer). Some later)) at in
    let goes : (fetch : Fetch) → after_word taken.fetch told.word ≡ Some fetch → IsGiven (changed_at k (λ was. Some later) jobs.rows) k fetch = λ fetch e.
    let next_is : after_word taken.fetch told.word ≡ Some (fetch_of t.job next) = ap (λ (f : Fetch). after_word f told.word) is ∙ leads.1 in
    let both : Some fetch ≡ Some (fetch_of t.job next) = sym e ∙ next_is in
    record { transfer = later; at = put; is = cc } in
    gone_on begun notes state (run_lanes pool (with_row k (Some later) jobs) b) old now refl (taken_methods begun before pool told taken running.methods)
    (counted_more begun before.counts pool.counts b (ap length taken.counts ∙ set_length before.counts told.lane after) (rw taken.counts (fell_at before.counts told.lane after (taken_fell before pool told taken))) running.counted)
    (taken_given before pool told jobs k (Some later) lane taken running.out.given goes)
    has

-- any other word
pub goes_last : Laws → JobsAlwaysStand → (tells : Bool) (files : Files) (before pool : Pool) (jobs : JobsOut) (b c : Board) (old now : List State) (told : Told) (k : ℕ) (t : Transfer) (closed : Closed)
    → told.lane ≡ suc k → slice_get jobs.rows k ≡ Some (Some t) → jobs.alone ≡ false → IsWordTaken before told pool
    → Touches told.word (name_of t.intake) old now → KeepsBytes (name_of t.intake) t.job.from old now → LeadsTo t.job t.intake told.word now (Last closed)
    → WhoeverSaid (fetch_of t.job t.intake) told.word (λ first after. Ends first after t.intake now (Last closed))
    → HearsOn t.job old t.intake told.word (λ world part. Hears world part t.job t.intake now (Last closed)) → IsShown tells files now → TakesIn tells files b told.lane t.job.no closed c
    → JobsGoOn (run_lanes before jobs b) (run_lanes pool (with_row k None jobs) c) old now
goes_last laws law tells files before pool jobs b c old now told k t closed lane at used taken touches kept leads ends hears shown takes = λ begun notes sound running.
    let state = run_lanes before jobs b in
    let p = out_of state old k t sound running at in
    let own = own_of p in
    let last = slice_index before.counts told.lane in
    let first = taken.heard.before in
    let after = count_after last told.word in
    let world = slice_index_or before.worlds told.lane None in
    let is = fetch_is begun notes before pool jobs b old told k t lane at used running taken in
    let under = after_word taken.fetch told.word in
    let says : IsWord first after world (fetch_of t.job t.intake) under told.word = subst (λ (f : Fetch). IsWord first after world f under told.word) is taken.heard.says in
    let mirror_is : world ≡ slice_index_or begun.mirrors (suc k) None = world_is begun before told.lane running.methods ∙ ap (λ (n : ℕ). slice_index_or begun.mirrors n None) lane in
    let part = part_at begun.parts begun.config.sources own.a.key in
    let end = ends first after world under says in
    let answer : IsAnswered world part t.job (name_of t.intake) first after old now closed = record {
      counted = end.1;
      count = taken.heard.rises;
      sound = leads.2 taken.heard.sound;
      changes = word_changes told.word (name_of t.intake) old now touches;
      kept = kept;
      comes = end.0;
      left = list_left t.job t.intake (name_of t.intake) told.word closed old old now refl own.can leads.1 touches (inl refl) end.0;
      answer = hears first after world part under says (subst (λ (w : Option MirrorMap). HasComeIn w part t.job old t.intake) (sym mirror_is) own.come);
    } in
    let within : told.lane < length before.outs = within_at before.outs told.lane (Some taken.fetch) taken.out in
    let many = running.methods.outs in
    let named = running.methods.mirrors in
    let sized = running.counted.sized in
    let few : told.lane < length begun.counts = omega (arith, within, many) in
    let counts : told.lane < length before.counts = omega (arith, few, sized) in
    let mirrors : told.lane < length begun.mirrors = omega (arith, few, named) in
    let mirror : slice_get begun.mirrors told.lane ≡ Some world = got begun.mirrors told.lane None mirrors ∙ ap (λ (w : Option MirrorMap). Some w) (sym (world_is begun before told.lane running.methods)) in
    let on : IsCountedOn before.counts pool.counts told.lane first after closed = record {
      last = last;
      was = got before.counts told.lane 0 counts;
      low = taken.heard.in_order;
      now = subst (λ (ns : List ℕ). slice_get ns told.lane ≡ Some after) (sym taken.counts) (set_here before.counts told.lane after counts);
      rises = taken.heard.rises;
      counted = end.1;
      fell = rw taken.counts (fell_at before.counts told.lane after (taken_fell before pool told taken));
    } in
    let same = takes_told laws begun tells files b c told.lane t.job.no closed (name_of t.intake) old now sound p.under.heard.config shown answer.changes p.under.lists takes in
    let has = answer_anew laws law begun notes b takes.between jobs old now k t told.lane first after before.counts pool.counts world closed takes.anew same p mirror few
    (ap length taken.counts ∙ set_length before.counts told.lane after ∙ sized) running.counted on answer in
    let none : (fetch : Fetch) → under ≡ Some fetch → IsGiven (changed_at k (λ was. None) jobs.rows) k fetch = λ fetch e.
    let over : under ≡ None = ap (λ (f : Fetch). after_word f told.word) is ∙ leads.0 in
    let wrong : Some fetch ≡ None = sym e ∙ over in
    absurd (cc) in
    taken_in begun notes state (run_lanes pool (with_row k None jobs) c) old now (taken_methods begun before pool told taken running.methods)
    (taken_given before pool told jobs k None lane taken running.out.given none)
    (subst (λ (x : Board). HasTakenIn begun notes pool.counts jobs (with_row k None jobs) x old now) (sym takes.is) has)
