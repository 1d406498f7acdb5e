-- How many fetches were begun, behind each step of a run.
use Rattle.std.proofs.Common.{◌≡◌, ◌∙◌, ◌⊎◌, ◌+◌, ℕ, zero, suc, nat_eq, Bool, true, false, List, [], ◌∷◌, ◌++◌, length, Option, Some, None, refl, sym, ap, subst, arith, inl, inr}
use Rattle.std.specs.Prelude.{◌==◌, if◌then◌else◌, is_some, option_map, slice_get, slice_index, slice_set}
use Rattle.std.proofs.lemmas.Bool.{cases_Bool}
use Rattle.std.proofs.lemmas.Bool.Decides.{nat_tests}
use Rattle.acq_base.specs.declared.fetch.Job.{Job}
use Rattle.acq_outside.specs.Count.{one_more}
use Rattle.acq_outside.specs.Crash.{State}
use Rattle.acq_outside.specs.Disk.{Files}
use Rattle.acq_outside.specs.declared.word.Fetch.{Fetch}
use Rattle.board_model.specs.Boards.{Board, asker_of, issued, issued_job, staged_name}
use Rattle.board_model.specs.CallLaws.{JobsAlwaysStand}
use Rattle.board_model.specs.Jobs.{one_if}
use Rattle.board_model.specs.ReadAnew.{with_old}
use Rattle.board_model.specs.Slots.{joined}
use Rattle.host_queues.proofs.Changes.{get-changed, get-other}
use Rattle.job_fetch.specs.declared.intake.Intake.{Intake}
use Rattle.lane_pool.specs.Counting.{counted_on}
use Rattle.lane_pool.specs.Pool.{IsWordTaken, OthersStay, Pool, own_begins}
use Rattle.lane_pool.specs.declared.told.Told.{Told}
use Rattle.run_jobs.proofs.OneJob.{Laws, absorbed_is}
use Rattle.run_jobs.specs.Counting.{asks_of_lane}
use Rattle.update_core.specs.TakenIn.{TakesIn}
use Rattle.update_model.specs.declared.ask.Closed.{Closed}
use Rattle.update_model.specs.declared.log.Asked.{Asked}
use Rattle.lane_jobs.proofs.Anew.{takes_as}
use Rattle.lane_jobs.proofs.Answered.{lane_of_out, own_of}
use Rattle.lane_jobs.proofs.Changes.{row_twice}
use Rattle.lane_jobs.proofs.Given.{put_in}
use Rattle.lane_jobs.proofs.Handed.{lane_free, row_none}
use Rattle.lane_jobs.proofs.Left.{out_of}
use Rattle.lane_jobs.proofs.Over.{set_other}
use Rattle.lane_jobs.specs.Begins.{AsksOwn, BeginsMore, HasBegun, HasBegunOver}
use Rattle.lane_jobs.specs.Going.{IsDue, MayAskOver, RunLanes, WasGiven, WasRefused, run_lanes}
use Rattle.lane_jobs.specs.JobsOut.{JobsOut, nothing_yet, with_row}
use Rattle.lane_jobs.specs.declared.transfers.Transfer.{Transfer}

-- ---- counts

one_further : (start calls : ℕ) → counted_on start (suc calls) ≡ one_more (counted_on start calls)
one_further start zero = refl
one_further start (suc calls) = one_further (one_more start) calls

record WasSet (xs : List ℕ) (lane y last : ℕ) : Type 0 where
  was : slice_get xs lane ≡ Some (slice_index xs lane)
  is : last ≡ y

was_set : (xs : List ℕ) (lane y last : ℕ) → slice_get (slice_set xs lane y) lane ≡ Some last → WasSet xs lane y last
was_set [] lane y last at = absurd (cc)
was_set (x ∷ xs) zero y last at = let same : y ≡ last = cc in record { was = refl; is = sym same }
was_set (x ∷ xs) (suc lane) y last at = let rest = was_set xs lane y last at in record { was = rest.was; is = rest.is }

-- one more is begun over a lane
begun_here : (first begins : List ℕ) (asks : List Asked) (lane more : ℕ) → BeginsMore first begins asks lane more
    → BeginsMore first (slice_set begins lane (one_more (slice_index begins lane))) asks lane (suc more)
begun_here first begins asks lane more has = λ start last is at.
    let set = was_set begins lane (one_more (slice_index begins lane)) last at in
    let calls : suc (length (asks_of_lane lane asks) + more) ≡ length (asks_of_lane lane asks) + suc more = omega arith in
    set.is ∙ ap (λ (n : ℕ). one_more n) (has start (slice_index begins lane) is set.was) ∙ sym (one_further start (length (asks_of_lane lane asks) + more)) ∙ ap (λ (n : ℕ). counted_on start n) calls

-- and none over the others
begun_apart : (first begins : List ℕ) (asks : List Asked) (lane other more count : ℕ) → nat_eq other lane ≡ false → BeginsMore first begins asks other more → BeginsMore first (slice_set begins lane count) asks other more
begun_apart first begins asks lane other more count apart has = λ start last is at. has start last is (sym (set_other begins lane other count apart) ∙ at)

counts_as : (first begins now : List ℕ) (asks later : List Asked) (lane more : ℕ) → now ≡ begins → later ≡ asks → BeginsMore first begins asks lane more → BeginsMore first now later lane more
counts_as first begins now asks later lane more counts log has =
    subst (λ (ns : List ℕ). BeginsMore first ns later lane more) (sym counts) (subst (λ (es : List Asked). BeginsMore first begins es lane more) (sym log) has)

-- ---- the log

one_longer : (lane : ℕ) (asks : List Asked) (entry : Asked) → (entry.lane == lane) ≡ true → length (asks_of_lane lane (asks ++ entry ∷ [])) ≡ suc (length (asks_of_lane lane asks))
one_longer lane [] entry is = rw is refl
one_longer lane (other ∷ asks) entry is = one (other.lane == lane) (one_longer lane asks entry is)
  where
    one : (c : Bool) → length (asks_of_lane lane (asks ++ entry ∷ [])) ≡ suc (length (asks_of_lane lane asks))
        → length (if c then other ∷ asks_of_lane lane (asks ++ entry ∷ []) else asks_of_lane lane (asks ++ entry ∷ [])) ≡ suc (length (if c then other ∷ asks_of_lane lane asks else asks_of_lane lane asks))
    one true rest = ap suc rest
    one false rest = rest

as_long : (lane : ℕ) (asks : List Asked) (entry : Asked) → (entry.lane == lane) ≡ false → length (asks_of_lane lane (asks ++ entry ∷ [])) ≡ length (asks_of_lane lane asks)
as_long lane [] entry isnt = rw isnt refl
as_long lane (other ∷ asks) entry isnt = one (other.lane == lane) (as_long lane asks entry isnt)
  where
    one : (c : Bool) → length (asks_of_lane lane (asks ++ entry ∷ [])) ≡ length (asks_of_lane lane asks)
        → length (if c then other ∷ asks_of_lane lane (asks ++ entry ∷ []) else asks_of_lane lane (asks ++ entry ∷ [])) ≡ length (if c then other ∷ asks_of_lane lane asks else asks_of_lane lane asks)
    one true rest = ap suc rest
    one false rest = rest

-- the log has one more entry, of this lane
pub record HasEntry (asks later : List Asked) (method : ℕ) : Type 0 where
  pub entry : Asked
  pub is : later ≡ asks ++ entry ∷ []
  pub lane : entry.lane ≡ method

-- the log tells one more of what was begun over its lane
told_here : (first begins : List ℕ) (asks later : List Asked) (lane more : ℕ) → HasEntry asks later lane → BeginsMore first begins asks lane (suc more) → BeginsMore first begins later lane more
told_here first begins asks later lane more has before = λ start last from at.
    let entry = has.entry in
    let same : entry.lane ≡ lane = has.lane in
    let long : length (asks_of_lane lane later) ≡ suc (length (asks_of_lane lane asks)) =
    ap (λ (es : List Asked). length (asks_of_lane lane es)) has.is ∙ one_longer lane asks entry (grind (arith, nat_tests, same)) in
    let calls : length (asks_of_lane lane asks) + suc more ≡ length (asks_of_lane lane later) + more = omega (arith, long) in
    before start last from at ∙ ap (λ (n : ℕ). counted_on start n) calls

-- and nothing of the others
told_apart : (first begins : List ℕ) (asks later : List Asked) (lane other more : ℕ) → HasEntry asks later lane → nat_eq other lane ≡ false → BeginsMore first begins asks other more → BeginsMore first begins later other more
told_apart first begins asks later lane other more has apart before = λ start last from at.
    let entry = has.entry in
    let same : entry.lane ≡ lane = has.lane in
    let long : length (asks_of_lane other later) ≡ length (asks_of_lane other asks) =
    ap (λ (es : List Asked). length (asks_of_lane other es)) has.is ∙ as_long other asks entry (grind (arith, nat_tests, same, apart)) in
    before start last from at ∙ ap (λ (n : ℕ). counted_on start (n + more)) (sym long)

-- ---- rows

row_here : (old new : JobsOut) (k : ℕ) (was row : Option Transfer) → new ≡ with_row k row old → slice_get old.rows k ≡ Some was → slice_get new.rows k ≡ Some row
row_here old new k was row is at =
    ap (λ (jobs : JobsOut). slice_get jobs.rows k) is ∙ get-changed (λ w. row) old.rows k ∙ ap (option_map (λ (w : Option Transfer). row)) at

row_apart : (old new : JobsOut) (k l : ℕ) (row : Option Transfer) → new ≡ with_row k row old → nat_eq l k ≡ false → slice_get new.rows l ≡ slice_get old.rows l
row_apart old new k l row is apart = ap (λ (jobs : JobsOut). slice_get jobs.rows l) is ∙ get-other (λ w. row) old.rows k l apart

used_before : (old new : JobsOut) (k : ℕ) (row : Option Transfer) → new ≡ with_row k row old → new.alone ≡ false → old.alone ≡ false
used_before old new k row is used = sym (ap (λ (jobs : JobsOut). jobs.alone) is) ∙ used

-- while workers are used, jobs are out from the same lanes
pub record SameOut (old new : JobsOut) : Type 0 where
  pub used : new.alone ≡ false → old.alone ≡ false
  pub rows : new.alone ≡ false → (lane : ℕ) → is_some (joined (slice_get new.rows lane)) ≡ is_some (joined (slice_get old.rows lane))

pub same_out : (jobs : JobsOut) → SameOut jobs jobs
same_out jobs = record { used = λ used. used; rows = λ used lane. refl }

pub alone_out : (old new : JobsOut) → new.alone ≡ true → SameOut old new
alone_out old new alone = record {
  used = λ used. absurd (let wrong : true ≡ false = sym alone ∙ used in cc);
  rows = λ used lane. absurd (let wrong : true ≡ false = sym alone ∙ used in cc);
}

pub row_out : (old new : JobsOut) (k : ℕ) (was row : Option Transfer) → new ≡ with_row k row old → slice_get old.rows k ≡ Some was → is_some row ≡ is_some was → SameOut old new
row_out old new k was row is at same = record { used = used_before old new k row is; rows = λ used l. by l (cases_Bool (nat_eq l k)) }
  where
    there : (o : Option (Option Transfer)) (x : Option Transfer) → o ≡ Some x → is_some (joined o) ≡ is_some x
    there o x e = ap (λ (p : Option (Option Transfer)). is_some (joined p)) e

    by : (l : ℕ) → (nat_eq l k ≡ true) ⊎ (nat_eq l k ≡ false) → is_some (joined (slice_get new.rows l)) ≡ is_some (joined (slice_get old.rows l))
    by l (inl own) =
        let here : l ≡ k = grind (arith, nat_tests, own) in
        subst (λ (n : ℕ). is_some (joined (slice_get new.rows n)) ≡ is_some (joined (slice_get old.rows n))) (sym here)
        (there (slice_get new.rows k) row (row_here old new k was row is at) ∙ same ∙ sym (there (slice_get old.rows k) was at))
    by l (inr apart) = ap (λ (o : Option (Option Transfer)). is_some (joined o)) (row_apart old new k l row is apart)

-- ---- steps

over_same : (first : List ℕ) (old new : RunLanes) (lane : ℕ) → (new.jobs.alone ≡ false → old.jobs.alone ≡ false)
    → (new.jobs.alone ≡ false → is_some (joined (slice_get new.jobs.rows lane)) ≡ is_some (joined (slice_get old.jobs.rows lane)))
    → (was : HasBegunOver first old lane) → BeginsMore first new.pool.begins new.board.asks (suc lane) was.more → HasBegunOver first new lane
over_same first old new lane used same was begun = record { more = was.more; most = was.most; out = λ now. was.out (used now) ∙ ap one_if (sym (same now)); begun = begun }

-- nothing is begun, and the log tells no more
pub begun_still : (first : List ℕ) (old new : RunLanes) → new.pool.begins ≡ old.pool.begins → new.board.asks ≡ old.board.asks → SameOut old.jobs new.jobs → HasBegun first old → HasBegun first new
begun_still first old new counts log same has = record {
  own = counts_as first old.pool.begins new.pool.begins old.board.asks new.board.asks 0 0 counts log has.own;
  workers = λ lane.
      let was = has.workers lane in
      over_same first old new lane same.used (λ used. same.rows used lane) was (counts_as first old.pool.begins new.pool.begins old.board.asks new.board.asks (suc lane) was.more counts log was.begun);
}

-- no worker is used any more
pub begun_alone : (old new : Pool) (jobs later : JobsOut) (b : Board) → new.begins ≡ old.begins → later ≡ record { rows = jobs.rows; alone = true }
    → (first : List ℕ) → HasBegun first (run_lanes old jobs b) → HasBegun first (run_lanes new later b)
begun_alone old new jobs later b counts is first has =
    begun_still first (run_lanes old jobs b) (run_lanes new later b) counts refl (alone_out jobs later (ap (λ (x : JobsOut). x.alone) is)) has

-- what the coordinator asks is told at once
pub begun_asked : (first : List ℕ) (old new : RunLanes) → AsksOwn old.pool new.pool old.board.asks new.board.asks → SameOut old.jobs new.jobs → HasBegun first old → HasBegun first new
begun_asked first old new (inl asked) same has = begun_still first old new asked.begins asked.same same has
begun_asked first old new (inr asked) same has = record {
  own = told_here first new.pool.begins old.board.asks new.board.asks 0 0 told
      (subst (λ (ns : List ℕ). BeginsMore first ns old.board.asks 0 1) (sym asked.begins) (begun_here first old.pool.begins old.board.asks 0 0 has.own));
  workers = λ lane.
      let was = has.workers lane in
      over_same first old new lane same.used (λ used. same.rows used lane) was
      (told_apart first new.pool.begins old.board.asks new.board.asks 0 (suc lane) was.more told (grind (arith, nat_tests))
      (subst (λ (ns : List ℕ). BeginsMore first ns old.board.asks (suc lane) was.more) (sym asked.begins)
      (begun_apart first old.pool.begins old.board.asks 0 (suc lane) was.more (one_more (own_begins old.pool)) (grind (arith, nat_tests)) was.begun)));
}
  where
    told : HasEntry old.board.asks new.board.asks 0
    told = record { entry = asked.entry; is = asked.is; lane = asked.lane }

-- a worker begins what it was handed
pub begun_given : (first : List ℕ) (old new : RunLanes) (k : ℕ) (fetch : Fetch) (t : Transfer) → WasGiven old.jobs.alone (suc k) fetch old.pool new.pool → slice_get old.jobs.rows k ≡ Some None
    → new.jobs ≡ with_row k (Some t) old.jobs → new.board.asks ≡ old.board.asks → HasBegun first old → HasBegun first new
begun_given first old new k fetch t given row jobs log has = record {
  own = counts_as first set new.pool.begins old.board.asks new.board.asks 0 0 given.begins log (begun_apart first old.pool.begins old.board.asks (suc k) 0 0 count (grind (arith, nat_tests)) has.own);
  workers = λ l. by l (cases_Bool (nat_eq l k));
}
  where
    count : ℕ
    count = one_more (slice_index old.pool.begins (suc k))

    set : List ℕ
    set = slice_set old.pool.begins (suc k) count

    mine : HasBegunOver first old k
    mine = has.workers k

    none : mine.more ≡ 0
    none = mine.out given.used ∙ ap (λ (o : Option (Option Transfer)). one_if (is_some (joined o))) row

    here : HasBegunOver first new k
    here = record {
      more = 1;
      most = omega arith;
      out = λ used. sym (ap (λ (o : Option (Option Transfer)). one_if (is_some (joined o))) (row_here old.jobs new.jobs k None (Some t) jobs row));
      begun = counts_as first set new.pool.begins old.board.asks new.board.asks (suc k) 1 given.begins log
          (begun_here first old.pool.begins old.board.asks (suc k) 0 (subst (λ (n : ℕ). BeginsMore first old.pool.begins old.board.asks (suc k) n) none mine.begun));
    }

    by : (l : ℕ) → (nat_eq l k ≡ true) ⊎ (nat_eq l k ≡ false) → HasBegunOver first new l
    by l (inl own) =
        let lane : l ≡ k = grind (arith, nat_tests, own) in
        subst (λ (n : ℕ). HasBegunOver first new n) (sym lane) here
    by l (inr apart) =
        let was = has.workers l in
        let lanes : nat_eq (suc l) (suc k) ≡ false = grind (arith, nat_tests, apart) in
        over_same first old new l (used_before old.jobs new.jobs k (Some t) jobs) (λ used. ap (λ (o : Option (Option Transfer)). is_some (joined o)) (row_apart old.jobs new.jobs k l (Some t) jobs apart)) was
        (counts_as first set new.pool.begins old.board.asks new.board.asks (suc l) was.more given.begins log (begun_apart first old.pool.begins old.board.asks (suc k) (suc l) was.more count lanes was.begun))

-- a worker's last word is told
pub begun_told : (first : List ℕ) (old new : RunLanes) (k : ℕ) (t : Transfer) → new.pool.begins ≡ old.pool.begins → HasEntry old.board.asks new.board.asks (suc k) → old.jobs.alone ≡ false
    → slice_get old.jobs.rows k ≡ Some (Some t) → new.jobs ≡ with_row k None old.jobs → HasBegun first old → HasBegun first new
begun_told first old new k t counts told used row jobs has = record {
  own = told_apart first new.pool.begins old.board.asks new.board.asks (suc k) 0 0 told (grind (arith, nat_tests)) (counted 0 0 has.own);
  workers = λ l. by l (cases_Bool (nat_eq l k));
}
  where
    counted : (lane more : ℕ) → BeginsMore first old.pool.begins old.board.asks lane more → BeginsMore first new.pool.begins old.board.asks lane more
    counted lane more is = subst (λ (ns : List ℕ). BeginsMore first ns old.board.asks lane more) (sym counts) is

    mine : HasBegunOver first old k
    mine = has.workers k

    one : mine.more ≡ 1
    one = mine.out used ∙ ap (λ (o : Option (Option Transfer)). one_if (is_some (joined o))) row

    here : HasBegunOver first new k
    here = record {
      more = 0;
      most = omega arith;
      out = λ now. sym (ap (λ (o : Option (Option Transfer)). one_if (is_some (joined o))) (row_here old.jobs new.jobs k (Some t) None jobs row));
      begun = told_here first new.pool.begins old.board.asks new.board.asks (suc k) 0 told (counted (suc k) 1 (subst (λ (n : ℕ). BeginsMore first old.pool.begins old.board.asks (suc k) n) one mine.begun));
    }

    by : (l : ℕ) → (nat_eq l k ≡ true) ⊎ (nat_eq l k ≡ false) → HasBegunOver first new l
    by l (inl own) =
        let lane : l ≡ k = grind (arith, nat_tests, own) in
        subst (λ (n : ℕ). HasBegunOver first new n) (sym lane) here
    by l (inr apart) =
        let was = has.workers l in
        let lanes : nat_eq (suc l) (suc k) ≡ false = grind (arith, nat_tests, apart) in
        over_same first old new l (used_before old.jobs new.jobs k None jobs) (λ now. ap (λ (o : Option (Option Transfer)). is_some (joined o)) (row_apart old.jobs new.jobs k l None jobs apart)) was
        (told_apart first new.pool.begins old.board.asks new.board.asks (suc k) (suc l) was.more told lanes (counted (suc l) was.more was.begun))

-- ---- an answer is taken in

-- the answer to a job that is out comes to the log, by its method's lane
pub answer_told : Laws → JobsAlwaysStand → (tells : Bool) (files : Files) (state : RunLanes) (now : List State) (k method : ℕ) (t : Transfer) (closed : Closed) (later : Board) → MayAskOver state now → slice_get state.jobs.rows k ≡ Some (Some t)
    → TakesIn tells files state.board method t.job.no closed later → HasEntry state.board.asks later.asks method
answer_told laws law tells files state now k method t closed later ready at takes =
    let p = out_of state now k t ready.sound ready.running at in
    let own = own_of p in
    let there = lane_of_out law ready.begun ready.notes state.board state.jobs now k t p in
    let before = with_old takes.anew.n takes.anew.old state.board in
    let asks : asker_of before t.job.no ≡ Some own.a = laws.lists.asker takes.anew.n takes.anew.old state.board t.job.no ∙ own.asks in
    record { entry = _; is = ap (λ (b : Board). b.asks) (takes_as tells files state.board later method t.job.no closed takes ∙ absorbed_is before method t.job.no k closed own.a there asks); lane = refl }

-- that of the coordinator's own method
pub own_told : Laws → JobsAlwaysStand → (tells : Bool) (files : Files) (state : RunLanes) (pool : Pool) (now : List State) (k : ℕ) (t : Transfer) (closed : Closed) (later : Board) → MayAskOver state now → slice_get state.jobs.rows k ≡ Some (Some t)
    → OthersStay state.pool pool → own_begins pool ≡ one_more (own_begins state.pool) → TakesIn tells files state.board 0 t.job.no closed later → AsksOwn state.pool pool state.board.asks later.asks
own_told laws law tells files state pool now k t closed later ready at stay one takes =
    let told = answer_told laws law tells files state now k 0 t closed later ready at takes in
    inr (record { begins = stay.begins ∙ ap (λ (n : ℕ). slice_set state.pool.begins 0 n) one; entry = told.entry; is = told.is; lane = told.lane })

pub none_told : (pool : Pool) (asks : List Asked) → AsksOwn pool pool asks asks
none_told pool asks = inl (record { begins = refl; same = refl })

-- ---- a job goes out

row_free : JobsAlwaysStand → (state : RunLanes) (now : List State) (lane : ℕ) (job : Job) → MayAskOver state now → issued_job state.board lane ≡ Some job → slice_get state.jobs.rows lane ≡ Some None
row_free law state now lane job ready e =
    let running = ready.running in
    let free = lane_free law ready.begun ready.notes state.board lane job running.under_way.heard.reached e in
    row_none state.jobs.rows lane (subst (λ (o : List (Option ℕ)). slice_get o lane ≡ Some None) running.out.numbers free)

-- its worker took it
pub begun_out : JobsAlwaysStand → (state : RunLanes) (pool : Pool) (now : List State) (lane : ℕ) (job : Job) (fetch : Fetch) → MayAskOver state now → issued_job state.board lane ≡ Some job
    → WasGiven state.jobs.alone (suc lane) fetch state.pool pool → (first : List ℕ) → HasBegun first state → HasBegun first (run_lanes pool (put_in state lane job).jobs (issued state.board lane))
begun_out law state pool now lane job fetch ready e was first has =
    begun_given first state (run_lanes pool (put_in state lane job).jobs (issued state.board lane)) lane fetch (record { job = job; intake = nothing_yet (staged_name (issued state.board lane) job.no) }) was
    (row_free law state now lane job ready e) refl refl has

asks_from : (old mid new : Pool) (asks later : List Asked) → mid.begins ≡ old.begins → AsksOwn mid new asks later → AsksOwn old new asks later
asks_from old mid new asks later same (inl asked) = inl (record { begins = asked.begins ∙ same; same = asked.same })
asks_from old mid new asks later same (inr asked) =
    inr (record { begins = asked.begins ∙ ap (λ (ns : List ℕ). slice_set ns 0 (one_more (slice_index ns 0))) same; entry = asked.entry; is = asked.is; lane = asked.lane })

-- none took it, and it was fetched
pub begun_left : JobsAlwaysStand → (state : RunLanes) (pool later : Pool) (now : List State) (lane : ℕ) (job : Job) (jobs : JobsOut) (c : Board) → MayAskOver state now → issued_job state.board lane ≡ Some job
    → WasRefused state.pool pool → AsksOwn pool later (issued state.board lane).asks c.asks → jobs ≡ with_row lane None (put_in state lane job).jobs
    → (first : List ℕ) → HasBegun first state → HasBegun first (run_lanes later jobs c)
begun_left law state pool later now lane job jobs c ready e was asked rows first has =
    let none = row_free law state now lane job ready e in
    let put = rows ∙ row_twice lane (Some (record { job = job; intake = nothing_yet (staged_name (issued state.board lane) job.no) })) None state.jobs in
    begun_asked first state (run_lanes later jobs c) (asks_from state.pool pool later state.board.asks c.asks was.begins asked) (row_out state.jobs jobs lane None None put none refl) has

-- ---- a word is taken

pub begun_piece : (before pool : Pool) (jobs : JobsOut) (b : Board) (told : Told) (k : ℕ) (t : Transfer) (next : Intake) → slice_get jobs.rows k ≡ Some (Some t) → IsWordTaken before told pool
    → (first : List ℕ) → HasBegun first (run_lanes before jobs b) → HasBegun first (run_lanes pool (with_row k (Some (record { job = t.job; intake = next })) jobs) b)
begun_piece before pool jobs b told k t next at taken first has =
    let later = with_row k (Some (record { job = t.job; intake = next })) jobs in
    begun_still first (run_lanes before jobs b) (run_lanes pool later b) taken.begins refl (row_out jobs later k (Some t) (Some (record { job = t.job; intake = next })) refl at refl) has

-- any other word
pub begun_last : Laws → JobsAlwaysStand → (tells : Bool) (files : Files) (before pool : Pool) (jobs : JobsOut) (b c : Board) (now : List State) (told : Told) (k : ℕ) (t : Transfer) (closed : Closed) → IsDue told pool jobs b now
    → told.lane ≡ suc k → slice_get jobs.rows k ≡ Some (Some t) → jobs.alone ≡ false → IsWordTaken before told pool → TakesIn tells files b told.lane t.job.no closed c
    → (first : List ℕ) → HasBegun first (run_lanes before jobs b) → HasBegun first (run_lanes pool (with_row k None jobs) c)
begun_last laws law tells files before pool jobs b c now told k t closed due lane at used taken takes first has =
    let entry = answer_told laws law tells files (run_lanes due.before jobs b) now k told.lane t closed c due.ready at takes in
    begun_told first (run_lanes before jobs b) (run_lanes pool (with_row k None jobs) c) k t taken.begins (subst (λ (n : ℕ). HasEntry b.asks c.asks n) lane entry) used at refl has
