-- How many fetches a run begins of each method.
use Rattle.std.proofs.Common.{◌≡◌, ◌∙◌, ℕ, zero, suc, ◌+◌, List, [], ◌∷◌, length, replicate, Option, Some, None, refl, sym, ap, subst, arith}
use Rattle.std.specs.Prelude.{is_some, slice_get, Err, IfOk, IsErrAnd, Ok, Result}
use Rattle.board_model.specs.Boards.{Board}
use Rattle.board_model.specs.Jobs.{one_if}
use Rattle.board_model.specs.Slots.{joined}
use Rattle.lane_jobs.specs.Begins.{BeginsMore, HasBegun}
use Rattle.lane_jobs.specs.Going.{RunLanes, run_lanes}
use Rattle.lane_jobs.specs.JobsOut.{JobsOut, none_out}
use Rattle.lane_jobs.specs.declared.transfers.Transfer.{Transfer}
use Rattle.lane_pool.specs.Counting.{AreBegun, BegunAsHanded, IsBegun, counted_on}
use Rattle.lane_pool.specs.Pool.{Pool}
use Rattle.run_jobs.specs.Counting.{BeginsAsTold, IsBegunAsTold, asks_of_lane}
use Rattle.update_engine.specs.Run.{TellsBegins}
use Rattle.run_jobs.specs.declared.error.RunError.{RunError}
use Rattle.run_jobs.specs.declared.error.RunError.TheVariants.{NoMemory}
use Rattle.update_model.specs.declared.log.Asked.{Asked}
use Rattle.update_model.specs.declared.log.RunLog.{RunLog}

-- ---- at the beginning

abbrev nothing : Option Transfer
nothing = None

none_there : (lanes lane : ℕ) → joined (slice_get (replicate lanes nothing) lane) ≡ None
none_there zero lane = refl
none_there (suc lanes) zero = refl
none_there (suc lanes) (suc lane) = none_there lanes lane

none_told : (counts : List ℕ) (lane : ℕ) (asks : List Asked) → asks ≡ [] → BeginsMore counts counts asks lane 0
none_told counts lane asks none = λ start last is at.
    let same : start ≡ last = cc in
    sym same ∙ ap (λ (xs : List Asked). counted_on start (length (asks_of_lane lane xs) + 0)) (sym none)

-- where nothing was asked just as many were begun
pub new_begun : (pool : Pool) (lanes : ℕ) (jobs : JobsOut) (b : Board) → jobs ≡ none_out lanes → b.asks ≡ [] → HasBegun pool.begins (run_lanes pool jobs b)
new_begun pool lanes jobs b is none = record {
  own = none_told pool.begins 0 b.asks none;
  workers = λ lane. record {
    more = 0;
    most = omega arith;
    out = λ used. sym (ap (λ (o : Option Transfer). one_if (is_some o)) (ap (λ (j : JobsOut). joined (slice_get j.rows lane)) is ∙ none_there lanes lane));
    begun = none_told pool.begins (suc lane) b.asks none;
  };
}

-- ---- between asks

-- no more was begun where no entry came
pub begun_aside : (first : List ℕ) (pool : Pool) (jobs : JobsOut) (b c : Board) → c.asks ≡ b.asks → HasBegun first (run_lanes pool jobs b) → HasBegun first (run_lanes pool jobs c)
begun_aside first pool jobs b c same has = record {
  own = subst (λ (asks : List Asked). BeginsMore first pool.begins asks 0 0) (sym same) has.own;
  workers = λ lane.
      let over = has.workers lane in
      record { more = over.more; most = over.most; out = over.out; begun = subst (λ (asks : List Asked). BeginsMore first pool.begins asks (suc lane) over.more) (sym same) over.begun };
}

-- ---- at the end

pub tells_begun : (first : List ℕ) (state : RunLanes) (asks : List Asked) → asks ≡ state.board.asks → HasBegun first state → TellsBegins first state.pool.begins asks
tells_begun first state asks same has = record {
  own = subst (λ (xs : List Asked). BeginsMore first state.pool.begins xs 0 0) (sym same) has.own;
  workers = λ lane.
      let over = has.workers lane in
      (over.more, over.most, subst (λ (xs : List Asked). BeginsMore first state.pool.begins xs (suc lane) over.more) (sym same) over.begun);
}

record IsTold (tolds : List ℕ) (lane begun : ℕ) : Type 0 where
  told : ℕ
  at : slice_get tolds lane ≡ Some told
  is : IsBegun told begun

begun_at : (tolds begun : List ℕ) (lane last : ℕ) → AreBegun tolds begun → slice_get begun lane ≡ Some last → IsTold tolds lane last
begun_at [] [] lane last are at = absurd (cc)
begun_at [] (b ∷ begun) lane last are at = absurd are
begun_at (t ∷ tolds) [] lane last are at = absurd are
begun_at (t ∷ tolds) (b ∷ begun) zero last are at = let same : b ≡ last = cc in record { told = t; at = refl; is = subst (IsBegun t) same are.0 }
begun_at (t ∷ tolds) (b ∷ begun) (suc lane) last are at = let rest = begun_at tolds begun lane last are.1 at in record { told = rest.told; at = rest.at; is = rest.is }

-- of the methods that came back
pub begun_back : (first tolds begun : List ℕ) (asks : List Asked) → TellsBegins first tolds asks → BegunAsHanded tolds begun → BeginsAsTold first begun asks
begun_back first [] begun asks tells handed = absurd handed
begun_back first (own ∷ tolds) [] asks tells handed = absurd handed
begun_back first (own ∷ tolds) (b ∷ begun) asks tells handed = by
  where
    by : (lane start last : ℕ) → slice_get first lane ≡ Some start → slice_get (b ∷ begun) lane ≡ Some last → IsBegunAsTold lane start last (length (asks_of_lane lane asks))
    by zero start last is at =
        let same : b ≡ last = cc in
        let count = tells.own start own is refl in
        let none : length (asks_of_lane 0 asks) + 0 ≡ length (asks_of_lane 0 asks) = omega arith in
        sym same ∙ (handed.0 ∙ (count ∙ ap (counted_on start) none))
    by (suc lane) start last is at =
        let there = begun_at tolds begun lane last handed.1 at in
        let over = tells.workers lane in
        (there.is.0, over.0, over.1, sym there.is.1 ∙ over.2 start there.told is there.at)

pub told_back : (pool later : Pool) (counts begun : List ℕ) (result : Result RunLog RunError) → pool.begins ≡ counts → BegunAsHanded later.begins begun
    → IfOk result (λ log. TellsBegins pool.begins later.begins log.asks) → IfOk result (λ log. BeginsAsTold counts begun log.asks)
told_back pool later counts begun (Err e) same handed none = none
told_back pool later counts begun (Ok log) same handed tells =
    subst (λ (cs : List ℕ). BeginsAsTold cs begun log.asks) same (begun_back pool.begins later.begins begun log.asks tells handed)

-- nothing was begun before the lanes are there
pub none_told_back : (counts begun : List ℕ) (result : Result RunLog RunError) → IsErrAnd result (λ e. e ≡ NoMemory) → IfOk result (λ log. BeginsAsTold counts begun log.asks)
none_told_back counts begun (Ok log) never = absurd never
none_told_back counts begun (Err e) same = tt
