-- A run over its lanes, behind what happened on one of them.
use Rattle.std.proofs.Common.{◌≡◌, ◌∙◌, ◌⊎◌, ◌<◌, ◌≤◌, ℕ, zero, suc, nat_eq, true, false, Bool, List, [], ◌∷◌, length, Option, Some, None, refl, sym, ap, subst, arith, inl, inr}
use Rattle.std.specs.Prelude.{slice_get, slice_index, slice_index_or, slice_set}
use Rattle.std.proofs.lemmas.Bool.{cases_Bool}
use Rattle.std.proofs.lemmas.Bool.Decides.{nat_tests}
use Rattle.std.proofs.lemmas.List.{append-nil}
use Rattle.acq_outside.specs.Count.{NoneFell}
use Rattle.acq_outside.specs.Crash.{State}
use Rattle.acq_outside.specs.declared.word.Fetch.{Fetch}
use Rattle.board_model.specs.Boards.{Board}
use Rattle.board_model.specs.Runs.{Note}
use Rattle.host_queues.proofs.Changes.{get-other}
use Rattle.host_queues.specs.Lanes.{changed_at}
use Rattle.lane_pool.proofs.Rows.{none_fell_refl, none_fell_set, none_fell_trans}
use Rattle.lane_pool.specs.Pool.{OthersStay, Pool, own_count, own_fetch}
use Rattle.run_jobs.proofs.Rising.{faults_more}
use Rattle.run_jobs.specs.Running.{HasCounted, RunStart}
use Rattle.lane_jobs.proofs.Answered.{HasTakenIn}
use Rattle.lane_jobs.proofs.Pieces.{HasGoneOn}
use Rattle.lane_jobs.specs.Going.{AreLanesOf, IsGiven, IsHandedOver, IsRunningOver, IsUnused, JobsAddNotes, KeepsLanes, RunLanes}
use Rattle.lane_jobs.specs.declared.transfers.Transfer.{Transfer}

-- ---- rows

pub got : {A : Type 0} (xs : List A) (n : ℕ) (d : A) → n < length xs → slice_get xs n ≡ Some (slice_index_or xs n d)
got [] n d within = absurd (omega (arith, within))
got (x ∷ xs) zero d within = refl
got (x ∷ xs) (suc n) d within = got xs n d (omega (arith, within))

pub within_at : {A : Type 0} (xs : List A) (n : ℕ) (x : A) → slice_get xs n ≡ Some x → n < length xs
within_at [] n x at = absurd (cc)
within_at (y ∷ xs) zero x at = omega arith
within_at (y ∷ xs) (suc n) x at = let rest = within_at xs n x at in omega (arith, rest)

pub set_here : {A : Type 0} (xs : List A) (n : ℕ) (y : A) → n < length xs → slice_get (slice_set xs n y) n ≡ Some y
set_here [] n y within = absurd (omega (arith, within))
set_here (x ∷ xs) zero y within = refl
set_here (x ∷ xs) (suc n) y within = set_here xs n y (omega (arith, within))

pub set_other : {A : Type 0} (xs : List A) (n m : ℕ) (y : A) → nat_eq m n ≡ false → slice_get (slice_set xs n y) m ≡ slice_get xs m
set_other [] n m y apart = refl
set_other (x ∷ xs) zero zero y apart = absurd (grind (arith, nat_tests, apart))
set_other (x ∷ xs) zero (suc m) y apart = refl
set_other (x ∷ xs) (suc n) zero y apart = refl
set_other (x ∷ xs) (suc n) (suc m) y apart = set_other xs n m y (grind (arith, nat_tests, apart))

pub set_length : {A : Type 0} (xs : List A) (n : ℕ) (y : A) → length (slice_set xs n y) ≡ length xs
set_length [] n y = refl
set_length (x ∷ xs) zero y = refl
set_length (x ∷ xs) (suc n) y = ap suc (set_length xs n y)

-- a row in which none is put where there was none
pub none_changed : {A : Type 0} (xs : List (Option A)) (n : ℕ) → ((x : A) → slice_get xs n ≡ Some (Some x) → ⊥) → changed_at n (λ was. None) xs ≡ xs
none_changed [] n never = refl
none_changed (None ∷ xs) zero never = refl
none_changed (Some x ∷ xs) zero never = absurd (never x refl)
none_changed (x ∷ xs) (suc n) never = ap (λ (zs : List (Option _)). x ∷ zs) (none_changed xs n never)

-- ---- what workers have under way

-- the other lanes' jobs stay where one lane's row changes
pub given_other : (rows : List (Option Transfer)) (k l : ℕ) (row : Option Transfer) (fetch : Fetch) → nat_eq l k ≡ false → IsGiven rows l fetch → IsGiven (changed_at k (λ was. row) rows) l fetch
given_other rows k l row fetch apart is = record { transfer = is.transfer; at = get-other (λ was. row) rows k l apart ∙ is.at; is = is.is }

-- where a lane's worker has nothing under way, its row may change
pub given_unused : (state : RunLanes) (pool : Pool) (k : ℕ) (row : Option Transfer)
    → (state.jobs.alone ≡ false → (lane : ℕ) (fetch : Fetch) → slice_get state.pool.outs (suc lane) ≡ Some (Some fetch) → IsGiven state.jobs.rows lane fetch)
    → IsUnused k state → ((l : ℕ) → slice_get pool.outs (suc l) ≡ slice_get state.pool.outs (suc l))
    → state.jobs.alone ≡ false → (l : ℕ) (fetch : Fetch) → slice_get pool.outs (suc l) ≡ Some (Some fetch) → IsGiven (changed_at k (λ was. row) state.jobs.rows) l fetch
given_unused state pool k row given unused same used l fetch at = by (cases_Bool (nat_eq l k))
  where
    before : slice_get state.pool.outs (suc l) ≡ Some (Some fetch)
    before = sym (same l) ∙ at

    by : (nat_eq l k ≡ true) ⊎ (nat_eq l k ≡ false) → IsGiven (changed_at k (λ was. row) state.jobs.rows) l fetch
    by (inl here) =
        let lane : l ≡ k = grind (arith, nat_tests, here) in
        absurd (unused used fetch (subst (λ (n : ℕ). slice_get state.pool.outs (suc n) ≡ Some (Some fetch)) lane before))
    by (inr apart) = given_other state.jobs.rows k l row fetch apart (given used l fetch before)

-- the coordinator's own fetch leaves what workers have under way
pub own_outs : (old new : Pool) → OthersStay old new → (l : ℕ) → slice_get new.outs (suc l) ≡ slice_get old.outs (suc l)
own_outs old new stay l = ap (λ (outs : List (Option Fetch)). slice_get outs (suc l)) stay.outs ∙ set_other old.outs 0 (suc l) (own_fetch new) (grind (arith, nat_tests))

pub own_methods : (begun : RunStart) (old new : Pool) → OthersStay old new → AreLanesOf begun old → AreLanesOf begun new
own_methods begun old new stay are = record {
  worlds = stay.worlds ∙ are.worlds;
  mirrors = are.mirrors;
  outs = ap length stay.outs ∙ set_length old.outs 0 (own_fetch new) ∙ are.outs;
  some = are.some;
}

-- ---- counts

pub fell_at : (counts : List ℕ) (lane after : ℕ) → slice_index counts lane ≤ after → NoneFell counts (slice_set counts lane after)
fell_at counts lane after le = none_fell_set counts lane after le

pub counted_more : (begun : RunStart) (counts later : List ℕ) (b : Board) → length later ≡ length counts → NoneFell counts later → HasCounted begun counts b → HasCounted begun later b
counted_more begun counts later b same fell has = record { sized = same ∙ has.sized; faults = faults_more begun.counts counts later b.asks fell has.faults }

-- ---- the methods

pub keeps_same : (pool : Pool) → KeepsLanes pool pool
keeps_same pool = record { worlds = refl; counts = none_fell_refl pool.counts }

pub keeps_then : (a b c : Pool) → KeepsLanes a b → KeepsLanes b c → KeepsLanes a c
keeps_then a b c one two = record { worlds = two.worlds ∙ one.worlds; counts = none_fell_trans a.counts b.counts c.counts one.counts two.counts }

pub own_keeps : (old new : Pool) → OthersStay old new → KeepsLanes old new
own_keeps old new stay = record { worlds = stay.worlds; counts = rw stay.counts (fell_at old.counts 0 (own_count new) stay.count) }

-- whether a job was handed to a worker or not
pub handed_keeps : (alone : Bool) (lane : ℕ) (fetch : Fetch) (old new : Pool) (is : Bool) → IsHandedOver alone lane fetch old new is → KeepsLanes old new
handed_keeps alone lane fetch old new true was = record { worlds = was.worlds; counts = rw was.counts (none_fell_refl old.counts) }
handed_keeps alone lane fetch old new false was = record { worlds = was.worlds; counts = rw was.counts (none_fell_refl old.counts) }

-- ---- a step

pub taken_in : (begun : RunStart) (notes : List Note) (state after : RunLanes) (old now : List State) → AreLanesOf begun after.pool
    → (after.jobs.alone ≡ false → (lane : ℕ) (fetch : Fetch) → slice_get after.pool.outs (suc lane) ≡ Some (Some fetch) → IsGiven after.jobs.rows lane fetch)
    → HasTakenIn begun notes after.pool.counts state.jobs after.jobs after.board old now → JobsAddNotes begun notes state after old now
taken_in begun notes state after old now methods given has = record {
  more = has.note ∷ [];
  left = λ told name isnt. has.left told name;
  ended = has.ended;
  running = record { under_way = has.under; counted = has.counted; methods = methods; out = record { numbers = has.numbers; each = has.each; given = given } };
}

pub gone_on : (begun : RunStart) (notes : List Note) (state after : RunLanes) (old now : List State) → after.board ≡ state.board → AreLanesOf begun after.pool → HasCounted begun after.pool.counts state.board
    → (after.jobs.alone ≡ false → (lane : ℕ) (fetch : Fetch) → slice_get after.pool.outs (suc lane) ≡ Some (Some fetch) → IsGiven after.jobs.rows lane fetch)
    → HasGoneOn begun notes state.board state.jobs after.jobs old now → JobsAddNotes begun notes state after old now
gone_on begun notes state after old now same methods counted given has = record {
  more = [];
  left = has.left;
  ended = has.ended;
  running = subst (λ (ns : List Note). IsRunningOver begun ns after now) (sym (append-nil notes)) (record {
    under_way = rw same has.under;
    counted = rw same counted;
    methods = methods;
    out = record { numbers = rw same has.numbers; each = rw same has.each; given = given };
  });
}
