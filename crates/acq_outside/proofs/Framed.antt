-- The frame over calls one after another.
use Rattle.std.proofs.Common.{◌≡◌, ◌∙◌, arith, ℕ, Bool, List, Ok}
use Rattle.acq_outside.specs.Crash.{State}
use Rattle.acq_outside.specs.Disk.{Files}
use Rattle.acq_outside.specs.Frame.{StaysBy, StaysCountingBy, ReadsBy, ReadsCountingBy}
use Rattle.acq_outside.specs.Count.{Rose, one_more}

-- one more call that told no fault
pub stayed_on : {D T E : Type 0} {faults holds : D → ℕ} {tells : D → Bool} {a b c : D} {x : T} → StaysBy {T = Unit {0}} {E = Unit {0}} faults holds tells a b (Ok tt) → StaysBy {T = T} {E = E} faults holds tells b c (Ok x)
    → StaysBy {T = Unit {0}} {E = Unit {0}} faults holds tells a c (Ok tt)
stayed_on so_far now = record {
  counts = record { count = omega (arith, so_far.count, now.count); fault = tt; quiet = now.quiet ∙ so_far.quiet };
  held = now.held ∙ so_far.held;
  telling = now.telling ∙ so_far.telling;
}

pub stayed_on_counting : {D T E : Type 0} {kind : E} {faults holds : D → ℕ} {tells : D → Bool} {a b c : D} {x : T} → StaysBy {T = Unit {0}} {E = Unit {0}} faults holds tells a b (Ok tt) → StaysCountingBy {T = T} {E = E} kind faults holds tells b c (Ok x)
    → StaysBy {T = Unit {0}} {E = Unit {0}} faults holds tells a c (Ok tt)
stayed_on_counting so_far now = record {
  counts = record { count = omega (arith, so_far.count, now.count); fault = tt; quiet = now.quiet ∙ so_far.quiet };
  held = now.held ∙ so_far.held;
  telling = now.telling ∙ so_far.telling;
}

pub read_on : {D T E : Type 0} {faults holds : D → ℕ} {tells : D → Bool} {files : D → Files} {trace : D → List State} {a b c : D} {x : T} → ReadsBy {T = Unit {0}} {E = Unit {0}} faults holds tells files trace a b (Ok tt) → ReadsBy {T = T} {E = E} faults holds tells files trace b c (Ok x)
    → ReadsBy {T = Unit {0}} {E = Unit {0}} faults holds tells files trace a c (Ok tt)
read_on so_far now = record {
  stays = stayed_on so_far.stays now.stays;
  same = now.same ∙ so_far.same;
  still = now.still ∙ so_far.still;
}

pub read_on_counting : {D T E : Type 0} {kind : E} {faults holds : D → ℕ} {tells : D → Bool} {files : D → Files} {trace : D → List State} {a b c : D} {x : T} → ReadsBy {T = Unit {0}} {E = Unit {0}} faults holds tells files trace a b (Ok tt) → ReadsCountingBy {T = T} {E = E} kind faults holds tells files trace b c (Ok x)
    → ReadsBy {T = Unit {0}} {E = Unit {0}} faults holds tells files trace a c (Ok tt)
read_on_counting so_far now = record {
  stays = stayed_on_counting so_far.stays now.stays;
  same = now.same ∙ so_far.same;
  still = now.still ∙ so_far.still;
}

-- one more fault is counted
pub rises : (n m : ℕ) → m ≡ one_more n → Rose n m
rises n m is = grind arith
