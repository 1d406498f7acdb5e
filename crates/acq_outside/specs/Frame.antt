-- The frame of a call on an outside object: how its counts go whatever it answers, and what it leaves as it was. A contract
-- says it in one clause of that name, beside what the call is for.
use Rattle.std.specs.Prelude.{◌≡◌, ◌≢◌, ◌≤◌, ℕ, Bool, List, Option, Result, OnOk, OnErr, IfOk, IfErr, IsErrOf}
use Rattle.acq_base.specs.Mirror.{MirrorMap}
use Rattle.acq_outside.specs.Count.{Rose}
use Rattle.acq_outside.specs.Crash.{State}
use Rattle.acq_outside.specs.Disk.{Files}

-- The count of faults never falls; it rose where an error comes, and stood still where none does.
pub record Counts {T E : Type 0} (before after : ℕ) (result : Result T E) : Type 0 where
  pub count : before ≤ after
  pub fault : OnErr result (Rose before after)
  pub quiet : OnOk result (after ≡ before)

-- the same of a call whose errors are of several kinds: this one alone is a fault, and any other leaves the count
pub record CountsOnly {T E : Type 0} (kind : E) (before after : ℕ) (result : Result T E) : Type 0 where
  pub count : before ≤ after
  pub fault : IsErrOf result kind → Rose before after
  pub quiet : OnOk result (after ≡ before)
  pub dry : IfErr result (λ e. e ≢ kind → after ≡ before)

-- A call of a disk, in the words of the disk's members: its faults are counted, no other process was found to hold it, and
-- it tells its files as before.
pub record StaysBy {D T E : Type 0} (faults holds : D → ℕ) (tells : D → Bool) (old new : D) (result : Result T E) : Type 0 where
  pub counts : Counts (faults old) (faults new) result
  pub open counts use *
  pub held : holds new ≡ holds old
  pub telling : tells new ≡ tells old

pub record StaysCountingBy {D T E : Type 0} (kind : E) (faults holds : D → ℕ) (tells : D → Bool) (old new : D) (result : Result T E) : Type 0 where
  pub counts : CountsOnly kind (faults old) (faults new) result
  pub open counts use *
  pub held : holds new ≡ holds old
  pub telling : tells new ≡ tells old

-- a call of a disk that changes nothing
pub record ReadsBy {D T E : Type 0} (faults holds : D → ℕ) (tells : D → Bool) (files : D → Files) (trace : D → List State) (old new : D) (result : Result T E) : Type 0 where
  pub stays : StaysBy faults holds tells old new result
  pub open stays use *
  pub same : files new ≡ files old
  pub still : trace new ≡ trace old

pub record ReadsCountingBy {D T E : Type 0} (kind : E) (faults holds : D → ℕ) (tells : D → Bool) (files : D → Files) (trace : D → List State) (old new : D) (result : Result T E) : Type 0 where
  pub stays : StaysCountingBy kind faults holds tells old new result
  pub open stays use *
  pub same : files new ≡ files old
  pub still : trace new ≡ trace old

-- A call of an object whose files no call changes.
pub record LooksBy {O F T E : Type 0} (faults : O → ℕ) (files : O → F) (old new : O) (result : Result T E) : Type 0 where
  pub counts : Counts (faults old) (faults new) result
  pub open counts use *
  pub same : files new ≡ files old

pub record LooksCountingBy {O F T E : Type 0} (kind : E) (faults : O → ℕ) (files : O → F) (old new : O) (result : Result T E) : Type 0 where
  pub counts : CountsOnly kind (faults old) (faults new) result
  pub open counts use *
  pub same : files new ≡ files old

-- A call of an input that answers how many bytes it gave: its faults are counted, and the ends that it gave, which is
-- giving none.
pub record GivesBy {I E : Type 0} (faults gives_end : I → ℕ) (old new : I) (result : Result ℕ E) : Type 0 where
  pub counts : Counts (faults old) (faults new) result
  pub open counts use *
  pub ends_count : gives_end old ≤ gives_end new
  pub ended : IfOk result (λ n. n ≡ 0 → Rose (gives_end old) (gives_end new))
  pub goes_on : IfOk result (λ n. n ≢ 0 → gives_end new ≡ gives_end old)
  pub failed : OnErr result (gives_end new ≡ gives_end old)

-- A call of a method, whose word has the cause of a fault in it: its count never falls, and its mirror stays.
pub record FetchesBy {M : Type 0} (faults : M → ℕ) (world : M → Option MirrorMap) (old new : M) : Type 0 where
  pub count : faults old ≤ faults new
  pub same : world new ≡ world old
