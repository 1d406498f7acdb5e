-- The frame of a call of a link, in the words of the link's members: how its counts go whatever it answers, and what it
-- leaves as it was. A contract says it in one clause of that name, beside what the call is for.
use Rattle.std.specs.Prelude.{◌≡◌, ◌≤◌, ℕ, Bool, true, Option, Result}
use Rattle.acq_base.specs.Mirror.{MirrorMap}
use Rattle.acq_outside.specs.Frame.{Counts, CountsOnly}
use Rattle.acq_net.specs.Due.{Due}
use Rattle.acq_net.specs.Talk.{Talk}

-- A call that opens a connection: its faults are counted, no peer's end was heard, and the link stands for the same mirror.
pub record OpensBy {L T E : Type 0} (faults hears : L → ℕ) (world : L → Option MirrorMap) (old new : L) (result : Result T E) : Type 0 where
  pub counts : Counts (faults old) (faults new) result
  pub open counts use *
  pub ends : hears new ≡ hears old
  pub same : world new ≡ world old

-- A call that says something on the present connection: none was made, and no peer's end was heard.
pub record SaysBy {L T E : Type 0} (faults makes hears : L → ℕ) (before : L → Option Talk) (world : L → Option MirrorMap) (old new : L) (result : Result T E) : Type 0 where
  pub counts : Counts (faults old) (faults new) result
  pub open counts use *
  pub made : makes new ≡ makes old
  pub ends : hears new ≡ hears old
  pub former : before new ≡ before old
  pub same : world new ≡ world old

-- A call that listens on the present connection: none was made, a peer's end may have been heard, and an answer that has
-- begun stays so.
pub record ListensBy {L T E : Type 0} (faults makes hears : L → ℕ) (before : L → Option Talk) (world : L → Option MirrorMap) (answers : L → Bool) (old new : L) (result : Result T E) : Type 0 where
  pub counts : Counts (faults old) (faults new) result
  pub open counts use *
  pub made : makes new ≡ makes old
  pub ends_count : hears old ≤ hears new
  pub former : before new ≡ before old
  pub same : world new ≡ world old
  pub answered : answers old ≡ true → answers new ≡ true

-- the same where errors of this kind alone are faults
pub record ListensCountingBy {L T E : Type 0} (kind : E) (faults makes hears : L → ℕ) (before : L → Option Talk) (world : L → Option MirrorMap) (answers : L → Bool) (old new : L) (result : Result T E) : Type 0 where
  pub counts : CountsOnly kind (faults old) (faults new) result
  pub open counts use *
  pub made : makes new ≡ makes old
  pub ends_count : hears old ≤ hears new
  pub former : before new ≡ before old
  pub same : world new ≡ world old
  pub answered : answers old ≡ true → answers new ≡ true

-- A call that asks, maybe on a new connection: a peer's end may have been heard.
pub record AsksBy {L T E : Type 0} (faults hears : L → ℕ) (world : L → Option MirrorMap) (old new : L) (result : Result T E) : Type 0 where
  pub counts : Counts (faults old) (faults new) result
  pub open counts use *
  pub ends_count : hears old ≤ hears new
  pub same : world new ≡ world old

-- A call that leaves all that the link tells as it was. It may close the connection.
pub record LeavesBy {L : Type 0} (faults makes hears : L → ℕ) (says before : L → Option Talk) (world : L → Option MirrorMap) (owes : L → Option Due) (answers : L → Bool) (old new : L) : Type 0 where
  pub quiet : faults new ≡ faults old
  pub made : makes new ≡ makes old
  pub ends : hears new ≡ hears old
  pub talk : says new ≡ says old
  pub former : before new ≡ before old
  pub same : world new ≡ world old
  pub due : owes new ≡ owes old
  pub answered : answers new ≡ answers old
