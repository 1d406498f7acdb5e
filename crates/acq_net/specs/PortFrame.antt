-- The frame of a call of a port, in the words of the port's members: how its counts go whatever it answers, and what it
-- leaves as it was. A contract says it in one clause of that name, beside what the call is for.
use Rattle.std.specs.Prelude.{◌≡◌, ℕ, List, Option, Result}
use Rattle.acq_outside.specs.Frame.{Counts}
use Rattle.acq_net.specs.Talk.{Talk}

-- A call that is to take peers from now on: its faults are counted, and counted as lost ones too.
pub record AwaitsBy {P T E : Type 0} (faults losses : P → ℕ) (old new : P) (result : Result T E) : Type 0 where
  pub counts : Counts (faults old) (faults new) result
  pub open counts use *
  pub lost : Counts (losses old) (losses new) result

-- A call that waits for the next peer: its faults are counted, and counted as lost ones too. It listens where it did.
pub record AcceptsBy {P T E : Type 0} (faults losses : P → ℕ) (listens : P → Option ℕ) (old new : P) (result : Result T E) : Type 0 where
  pub counts : Counts (faults old) (faults new) result
  pub open counts use *
  pub lost : Counts (losses old) (losses new) result
  pub at : listens new ≡ listens old

-- A call that sends or receives on the latest connection: its faults are counted, and none as lost. It listens where it did.
pub record ConversesBy {P T E : Type 0} (faults losses : P → ℕ) (listens : P → Option ℕ) (old new : P) (result : Result T E) : Type 0 where
  pub counts : Counts (faults old) (faults new) result
  pub open counts use *
  pub lost : losses new ≡ losses old
  pub at : listens new ≡ listens old

-- A call that leaves all that the port tells as it was.
pub record ClosesBy {P : Type 0} (faults losses : P → ℕ) (listens : P → Option ℕ) (says : P → Option (List Talk)) (old new : P) : Type 0 where
  pub quiet : faults new ≡ faults old
  pub lost : losses new ≡ losses old
  pub at : listens new ≡ listens old
  pub talks : says new ≡ says old
