-- How a call goes from one state of the disk to the next: what holds of each moment, which files stay, and where it ends.
use Rattle.std.specs.Prelude.{ℕ, List, [], Result, OnOk}
use Rattle.acq_outside.specs.Crash.{State}
use Rattle.acq_outside.specs.States.{IsNow, Since, From}
use Rattle.acq_outside.specs.declared.disk.Disk.{Ghosts}
use Rattle.journal_model.specs.Rest.{IsIdle, KeptAtRestSince, part_bytes}
use Rattle.commit_journal.specs.declared.changing.Change.{Change}
use Rattle.commit_journal.specs.Changes.{AllAllowed, AreApart, AreStaged, changed_names}
use Rattle.commit_journal.specs.Opening.{Recovers, KeepsFilesBut}
use Rattle.commit_journal.specs.Phases.{IsOfCommit}
use Rattle.commit_journal.specs.Laying.{AreFilledFrom, KeepsUnnamedIn}

-- Each moment since the old one keeps this, the files of others stay so, and where no error comes the call is done so.
pub record Moves {T E : Type 0} (Keeps : List State → State → Type 0) (Others : List State → List State → Type 0)
    (Done : State → Type 0) (old new : List State) (result : Result T E) : Type 0 where
  pub moments : Since old new (Keeps old)
  pub others : Others old new
  pub done : OnOk result (IsNow Done new)

-- whatever a crash leaves on the way reopens to what it might have left before, and only these files change
abbrev pub Recovering : {D T E : Type 0} → (List ℕ → Type 0) → (State → Type 0) → Ghosts D → D → D → Result T E → Type 0
Recovering Own Done g old new result = Moves (From Recovers) (KeepsFilesBut Own) Done (g.trace old) (g.trace new) result

-- what was at rest stays so on the way, with its lists, and the files of others stay so
abbrev pub Resting : {D T E : Type 0} → (List State → List State → Type 0) → (State → Type 0) → Ghosts D → D → D → Result T E → Type 0
Resting Others Done g old new result = Moves KeptAtRestSince Others Done (g.trace old) (g.trace new) result

-- the same of a call that writes the journal alone
abbrev pub Noting : {D T E : Type 0} → (State → Type 0) → Ghosts D → D → D → Result T E → Type 0
Noting Done g old new result = Resting (KeepsFilesBut (IsOfCommit [])) Done g old new result

-- the same of what the changes put: in the end it is there under its names on its way, and lasts
abbrev pub Filling : {D T E : Type 0} → List Change → Ghosts D → D → D → Result T E → Type 0
Filling changes g old new result =
    Resting (KeepsUnnamedIn (changed_names changes)) (AreFilledFrom (part_bytes (g.trace old)) changes) g old new result

-- What these changes put may be laid: their names are allowed, no two are one, what is staged is there and lasts, and a
-- commit may be prepared.
pub record CanFill (changes : List Change) (trace : List State) : Type 0 where
  pub allowed : AllAllowed changes
  pub apart : AreApart (changed_names changes)
  pub staged : IsNow (AreStaged changes) trace
  pub idle : IsNow IsIdle trace
