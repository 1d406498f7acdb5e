-- What calls on the file of one name leave to a crash of all others. It rests on no journal.
use Rattle.std.specs.Prelude.{◌≡◌, ◌≢◌, ℕ, List, [], ◌∷◌}
use Rattle.acq_outside.specs.Disk.{Files}
use Rattle.acq_outside.specs.Crash.{State, IsImage}
use Rattle.acq_outside.specs.States.{From}
use Rattle.acq_outside.specs.declared.state.NameChange.{NameChange}
use Rattle.acq_outside.specs.declared.state.NameChange.TheVariants.{Made, Moved, Removed}

-- a change of names that changes no other name
abbrev pub ChangesNameAlone : List ℕ → NameChange → Type 0
ChangesNameAlone name (Made other i) = other ≡ name
ChangesNameAlone name (Moved from to) = (from ≡ name) × (to ≡ name)
ChangesNameAlone name (Removed other) = other ≡ name

abbrev pub AllChangeNameAlone : List ℕ → List NameChange → Type 0
AllChangeNameAlone name [] = Unit {0}
AllChangeNameAlone name (change ∷ changes) = ChangesNameAlone name change × AllChangeNameAlone name changes

-- what a crash might have left at a state, but for the file of one name
pub record IsAsOfBeside (name : List ℕ) (s : State) (image : Files) : Type 0 where
  pub before : Files
  pub was : IsImage s before
  pub same : (other : List ℕ) → other ≢ name → image other ≡ before other

-- Where no change of another name was pending, none is, and whatever a crash leaves, it might have left then, but for the
-- file of this name.
pub record LeavesOthers (name : List ℕ) (s t : State) : Type 0 where
  pub pending : AllChangeNameAlone name s.pending → AllChangeNameAlone name t.pending
  pub leaves : AllChangeNameAlone name s.pending → (image : Files) → IsImage t image → IsAsOfBeside name s image

abbrev pub OthersLeftSince : List ℕ → List State → State → Type 0
OthersLeftSince name = From (LeavesOthers name)
