-- What a record's steps do to a folder. A folder is a map from names: to bytes, or to the numbers of files.
use Rattle.std.specs.Prelude.{◌≡◌, ◌⊎◌, ℕ, ◌≤◌, if◌then◌else◌, List, [], ◌∷◌, length, Option, Some, None}
use Rattle.acq_outside.specs.Disk.{IsName, same_name}
use Rattle.acq_outside.specs.declared.state.NameChange.{NameChange}
use Rattle.acq_outside.specs.declared.state.NameChange.TheVariants.{Moved, Removed}
use Rattle.journal_model.specs.Names.{partial}
use Rattle.journal_model.specs.declared.step.Step.{Step}
use Rattle.journal_model.specs.declared.step.Step.TheVariants.{Put, Drop}

abbrev pub with_at : {A : Type 0} → (List ℕ → Option A) → List ℕ → Option A → List ℕ → Option A
with_at m name x = λ other. if same_name name other then x else m other

abbrev pub moved_at : {A : Type 0} → (List ℕ → Option A) → List ℕ → List ℕ → Option A → List ℕ → Option A
moved_at m from to None = m
moved_at m from to (Some x) = with_at (with_at m from None) to (Some x)

-- a Put moves the list on its way to its name, where it is there; a Drop removes
abbrev pub after_step : {A : Type 0} → (List ℕ → Option A) → Step → List ℕ → Option A
after_step m (Put name) = moved_at m (partial name) name (m (partial name))
after_step m (Drop name) = with_at m name None

abbrev pub after_steps : {A : Type 0} → (List ℕ → Option A) → List Step → List ℕ → Option A
after_steps m [] = m
after_steps m (step ∷ steps) = after_steps (after_step m step) steps

-- What each step changes, and with which calls.

-- a step changes this name
abbrev pub Touches : Step → List ℕ → Type 0
Touches (Put list) name = (name ≡ list) ⊎ (name ≡ partial list)
Touches (Drop list) name = name ≡ list

abbrev pub IsIn : Step → List Step → Type 0
IsIn step [] = ⊥
IsIn step (other ∷ steps) = (step ≡ other) ⊎ IsIn step steps

-- the names of a step's calls
abbrev pub IsNamedStep : Step → Type 0
IsNamedStep (Put name) = IsName name × (length name ≤ 247)
IsNamedStep (Drop name) = IsName name

-- what a step is as a pending change of names
abbrev pub change_of : Step → NameChange
change_of (Put list) = Moved (partial list) list
change_of (Drop list) = Removed list

-- each is what one of the steps is
abbrev pub AreOf : List Step → List NameChange → Type 0
AreOf steps [] = Unit {0}
AreOf steps (change ∷ changes) = ((step : Step) × IsIn step steps × (change ≡ change_of step)) × AreOf steps changes
