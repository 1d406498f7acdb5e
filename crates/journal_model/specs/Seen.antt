-- The names that steps change, as a sorted set.
use Rattle.std.specs.Prelude.{◌≡◌, ℕ, ◌≤◌, Bool, ◌||◌, List, length}
use Rattle.std.specs.List.{list_any}
use Rattle.std.specs.Ordering.{nat_cmp}
use Rattle.std.specs.Cmp.Lexicographic.{slice_cmp}
use Rattle.std.specs.BTreeSet.{BTreeSet, contains}
use Rattle.acq_outside.specs.Disk.{same_name}
use Rattle.journal_model.specs.Names.{partial}
use Rattle.journal_model.specs.declared.step.Step.{Step}
use Rattle.journal_model.specs.declared.step.Step.TheVariants.{Put, Drop}

-- a step changes this name
abbrev pub touches : List ℕ → Step → Bool
touches name (Put list) = same_name name list || same_name name (partial list)
touches name (Drop list) = same_name name list

abbrev pub has : BTreeSet (List ℕ) → List ℕ → Bool
has names name = contains (slice_cmp nat_cmp) names name

-- the names are those that the steps change
abbrev pub HasNames : BTreeSet (List ℕ) → List Step → Type 0
HasNames names steps = (name : List ℕ) → has names name ≡ list_any (touches name) steps

-- with `partial/` before it a Put's name is a name
abbrev pub IsPutShort : Step → Type 0
IsPutShort (Put name) = length name ≤ 247
IsPutShort (Drop name) = Unit {0}
