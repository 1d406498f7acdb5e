-- A list on its way, as contracts see it.
use Rattle.std.specs.Prelude.{◌≡◌, ℕ, List, Some}
use Rattle.acq_outside.specs.Disk.{Files}
use Rattle.acq_outside.specs.Crash.{State, IsImage}
use Rattle.journal_model.specs.Names.{partial}

-- the list's name, and how many bytes its file has
pub record PartOf : Type 0 where
  pub name : List ℕ
  pub len : ℕ

abbrev pub part_of : List ℕ → ℕ → PartOf
part_of name len = record { name = name; len = len }

-- whatever a crash leaves, the list is on its way with these bytes
abbrev pub LeavesPart : List ℕ → List ℕ → State → Type 0
LeavesPart name bytes s = (image : Files) → IsImage s image → image (partial name) ≡ Some bytes
