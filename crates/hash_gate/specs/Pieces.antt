-- Which bytes a gate or a total has taken. They are all its pieces in a row, so it doesn't show how these were cut.
use Rattle.std.specs.Prelude.{◌≡◌, ℕ, nat_le, if◌then◌else◌, List, length, Option, Some, None}
use Rattle.sha2.specs.Hashers.{Holds256}
use Rattle.acq_base.specs.declared.sum.Sum.{Sum}
use Rattle.hash_gate.specs.declared.gate.Gate.{Gate}
use Rattle.hash_gate.specs.declared.total.Total.{Total}

-- a count that is kept up to a limit
abbrev pub count_within : ℕ → ℕ → Option ℕ
count_within limit n = if nat_le n limit then Some n else None

-- the gate stands before the file of this sum, and has taken these bytes
pub record HasTaken (gate : Gate) (sum : Sum) (bytes : List ℕ) : Type 0 where
  pub wanted : gate.wanted ≡ sum
  pub counted : gate.count ≡ count_within sum.size (length bytes)
  pub hashed : Holds256 gate.hasher bytes

-- how many bytes a total has taken
abbrev pub size_so_far : Total → ℕ
size_so_far total = total.size

-- the total has taken these bytes
pub record HasSummed (total : Total) (bytes : List ℕ) : Type 0 where
  pub counted : size_so_far total ≡ length bytes
  pub hashed : Holds256 total.hasher bytes
