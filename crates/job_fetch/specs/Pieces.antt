-- What holds of a list's file while the pieces of a fetch come.
use Rattle.std.specs.Prelude.{◌≡◌, ℕ, ◌+◌, ◌≤◌, List, length, take}
use Rattle.acq_outside.specs.Crash.{State}
use Rattle.acq_outside.specs.States.{IsTold, IsNow}
use Rattle.hash_gate.specs.Pieces.{HasSummed, size_so_far}
use Rattle.hash_gate.specs.declared.total.Total.{Total}
use Rattle.journal_model.specs.Rest.{IsPartThere, part_bytes}
use Rattle.job_fetch.specs.declared.filling.Filling.{Filling}

-- The list's file on its way is there and as long as the part says, and the total is that of its bytes.
pub record IsFilling (now : List State) (filling : Filling) : Type 0 where
  pub there : IsNow (IsPartThere filling.part.name) now
  pub len : IsTold now → length (part_bytes now filling.part.name) ≡ filling.part.len
  pub small : size_so_far filling.total ≤ filling.part.len
  pub summed : IsTold now → HasSummed filling.total (part_bytes now filling.part.name)

-- The total has summed the content up to a place, and then n bytes more of it, none only at its end.
pub record SumsOn (content : List ℕ) (at n : ℕ) (before after : Total) : Type 0 where
  pub summed : at ≤ length content → HasSummed before (take at content) → HasSummed after (take (at + n) content)
  pub inside : at ≤ length content → at + n ≤ length content
  pub ends : n ≡ 0 → length content ≤ at
