-- How far a file has been read.
use Rattle.std.specs.Prelude.{◌≡◌, ℕ, ◌+◌, ◌≤◌, List, length, take}
use Rattle.acq_base.specs.declared.sum.Sum.{Sum}
use Rattle.hash_gate.specs.declared.gate.Gate.{Gate}
use Rattle.hash_gate.specs.Pieces.{HasTaken}

-- a gate that has taken the content up to a place takes n bytes more, n being 0 only at its end
pub record TakesOn (content : List ℕ) (at n : ℕ) (before after : Gate) : Type 0 where
  pub taken : (sum : Sum) → at ≤ length content → HasTaken before sum (take at content) → HasTaken after sum (take (at + n) content)
  pub inside : at ≤ length content → at + n ≤ length content
  pub ends : n ≡ 0 → length content ≤ at
