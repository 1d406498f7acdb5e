use Rattle.std.proofs.Common.{◌≡◌, ◌++◌, List, ℕ, [], map, get_or}
use Rattle.acq_memory.specs.Replay.{rows_in}
use Rattle.acq_memory.proofs.image.rows_of.Given as goal

-- the rows so far and those of the names that are left are all
abbrev pub invariant-loop-name : goal.invariant-loop-name
invariant-loop-name l = l.rows ++ map (λ (entry : List ℕ × ℕ). (entry.0, get_or l.contents entry.1 [])) l.name-iterator ≡ rows_in l.names l.contents
