-- The pieces so far.
use Rattle.std.proofs.Common.{◌≡◌, map, List, ℕ, Bor}
use Rattle.source_lists.proofs.options.listed_architectures.Given as goal

abbrev pub invariant-loop-piece : goal.invariant-loop-piece
invariant-loop-piece l = l.pieces ≡ map (λ (piece : Bor (List ℕ)). piece.now) l.yielded
