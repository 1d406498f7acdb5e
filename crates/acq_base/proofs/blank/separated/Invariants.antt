use Rattle.std.proofs.Common.{◌≡◌, map, List, ℕ, Bor}
use Rattle.std.specs.List.{filter}
use Rattle.acq_base.specs.Words.{is_word}
use Rattle.acq_base.proofs.blank.separated.Given as goal

abbrev pub invariant-loop-piece : goal.invariant-loop-piece
invariant-loop-piece l = l.found ≡ filter is_word (map (λ (piece : Bor (List ℕ)). piece.now) l.yielded)
