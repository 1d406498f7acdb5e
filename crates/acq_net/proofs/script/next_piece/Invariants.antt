use Rattle.std.proofs.Common.{◌≡◌}
use Rattle.acq_net.specs.Script.{bytes_of, front_piece}
use Rattle.acq_net.proofs.script.next_piece.Given as goal

-- what was taken out has no bytes
abbrev pub invariant-loop-pieces : goal.invariant-loop-pieces
invariant-loop-pieces l = record {
  bytes : bytes_of l.pieces.items ≡ bytes_of l.fn.pieces.items;
  front : front_piece l.pieces.items ≡ front_piece l.fn.pieces.items;
}

abbrev pub decreases-loop-pieces : goal.decreases-loop-pieces
decreases-loop-pieces l = goal.left-loop-pieces l
