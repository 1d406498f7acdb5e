use Rattle.std.proofs.Common.{◌≤◌, ◌-◌, take, length}
use Rattle.http_wire.specs.Steps.{Moves}
use Rattle.http_wire.proofs.wire.Wire.take_in.Given as goal

abbrev pub invariant-loop-taken : goal.invariant-loop-taken
invariant-loop-taken l = record {
  within : l.taken ≤ length l.piece;
  moved : Moves l.fn.self l.self (take l.taken l.piece);
}

abbrev pub decreases-loop-taken : goal.decreases-loop-taken
decreases-loop-taken l = length l.piece - l.taken
