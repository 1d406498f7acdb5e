use Rattle.std.proofs.Common.{◌++◌, take, length, false, sym, subst}
use Rattle.std.proofs.Math.Seq.{take-length}
use Rattle.http_wire.specs.Wire.{Follows}
use Rattle.http_wire.specs.Steps.{free_taken}
use Rattle.http_wire.proofs.BodyMoves.{free_moves}
use Rattle.http_wire.proofs.wire.Wire.take_unbounded.Goals as goal

pub returns-clause-moves : goal.returns-clause-moves
returns-clause-moves c = λ max from given bytes h.
    let front = c.args.piece.now in
    let step : Follows (free_taken front c.args.self.now) max from given (bytes ++ front) false = free_moves front c.args.self.now c.requires.phase c.requires.going max from given bytes h in
    subst (λ z. Follows z max from given (bytes ++ take (length front) front) false) (sym c.in_ok-add_unbounded.ensures)
    (subst (λ z. Follows (free_taken front c.args.self.now) max from given (bytes ++ z) false) (sym (take-length front)) step)
