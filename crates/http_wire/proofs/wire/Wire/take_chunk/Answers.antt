use Rattle.std.proofs.Common.{◌++◌, take, length, false, sym, subst}
use Rattle.http_wire.specs.Wire.{Follows}
use Rattle.http_wire.specs.Steps.{chunk_taken}
use Rattle.http_wire.proofs.BodyMoves.{chunk_moves}
use Rattle.http_wire.proofs.wire.Wire.take_chunk.Goals as goal

pub returns-clause-moves : goal.returns-clause-moves
returns-clause-moves c = λ max from given bytes h.
    let front = c.up_to-front.result.now in
    let step : Follows (chunk_taken c.args.left front c.args.self.now) max from given (bytes ++ front) false = chunk_moves c.args.left front c.args.self.now c.requires.phase c.requires.going c.up_to-front.ensures.fits max from given bytes h in
    subst (λ z. Follows z max from given (bytes ++ take (length front) c.args.piece.now) false) (sym c.in_ok-add_chunk.ensures)
    (subst (λ z. Follows (chunk_taken c.args.left front c.args.self.now) max from given (bytes ++ z) false) c.up_to-front.ensures.front step)
