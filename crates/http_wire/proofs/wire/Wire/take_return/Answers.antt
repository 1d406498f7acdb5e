use Rattle.http_wire.proofs.Glue.{return_takes}
use Rattle.http_wire.proofs.wire.Wire.take_return.Goals as goal

pub returns-clause-moves : goal.returns-clause-moves
returns-clause-moves c = return_takes c.args.self.now c.add_return.new.self c.args.piece.now c.requires.phase c.requires.going c.requires.some c.add_return.ensures
