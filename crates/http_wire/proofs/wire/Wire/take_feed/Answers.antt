use Rattle.http_wire.proofs.Glue.{feed_takes}
use Rattle.http_wire.proofs.wire.Wire.take_feed.Goals as goal

pub returns-clause-moves : goal.returns-clause-moves
returns-clause-moves c = feed_takes c.args.self.now c.add_feed.new.self c.args.piece.now c.requires.phase c.requires.going c.requires.some c.add_feed.ensures
