use Rattle.http_method.proofs.Received.{fed, small_fed}
use Rattle.http_method.proofs.hearing.feed.Goals as goal

pub returns-clause-received : goal.returns-clause-received
returns-clause-received c = fed c.args.reading.now c.feed.new.self c.behind_of-reading.result c.args.piece.now c.in_ok-taken.taken c.requires.nothing c.in_ok-taken.ensures.follows c.requires.some c.behind_of-reading.ensures

pub returns-clause-small : goal.returns-clause-small
returns-clause-small c = small_fed c.wires_tell.ensures c.bodies_grow.ensures c.args.reading.now c.feed.new.self c.behind_of-reading.result c.args.piece.now c.in_ok-taken.taken c.in_ok-taken.ensures.follows c.requires.few
