use Rattle.http_method.proofs.Received.{small_end}
use Rattle.http_method.proofs.hearing.end.Goals as goal

pub returns-clause-small : goal.returns-clause-small
returns-clause-small c = small_end c.wires_tell.ensures c.bodies_grow.ensures c.args.reading.now c.ended.new.self c.ended.ensures.follows
