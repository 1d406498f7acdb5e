use Rattle.http_wire.proofs.BodyLaws.{bodies_grow}
use Rattle.http_wire.proofs.laws.bodies_grow.Goals as goal

pub returns : goal.returns
returns c = bodies_grow
