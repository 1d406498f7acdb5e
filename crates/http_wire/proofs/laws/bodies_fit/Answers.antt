use Rattle.http_wire.proofs.BodyLaws.{bodies_fit}
use Rattle.http_wire.proofs.laws.bodies_fit.Goals as goal

pub returns : goal.returns
returns c = bodies_fit
