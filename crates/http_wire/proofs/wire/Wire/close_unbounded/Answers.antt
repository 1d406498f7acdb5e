use Rattle.std.proofs.Common.{false}
use Rattle.http_wire.specs.declared.ending.Response.TheVariants.{Served}
use Rattle.http_wire.specs.Steps.{stopped}
use Rattle.http_wire.proofs.EndMoves.{free_closed}
use Rattle.http_wire.proofs.Glue.{closes_to, served_over}
use Rattle.http_wire.proofs.wire.Wire.close_unbounded.Goals as goal

pub returns-clause-closes : goal.returns-clause-closes
returns-clause-closes c = closes_to c.args.self.now c.stop.new.self (stopped (Served false) c.args.self.now) c.stop.ensures (free_closed c.args.self.now c.requires.phase c.requires.going)

pub returns-clause-over : goal.returns-clause-over
returns-clause-over c = served_over c.args.self.now c.stop.new.self c.stop.ensures
