use Rattle.http_wire.specs.Steps.{cut_off}
use Rattle.http_wire.proofs.EndMoves.{trailers_cut}
use Rattle.http_wire.proofs.Glue.{closes_to, cut_over}
use Rattle.http_wire.proofs.wire.Wire.close_in_trailers.Goals as goal

pub returns-clause-closes : goal.returns-clause-closes
returns-clause-closes c = closes_to c.args.self.now c.cut.new.self (cut_off c.args.self.now) c.cut.ensures (trailers_cut c.args.self.now c.requires.phase c.requires.going)

pub returns-clause-over : goal.returns-clause-over
returns-clause-over c = cut_over c.args.self.now c.cut.new.self c.cut.ensures
