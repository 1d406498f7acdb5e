use Rattle.http_method.specs.Line.{line_of}
use Rattle.http_method.proofs.Received.{some_is}
use Rattle.http_method.proofs.Mirrors.{piece_within}
use Rattle.http_method.proofs.Ending.{part_keeps, part_told}
use Rattle.http_method.proofs.saying.say.Goals as goal

pub part-requires : goal.part-requires
part-requires g c =
    let some = some_is c.args.bytes c.is_empty.result c.is_empty.ensures c.if-is_empty.false in
    piece_within c.wires_tell.ensures c.bodies_fit.ensures (line_of g.L.Link c.args.link.now) c.args.reading c.args.bytes c.requires.is some (c.requires.fits some)

pub returns-clause-told : goal.returns-clause-told
returns-clause-told g c =
    let some = some_is c.args.bytes c.is_empty.result c.is_empty.ensures c.if-is_empty.false in
    part_told c.one_reading.ensures c.wires_tell.ensures c.bodies_fit.ensures c.bodies_grow.ensures c.limits_rise.ensures (line_of g.L.Link c.args.link.now) c.args.reading c.args.bytes c.part.result c.part.ensures c.requires.is
    some c.requires.small (c.requires.fits some)

pub returns-clause-keeps : goal.returns-clause-keeps
returns-clause-keeps g c = part_keeps (line_of g.L.Link c.args.link.now) c.args.reading c.args.bytes c.part.result c.part.ensures c.requires.is
