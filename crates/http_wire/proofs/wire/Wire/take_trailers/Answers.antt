use Rattle.std.proofs.Common.{take}
use Rattle.http_wire.proofs.Glue.{trailers_take, trailers_plain}
use Rattle.http_wire.proofs.wire.Wire.take_trailers.Goals as goal

pub returns-then-goes_on-clause-moves : goal.returns-then-goes_on-clause-moves
returns-then-goes_on-clause-moves c =
    trailers_plain c.args.self.now c.join.new.self c.limit.new.self (take c.line_of-n.result.0 c.args.piece.now) c.split_at.result.0.now c.requires.phase c.requires.going c.split_at.ensures.front (c.goes_on.ensures c.if-goes_on.true) c.in_ok-join.ensures c.limit.ensures

pub returns-clause-moves : goal.returns-clause-moves
returns-clause-moves c =
    trailers_take c.args.self.now c.forget_line.new.self c.join-2.new.self c.judge_trailers.new.self c.note_line.new.self (take c.line_of-n.result.0 c.args.piece.now) c.split_at.result.0.now c.line_of-n.result.1 c.requires.phase c.requires.going c.line_of-n.ensures.front c.split_at.ensures.front c.forget_line.ensures c.in_ok-join-2.ensures c.judge_trailers.ensures c.note_line.ensures
