use Rattle.std.proofs.Common.{take}
use Rattle.http_wire.proofs.Glue.{size_takes}
use Rattle.http_wire.proofs.wire.Wire.take_size.Goals as goal

pub returns-clause-moves : goal.returns-clause-moves
returns-clause-moves c =
    size_takes c.args.self.now c.join.new.self c.judge_size.new.self (take c.line_of-n.result.0 c.args.piece.now) c.split_at.result.0.now c.line_of-n.result.1 c.requires.phase c.requires.going c.line_of-n.ensures.front c.split_at.ensures.front c.in_ok-join.ensures c.judge_size.ensures
