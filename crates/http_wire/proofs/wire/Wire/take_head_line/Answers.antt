use Rattle.std.proofs.Common.{take}
use Rattle.http_wire.proofs.Glue.{head_takes, head_plain, head_passes, head_returns}
use Rattle.http_wire.proofs.wire.Wire.take_head_line.Goals as goal

pub returns-then-goes_on-clause-moves : goal.returns-then-goes_on-clause-moves
returns-then-goes_on-clause-moves c =
    head_plain c.args.passed c.args.self.now c.join.new.self c.limit.new.self (take c.line_of-n.result.0 c.args.piece.now) c.split_at.result.0.now c.requires.phase c.requires.going c.split_at.ensures.front (c.goes_on.ensures c.if-goes_on.true) c.in_ok-join.ensures c.limit.ensures

pub returns-then-is_blank-clause-moves : goal.returns-then-is_blank-clause-moves
returns-then-is_blank-clause-moves c =
    head_passes c.args.passed c.args.self.now c.forget_line.new.self c.join-2.new.self c.pass_blank.new.self (take c.line_of-n.result.0 c.args.piece.now) c.split_at.result.0.now c.requires.phase c.requires.going c.split_at.ensures.front c.forget_line.ensures c.in_ok-join-2.ensures (c.is_blank.ensures c.if-is_blank.true) c.pass_blank.ensures

pub returns-then-is_return-clause-moves : goal.returns-then-is_return-clause-moves
returns-then-is_return-clause-moves c =
    head_returns c.args.passed c.args.self.now c.forget_line.new.self c.join-2.new.self c.limit-then-is_return.new.self (take c.line_of-n.result.0 c.args.piece.now) c.split_at.result.0.now c.line_of-n.result.1 c.requires.phase c.requires.going c.line_of-n.ensures.front c.split_at.ensures.front c.forget_line.ensures c.in_ok-join-2.ensures (c.is_return.ensures c.if-is_return.true) c.limit-then-is_return.ensures

pub returns-clause-moves : goal.returns-clause-moves
returns-clause-moves c =
    head_takes c.args.passed c.args.self.now c.forget_line.new.self c.join-2.new.self c.judge_head.new.self c.note_line.new.self (take c.line_of-n.result.0 c.args.piece.now) c.split_at.result.0.now c.line_of-n.result.1 c.requires.phase c.requires.going c.line_of-n.ensures.front c.split_at.ensures.front c.forget_line.ensures c.in_ok-join-2.ensures c.in_ok-judge_head.ensures c.note_line.ensures
