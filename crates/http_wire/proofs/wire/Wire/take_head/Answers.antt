use Rattle.std.proofs.Common.{◌≡◌, length, rules, take}
use Rattle.http_wire.proofs.Glue.{head_ends, nothing_in}
use Rattle.http_wire.proofs.wire.Wire.take_head.Goals as goal

pub returns-then-n-gt0-clause-moves : goal.returns-then-n-gt0-clause-moves
returns-then-n-gt0-clause-moves c =
    let none : length c.args.self.now.part ≡ 0 = search rules in
    head_ends c.args.passed c.args.self.now c.join.new.self c.judge_head.new.self (take c.head_len-n.result c.args.piece.now) c.split_at.result.0.now c.requires.phase c.requires.going (nothing_in c.args.self.now.part none)
    c.split_at.ensures.front c.in_ok-join.ensures (c.head_len-n.ensures.whole c.if-n-gt0.true) c.in_ok-judge_head.ensures
