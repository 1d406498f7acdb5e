use Rattle.std.proofs.Common.{sym, ◌∙◌}
use Rattle.http_wire.proofs.Feeding.{refused_whole, on_or_done}
use Rattle.http_wire.proofs.wire.Wire.feed_on.Goals as goal

pub returns-then-is_refused-clause-moves : goal.returns-then-is_refused-clause-moves
returns-then-is_refused-clause-moves c = refused_whole c.args.self.now c.take_in.new.self c.args.piece.now c.in_ok-taken.taken (sym c.is_refused.ensures ∙ c.if-is_refused.true) c.in_ok-taken.ensures.moves

pub returns-clause-whole : goal.returns-clause-whole
returns-clause-whole c = λ other. c.in_ok-taken.ensures.whole (on_or_done c.take_in.new.self.ending (sym c.is_refused.ensures ∙ c.if-is_refused.false) other)
