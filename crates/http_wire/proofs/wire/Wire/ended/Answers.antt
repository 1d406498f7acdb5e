use Rattle.std.proofs.Common.{sym, ◌∙◌}
use Rattle.http_wire.proofs.Feeding.{finishes, finished, going_none, over_some, over_state}
use Rattle.http_wire.proofs.wire.Wire.ended.Goals as goal

pub close-requires : goal.close-requires
close-requires c = going_none c.args.self.now.ending (sym c.is_going.ensures ∙ c.if-is_going.true)

pub returns-then-is_going-clause-follows : goal.returns-then-is_going-clause-follows
returns-then-is_going-clause-follows c = finishes c.args.self.now c.close.new.self (going_none c.args.self.now.ending (sym c.is_going.ensures ∙ c.if-is_going.true)) c.close.ensures.closes

pub returns-else-is_going-clause-over : goal.returns-else-is_going-clause-over
returns-else-is_going-clause-over c = over_state c.args.self.now.ending (sym c.is_going.ensures ∙ c.if-is_going.false)

pub returns-else-is_going-clause-follows : goal.returns-else-is_going-clause-follows
returns-else-is_going-clause-follows c = finished c.args.self.now (over_some c.args.self.now.ending (sym c.is_going.ensures ∙ c.if-is_going.false))
