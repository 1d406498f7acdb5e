use Rattle.std.proofs.Common.{ap, sym, ◌∙◌, take}
use Rattle.http_wire.specs.State.{state_of}
use Rattle.http_wire.proofs.Feeding.{takes, takes_none, going_none, over_state}
use Rattle.http_wire.proofs.wire.Wire.feed.Goals as goal

pub feed_on-requires : goal.feed_on-requires
feed_on-requires c = going_none c.args.self.now.ending (sym c.is_going.ensures ∙ c.if-is_going.true)

pub returns-then-is_going-clause-over : goal.returns-then-is_going-clause-over
returns-then-is_going-clause-over c = λ over. absurd (over (ap state_of (going_none c.args.self.now.ending (sym c.is_going.ensures ∙ c.if-is_going.true))))

pub returns-then-is_going-clause-follows : goal.returns-then-is_going-clause-follows
returns-then-is_going-clause-follows c = takes c.args.self.now c.feed_on.new.self (take c.in_ok-taken.taken c.args.piece.now) (going_none c.args.self.now.ending (sym c.is_going.ensures ∙ c.if-is_going.true)) c.in_ok-taken.ensures.moves

pub returns-clause-whole : goal.returns-clause-whole
returns-clause-whole c = λ more. absurd (over_state c.args.self.now.ending (sym c.is_going.ensures ∙ c.if-is_going.false) more)

pub returns-clause-follows : goal.returns-clause-follows
returns-clause-follows c = takes_none c.args.self.now c.args.piece.now
