use Rattle.std.proofs.Common.{subst, Some, None}
use Rattle.memchr.specs.Find.{IsFirstByte, is_byte}
use Rattle.method_messages.proofs.Cuts.{next_feed_some, next_feed_none}
use Rattle.method_messages.proofs.cutting.next_feed.Goals as goal

pub returns-in-Some : goal.returns-in-Some
returns-in-Some c =
    next_feed_some c.args.text.now c.args.from c.in-Some.at
    (subst (λ t. IsFirstByte (is_byte 10) t (Some c.in-Some.at)) c.split_at.ensures.back c.in-Some.ensures)

pub returns-in-None : goal.returns-in-None
returns-in-None c =
    next_feed_none c.args.text.now c.args.from (subst (λ t. IsFirstByte (is_byte 10) t None) c.split_at.ensures.back c.in-None.ensures)
