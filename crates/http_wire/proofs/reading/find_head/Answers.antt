use Rattle.std.proofs.Common.{subst, ap, Err}
use Rattle.httparse.specs.Spans.{ResponseOverflows, ResponseExceeds}
use Rattle.http_wire.proofs.Parsed.{head_too_many}
use Rattle.http_wire.proofs.reading.find_head.Goals as goal

pub returns-in-Err-TooManyHeaders : goal.returns-in-Err-TooManyHeaders
returns-in-Err-TooManyHeaders c =
    head_too_many c.args.text.now
    (subst (λ n. ResponseOverflows n c.args.text.now) c.requires c.in-Err-TooManyHeaders.ensures.no_room)
    (subst (λ n. ResponseExceeds n c.args.text.now) c.requires (c.in-Err-TooManyHeaders.ensures.too_many (ap Err c.in-Err-TooManyHeaders.field-0-is)))
