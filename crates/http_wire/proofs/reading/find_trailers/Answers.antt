use Rattle.std.proofs.Common.{subst, ap, Err, rules}
use Rattle.httparse.specs.Spans.{SectionOverflows, SectionExceeds}
use Rattle.http_wire.proofs.Parsed.{trailers_whole, trailers_too_many}
use Rattle.http_wire.proofs.reading.find_trailers.Goals as goal

pub returns-else-len-gt-HEAD_BYTES : goal.returns-else-len-gt-HEAD_BYTES
returns-else-len-gt-HEAD_BYTES c =
    trailers_whole c.args.text.now c.parse_headers.new.headers c.in-Ok-Complete.len c.in-Ok-Complete._count (rw c.in-Ok-Complete.field-0-is at c.in-Ok-Complete.ensures.complete) c.if-len-gt-HEAD_BYTES.false (search rules)

pub returns-in-Err-TooManyHeaders : goal.returns-in-Err-TooManyHeaders
returns-in-Err-TooManyHeaders c =
    trailers_too_many c.args.text.now
    (subst (λ n. SectionOverflows n c.args.text.now) c.requires c.in-Err-TooManyHeaders.ensures.no_room)
    (subst (λ n. SectionExceeds n c.args.text.now) c.requires (c.in-Err-TooManyHeaders.ensures.too_many (ap Err c.in-Err-TooManyHeaders.field-0-is)))
