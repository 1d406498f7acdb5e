use Rattle.std.proofs.Common.{subst, ap, sym, ◌∙◌, Err}
use Rattle.httparse.specs.Spans.{RequestOverflows, RequestExceeds}
use Rattle.http_requests.proofs.Parsed.{head_more, head_too_many}
use Rattle.http_requests.proofs.head.find_head.Goals as goal

pub returns-in-Err-TooManyHeaders : goal.returns-in-Err-TooManyHeaders
returns-in-Err-TooManyHeaders c =
    head_too_many c.args.text.now
    (subst (λ n. RequestOverflows n c.args.text.now) c.requires c.in-Err-TooManyHeaders.ensures.no_room)
    (subst (λ n. RequestExceeds n c.args.text.now) c.requires (c.in-Err-TooManyHeaders.ensures.too_many (ap Err c.in-Err-TooManyHeaders.field-0-is)))

pub returns-else-passes_limits : goal.returns-else-passes_limits
returns-else-passes_limits c =
    head_more c.args.text.now (rw c.in-Ok-Partial.field-0-is at c.in-Ok-Partial.ensures.partial) (rw c.in-Ok-Partial.field-0-is at c.in-Ok-Partial.ensures.unfinished)
    (sym c.passes_limits.ensures ∙ c.if-passes_limits.false)
