use Rattle.http_wire.proofs.Parsed.{size_too_long}
use Rattle.http_wire.proofs.reading.read_size.Goals as goal

pub returns-then-len-gt-SIZE_BYTES : goal.returns-then-len-gt-SIZE_BYTES
returns-then-len-gt-SIZE_BYTES c =
    size_too_long c.args.text.now c.in-Ok-Complete.len c.in-Ok-Complete.size (rw c.in-Ok-Complete.field-0-is at c.in-Ok-Complete.ensures.complete) c.if-len-gt-SIZE_BYTES.true
