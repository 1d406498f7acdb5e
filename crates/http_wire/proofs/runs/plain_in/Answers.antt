use Rattle.http_wire.proofs.Plain.{plain_so}
use Rattle.http_wire.proofs.runs.plain_in.Goals as goal

pub returns : goal.returns
returns c =
    plain_so c.args.text.now c.last_line.result.now c.plain_of.result.0 c.plain_of.result.1 c.last_line.ensures c.plain_of.ensures.name c.plain_of.ensures.value
