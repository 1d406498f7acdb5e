use Rattle.http_wire.proofs.OneReading.{one_reading}
use Rattle.http_wire.proofs.laws.one_reading.Goals as goal

pub returns : goal.returns
returns c = one_reading
