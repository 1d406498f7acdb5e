use Rattle.std.proofs.Common.{rules}
use Rattle.std.proofs.lemmas.List.Folds.{flat_map-map}
use Rattle.httparse.specs.Spans.{header_bytes}
use Rattle.http_wire.specs.Fields.{value_if_named, values}
use Rattle.http_wire.proofs.fields.values.Goals as goal

pub returns : goal.returns
unfolding values
returns c = rw (flat_map-map (value_if_named c.args.name.now) (header_bytes c.args.bytes.now) c.args.spans.now) (search rules)
