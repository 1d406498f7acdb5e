use Rattle.std.proofs.Common.{◌≡◌, ◌++◌, take}
use Rattle.std.specs.List.{flat_map}
use Rattle.httparse.specs.Spans.{header_bytes}
use Rattle.http_wire.specs.Fields.{value_if_named}
use Rattle.http_wire.proofs.fields.append_values.Given as goal

abbrev pub invariant-loop-span : goal.invariant-loop-span
invariant-loop-span l = l.found ≡ l.fn.found ++ flat_map (λ span. value_if_named l.name (header_bytes l.bytes span)) (take l.span-index l.spans)
