use Rattle.std.proofs.Common.{◌≡◌, length, take}
use Rattle.std.specs.List.{flat_map}
use Rattle.method_messages.specs.Streams.{place}
use Rattle.method_messages.specs.Written.{field_text}
use Rattle.method_messages.proofs.validity.size_of_fields.Given as goal

abbrev pub invariant-loop-field : goal.invariant-loop-field
invariant-loop-field l = l.size ≡ place (length (flat_map field_text (take l.field-index l.fields)))
