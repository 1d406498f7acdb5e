use Rattle.std.proofs.Common.{◌≡◌, ◌++◌, take}
use Rattle.std.specs.List.{flat_map}
use Rattle.method_messages.specs.Written.{field_text}
use Rattle.method_messages.proofs.writing.put_fields.Given as goal

abbrev pub invariant-loop-field : goal.invariant-loop-field
invariant-loop-field l = l.text ≡ l.fn.text ++ flat_map field_text (take l.field-index l.fields)
