use Rattle.std.proofs.Common.{◌≡◌, length}
use Rattle.method_server.specs.Asked.{first_value}
use Rattle.method_server.proofs.fields.first_value.Given as goal

abbrev pub invariant-loop-field : goal.invariant-loop-field
invariant-loop-field l = first_value l.name l.rest ≡ first_value l.name l.fields

abbrev pub decreases-loop-field : goal.decreases-loop-field
decreases-loop-field l = length l.rest
