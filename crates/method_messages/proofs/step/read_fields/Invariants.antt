use Rattle.std.proofs.Common.{◌≡◌, true, List, ℕ, length}
use Rattle.std.specs.List.{list_all}
use Rattle.method_messages.specs.Lines.{is_line, ended}
use Rattle.method_messages.proofs.Ended.{HasRead}
use Rattle.method_messages.proofs.step.read_fields.Given as goal

abbrev pub invariant-loop-rest : goal.invariant-loop-rest
invariant-loop-rest l = (all : List (List ℕ)) → l.fn.lines ≡ ended all → list_all is_line all ≡ true → HasRead all l.rest l.fields

abbrev pub decreases-loop-rest : goal.decreases-loop-rest
decreases-loop-rest l = length l.rest
