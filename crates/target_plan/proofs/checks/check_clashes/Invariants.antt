use Rattle.std.proofs.Common.{◌≡◌, take, drop}
use Rattle.target_plan.specs.Planning.{clash, clash_behind}
use Rattle.target_plan.proofs.Clashes.{HasNames}
use Rattle.target_plan.proofs.checks.check_clashes.Given as goal

abbrev pub invariant-loop-at : goal.invariant-loop-at
invariant-loop-at l = record {
  places : HasNames l.places (take l.at l.files);
  rest : clash_behind (take l.at l.files) (drop l.at l.files) ≡ clash l.files;
}
