use Rattle.std.proofs.Common.{◌≡◌}
use Rattle.std.specs.Prelude.{replicate}
use Rattle.board_model.specs.Boards as model
use Rattle.update_core.proofs.beginning.no_verdicts.Given as goal

abbrev pub invariant-loop : goal.invariant-loop
invariant-loop l = l.verdicts.items ≡ replicate l.counter model.no_verdict
