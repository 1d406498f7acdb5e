use Rattle.std.proofs.Common.{◌≡◌, ◌++◌, take}
use Rattle.journal_model.specs.Spelling.{steps_bytes}
use Rattle.journal_model.proofs.writing.write_steps.Given as goal

abbrev pub invariant-loop-step : goal.invariant-loop-step
invariant-loop-step l = l.body ≡ l.fn.body ++ steps_bytes (take l.step-index l.steps)
