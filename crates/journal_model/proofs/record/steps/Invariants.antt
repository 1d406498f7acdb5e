use Rattle.std.proofs.Common.{◌≡◌, ◌-◌}
use Rattle.journal_model.specs.Reading.{steps_at}
use Rattle.journal_model.proofs.record.steps.Given as goal

abbrev pub invariant-loop : goal.invariant-loop
invariant-loop l = steps_at (l.count - l.counter) l.seen l.rest ≡ steps_at l.count l.fn.before l.bytes
