use Rattle.std.proofs.Common.{◌≡◌, ◌-◌}
use Rattle.journal_model.specs.Reading.{groups_at}
use Rattle.journal_model.proofs.record.groups.Given as goal

abbrev pub invariant-loop : goal.invariant-loop
invariant-loop l = groups_at (l.count - l.counter) l.seen l.rest ≡ groups_at l.count l.fn.before l.bytes
