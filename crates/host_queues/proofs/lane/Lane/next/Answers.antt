use Rattle.std.proofs.Common.{rules}
use Rattle.host_queues.proofs.lane.Lane.next.Goals as goal

pub returns-in_err-no-clause-left : goal.returns-in_err-no-clause-left
returns-in_err-no-clause-left c = rw (← c.self.view_is) (search rules)

pub returns-clause-left : goal.returns-clause-left
returns-clause-left c = rw (← c.self.view_is) (search rules)
