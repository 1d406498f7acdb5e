use Rattle.std.proofs.Common.{rules}
use Rattle.host_queues.proofs.lane.Lane.put.Goals as goal

pub returns : goal.returns
returns c = rw (c.in_ok-push_back.ensures.items, ← c.self.view_is) (search rules)
