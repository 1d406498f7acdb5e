use Rattle.std.proofs.Common.{None, sym, rules, arith}
use Rattle.host_queues.proofs.Changes.{changed-past}
use Rattle.update_core.proofs.Changed.{set-plain}
use Rattle.update_core.proofs.jobs.take_back.Goals as goal

pub returns-then-lane-len : goal.returns-then-lane-len
returns-then-lane-len c = set-plain c.args.out.now.items c.args.lane (None)

pub returns-else-lane-len : goal.returns-else-lane-len
returns-else-lane-len c = sym (changed-past _ c.args.out.now.items c.args.lane (search (rules, arith)))
