use Rattle.std.proofs.Common.{◌≡◌}
use Rattle.std.specs.Prelude.{replicate}
use Rattle.host_queues.specs.Lanes.{empty_queue}
use Rattle.host_queues.proofs.queues.Queues.new.Given as goal

abbrev pub invariant-loop : goal.invariant-loop
invariant-loop l = l.empty.items ≡ replicate l.counter empty_queue
