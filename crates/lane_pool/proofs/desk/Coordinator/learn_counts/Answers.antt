use Rattle.lane_pool.proofs.Rules.{bounds}
use Rattle.lane_pool.proofs.desk.Coordinator.learn_counts.Goals as goal

pub learn_as-requires-clause-rule : goal.learn_as-requires-clause-rule
learn_as-requires-clause-rule c = bounds _ _ c.args.self.now.live c.args.self.now.coordinator
