use Rattle.lane_pool.proofs.Rules.{takes_back}
use Rattle.lane_pool.proofs.desk.Coordinator.take_back.Goals as goal

pub absorb-requires-clause-rule : goal.absorb-requires-clause-rule
absorb-requires-clause-rule c = takes_back _ _ _ _ c.args.self.now.live c.args.self.now.coordinator c.requires.live c.requires.lane
