use Rattle.lane_pool.proofs.Rules.{splits}
use Rattle.lane_pool.proofs.replies.Replies.split.Goals as goal

pub another-requires-clause-rule : goal.another-requires-clause-rule
another-requires-clause-rule g c = splits _ _ _ _ c.args.self.now.live c.args.self.now.coordinator
