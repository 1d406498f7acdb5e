use Rattle.lane_pool.proofs.Rules.{begins}
use Rattle.lane_pool.proofs.replies.Replies.open.Goals as goal

pub bounded_with-requires-clause-rule : goal.bounded_with-requires-clause-rule
bounded_with-requires-clause-rule c = begins
