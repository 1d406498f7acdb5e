use Rattle.lane_pool.proofs.Rules.{receives}
use Rattle.lane_pool.proofs.replies.Replies.receive.Goals as goal

pub recv_as-requires-clause-rule : goal.recv_as-requires-clause-rule
recv_as-requires-clause-rule g c = (receives _ _ c.args.self.now.live c.args.self.now.coordinator, λ items views k at. tt)

pub try_recv_as-requires-clause-rule : goal.try_recv_as-requires-clause-rule
try_recv_as-requires-clause-rule g c = (receives _ _ c.args.self.now.live c.args.self.now.coordinator, λ items views k at. tt)
