use Rattle.lane_pool.proofs.JobRules.{hands}
use Rattle.lane_pool.proofs.jobs.JobsOut.hand.Goals as goal

pub send_as-requires-clause-rule : goal.send_as-requires-clause-rule
send_as-requires-clause-rule g c = (hands _ _ _ _ c.args.self.now.gives, λ items views k at. tt)
