use Rattle.lane_pool.proofs.JobRules.{takes}
use Rattle.lane_pool.proofs.jobs.JobsIn.next.Goals as goal

pub recv_as-requires-clause-rule : goal.recv_as-requires-clause-rule
recv_as-requires-clause-rule g c = (takes _ _ c.args.self.now.takes, λ items views k at. tt)
