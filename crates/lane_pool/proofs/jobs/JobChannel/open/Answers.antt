use Rattle.lane_pool.proofs.JobRules.{begins}
use Rattle.lane_pool.proofs.jobs.JobChannel.open.Goals as goal

pub bounded_with-requires-clause-rule : goal.bounded_with-requires-clause-rule
bounded_with-requires-clause-rule c = begins
