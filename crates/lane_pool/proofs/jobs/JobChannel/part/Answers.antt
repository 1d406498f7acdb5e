use Rattle.std.proofs.Common.{ap}
use Rattle.lane_pool.proofs.JobRules.{parts}
use Rattle.lane_pool.proofs.jobs.JobChannel.part.Goals as goal

pub another-pass-requires-clause-rule : goal.another-pass-requires-clause-rule
another-pass-requires-clause-rule c = parts _ _ (ap (λ v. v.gives) c.args.self.unused) (ap (λ v. v.takes) c.args.self.unused)
