use Rattle.std.proofs.Common.{ap, ◌∙◌}
use Rattle.lane_pool.proofs.JobRules.{rejoins, no_more_received}
use Rattle.lane_pool.proofs.jobs.JobsOut.settle.Goals as goal

pub absorb-requires-clause-rule : goal.absorb-requires-clause-rule
absorb-requires-clause-rule c = rejoins _ _ _ _ c.requires.takes

pub learn_as-requires-clause-rule : goal.learn_as-requires-clause-rule
learn_as-requires-clause-rule c = let e = c.absorb.ensures.rule in no_more_received _ _ (ap (λ v. v.gives) e ∙ c.args.self.gives) (ap (λ v. v.takes) e ∙ c.requires.takes)
