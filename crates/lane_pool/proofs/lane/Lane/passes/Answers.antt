use Rattle.lane_pool.proofs.Slots.{other_job}
use Rattle.lane_pool.proofs.lane.Lane.passes.Goals as goal

pub returns-in_default-clause-no : goal.returns-in_default-clause-no
returns-in_default-clause-no g c = λ is p. other_job _ _ _ c.in_default.ensures.none p
