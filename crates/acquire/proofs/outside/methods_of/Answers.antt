use Rattle.acquire.proofs.Told.{one_more_by}
use Rattle.acquire.proofs.outside.methods_of.Goals as goal

pub returns-in-Ok-clause-lanes : goal.returns-in-Ok-clause-lanes
returns-in-Ok-clause-lanes g c = one_more_by _ _ c.in_ok-workers.workers _ c.in-Ok.ensures c.in_ok-workers.ensures.lanes
