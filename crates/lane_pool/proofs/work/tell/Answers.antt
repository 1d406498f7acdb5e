use Rattle.lane_pool.proofs.Rules.{sends}
use Rattle.lane_pool.proofs.work.tell.Goals as goal

pub send_as-requires-clause-rule : goal.send_as-requires-clause-rule
send_as-requires-clause-rule g c = (sends _ _ _ _ c.requires.live c.requires.lane.0 c.requires.lane.1 c.requires.word c.requires.in_order, λ items views k at. tt)
