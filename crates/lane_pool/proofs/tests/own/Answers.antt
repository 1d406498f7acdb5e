use Rattle.std.proofs.Common.{refl}
use Rattle.lane_pool.proofs.Heard.{is_under_way, stays_under_way}
use Rattle.lane_pool.proofs.tests.own.Goals as goal

pub loop-init : goal.loop-init
loop-init g c = λ piece. is_under_way _ _ _ _ _ _ c.own-word.ensures.word piece

pub loop-preserved : goal.loop-preserved
loop-preserved g c = λ piece. stays_under_way _ _ _ _ _ _ (c.loop.invariant (c.if-is_last.ensures refl)) c.own_more-word.ensures.word piece
