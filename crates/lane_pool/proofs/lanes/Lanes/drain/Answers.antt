use Rattle.std.proofs.Common.{◌∙◌, refl}
use Rattle.lane_pool.proofs.Rows.{none_fell_refl, none_fell_trans}
use Rattle.lane_pool.proofs.lanes.Lanes.drain.Goals as goal

pub loop-init : goal.loop-init
loop-init g c = record { worlds = refl; counts = none_fell_refl c.args.self.now.counts; begins = refl }

pub loop-preserved : goal.loop-preserved
loop-preserved g c = let i = c.loop.invariant in record { worlds = c.take.ensures.worlds ∙ i.worlds; counts = none_fell_trans _ _ _ i.counts c.take.ensures.counts; begins = c.take.ensures.begins ∙ i.begins }
