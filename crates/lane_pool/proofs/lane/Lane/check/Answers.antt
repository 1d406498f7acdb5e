use Rattle.std.proofs.Common.{refl}
use Rattle.lane_pool.proofs.Slots.{of_out}
use Rattle.lane_pool.proofs.lane.Lane.check.Goals as goal

pub returns-clause-some : goal.returns-clause-some
returns-clause-some g c = let p = c.if-not-passes.ensures.yes refl in (refl, record { passes = p; goes_on = of_out _ _ _ p.out_is c.go_on.ensures; counts = c.count_after-self.ensures })
