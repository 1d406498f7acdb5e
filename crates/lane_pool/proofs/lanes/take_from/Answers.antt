use Rattle.std.proofs.Common.{◌-◌, ap}
use Rattle.lane_pool.specs.declared.lane.Lane.{Lane}
use Rattle.lane_pool.proofs.Standing.{took, told, unchanged, last_below}
use Rattle.lane_pool.proofs.lanes.take_from.Goals as goal

pub returns-clause-lanes : goal.returns-clause-lanes
returns-clause-lanes g c =
    let x = c.in_ok-told.told in
    let h = c.check.ensures in
    took g.M.Method.world c.args.replies.now c.receive.new.self c.args.lanes.now.items x c.index_mut.result.now c.check.new.self c.requires c.receive.ensures.sends c.in_ok-told.ensures.some
    c.index_mut.ensures.value (ap (λ w. w.promise) h.worker) (λ n. last_below c.check.result x _ _ _ _ _ n h.some h.none (λ e. ap (λ (l : Lane g.row.M.Denot). l.last) e))

pub returns-clause-told : goal.returns-clause-told
returns-clause-told g c own =
    let h = c.check.ensures in
    told g.M.Method.world g.M.Method.faults g.M.Method.under g.M.Method.begins own c.args.replies.now _ c.args.lanes.now.items c.in_ok-told.told c.index_mut.result.now c.check.new.self c.check.result c.requires
    c.in_ok-told.ensures.some c.index_mut.ensures.value h.worker h.some

pub returns-clause-none : goal.returns-clause-none
returns-clause-none g c = unchanged c.check.result c.args.lanes.now.items (c.in_ok-told.told.lane - 1) c.index_mut.result.now c.check.new.self c.index_mut.ensures.value c.check.ensures.none
