use Rattle.std.proofs.Common.{ap, List}
use Rattle.lane_pool.specs.declared.lane.Lane.{Lane}
use Rattle.lane_pool.specs.Refinement.{pool_of}
use Rattle.lane_pool.proofs.Standing.{told_worlds, told_counts, told_begins, if_none}
use Rattle.lane_pool.proofs.lanes.Lanes.take.Goals as goal

pub returns-in-Some-clause-worlds : goal.returns-in-Some-clause-worlds
returns-in-Some-clause-worlds g c =
    let e = c.take_from.ensures in
    rw (← c.self.view_is)
    (told_worlds c.take_from.result _ _ (e.told c.self.inside.own)
    (if_none c.take_from.result _ _ (λ s. ap (λ (l : List (Lane g.row.M.Denot)). pool_of g.M.Method.world g.M.Method.faults g.M.Method.under g.M.Method.begins c.self.inside.own l) s) e.none))

pub returns-in-Some-clause-counts : goal.returns-in-Some-clause-counts
returns-in-Some-clause-counts g c =
    let e = c.take_from.ensures in
    rw (← c.self.view_is)
    (told_counts c.take_from.result _ _ (e.told c.self.inside.own)
    (if_none c.take_from.result _ _ (λ s. ap (λ (l : List (Lane g.row.M.Denot)). pool_of g.M.Method.world g.M.Method.faults g.M.Method.under g.M.Method.begins c.self.inside.own l) s) e.none))

pub returns-in-Some-clause-begins : goal.returns-in-Some-clause-begins
returns-in-Some-clause-begins g c =
    let e = c.take_from.ensures in
    rw (← c.self.view_is)
    (told_begins c.take_from.result _ _ (e.told c.self.inside.own)
    (if_none c.take_from.result _ _ (λ s. ap (λ (l : List (Lane g.row.M.Denot)). pool_of g.M.Method.world g.M.Method.faults g.M.Method.under g.M.Method.begins c.self.inside.own l) s) e.none))
