use Rattle.std.proofs.Common.{◌≡◌, ◌∙◌, ℕ, List, ◌++◌, [], ◌∷◌, map, length, ap, subst, arith}
use Rattle.std.proofs.lemmas.List.{nil_from_length}
use Rattle.acq_outside.specs.Count.{NoneFell}
use Rattle.lane_pool.specs.Counting.{BegunAsHanded}
use Rattle.lane_pool.specs.Pool.{Pool}
use Rattle.lane_pool.proofs.Rows.{none_fell_trans}
use Rattle.lane_pool.proofs.Joins.{worlds_back, counts_back, begun_back}
use Rattle.lane_pool.proofs.lanes.Lanes.finish.Goals as goal

pub returns-in-Some-clause-worlds : goal.returns-in-Some-clause-worlds
returns-in-Some-clause-worlds g c =
    let none : length c.self.inside.room.items ≡ 0 = let z = c.self.invariant.1 in omega (arith, c.self.inside.room.ok.0) in
    let one : c.push.new.self.items ≡ c.self.inside.own ∷ [] = c.in-Ok.ensures.items ∙ ap (λ (y : List g.row.M.Denot). y ++ c.self.inside.own ∷ []) (nil_from_length _ none) in
    worlds_back g.M.Method.world g.M.Method.faults g.M.Method.under g.M.Method.begins c.self.inside.own c.push.new.self.items c.self.inside.lanes.items c.join_all.result.items one c.join_all.ensures
    ∙ ap (λ (p : Pool). p.worlds) c.self.view_is ∙ c.drain.ensures.worlds

pub returns-in-Some-clause-counts : goal.returns-in-Some-clause-counts
returns-in-Some-clause-counts g c =
    let none : length c.self.inside.room.items ≡ 0 = let z = c.self.invariant.1 in omega (arith, c.self.inside.room.ok.0) in
    let one : c.push.new.self.items ≡ c.self.inside.own ∷ [] = c.in-Ok.ensures.items ∙ ap (λ (y : List g.row.M.Denot). y ++ c.self.inside.own ∷ []) (nil_from_length _ none) in
    none_fell_trans c.args.self.counts c.drain.new.self.counts (map g.M.Method.faults c.join_all.result.items) c.drain.ensures.counts
    (subst (λ (p : Pool). NoneFell p.counts (map g.M.Method.faults c.join_all.result.items)) c.self.view_is
    (counts_back g.M.Method.world g.M.Method.faults g.M.Method.under g.M.Method.begins c.self.inside.own c.push.new.self.items c.self.inside.lanes.items c.join_all.result.items one c.join_all.ensures))

pub returns-in-Some-clause-begins : goal.returns-in-Some-clause-begins
returns-in-Some-clause-begins g c =
    let none : length c.self.inside.room.items ≡ 0 = let z = c.self.invariant.1 in omega (arith, c.self.inside.room.ok.0) in
    let one : c.push.new.self.items ≡ c.self.inside.own ∷ [] = c.in-Ok.ensures.items ∙ ap (λ (y : List g.row.M.Denot). y ++ c.self.inside.own ∷ []) (nil_from_length _ none) in
    subst (λ (l : List ℕ). BegunAsHanded l (map g.M.Method.begins c.join_all.result.items)) (ap (λ (p : Pool). p.begins) c.self.view_is ∙ c.drain.ensures.begins)
    (begun_back g.M.Method.world g.M.Method.faults g.M.Method.under g.M.Method.begins c.self.inside.own c.push.new.self.items c.self.inside.lanes.items c.join_all.result.items one c.join_all.ensures)
