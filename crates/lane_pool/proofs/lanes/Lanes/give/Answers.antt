use Rattle.std.proofs.Common.{◌∙◌, ◌<◌, ◌-◌, ◌∷◌, map, Option, Some, length, arith, sym, ap, rules, set}
use Rattle.acq_outside.specs.declared.word.Fetch.{Fetch}
use Rattle.lane_pool.specs.declared.lane.Lane.{Lane}
use Rattle.lane_pool.proofs.Rows.{set_behind, slice_get_behind}
use Rattle.lane_pool.proofs.Standing.{given, same_worlds, same_counts, same_outs, same_begins, one_handed, either_result, on_ok, on_err}
use Rattle.lane_pool.proofs.lanes.Lanes.give.Goals as goal

pub invariant_of-self : goal.invariant_of-self
invariant_of-self g c =
    let i = c.self.invariant in (
      given g.M.Method.world c.self.inside.replies c.self.inside.lanes.items _ c.index_mut.result.now c.give.new.self i.0 (omega (arith, c.self.inside.lanes.ok.0)) c.index_mut.ensures.value c.give.ensures.promise c.give.ensures.last,
      i.1,
      search rules,
      search rules,
    )

pub returns-clause-worlds : goal.returns-clause-worlds
returns-clause-worlds g c = rw (← c.self.view_is) (same_worlds g.M.Method.world g.M.Method.faults g.M.Method.under g.M.Method.begins c.self.inside.own c.self.inside.lanes.items _ c.index_mut.result.now c.give.new.self c.index_mut.ensures.value c.give.ensures.promise)

pub returns-clause-counts : goal.returns-clause-counts
returns-clause-counts g c = rw (← c.self.view_is) (same_counts g.M.Method.world g.M.Method.faults g.M.Method.under g.M.Method.begins c.self.inside.own c.self.inside.lanes.items _ c.index_mut.result.now c.give.new.self c.index_mut.ensures.value c.give.ensures.last)

pub returns-clause-worker : goal.returns-clause-worker
returns-clause-worker g c =
    let there : c.args.lane - 1 < length c.self.inside.lanes.items = omega (arith, c.self.inside.lanes.ok.0) in
    rw (← c.self.view_is)
    (on_ok c.give.result _ _ _ c.give.ensures.out
    (λ h. (
      omega arith,
      slice_get_behind (λ (z : Lane g.row.M.Denot). z.slot) (g.M.Method.under c.self.inside.own) c.self.inside.lanes.items c.index_mut.result.now c.args.lane (omega arith) there
          ∙ ap (λ (z : Lane g.row.M.Denot). Some z.slot) (sym c.index_mut.ensures.value) ∙ ap (λ (z : Option Fetch). Some z) h.0,
    )))

pub returns-clause-out : goal.returns-clause-out
returns-clause-out g c = rw (← c.self.view_is)
    (on_ok c.give.result _ _ _ c.give.ensures.out
    (λ h. set_behind (λ (z : Lane g.row.M.Denot). z.slot) (g.M.Method.under c.self.inside.own) c.self.inside.lanes.items c.give.new.self c.args.lane (omega arith) ∙ ap (λ (z : Option Fetch). set (g.M.Method.under c.self.inside.own ∷ map (λ (y : Lane g.row.M.Denot). y.slot) c.self.inside.lanes.items) c.args.lane z) h.1))

pub returns-clause-refused : goal.returns-clause-refused
returns-clause-refused g c = rw (← c.self.view_is)
    (on_err c.give.result _ _ _ _ c.give.ensures.out (λ h. same_outs g.M.Method.world g.M.Method.faults g.M.Method.under g.M.Method.begins c.self.inside.own c.self.inside.lanes.items _ c.index_mut.result.now c.give.new.self c.index_mut.ensures.value h))

pub returns-clause-begins : goal.returns-clause-begins
returns-clause-begins g c =
    let there : c.args.lane - 1 < length c.self.inside.lanes.items = omega (arith, c.self.inside.lanes.ok.0) in
    rw (← c.self.view_is)
    (either_result c.give.result _ _ _ _ c.give.ensures.handed
    (λ h. one_handed g.M.Method.world g.M.Method.faults g.M.Method.under g.M.Method.begins c.self.inside.own c.self.inside.lanes.items c.args.lane c.index_mut.result.now c.give.new.self (omega arith) there
    c.index_mut.ensures.value c.give.ensures.promise h)
    (λ h. same_begins g.M.Method.world g.M.Method.faults g.M.Method.under g.M.Method.begins c.self.inside.own c.self.inside.lanes.items _ c.index_mut.result.now c.give.new.self
    c.index_mut.ensures.value c.give.ensures.promise h))
