use Rattle.std.proofs.Common.{arith, ap, sym, subst, List, length, ◌++◌, ◌∷◌, []}
use Rattle.crossbeam_channel.specs.Claims.{view}
use Rattle.lane_pool.proofs.Joins.{joins, all_back, no_more, one_more, AreJoined}
use Rattle.lane_pool.proofs.finishing.join_all.Goals as goal

pub loop-lane-preserved : goal.loop-lane-preserved
loop-lane-preserved g c =
    let i = c.loop-lane.invariant in
    let r = c.join-ended.ensures in
    record {
      joined = subst (λ (y : List g.row.M.Denot). AreJoined g.M.Method.world g.M.Method.faults g.M.Method.begins c.args.replies c.take_back.new.self c.args.all.items (c.loop-lane.yielded ++ c.in-Some.lane ∷ []) y) (sym c.in-Ok.ensures.items)
          (joins g.M.Method.world g.M.Method.faults g.M.Method.begins c.args.replies c.loop-lane.desk c.take_back.new.self c.args.all.items c.loop-lane.yielded c.loop-lane.all.items c.in-Some.lane (view c.join-ended.result.pass) c.join-ended.result.method
          i.joined c.take_back.ensures.sends c.take_back.ensures.view r.frame.same r.pass.below r.begins);
      rest = one_more _ _ _ _ _ i.rest c.in-Some.ensures.steps.0;
      len = let a = ap length c.in-Some.ensures.steps.0 in omega arith;
      room = omega arith;
    }

pub returns : goal.returns
returns g c =
    let i = c.loop-lane.invariant in
    let e = no_more c.args.lanes.items c.loop-lane.yielded _ _ i.rest i.len c.in-None.ensures.steps.0 in
    all_back g.M.Method.world g.M.Method.faults g.M.Method.begins c.args.replies c.loop-lane.desk c.learn_counts.new.self c.args.all.items c.args.lanes.items c.loop-lane.all.items c.requires.lanes
    (subst (λ y. AreJoined g.M.Method.world g.M.Method.faults g.M.Method.begins c.args.replies c.loop-lane.desk c.args.all.items y c.loop-lane.all.items) e i.joined)
    c.learn_counts.ensures.view c.learn_counts.ensures.bounds
