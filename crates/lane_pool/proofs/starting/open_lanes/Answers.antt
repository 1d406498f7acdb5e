use Rattle.std.proofs.Common.{◌≡◌, ◌∙◌, ℕ, ◌+◌, List, [], ◌∷◌, map, length, Option, None, sym, ap, subst, arith}
use Rattle.std.proofs.lemmas.List.{length-append}
use Rattle.std.proofs.lemmas.List.Elements.{All-pop}
use Rattle.crossbeam_channel.specs.Ends.{sends_on}
use Rattle.acq_outside.specs.declared.word.Fetch.{Fetch}
use Rattle.lane_pool.specs.declared.lane.Lane.{Lane}
use Rattle.lane_pool.specs.declared.lane.Kit.{Kit}
use Rattle.lane_pool.specs.Counting.{counted_on}
use Rattle.lane_pool.specs.Refinement.{AreLanes}
use Rattle.lane_pool.proofs.Joins.{one_more}
use Rattle.lane_pool.proofs.Opens.{opened, grow_alike, if_some_of}
use Rattle.lane_pool.proofs.starting.open_lanes.Goals as goal

pub loop-method-preserved : goal.loop-method-preserved
loop-method-preserved g c =
    let i = c.loop-method.invariant in
    let o = c.open_lane-lane.ensures in
    let lane : Lane g.row.M.Denot = c.open_lane-lane.result in
    let P : Kit → Type 0 = λ kit. (sends_on kit.sends ≡ sends_on c.args.replies.now.sends) × (kit.slot ≡ None) in
    let popped = All-pop P c.loop-method.kits.items c.pop.new.self.items c.pop.result c.pop.ensures.items i.each in
    let kit : P c.in-Some-pop.kit = if_some_of c.pop.result c.in-Some-pop.kit P c.in-Some-pop.is popped.1 in
    let longer = length-append c.loop-method.yielded (c.in-Some.method ∷ []) in
    let number : c.loop-method.number ≡ length c.loop-method.lanes.items + 1 = let a = i.number in let b = i.len in omega (arith, c.loop-method.lanes.ok.0) in
    record {
      opened = subst (λ (y : List (Lane g.row.M.Denot)). AreLanes g.M.Method.world c.open_lane-lane.new.replies y) (sym c.in-Ok.ensures.items)
          (opened g.M.Method.world c.loop-method.replies c.open_lane-lane.new.replies c.loop-method.lanes.items lane (g.M.Method.world c.in-Some.method) (g.M.Method.faults c.in-Some.method) c.loop-method.number
          i.opened o.sends o.view o.number number o.on (sym (ap g.M.Method.world o.method)) o.last);
      sends = o.sends ∙ i.sends;
      number = let a = i.number in omega arith;
      len = let a = i.len in let b = c.in-Ok.ensures.len in omega arith;
      rest = one_more _ _ _ _ _ i.rest c.in-Some.ensures.steps.0;
      left = let a = ap length c.in-Some.ensures.steps.0 in omega arith;
      room = omega arith;
      kits = let a = ap length c.in-Some-pop.ensures.items in let b = length-append c.pop.new.self.items (c.in-Some-pop.kit ∷ []) in let d = i.kits in let e = ap length c.in-Some.ensures.steps.0 in omega arith;
      each = popped.0;
      worlds = ap (λ (y : List (Lane g.row.M.Denot)). map (λ (z : Lane g.row.M.Denot). g.M.Method.world z.worker.promise.method.value) y) c.in-Ok.ensures.items
          ∙ grow_alike (λ (z : Lane g.row.M.Denot). g.M.Method.world z.worker.promise.method.value) g.M.Method.world c.loop-method.lanes.items c.loop-method.yielded lane c.in-Some.method i.worlds (ap g.M.Method.world o.method);
      counts = ap (λ (y : List (Lane g.row.M.Denot)). map (λ (z : Lane g.row.M.Denot). z.last) y) c.in-Ok.ensures.items
          ∙ grow_alike (λ (z : Lane g.row.M.Denot). z.last) g.M.Method.faults c.loop-method.lanes.items c.loop-method.yielded lane c.in-Some.method i.counts o.last;
      begins = ap (λ (y : List (Lane g.row.M.Denot)). map (λ (z : Lane g.row.M.Denot). counted_on (g.M.Method.begins z.worker.promise.method.value) z.worker.handed) y) c.in-Ok.ensures.items
          ∙ grow_alike (λ (z : Lane g.row.M.Denot). counted_on (g.M.Method.begins z.worker.promise.method.value) z.worker.handed) g.M.Method.begins c.loop-method.lanes.items c.loop-method.yielded lane c.in-Some.method i.begins
          (ap (λ (n : ℕ). counted_on (g.M.Method.begins lane.worker.promise.method.value) n) o.handed ∙ ap g.M.Method.begins o.method);
      outs = ap (λ (y : List (Lane g.row.M.Denot)). map (λ (z : Lane g.row.M.Denot). z.slot) y) c.in-Ok.ensures.items
          ∙ grow_alike (λ (z : Lane g.row.M.Denot). z.slot) (λ (m : g.row.M.Denot). let none : Option Fetch = None in none) c.loop-method.lanes.items c.loop-method.yielded lane c.in-Some.method i.outs (o.slot ∙ kit.1);
    }
