use Rattle.std.proofs.Common.{◌≡◌, ◌∙◌, ℕ, ◌+◌, suc, length, sym, ap, arith}
use Rattle.update_core.proofs.Waiting.{lane_from, lane-first, lane-next, lane-none}
use Rattle.update_core.proofs.jobs.lane_with.Goals as goal

pub loop-lane-init : goal.loop-lane-init
loop-lane-init c = sym (lane-first c.args.out.now c.args.number)

pub loop-lane-preserved : goal.loop-lane-preserved
loop-lane-preserved c =
    let next : suc c.loop-lane.lane ≡ c.loop-lane.lane + 1 = omega arith in
    c.loop-lane.invariant
    ∙ lane-next c.args.out.now c.args.number c.loop-lane.lane _ c.loop-lane-test.true (sym c.is_out_as.ensures ∙ c.if-is_out_as.false)
    ∙ ap (λ (lane : ℕ). lane_from c.args.out.now c.args.number lane) next

pub returns : goal.returns
returns c =
    let all : length c.args.out.now ≡ c.loop-lane.lane = omega (arith, c.loop-lane.auto.lane-end, c.loop-lane-test.false) in
    sym (c.loop-lane.invariant ∙ lane-none c.args.out.now c.args.number c.loop-lane.lane all)
