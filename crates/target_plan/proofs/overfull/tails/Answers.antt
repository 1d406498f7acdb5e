use Rattle.std.proofs.Common.{ap, sym, ◌∙◌}
use Rattle.target_plan.specs.Marks.{is_plain}
use Rattle.target_plan.proofs.Marked.{tails_more}
use Rattle.target_plan.proofs.overfull.tails.Goals as goal

pub loop-planned-preserved : goal.loop-planned-preserved
loop-planned-preserved g c =
    let more =
    tails_more c.as_slice-planned-items.result.now c.loop-planned.planned-index c.planned-item.result c.loop-planned.tails.items c.push.new.self.items c.in_ok-escaped.field-0 c.loop-planned-test.true c.planned-item.is c.in_ok-escaped.ensures
    (sym (ap is_plain c.as_bytes.ensures) ∙ sym c.is_plain.ensures ∙ c.if-not-is_plain.false) c.loop-planned.invariant.are c.loop-planned.invariant.plain c.in_ok-push.ensures.items in
    record { are = more.0; plain = more.1 }
