use Rattle.std.proofs.Common.{ap, ◌∙◌}
use Rattle.std.specs.Prelude.{fold}
use Rattle.target_plan.specs.Marks.{step}
use Rattle.target_plan.proofs.Marked.{lists_more}
use Rattle.target_plan.proofs.overfull.mark_lists.Goals as goal

pub loop-tail-preserved : goal.loop-tail-preserved
loop-tail-preserved c =
    lists_more c.args.front c.over-mark.result c.args.tails.now c.loop-tail.tail-index c.tail-item.result c.args.digests.now.items c.loop-tail.digests.items c.push.new.self.items c.loop-tail-test.true c.tail-item.is
    (c.over-mark.ensures ∙ ap (fold step c.args.front) c.as_bytes.ensures) c.if-mark.false c.loop-tail.invariant c.in_ok-push.ensures.items
