use Rattle.std.proofs.Common.{map, ap, ◌∙◌}
use Rattle.std.proofs.lemmas.List.{take_all}
use Rattle.target_plan.specs.Marks.{digest_of}
use Rattle.target_plan.proofs.Marked.{apart_by_digests}
use Rattle.target_plan.proofs.overfull.are_apart.Goals as goal

pub returns : goal.returns
returns c = λ e.
    apart_by_digests c.args.components.now c.loop-component.digests.items
    (c.loop-component.invariant ∙ ap (map digest_of) (take_all c.loop-component.component-index c.args.components.now c.loop-component-test.false)) (c.are_distinct.ensures e)
