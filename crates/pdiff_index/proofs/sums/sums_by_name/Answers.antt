use Rattle.std.proofs.Common.{◌∙◌, sym, ap}
use Rattle.pdiff_index.specs.Sums.{sum_beside}
use Rattle.pdiff_index.proofs.SumLemmas.{sum_named-more}
use Rattle.pdiff_index.proofs.sums.sums_by_name.Goals as goal

pub loop-step-preserved : goal.loop-step-preserved
loop-step-preserved c = λ name.
    let step = c.step-item.result in
    c.in_ok-add_sum.ensures.sums name ∙ ap (λ o. sum_beside o step name) (c.loop-step.invariant name) ∙ sym (sum_named-more c.args.steps.now c.loop-step.step-index step name c.loop-step-test.true c.step-item.is)
