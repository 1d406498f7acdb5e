use Rattle.std.proofs.Common.{◌≡◌, ◌∙◌, sym, ap, Some}
use Rattle.std.specs.BTreeMap.{get}
use Rattle.std.specs.Cmp.Lexicographic.{slice_cmp}
use Rattle.std.specs.Ordering.{nat_cmp}
use Rattle.pdiff_index.specs.Index.{step_of_line}
use Rattle.pdiff_index.proofs.StepLemmas.{goes_on}
use Rattle.pdiff_index.proofs.steps.step_lines.Goals as goal

pub loop-line-preserved : goal.loop-line-preserved
loop-line-preserved c =
    let loop = c.loop-line in
    let step = c.in_ok-may_stand.ensures in
    let some : Some c.in-Some.step ≡ step_of_line c.line-item.result = sym c.in-Some.is ∙ c.in_ok-step.ensures ∙ ap step_of_line c.as_bytes.ensures in
    rw (c.saturating_add-at.ensures, c.in_ok-push.ensures) (goes_on c.args.once c.args.at c.args.lines.now loop.line-index loop.at loop.steps (get (slice_cmp nat_cmp) loop.sums) (get (slice_cmp nat_cmp) c.may_stand.new.sums) c.line-item.result c.in-Some.step loop.invariant c.loop-line-test.true c.line-item.is some (sym step.may ∙ c.if-not-branch.false) step.sums)
