use Rattle.std.proofs.Common.{ℕ, List, ap, sym, subst, ◌∙◌}
use Rattle.std.specs.Prelude.{fold}
use Rattle.target_plan.specs.declared.marks.Mark.{Mark}
use Rattle.target_plan.specs.Marks.{step, escaped, is_plain, MarksLists}
use Rattle.target_plan.proofs.Marked.{files_none, files_more}
use Rattle.target_plan.proofs.overfull.mark_files.Goals as goal

pub loop-component-init : goal.loop-component-init
loop-component-init c =
    files_none c.args.folder c.over-release.result c.args.tails.now c.args.digests.now.items c.push.new.self.items c.over-release.ensures c.if-release.false c.in_ok-push.ensures.items

pub loop-component-preserved : goal.loop-component-preserved
loop-component-preserved c =
    let old = c.loop-component.digests.items in
    let new = c.mark_lists.new.digests.items in
    files_more c.args.folder c.args.components.now c.args.tails.now c.loop-component.component-index c.component-item.result c.args.digests.now.items old new c.loop-component-test.true c.component-item.is
    (sym (ap is_plain c.as_bytes-component.ensures) ∙ sym c.is_plain.ensures ∙ c.if-not-is_plain.false) c.loop-component.invariant
    (subst (λ (m : Mark). MarksLists m c.args.tails.now old new) (c.over_escaped.ensures ∙ ap (λ (bytes : List ℕ). fold step c.args.folder (escaped bytes)) c.as_bytes-component.ensures) (c.in_ok-mark_lists.ensures c.if-not-branch.false))
