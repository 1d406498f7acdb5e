use Rattle.std.proofs.Common.{ap, sym, subst, ◌∙◌}
use Rattle.target_plan.specs.Marks.{IsFolderMark, behind_folder, is_plain}
use Rattle.target_plan.specs.Offers.{is_exact}
use Rattle.target_plan.proofs.FolderMark.{folder_marked}
use Rattle.target_plan.proofs.overfull.folder_mark.Goals as goal

pub returns : goal.returns
returns c =
    let first = c.args.first.now in
    let head = c.in_ok-head.head in
    subst (IsFolderMark first) (sym (c.over_folder.ensures ∙ (λ i. behind_folder head (c.as_bytes-path.ensures i) (c.as_bytes-suite.ensures i))))
    (folder_marked first head c.in_ok-head.ensures
    (sym (ap is_exact c.as_bytes-suite.ensures) ∙ sym c.is_exact.ensures ∙ c.if-is_exact.false)
    (sym (ap is_plain c.as_bytes-path.ensures) ∙ sym c.is_plain.ensures ∙ c.if-not-is_plain.false)
    (sym (ap is_plain c.as_bytes-suite.ensures) ∙ sym c.is_plain-else-not-is_plain.ensures ∙ c.if-not-is_plain-2.false))
