use Rattle.std.proofs.Common.{ℕ, List, ◌∙◌, ap, ◌++◌, codes}
use Rattle.mirror_maker.specs.Texts.{patches_lines}
use Rattle.mirror_maker.proofs.texts.append_patches.Goals as goal

pub returns : goal.returns
unfolding patches_lines
returns c =
    c.in_ok-append.ensures
    ∙ ap (λ (l : List ℕ). c.args.text.now ++ l)
    (c.as_bytes.ensures.value ∙ c.in_ok-lines.ensures.ok ∙ ap (λ (s : List ℕ). codes "SHA256-Patches:\n " ++ s ++ codes " p1\n") c.in_ok-sum.ensures)
