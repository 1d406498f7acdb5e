use Rattle.std.proofs.Common.{◌∙◌}
use Rattle.ed_apply.proofs.Numbers.{place-above, place-below}
use Rattle.ed_apply.proofs.segment.Segment.place_of.Goals as goal
use Rattle.ed_apply.proofs.segment.Segment.place_of.Goals.{else-self-line-via-then-self-line+else-line-self, else-self-line-via-else-self-line}

pub returns-else-self-line : goal.returns-else-self-line
returns-else-self-line c =
    elim c.else-self-line.branch [
      | else-self-line-via-then-self-line+else-line-self w ↦ c.len.ensures ∙ place-above c.args.self.now c.args.line w.if-line-self.false
      | else-self-line-via-else-self-line w ↦ c.len.ensures ∙ place-below c.args.self.now c.args.line w.if-self-line.false
    ]
