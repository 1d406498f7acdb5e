use Rattle.std.proofs.Common.{◌∙◌}
use Rattle.method_messages.proofs.Cuts.{last_some, last_none}
use Rattle.method_messages.proofs.cutting.last_line.Goals as goal

pub returns-in-Some : goal.returns-in-Some
returns-in-Some c lines line e plain =
    let parts = last_some c.args.text.now c.in-Some.at c.in-Some.ensures lines line e plain in
    (c.split_at.ensures.front ∙ parts.0, c.split_at.ensures.back ∙ parts.1)

pub returns-in-None : goal.returns-in-None
returns-in-None c lines line e plain =
    let parts = last_none c.args.text.now c.in-None.ensures lines line e plain in
    (c.split_at-in-None.ensures.front ∙ parts.0, c.split_at-in-None.ensures.back ∙ parts.1)
