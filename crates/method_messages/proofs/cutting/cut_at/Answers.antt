use Rattle.std.proofs.Common.{◌∙◌, ap, drop}
use Rattle.method_messages.proofs.Cuts.{cut_front, cut_behind, uncut_front, uncut_behind}
use Rattle.method_messages.proofs.cutting.cut_at.Goals as goal

pub returns-in-Some-clause-front : goal.returns-in-Some-clause-front
returns-in-Some-clause-front c = c.split_at.ensures.front ∙ cut_front c.args.byte c.args.text.now c.in-Some.at c.in-Some.ensures

pub returns-in-Some-clause-behind : goal.returns-in-Some-clause-behind
returns-in-Some-clause-behind c =
    c.split_at-in-Some.ensures.back ∙ ap (drop 1) c.split_at.ensures.back ∙ cut_behind c.args.byte c.args.text.now c.in-Some.at c.in-Some.ensures

pub returns-in-None-clause-front : goal.returns-in-None-clause-front
returns-in-None-clause-front c = c.split_at-in-None.ensures.front ∙ uncut_front c.args.byte c.args.text.now c.in-None.ensures

pub returns-in-None-clause-behind : goal.returns-in-None-clause-behind
returns-in-None-clause-behind c = c.split_at-in-None.ensures.back ∙ uncut_behind c.args.byte c.args.text.now c.in-None.ensures
