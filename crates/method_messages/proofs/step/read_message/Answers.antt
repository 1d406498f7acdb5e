use Rattle.std.proofs.Common.{◌∙◌}
use Rattle.method_messages.proofs.Ended.{message_of}
use Rattle.method_messages.proofs.step.read_message.Goals as goal

pub returns : goal.returns
returns c first fields e plain =
    message_of first fields c.args.lines.now c.cut_at.result.0.now c.cut_at.result.1.now c.number_of.result c.in_ok-text.text c.in_ok-fields.fields e plain
    c.cut_at.ensures.front c.cut_at.ensures.behind c.number_of.ensures (c.in_ok-text.ensures ∙ c.text_of.ensures) c.in_ok-fields.ensures
