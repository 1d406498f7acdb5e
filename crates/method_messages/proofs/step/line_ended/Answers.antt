use Rattle.std.proofs.Common.{sym, ◌∙◌, arith}
use Rattle.method_messages.proofs.Open.{tells_on, tells_end}
use Rattle.method_messages.proofs.step.line_ended.Goals as goal

pub returns-then-not-is_empty : goal.returns-then-not-is_empty
returns-then-not-is_empty c h =
    let parts = c.last_line.ensures h.lines h.line h.split h.own in
    tells_on c.args.text.now c.last_line.result.0.now c.last_line.result.1.now c.args.begins c.went_on.result h parts.0 parts.1 (omega arith) (sym c.is_empty.ensures ∙ c.if-not-is_empty.true) c.went_on.ensures

pub returns : goal.returns
returns c h =
    let parts = c.last_line.ensures h.lines h.line h.split h.own in
    tells_end c.args.text.now c.last_line.result.0.now c.last_line.result.1.now c.in_ok-read_message.field-0 h parts.0 parts.1 (omega arith)
    (sym c.is_empty.ensures ∙ c.if-not-is_empty.false) (sym c.is_empty-2.ensures ∙ c.if-is_empty.false) c.in_ok-read_message.ensures
