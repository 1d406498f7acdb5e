use Rattle.std.proofs.Common.{rules, ◌∙◌, sym}
use Rattle.method_messages.proofs.Ended.{some-rest, read_more, read_all}
use Rattle.method_messages.proofs.step.read_fields.Goals as goal

pub loop-rest-preserved : goal.loop-rest-preserved
loop-rest-preserved c all e plain =
    read_more all c.loop-rest.rest.now c.cut_at.result.0.now c.cut_at.result.1.now c.loop-rest.fields c.push.new.self c.in_ok-read_field.field-0 plain
    (c.loop-rest.invariant all e plain) (some-rest c.loop-rest.rest.now (sym c.is_empty.ensures ∙ c.loop-rest-test.true))
    c.cut_at.ensures.front c.cut_at.ensures.behind c.in_ok-read_field.ensures c.in_ok-push.ensures

pub returns : goal.returns
returns c all e plain = read_all all c.loop-rest.rest.now c.loop-rest.fields (c.loop-rest.invariant all e plain) (search rules)
