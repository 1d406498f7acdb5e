use Rattle.std.proofs.Common.{sym, ◌∙◌, arith, append-nil, [], ◌∷◌}
use Rattle.std.proofs.lemmas.Result.{err_from_is_err_and}
use Rattle.method_messages.proofs.Going.{line_inside, told_on, told_behind, told_err, tell_on, tell_passed, tell_ends}
use Rattle.method_messages.proofs.progress.Progress.step.Goals as goal

pub split_at-requires-2 : goal.split_at-requires-2
split_at-requires-2 c =
    let inside = line_inside c.args.text.now c.split_at.result.1.now c.split_at.result.0.now c.args.self.now.start c.args.self.now.seen c.in-Some.end c.requires c.split_at.ensures.back c.in-Some.ensures in
    omega (arith, inside.1)

pub returns-in_err-line_ended-clause-told : goal.returns-in_err-line_ended-clause-told
returns-in_err-line_ended-clause-told c stream before h =
    let p = err_from_is_err_and c.from_residual.result c.from_residual.ensures.1 in
    rw (p.1, p.2) (told_err stream _ c.args.text.now c.split_at.result.1.now c.split_at-2.result.0.now c.args.self.now.start c.args.self.now.seen c.args.self.now.begins c.in-Some.end c.in_err-line_ended.field-0.0
    (record { left = c.split_at.ensures.back; front = c.split_at-2.ensures.front; next = c.in-Some.ensures }) h c.in_err-line_ended.ensures)

pub pass-requires : goal.pass-requires
pass-requires c =
    let inside = line_inside c.args.text.now c.split_at.result.1.now c.split_at.result.0.now c.args.self.now.start c.args.self.now.seen c.in-Some.end c.requires c.split_at.ensures.back c.in-Some.ensures in
    omega (arith, inside.2)

pub pass-requires-in-Ends : goal.pass-requires-in-Ends
pass-requires-in-Ends c =
    let inside = line_inside c.args.text.now c.split_at.result.1.now c.split_at.result.0.now c.args.self.now.start c.args.self.now.seen c.in-Some.end c.requires c.split_at.ensures.back c.in-Some.ensures in
    omega (arith, inside.2)

pub returns-in-GoesOn-clause-inside : goal.returns-in-GoesOn-clause-inside
returns-in-GoesOn-clause-inside c =
    let inside = line_inside c.args.text.now c.split_at.result.1.now c.split_at.result.0.now c.args.self.now.start c.args.self.now.seen c.in-Some.end c.requires c.split_at.ensures.back c.in-Some.ensures in
    omega (arith, inside.2)

pub returns-in-GoesOn-clause-told : goal.returns-in-GoesOn-clause-told
returns-in-GoesOn-clause-told c stream before h =
    told_on stream _ c.args.text.now c.split_at.result.1.now c.split_at-2.result.0.now c.args.self.now.start c.args.self.now.seen c.args.self.now.begins c.in-Some.end
    (record { left = c.split_at.ensures.back; front = c.split_at-2.ensures.front; next = c.in-Some.ensures }) h
    (tell_on c.split_at-2.result.0.now c.args.self.now.begins c.in_ok-line_ended.field-0 c.in-GoesOn.is c.in_ok-line_ended.ensures)

pub returns-in-Passed-clause-inside : goal.returns-in-Passed-clause-inside
returns-in-Passed-clause-inside c =
    let inside = line_inside c.args.text.now c.split_at.result.1.now c.split_at.result.0.now c.args.self.now.start c.args.self.now.seen c.in-Some.end c.requires c.split_at.ensures.back c.in-Some.ensures in
    omega (arith, inside.2, c.pass.ensures.start, c.pass.ensures.seen)

pub returns-in-Passed-clause-told : goal.returns-in-Passed-clause-told
returns-in-Passed-clause-told c stream before h =
    told_behind stream before c.args.self.now.messages [] c.pass.new.self.messages c.args.text.now c.split_at.result.1.now c.split_at-2.result.0.now c.args.self.now.start c.args.self.now.seen c.args.self.now.begins c.in-Some.end
    c.pass.new.self.start c.pass.new.self.seen c.pass.new.self.begins
    (record { left = c.split_at.ensures.back; front = c.split_at-2.ensures.front; next = c.in-Some.ensures }) h
    (tell_passed c.split_at-2.result.0.now c.args.self.now.begins c.in_ok-line_ended.field-0 c.in-Passed.is c.in_ok-line_ended.ensures)
    (c.pass.ensures.messages ∙ sym (append-nil c.args.self.now.messages)) c.pass.ensures.start c.pass.ensures.seen c.pass.ensures.begins

pub returns-in_ok-push-in-Ends-clause-inside : goal.returns-in_ok-push-in-Ends-clause-inside
returns-in_ok-push-in-Ends-clause-inside c =
    let inside = line_inside c.args.text.now c.split_at.result.1.now c.split_at.result.0.now c.args.self.now.start c.args.self.now.seen c.in-Some.end c.requires c.split_at.ensures.back c.in-Some.ensures in
    omega (arith, inside.2, c.pass-in-Ends.ensures.start, c.pass-in-Ends.ensures.seen)

pub returns-in_ok-push-in-Ends-clause-told : goal.returns-in_ok-push-in-Ends-clause-told
returns-in_ok-push-in-Ends-clause-told c stream before h =
    told_behind stream before c.args.self.now.messages (c.in-Ends.message ∷ []) c.pass-in-Ends.new.self.messages c.args.text.now c.split_at.result.1.now c.split_at-2.result.0.now c.args.self.now.start c.args.self.now.seen c.args.self.now.begins c.in-Some.end
    c.pass-in-Ends.new.self.start c.pass-in-Ends.new.self.seen c.pass-in-Ends.new.self.begins
    (record { left = c.split_at.ensures.back; front = c.split_at-2.ensures.front; next = c.in-Some.ensures }) h
    (tell_ends c.split_at-2.result.0.now c.args.self.now.begins c.in_ok-line_ended.field-0 c.in-Ends.message c.in-Ends.is c.in_ok-line_ended.ensures)
    (c.pass-in-Ends.ensures.messages ∙ c.in_ok-push-in-Ends.ensures) c.pass-in-Ends.ensures.start c.pass-in-Ends.ensures.seen c.pass-in-Ends.ensures.begins
