use Rattle.std.proofs.lemmas.Result.{err_from_is_err_and}
use Rattle.std.proofs.Common.{arith}
use Rattle.method_messages.proofs.Going.{ends_long, ends_whole}
use Rattle.method_messages.proofs.progress.read_messages.Goals as goal

pub returns-in_err-step-clause-told : goal.returns-in_err-step-clause-told
returns-in_err-step-clause-told c stream before h =
    let p = err_from_is_err_and c.from_residual.result c.from_residual.ensures.1 in
    rw (p.1, p.2) (c.in_err-step.ensures.told stream before (c.lines.invariant.1 stream before h))

pub returns-then-text-progress-ge-MOST_BYTES-clause-told :
    goal.returns-then-text-progress-ge-MOST_BYTES-clause-told
returns-then-text-progress-ge-MOST_BYTES-clause-told c stream before h =
    ends_long stream _ c.args.text.now c.step.new.self.start c.step.new.self.seen c.step.new.self.begins c.in_ok-step.field-0 c.if-branch.false
    (c.in_ok-step.ensures.told stream before (c.lines.invariant.1 stream before h)) (omega arith)

pub returns-clause-told : goal.returns-clause-told
returns-clause-told c stream before h =
    ends_whole stream _ c.args.text.now c.step.new.self.start c.step.new.self.seen c.step.new.self.begins c.in_ok-step.field-0 c.if-branch.false
    (c.in_ok-step.ensures.told stream before (c.lines.invariant.1 stream before h)) (omega arith)
