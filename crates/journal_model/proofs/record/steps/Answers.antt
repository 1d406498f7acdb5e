use Rattle.std.proofs.Common.{refl}
use Rattle.std.proofs.lemmas.Result.{err_from_is_err_and}
use Rattle.journal_model.specs.Reading.{steps_at}
use Rattle.journal_model.proofs.Loops.{step_goes_on, step_ends, steps_done}
use Rattle.journal_model.proofs.record.steps.Goals as goal

pub returns-in_err-step : goal.returns-in_err-step
returns-in_err-step c =
    let p = err_from_is_err_and c.from_residual.result c.from_residual.ensures.1 in
    rw (p.1, p.2) (step_ends c.in_err-step.field-0.0 c.loop.seen c.loop.seen c.args.count c.loop.counter c.loop.rest.now (steps_at c.args.count c.args.before c.args.bytes.now) c.loop-test.true refl c.in_err-step.ensures.read c.loop.invariant)

pub loop-preserved : goal.loop-preserved
loop-preserved c =
    step_goes_on c.loop.seen c.loop.seen c.in_ok-seen.seen c.args.count c.loop.counter c.loop.rest.now c.in_ok-step.step c.in_ok-step.after.now (steps_at c.args.count c.args.before c.args.bytes.now) c.loop-test.true refl c.in_ok-seen.ensures c.in_ok-step.ensures.read c.loop.invariant

pub returns : goal.returns
returns c = steps_done c.loop.seen c.args.count c.loop.counter c.loop.rest.now (steps_at c.args.count c.args.before c.args.bytes.now) c.loop-test.false c.loop.invariant
