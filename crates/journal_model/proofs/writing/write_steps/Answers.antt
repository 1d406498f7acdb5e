use Rattle.std.proofs.Common.{sym, subst, arith}
use Rattle.journal_model.specs.Writing.{IsShortStep}
use Rattle.journal_model.specs.declared.step.Step.{Step}
use Rattle.journal_model.proofs.Shorts.{short_at, step_turn, steps_end}
use Rattle.journal_model.proofs.writing.write_steps.Goals as goal

pub write_step-requires : goal.write_step-requires
write_step-requires c = subst (λ (s : Step). IsShortStep s) (sym c.step-item.is) (short_at c.args.steps.now c.loop-step.step-index c.step-item.result c.requires c.loop-step-test.true)

pub loop-step-preserved : goal.loop-step-preserved
loop-step-preserved c = step_turn c.args.steps.now c.loop-step.step-index c.step-item.result c.args.body.now c.loop-step.body c.write_step.new.body c.loop-step-test.true c.step-item.is c.loop-step.invariant c.in_ok-write_step.ensures

pub returns : goal.returns
returns c = steps_end c.args.steps.now c.loop-step.step-index c.args.body.now c.loop-step.body (omega (arith, c.loop-step-test.false)) c.loop-step.invariant
