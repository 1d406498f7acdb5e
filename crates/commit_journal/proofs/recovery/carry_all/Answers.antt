use Rattle.std.proofs.Common.{rules, subst, sym, arith, Bool, IsTrue}
use Rattle.std.proofs.lemmas.Result.{MatchResult-at_ok}
use Rattle.acq_outside.proofs.Framed.{stayed_on}
use Rattle.journal_model.specs.Steps.{IsNamedStep}
use Rattle.journal_model.specs.declared.step.Step.{Step}
use Rattle.commit_journal.proofs.Turns.{named_at, turn, step_leaves, all_done, told_turn, told_done}
use Rattle.commit_journal.proofs.recovery.carry_all.Goals as goal

pub carry_one-requires : goal.carry_one-requires
carry_one-requires g c = subst (λ (s : Step). IsNamedStep s) (sym c.step-item.is) (named_at c.args.steps.now c.loop-step.step-index c.step-item.result c.requires.named (omega (arith, c.loop-step-test.true)))

pub returns-in_err-carry_one-clause-moves : goal.returns-in_err-carry_one-clause-moves
returns-in_err-carry_one-clause-moves g c = record {
  moments = (turn c.args.steps.now c.loop-step.step-index c.step-item.result _ _ _ c.carry_one.result (g.met.D.Disk.sound c.loop-step.disk) (omega (arith, c.loop-step-test.true)) c.step-item.is c.loop-step.invariant.moments c.loop-step.invariant.done c.carry_one.ensures.step).0;
  others = step_leaves c.args.steps.now c.loop-step.step-index c.step-item.result _ _ _ c.carry_one.result (g.met.D.Disk.sound c.loop-step.disk) (omega (arith, c.loop-step-test.true)) c.step-item.is c.loop-step.invariant.others c.carry_one.ensures.step;
  done = search rules;
}

pub loop-step-preserved : goal.loop-step-preserved
loop-step-preserved g c =
    let next = turn c.args.steps.now c.loop-step.step-index c.step-item.result _ _ _ c.carry_one.result (g.met.D.Disk.sound c.loop-step.disk) (omega (arith, c.loop-step-test.true)) c.step-item.is c.loop-step.invariant.moments c.loop-step.invariant.done c.carry_one.ensures.step in
    record {
      moments = next.0;
      others = step_leaves c.args.steps.now c.loop-step.step-index c.step-item.result _ _ _ c.carry_one.result (g.met.D.Disk.sound c.loop-step.disk) (omega (arith, c.loop-step-test.true)) c.step-item.is c.loop-step.invariant.others c.carry_one.ensures.step;
      done = MatchResult-at_ok _ _ c.in_ok-carry_one.field-0 c.in_ok-carry_one.was next.1;
      frame = stayed_on c.loop-step.invariant.frame c.in_ok-carry_one.ensures.frame;
      told = λ told. told_turn c.args.steps.now c.loop-step.step-index c.step-item.result (g.D.Disk.files c.args.disk.now) (g.D.Disk.files c.loop-step.disk) _ (omega (arith, c.loop-step-test.true)) c.step-item.is (c.loop-step.invariant.told told)
          (MatchResult-at_ok _ _ c.in_ok-carry_one.field-0 c.in_ok-carry_one.was (c.carry_one.ensures.told (subst (λ (b : Bool). IsTrue b) (sym c.loop-step.invariant.frame.telling) told)));
    }

pub returns-clause-moves : goal.returns-clause-moves
returns-clause-moves g c = record { moments = c.loop-step.invariant.moments; others = c.loop-step.invariant.others; done = all_done c.args.steps.now c.loop-step.step-index _ (omega (arith, c.loop-step-test.false)) c.loop-step.invariant.done }

pub returns-clause-told : goal.returns-clause-told
returns-clause-told g c = λ told. told_done c.args.steps.now c.loop-step.step-index (g.D.Disk.files c.args.disk.now) _ (omega (arith, c.loop-step-test.false)) (c.loop-step.invariant.told told)
