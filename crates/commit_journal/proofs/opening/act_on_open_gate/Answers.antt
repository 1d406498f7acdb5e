use Rattle.std.proofs.Common.{rules, ◌∙◌, sym, ap, subst, List, [], IsTrue, Bool}
use Rattle.acq_outside.specs.Disk.{Files}
use Rattle.acq_outside.specs.Crash.{State}
use Rattle.acq_outside.specs.States.{IsNow}
use Rattle.journal_model.specs.Names.{journal}
use Rattle.journal_model.specs.Reading.{journal_state_in}
use Rattle.journal_model.specs.declared.step.Step.{Step}
use Rattle.commit_journal.specs.Phases.{IsJournalSynced, IsCarrying}
use Rattle.commit_journal.proofs.Looks.{opened_carrying, shut_unset}
use Rattle.commit_journal.proofs.Lists.{gate_recovered, gate_made}
use Rattle.commit_journal.proofs.opening.act_on_open_gate.Goals as goal

pub recover-requires-clause-open_gate : goal.recover-requires-clause-open_gate
recover-requires-clause-open_gate g c = subst (λ (l : List Step). IsNow (IsCarrying l []) (g.D.Disk.trace c.read_state.new.disk)) (sym c.as_slice.ensures)
    (opened_carrying (g.D.Disk.tells c.read_state.new.disk) (g.D.Disk.files c.read_state.new.disk) (g.D.Disk.trace c.read_state.new.disk) c.in-Open.steps (g.met.D.Disk.shown c.read_state.new.disk)
    (subst (λ (l : List State). IsNow IsJournalSynced l) (sym c.read_state.ensures.frame.still) c.requires)
    (λ told. sym c.in-Open.is ∙ c.in_ok-gate.ensures.told (subst (λ (b : Bool). IsTrue b) c.read_state.ensures.frame.telling told) ∙ ap (λ (f : Files). journal_state_in (f journal)) (sym c.read_state.ensures.frame.same)))

pub make_new-requires : goal.make_new-requires
make_new-requires g c =
    shut_unset (g.D.Disk.tells c.read_state.new.disk) (g.D.Disk.files c.read_state.new.disk) (g.D.Disk.trace c.read_state.new.disk) (g.met.D.Disk.shown c.read_state.new.disk)
    (subst (λ (l : List State). IsNow IsJournalSynced l) (sym c.read_state.ensures.frame.still) c.requires)
    (λ told. sym (sym c.in-Shut.is ∙ c.in_ok-gate.ensures.told (subst (λ (b : Bool). IsTrue b) c.read_state.ensures.frame.telling told) ∙ ap (λ (f : Files). journal_state_in (f journal)) (sym c.read_state.ensures.frame.same)))

pub returns-in_ok-recover-in-Open-clause-finds : goal.returns-in_ok-recover-in-Open-clause-finds
returns-in_ok-recover-in-Open-clause-finds g c = record {
  unchanged = search rules;
  lists = λ told.
      gate_recovered (g.D.Disk.files c.recover.new.disk) (g.D.Disk.files c.read_state.new.disk) (g.D.Disk.files c.args.disk.now) c.as_slice.result.now c.in-Open.steps
      (c.in_ok-recover-in-Open.ensures.told (subst (λ (b : Bool). IsTrue b) (sym c.read_state.ensures.frame.telling) told)) c.as_slice.ensures c.read_state.ensures.frame.same (sym c.in-Open.is ∙ c.in_ok-gate.ensures.told told);
  damage = search rules;
}

pub returns-in_ok-make_new-in-Shut-clause-finds : goal.returns-in_ok-make_new-in-Shut-clause-finds
returns-in_ok-make_new-in-Shut-clause-finds g c = record {
  unchanged = search rules;
  lists = λ told.
      gate_made (g.D.Disk.files c.make_new.new.disk) (g.D.Disk.files c.read_state.new.disk) (g.D.Disk.files c.args.disk.now)
      (c.in_ok-make_new-in-Shut.ensures.told (subst (λ (b : Bool). IsTrue b) (sym c.read_state.ensures.frame.telling) told)) c.read_state.ensures.frame.same (sym (sym c.in-Shut.is ∙ c.in_ok-gate.ensures.told told));
  damage = search rules;
}
