use Rattle.std.proofs.Common.{rules, ◌≡◌, ◌∙◌, sym, ap, subst, List, IsTrue, Bool}
use Rattle.acq_outside.specs.Disk.{Files}
use Rattle.acq_outside.specs.Crash.{State}
use Rattle.acq_outside.specs.States.{IsNow, Since, From}
use Rattle.journal_model.specs.Names.{journal}
use Rattle.journal_model.specs.Reading.{journal_state_in}
use Rattle.commit_journal.specs.Opening.{Recovers}
use Rattle.commit_journal.proofs.Recovers.{onwards}
use Rattle.commit_journal.specs.Phases.{IsJournalSynced, IsFirst}
use Rattle.commit_journal.specs.declared.opening.FirstByte.{FirstByte}
use Rattle.commit_journal.proofs.Looks.{shut_unset}
use Rattle.journal_model.specs.declared.step.JournalState.TheVariants.{Shut}
use Rattle.commit_journal.proofs.Lists.{gate_made}
use Rattle.commit_journal.proofs.Finds.{unmade_shut}
use Rattle.commit_journal.proofs.opening.open_whole.Goals as goal

pub make_new-requires : goal.make_new-requires
make_new-requires g c =
    shut_unset (g.D.Disk.tells c.first_byte.new.disk) (g.D.Disk.files c.first_byte.new.disk) (g.D.Disk.trace c.first_byte.new.disk) (g.met.D.Disk.shown c.first_byte.new.disk)
    (subst (λ (l : List State). IsNow IsJournalSynced l) (sym c.first_byte.ensures.frame.still) c.in_ok-sync_found.ensures.moves.done)
    (λ told. ap (λ (f : Files). journal_state_in (f journal)) c.first_byte.ensures.frame.same
    ∙ unmade_shut (g.D.Disk.files c.sync_found.new.disk journal) (subst (λ (k : FirstByte). IsFirst k (g.D.Disk.files c.sync_found.new.disk journal)) c.in-Other.is (c.in_ok-found.ensures.told (subst (λ (b : Bool). IsTrue b) c.first_byte.ensures.frame.telling told))))

pub returns-in_ok-make_new-in-Other-clause-opens : goal.returns-in_ok-make_new-in-Other-clause-opens
returns-in_ok-make_new-in-Other-clause-opens g c = record {
  finds = record {
    unchanged = search rules;
    lists = λ told.
        let told_laid = subst (λ (b : Bool). IsTrue b) (sym c.sync_found.ensures.frame.telling) told in
        let told_found = subst (λ (b : Bool). IsTrue b) (sym c.first_byte.ensures.frame.telling) told_laid in
        let shut = unmade_shut (g.D.Disk.files c.sync_found.new.disk journal) (subst (λ (k : FirstByte). IsFirst k (g.D.Disk.files c.sync_found.new.disk journal)) c.in-Other.is (c.in_ok-found.ensures.told told_laid)) in
        gate_made (g.D.Disk.files c.make_new.new.disk) (g.D.Disk.files c.first_byte.new.disk) (g.D.Disk.files c.args.disk.now) (c.in_ok-make_new-in-Other.ensures.told told_found) (c.first_byte.ensures.frame.same ∙ c.sync_found.ensures.same)
        (subst (λ (f : Files). journal_state_in (f journal) ≡ Shut) c.sync_found.ensures.same shut);
    damage = search rules;
  };
  thrifty = search rules;
  recovers = onwards _ _ _ c.sync_found.ensures.moves.moments (subst (λ (l : List State). Since l (g.D.Disk.trace c.make_new.new.disk) (From Recovers l)) c.first_byte.ensures.frame.still c.make_new.ensures.moves.moments);
  others = search rules;
  idle = search rules;
}

pub returns-in_err-act_on_open_gate-in-Open-clause-opens : goal.returns-in_err-act_on_open_gate-in-Open-clause-opens
returns-in_err-act_on_open_gate-in-Open-clause-opens g c = record {
  finds = record { unchanged = search rules; lists = search rules; damage = search rules };
  thrifty = search rules;
  recovers = onwards _ _ _ c.sync_found.ensures.moves.moments (subst (λ (l : List State). Since l (g.D.Disk.trace c.act_on_open_gate.new.disk) (From Recovers l)) c.first_byte.ensures.frame.still c.act_on_open_gate.ensures.moments);
  others = search rules;
  idle = search rules;
}

pub returns-in_ok-act_on_open_gate-in-Open-clause-opens : goal.returns-in_ok-act_on_open_gate-in-Open-clause-opens
returns-in_ok-act_on_open_gate-in-Open-clause-opens g c = record {
  finds = record { unchanged = search rules; lists = search rules; damage = search rules };
  thrifty = search rules;
  recovers = onwards _ _ _ c.sync_found.ensures.moves.moments (subst (λ (l : List State). Since l (g.D.Disk.trace c.act_on_open_gate.new.disk) (From Recovers l)) c.first_byte.ensures.frame.still c.act_on_open_gate.ensures.moments);
  others = search rules;
  idle = search rules;
}

pub returns-in_err-make_new-in-Other-clause-opens : goal.returns-in_err-make_new-in-Other-clause-opens
returns-in_err-make_new-in-Other-clause-opens g c = record {
  finds = record { unchanged = search rules; lists = search rules; damage = search rules };
  thrifty = search rules;
  recovers = onwards _ _ _ c.sync_found.ensures.moves.moments (subst (λ (l : List State). Since l (g.D.Disk.trace c.make_new.new.disk) (From Recovers l)) c.first_byte.ensures.frame.still c.make_new.ensures.moves.moments);
  others = search rules;
  idle = search rules;
}
