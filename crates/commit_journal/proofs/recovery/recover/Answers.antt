use Rattle.std.proofs.Common.{◌≡◌, sym, subst, IsTrue, Bool, OnOk}
use Rattle.acq_outside.specs.Disk.{Files}
use Rattle.commit_journal.specs.Phases.{shut_files}
use Rattle.commit_journal.specs.Phases.{IsOfCommit}
use Rattle.commit_journal.proofs.Moved.{recovers_on}
use Rattle.commit_journal.proofs.recovery.recover.Goals as goal

pub returns-clause-told : goal.returns-clause-told
returns-clause-told g c = λ told.
    subst (λ (f : Files). OnOk c.end_record.result (g.D.Disk.files c.end_record.new.disk ≡ shut_files f)) (c.in_ok-carry_all.ensures.told told)
    (c.end_record.ensures.told (subst (λ (b : Bool). IsTrue b) (sym c.carry_all.ensures.frame.telling) told))

pub returns-clause-moves : goal.returns-clause-moves
returns-clause-moves g c = recovers_on (IsOfCommit c.args.steps.now) _ _ _ _ _ c.carry_all.result c.end_record.result c.carry_all.ensures.moves c.end_record.ensures.moves
