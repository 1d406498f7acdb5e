use Rattle.journal_model.proofs.Literals.{journal_named}
use Rattle.commit_journal.proofs.Carries.{close_goes}
use Rattle.commit_journal.proofs.Others.{journal_sync}
use Rattle.commit_journal.proofs.recovery.sync_shut_gate.Goals as goal

pub sync-requires : goal.sync-requires
sync-requires g c = journal_named _ c.as_slice.ensures

pub returns-clause-moves : goal.returns-clause-moves
returns-clause-moves g c =
    let goes = close_goes _ _ _ c.sync.result c.as_slice.ensures (g.met.D.Disk.sound c.args.disk.now) c.requires c.sync.ensures.step in
    record { moments = goes.0; others = journal_sync c.args.steps.now _ _ _ c.sync.result c.as_slice.ensures (g.met.D.Disk.sound c.args.disk.now) c.sync.ensures.step; done = goes.1 }
