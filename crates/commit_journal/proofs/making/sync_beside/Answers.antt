use Rattle.journal_model.proofs.Literals.{beside_named}
use Rattle.commit_journal.proofs.Besides.{sync_goes}
use Rattle.commit_journal.proofs.Others.{beside_sync}
use Rattle.commit_journal.proofs.making.sync_beside.Goals as goal

pub sync-requires : goal.sync-requires
sync-requires g c = beside_named _ c.as_slice.ensures

pub returns-clause-moves : goal.returns-clause-moves
returns-clause-moves g c =
    let goes = sync_goes _ _ _ c.sync.result c.as_slice.ensures (g.met.D.Disk.sound c.args.disk.now) c.requires c.sync.ensures.step in
    record { moments = goes.0; others = beside_sync _ _ _ c.sync.result c.as_slice.ensures (g.met.D.Disk.sound c.args.disk.now) c.sync.ensures.step; done = goes.1 }
