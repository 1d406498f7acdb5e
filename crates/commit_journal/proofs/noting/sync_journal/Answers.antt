use Rattle.std.proofs.Common.{[]}
use Rattle.journal_model.proofs.Literals.{journal_named}
use Rattle.commit_journal.proofs.Others.{journal_sync}
use Rattle.commit_journal.proofs.Notes.{sync_noted}
use Rattle.commit_journal.proofs.noting.sync_journal.Goals as goal

pub sync-requires : goal.sync-requires
sync-requires g c = journal_named _ c.as_slice.ensures

pub returns-clause-moves : goal.returns-clause-moves
returns-clause-moves g c =
    let goes = sync_noted _ c.args.body.now _ _ c.sync.result c.as_slice.ensures (g.met.D.Disk.sound c.args.disk.now) c.requires c.sync.ensures.step in
    record { moments = goes.0; others = journal_sync [] _ _ _ c.sync.result c.as_slice.ensures (g.met.D.Disk.sound c.args.disk.now) c.sync.ensures.step; done = goes.1 }
