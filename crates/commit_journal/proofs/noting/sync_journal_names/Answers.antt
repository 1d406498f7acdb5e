use Rattle.std.proofs.Common.{[]}
use Rattle.commit_journal.proofs.Others.{names_sync}
use Rattle.commit_journal.proofs.Notes.{names_noted}
use Rattle.commit_journal.proofs.noting.sync_journal_names.Goals as goal

pub returns-clause-moves : goal.returns-clause-moves
returns-clause-moves g c =
    let goes = names_noted _ _ c.sync_names.result (g.met.D.Disk.sound c.args.disk.now) c.requires c.sync_names.ensures.step in
    record { moments = goes.0; others = names_sync [] _ _ c.sync_names.result (g.met.D.Disk.sound c.args.disk.now) c.sync_names.ensures.step; done = goes.1 }
