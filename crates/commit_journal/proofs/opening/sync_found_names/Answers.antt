use Rattle.commit_journal.proofs.Looks.{lay_names_goes}
use Rattle.std.proofs.Common.{[]}
use Rattle.commit_journal.proofs.Others.{names_sync}
use Rattle.commit_journal.proofs.opening.sync_found_names.Goals as goal

pub returns-clause-moves : goal.returns-clause-moves
returns-clause-moves g c =
    let goes = lay_names_goes _ _ c.sync_names.result (g.met.D.Disk.sound c.args.disk.now) c.sync_names.ensures.step in
    record { moments = goes.0; others = names_sync [] _ _ c.sync_names.result (g.met.D.Disk.sound c.args.disk.now) c.sync_names.ensures.step; done = goes.1 }
