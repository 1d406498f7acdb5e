use Rattle.commit_journal.proofs.Besides.{all_goes}
use Rattle.commit_journal.proofs.Others.{beside_lasts}
use Rattle.commit_journal.proofs.making.name_lastingly.Goals as goal

pub returns-clause-moves : goal.returns-clause-moves
returns-clause-moves g c =
    let goes = all_goes _ _ c.sync_names.result (g.met.D.Disk.sound c.args.disk.now) c.requires c.sync_names.ensures.step in
    record { moments = goes.0; others = beside_lasts _ _ c.sync_names.result (g.met.D.Disk.sound c.args.disk.now) c.sync_names.ensures.step; done = goes.1 }
