use Rattle.commit_journal.proofs.Carries.{settle_goes}
use Rattle.commit_journal.proofs.Others.{names_sync}
use Rattle.commit_journal.proofs.recovery.sync_renames.Goals as goal

pub returns-clause-moves : goal.returns-clause-moves
returns-clause-moves g c =
    let goes = settle_goes c.args.steps.now _ _ c.sync_names.result (g.met.D.Disk.sound c.args.disk.now) c.requires c.sync_names.ensures.step in
    record { moments = goes.0; others = names_sync c.args.steps.now _ _ c.sync_names.result (g.met.D.Disk.sound c.args.disk.now) c.sync_names.ensures.step; done = goes.1 }
