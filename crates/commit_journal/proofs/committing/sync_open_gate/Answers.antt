use Rattle.journal_model.proofs.Literals.{journal_named}
use Rattle.journal_model.specs.Spelling.{all_steps}
use Rattle.commit_journal.specs.Changes.{steps_in}
use Rattle.commit_journal.proofs.Others.{journal_sync}
use Rattle.commit_journal.proofs.Opens.{sync_opens, sync_new, sync_goes_on}
use Rattle.commit_journal.proofs.committing.sync_open_gate.Goals as goal

pub sync-requires : goal.sync-requires
sync-requires g c = journal_named _ c.as_slice.ensures

pub returns-clause-opens : goal.returns-clause-opens
returns-clause-opens g c = sync_opens c.args.prepared.now.groups _ _ _ c.sync.result c.as_slice.ensures (g.met.D.Disk.sound c.args.disk.now) c.sync.ensures.step

pub returns-clause-new : goal.returns-clause-new
returns-clause-new g c = sync_new c.args.prepared.now.groups _ _ _ c.sync.result c.as_slice.ensures (g.met.D.Disk.sound c.args.disk.now) c.sync.ensures.step

pub returns-clause-moves : goal.returns-clause-moves
returns-clause-moves g c =
    let goes = sync_goes_on c.args.prepared.now.groups _ _ _ c.sync.result c.as_slice.ensures (g.met.D.Disk.sound c.args.disk.now) c.requires c.sync.ensures.step in
    record { moments = goes.0; others = journal_sync (all_steps (steps_in c.args.prepared.now.groups)) _ _ _ c.sync.result c.as_slice.ensures (g.met.D.Disk.sound c.args.disk.now) c.sync.ensures.step; done = goes.1 }
