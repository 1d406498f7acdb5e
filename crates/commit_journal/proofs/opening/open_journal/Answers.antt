use Rattle.commit_journal.proofs.Lists.{rests_told, stays_settled}
use Rattle.commit_journal.proofs.opening.open_journal.Goals as goal

pub returns-clause-synced : goal.returns-clause-synced
returns-clause-synced g c = λ settled. stays_settled (g.D.Disk.trace c.args.disk.now) (g.D.Disk.trace c.open_whole.new.disk) c.open_whole.ensures.opens.recovers settled

pub returns-clause-rests : goal.returns-clause-rests
returns-clause-rests g c = λ settled.
    rests_told c.open_whole.result (g.D.Disk.tells c.args.disk.now) (g.D.Disk.tells c.open_whole.new.disk) (g.D.Disk.files c.args.disk.now) (g.D.Disk.files c.open_whole.new.disk) (g.D.Disk.trace c.args.disk.now) (g.D.Disk.trace c.open_whole.new.disk)
    (g.met.D.Disk.shown c.args.disk.now) (g.met.D.Disk.shown c.open_whole.new.disk) (g.met.D.Disk.sound c.open_whole.new.disk) c.open_whole.ensures.frame.telling c.open_whole.ensures.opens.lists c.open_whole.ensures.opens.idle
    (stays_settled (g.D.Disk.trace c.args.disk.now) (g.D.Disk.trace c.open_whole.new.disk) c.open_whole.ensures.opens.recovers settled)
