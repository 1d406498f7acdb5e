use Rattle.job_fetch.proofs.Fillings.{told_before}
use Rattle.job_fetch.proofs.Hears.{extended}
use Rattle.job_fetch.proofs.hearing.extend.Goals as goal

pub returns-clause-come : goal.returns-clause-come
returns-clause-come g c = λ world part goes come. extended world part c.args.job.now (g.D.Disk.trace c.args.disk.now) (g.D.Disk.trace c.add.new.disk) c.args.filling c.add.new.filling c.args.piece.now c.as_slice.result.now
    c.requires.can.past c.in_ok-add.ensures.part c.as_slice.ensures (told_before _ _ c.add.ensures.staging.moments) c.in_ok-add.ensures.bytes goes come
