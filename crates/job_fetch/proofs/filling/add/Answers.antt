use Rattle.std.proofs.Common.{refl}
use Rattle.acq_outside.specs.declared.change.DiskCall.TheVariants.{Write}
use Rattle.journal_model.specs.Names.{partial}
use Rattle.job_fetch.proofs.Fillings.{filled_on}
use Rattle.job_fetch.proofs.Others.{call_stages}
use Rattle.job_fetch.proofs.filling.add.Goals as goal

pub returns-clause-filling : goal.returns-clause-filling
returns-clause-filling g c =
    filled_on (g.D.Disk.trace c.args.disk.now) (g.D.Disk.trace c.put.new.disk) c.args.filling.now record { part = c.put.new.part; total = c.feed.new.self } c.args.piece.now
    c.requires.filling c.put.ensures.moments c.in_ok-put.ensures.part c.in_ok-put.ensures.there c.in_ok-put.ensures.bytes c.feed.ensures.size c.feed.ensures.taken

pub returns-in_err-put-clause-staging : goal.returns-in_err-put-clause-staging
returns-in_err-put-clause-staging g c = call_stages c.args.filling.now.part.name (Write (partial c.args.filling.now.part.name) c.args.filling.now.part.len c.args.piece.now) (g.D.Disk.trace c.args.disk.now) (g.D.Disk.trace c.put.new.disk) c.put.result refl (g.met.D.Disk.sound c.args.disk.now) c.put.ensures.step

pub returns-clause-staging : goal.returns-clause-staging
returns-clause-staging g c = call_stages c.args.filling.now.part.name (Write (partial c.args.filling.now.part.name) c.args.filling.now.part.len c.args.piece.now) (g.D.Disk.trace c.args.disk.now) (g.D.Disk.trace c.put.new.disk) c.put.result refl (g.met.D.Disk.sound c.args.disk.now) c.put.ensures.step
