use Rattle.deb_fetch.proofs.Landings.{settles}
use Rattle.deb_fetch.proofs.landing.settle_names.Goals as goal

pub returns-clause-lands : goal.returns-clause-lands
returns-clause-lands g c = (settles c.args.deb.now.file.0 c.args.deb.now.sum (g.D.Disk.trace c.args.place.now) (g.D.Disk.trace c.sync_names.new.self) c.sync_names.result (g.met.D.Disk.sound c.args.place.now) c.sync_names.ensures.step).lands

pub returns-clause-settled : goal.returns-clause-settled
returns-clause-settled g c = (settles c.args.deb.now.file.0 c.args.deb.now.sum (g.D.Disk.trace c.args.place.now) (g.D.Disk.trace c.sync_names.new.self) c.sync_names.result (g.met.D.Disk.sound c.args.place.now) c.sync_names.ensures.step).stands
