use Rattle.deb_fetch.proofs.Landings.{readies}
use Rattle.deb_fetch.proofs.landing.settle_part.Goals as goal

pub returns-clause-lands : goal.returns-clause-lands
returns-clause-lands g c = (readies c.args.deb.now.file.0 c.args.deb.now.sum (g.D.Disk.trace c.args.place.now) (g.D.Disk.trace c.sync_names.new.self) c.sync_names.result (g.met.D.Disk.sound c.args.place.now) c.requires.ready c.sync_names.ensures.step).lands

pub returns-clause-ready : goal.returns-clause-ready
returns-clause-ready g c = (readies c.args.deb.now.file.0 c.args.deb.now.sum (g.D.Disk.trace c.args.place.now) (g.D.Disk.trace c.sync_names.new.self) c.sync_names.result (g.met.D.Disk.sound c.args.place.now) c.requires.ready c.sync_names.ensures.step).stands
