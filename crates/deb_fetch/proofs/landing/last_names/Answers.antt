use Rattle.deb_fetch.proofs.Landings.{lasts}
use Rattle.deb_fetch.proofs.landing.last_names.Goals as goal

pub returns-clause-lands : goal.returns-clause-lands
returns-clause-lands g c = (lasts c.args.deb.now.file.0 c.args.deb.now.sum (g.D.Disk.trace c.args.place.now) (g.D.Disk.trace c.sync_names.new.self) c.sync_names.result (g.met.D.Disk.sound c.args.place.now) c.requires.landed c.sync_names.ensures.step).lands

pub returns-clause-whole : goal.returns-clause-whole
returns-clause-whole g c = (lasts c.args.deb.now.file.0 c.args.deb.now.sum (g.D.Disk.trace c.args.place.now) (g.D.Disk.trace c.sync_names.new.self) c.sync_names.result (g.met.D.Disk.sound c.args.place.now) c.requires.landed c.sync_names.ensures.step).stands
