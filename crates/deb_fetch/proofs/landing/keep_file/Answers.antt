use Rattle.std.proofs.Common.{sym, subst}
use Rattle.acq_outside.specs.Disk.{IsName}
use Rattle.deb_fetch.proofs.Landings.{steadies}
use Rattle.deb_fetch.proofs.Names.{deb_names_are_put_names}
use Rattle.deb_fetch.proofs.landing.keep_file.Goals as goal

pub sync-requires : goal.sync-requires
sync-requires g c = subst (λ n. IsName n) (sym c.as_bytes.ensures) (deb_names_are_put_names c.args.deb.now.file.0 c.requires.named).named

pub returns-clause-lands : goal.returns-clause-lands
returns-clause-lands g c = (steadies c.args.deb.now.file.0 c.args.deb.now.sum c.as_bytes.result.now (g.D.Disk.trace c.args.place.now) (g.D.Disk.trace c.sync.new.self) c.sync.result c.as_bytes.ensures (g.met.D.Disk.sound c.args.place.now) c.requires.settled c.sync.ensures.step).lands

pub returns-clause-steady : goal.returns-clause-steady
returns-clause-steady g c = (steadies c.args.deb.now.file.0 c.args.deb.now.sum c.as_bytes.result.now (g.D.Disk.trace c.args.place.now) (g.D.Disk.trace c.sync.new.self) c.sync.result c.as_bytes.ensures (g.met.D.Disk.sound c.args.place.now) c.requires.settled c.sync.ensures.step).stands
