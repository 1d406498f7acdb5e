use Rattle.deb_fetch.proofs.Landings.{checked_whole}
use Rattle.deb_fetch.proofs.Names.{deb_names_are_put_names}
use Rattle.deb_fetch.proofs.landing.check_file.Goals as goal

pub verify-requires : goal.verify-requires
verify-requires g c = (deb_names_are_put_names c.args.deb.now.file.0 c.requires.named).named

pub returns-clause-whole : goal.returns-clause-whole
returns-clause-whole g c =
    checked_whole c.args.deb.now.file.0 c.args.deb.now.sum (g.D.Disk.tells c.keep_file.new.place) (g.D.Disk.files c.keep_file.new.place) (g.D.Disk.trace c.keep_file.new.place) (g.D.Disk.trace c.verify.new.disk) c.verify.result
    (g.met.D.Disk.shown c.keep_file.new.place) c.verify.ensures.frame.still c.in_ok-keep_file.ensures.steady c.verify.ensures.told
