use Rattle.std.proofs.Common.{◌∙◌, ap, sym, subst, arith, length}
use Rattle.acq_outside.specs.Disk.{IsName}
use Rattle.journal_model.proofs.Literals.{partial_named}
use Rattle.journal_model.specs.Names.{partial}
use Rattle.deb_fetch.proofs.Landings.{moves}
use Rattle.deb_fetch.proofs.Names.{deb_names_are_put_names}
use Rattle.deb_fetch.proofs.landing.name_file.Goals as goal

pub rename-requires-clause-from : goal.rename-requires-clause-from
rename-requires-clause-from g c =
    let put = deb_names_are_put_names c.args.deb.now.file.0 c.requires.named in
    subst (λ n. IsName n) (sym (c.as_bytes-2.ensures ∙ c.new-part.ensures ∙ ap partial c.as_bytes.ensures)) (partial_named c.args.deb.now.file.0 put.named put.short)

pub rename-requires-clause-to : goal.rename-requires-clause-to
rename-requires-clause-to g c = subst (λ n. IsName n) (sym c.as_bytes-3.ensures) (deb_names_are_put_names c.args.deb.now.file.0 c.requires.named).named

pub returns-clause-lands : goal.returns-clause-lands
returns-clause-lands g c =
    (moves c.args.deb.now.file.0 c.args.deb.now.sum c.as_bytes-2.result.now c.as_bytes-3.result.now (g.D.Disk.trace c.args.place.now) (g.D.Disk.trace c.rename.new.self) c.rename.result
    (c.as_bytes-2.ensures ∙ c.new-part.ensures ∙ ap partial c.as_bytes.ensures) c.as_bytes-3.ensures (g.met.D.Disk.sound c.args.place.now) c.requires.ready c.rename.ensures.step).lands

pub returns-clause-landed : goal.returns-clause-landed
returns-clause-landed g c =
    (moves c.args.deb.now.file.0 c.args.deb.now.sum c.as_bytes-2.result.now c.as_bytes-3.result.now (g.D.Disk.trace c.args.place.now) (g.D.Disk.trace c.rename.new.self) c.rename.result
    (c.as_bytes-2.ensures ∙ c.new-part.ensures ∙ ap partial c.as_bytes.ensures) c.as_bytes-3.ensures (g.met.D.Disk.sound c.args.place.now) c.requires.ready c.rename.ensures.step).stands

pub new-part-requires : goal.new-part-requires
new-part-requires g c = let put = deb_names_are_put_names c.args.deb.now.file.0 c.requires.named in omega (arith, put.short, ap length c.as_bytes.ensures)
