use Rattle.std.proofs.Common.{refl, inr, ◌++◌, codes}
use Rattle.std.proofs.lemmas.Result.{err_from_is_err_and}
use Rattle.acq_outside.specs.declared.etc.Place.TheVariants.{SourcesParts}
use Rattle.configuration.specs.declared.error.ConfigurationError.TheVariants.{NoMemory}
use Rattle.source_lists.specs.Files.{form_of}
use Rattle.configuration.specs.Configured.{list_part}
use Rattle.configuration.proofs.Fronts.{file_fails}
use Rattle.configuration.proofs.Labels.{called}
use Rattle.configuration.proofs.lists.add_part.Goals as goal

pub returns-in_err-file-clause-read : goal.returns-in_err-file-clause-read
returns-in_err-file-clause-read g c =
    let p = err_from_is_err_and c.from_residual.result c.from_residual.ensures.1 in
    rw (p.1, p.2) (file_fails (g.E.Etc.files c.args.etc.now) SourcesParts c.args.name.now (λ text. list_part c.args.arch.now (c.args.name.now, text)) c.args.entries.now c.args.entries.now NoMemory (inr refl))

pub returns-clause-read : goal.returns-clause-read
returns-clause-read g c =
    called (g.E.Etc.files c.args.etc.now) c.args.arch.now c.args.entries.now c.add_file.new.entries c.add_file.result
    c.in_ok-file.file.place c.in_ok-file.file.name c.in_ok-file.file.label c.counts.result SourcesParts c.args.name.now (codes "sources.list.d/" ++ c.args.name.now) (form_of c.args.name.now)
    c.in_ok-file.ensures.place.0 c.in_ok-file.ensures.place.1 c.in_ok-file.ensures.label c.counts.ensures c.add_file.ensures.read
