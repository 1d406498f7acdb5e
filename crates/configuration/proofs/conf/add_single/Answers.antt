use Rattle.std.proofs.Common.{[], refl, inr}
use Rattle.std.proofs.lemmas.Result.{err_from_is_err_and}
use Rattle.acq_outside.specs.declared.etc.Place.TheVariants.{Conf}
use Rattle.configuration.specs.declared.error.ConfigurationError.TheVariants.{NoMemory}
use Rattle.configuration.specs.Configured.{conf_text}
use Rattle.configuration.proofs.Fronts.{file_fails}
use Rattle.configuration.proofs.conf.add_single.Goals as goal

pub returns-in_err-file-clause-read : goal.returns-in_err-file-clause-read
returns-in_err-file-clause-read g c =
    let p = err_from_is_err_and c.from_residual.result c.from_residual.ensures.1 in
    rw (p.1, p.2) (file_fails (g.E.Etc.files c.args.etc.now) Conf [] conf_text c.args.conf.now c.args.conf.now NoMemory (inr refl))
