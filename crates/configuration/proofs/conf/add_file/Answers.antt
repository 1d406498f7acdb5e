use Rattle.std.proofs.Common.{ap}
use Rattle.std.proofs.lemmas.Result.{err_from_is_err_and}
use Rattle.apt_conf.specs.Reading.{pairs_of}
use Rattle.configuration.specs.Refusals.{in_conf}
use Rattle.configuration.proofs.Fronts.{file_adds, file_fails, front_conf}
use Rattle.configuration.proofs.conf.add_file.Goals as goal

pub returns-in_err-text-clause-read : goal.returns-in_err-text-clause-read
returns-in_err-text-clause-read g c =
    let p = err_from_is_err_and c.from_residual.result c.from_residual.ensures.1 in
    rw (p.1, p.2) (file_fails (g.E.Etc.files c.args.etc.now) c.args.file.place c.args.file.name (λ text. in_conf c.args.file.label (pairs_of text)) c.args.conf.now c.args.conf.now c.in_err-text.field-0.0 c.in_err-text.ensures.outside)

pub returns-clause-read : goal.returns-clause-read
returns-clause-read g c =
    file_adds (g.E.Etc.files c.args.etc.now) c.args.file.place c.args.file.name c.as_slice.result.now (λ text. in_conf c.args.file.label (pairs_of text)) c.args.conf.now c.add_text.new.conf c.add_text.result
    (rw c.as_slice.ensures c.in_ok-text.ensures.told)
    (λ text front. ap (in_conf c.args.file.label) (front_conf c.as_slice.result.now text front)) c.add_text.ensures.read
