use Rattle.std.proofs.Common.{ap}
use Rattle.std.proofs.lemmas.Result.{err_from_is_err_and}
use Rattle.configuration.specs.Configured.{entries_by}
use Rattle.configuration.specs.Refusals.{in_list}
use Rattle.configuration.proofs.Fronts.{file_adds, file_fails, front_list}
use Rattle.configuration.proofs.lists.add_file.Goals as goal

pub returns-in_err-text-clause-read : goal.returns-in_err-text-clause-read
returns-in_err-text-clause-read g c =
    let p = err_from_is_err_and c.from_residual.result c.from_residual.ensures.1 in
    rw (p.1, p.2) (file_fails (g.E.Etc.files c.args.etc.now) c.args.file.place c.args.file.name (λ text. in_list c.args.file.label (entries_by c.args.form c.args.file.label c.args.arch.now text)) c.args.entries.now c.args.entries.now c.in_err-text.field-0.0 c.in_err-text.ensures.outside)

pub returns-clause-read : goal.returns-clause-read
returns-clause-read g c =
    file_adds (g.E.Etc.files c.args.etc.now) c.args.file.place c.args.file.name c.as_slice.result.now (λ text. in_list c.args.file.label (entries_by c.args.form c.args.file.label c.args.arch.now text)) c.args.entries.now c.add_text.new.entries c.add_text.result
    (rw c.as_slice.ensures c.in_ok-text.ensures.told)
    (λ text front. ap (in_list c.args.file.label) (front_list c.args.form c.args.file.label c.args.arch.now c.as_slice.result.now text front)) c.add_text.ensures.read
