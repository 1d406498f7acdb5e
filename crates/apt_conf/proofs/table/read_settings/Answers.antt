use Rattle.std.proofs.lemmas.Result.{err_from_is_err_and}
use Rattle.apt_conf.proofs.SettingLemmas.{settings_read, settings_fail}
use Rattle.apt_conf.proofs.table.read_settings.Goals as goal

pub returns-in_err-cleanup : goal.returns-in_err-cleanup
returns-in_err-cleanup c =
    let r = err_from_is_err_and c.from_residual-in_err-cleanup.result c.from_residual-in_err-cleanup.ensures.1 in
    rw (r.1, r.2) (settings_fail c.in_err-cleanup.field-0.0 c.args.conf.now _ _ _ c.in_ok-lists.ensures c.in_ok-dates.ensures c.in_ok-ways.ensures c.in_err-cleanup.ensures)

pub returns : goal.returns
returns c = settings_read c.args.conf.now _ _ _ _ c.in_ok-lists.ensures c.in_ok-dates.ensures c.in_ok-ways.ensures c.in_ok-cleanup.ensures
