use Rattle.apt_conf.proofs.SettingLemmas.{dates_read}
use Rattle.apt_conf.proofs.table.dates.Goals as goal

pub returns : goal.returns
returns c = dates_read c.args.conf.now _ _ _ c.in_ok-min.ensures.read c.in_ok-max.ensures.read c.in_ok-future.ensures.read
