use Rattle.apt_conf.proofs.SettingLemmas.{languages_read}
use Rattle.apt_conf.proofs.table.languages.Goals as goal

pub returns-in_ok-found-in-Some : goal.returns-in_ok-found-in-Some
returns-in_ok-found-in-Some c = languages_read c.args.conf.now c.allowed.result c.as_bytes.result.now c.in-Some.value.now c.in_ok-found-in-Some.found c.languages_of.result c.in-Some.ensures c.as_bytes.ensures c.in_ok-found-in-Some.ensures c.languages_of.ensures c.allowed.ensures
