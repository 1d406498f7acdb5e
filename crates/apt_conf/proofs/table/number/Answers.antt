use Rattle.apt_conf.proofs.SettingLemmas.{allowed_within}
use Rattle.apt_conf.proofs.table.number.Goals as goal

pub returns-in-Some-clause-bound : goal.returns-in-Some-clause-bound
returns-in-Some-clause-bound c = allowed_within c.args.most c.args.key.now c.allowed.result c.number_of.result c.allowed.ensures c.number_of.ensures.bound
