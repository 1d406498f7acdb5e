use Rattle.apt_conf.proofs.SoundSettings.{gives_sound}
use Rattle.apt_conf.proofs.table.settings.Goals as goal

pub returns-clause-sound : goal.returns-clause-sound
returns-clause-sound c = gives_sound c.args.conf.now c.read_settings.result c.read_settings.ensures
