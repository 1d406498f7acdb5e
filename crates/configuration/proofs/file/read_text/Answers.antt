use Rattle.configuration.proofs.Fronts.{front_of_file}
use Rattle.configuration.proofs.file.read_text.Goals as goal

pub returns-clause-told : goal.returns-clause-told
returns-clause-told g c = front_of_file (g.E.Etc.files c.args.etc.now) c.args.file.now.place c.args.file.now.name c.or_empty.result c.in_ok-bytes.bytes c.in_ok-bytes.ensures.told c.or_empty.ensures
