use Rattle.ed_apply.proofs.Sound.{read-sound}
use Rattle.ed_apply.proofs.SpelledBack.{read-spelled, read-grammar, read-refused, read-unended}
use Rattle.ed_apply.proofs.reading.read_script.Goals as goal

pub returns-clause-sound : goal.returns-clause-sound
returns-clause-sound c = read-sound c.args.bytes.now c.read_lines.result c.read_lines.ensures

pub returns-clause-spelled : goal.returns-clause-spelled
returns-clause-spelled c = read-spelled c.args.bytes.now c.read_lines.result c.read_lines.ensures

pub returns-clause-grammar : goal.returns-clause-grammar
returns-clause-grammar c = read-grammar c.args.bytes.now c.read_lines.result c.read_lines.ensures

pub returns-clause-refused : goal.returns-clause-refused
returns-clause-refused c = read-refused c.args.bytes.now c.read_lines.result c.read_lines.ensures

pub returns-clause-no_dot : goal.returns-clause-no_dot
returns-clause-no_dot c = read-unended c.args.bytes.now c.read_lines.result c.read_lines.ensures
