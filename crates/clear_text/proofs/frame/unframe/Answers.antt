use Rattle.clear_text.proofs.Laws.{whole}
use Rattle.clear_text.proofs.frame.unframe.Goals as goal

pub returns-clause-framed : goal.returns-clause-framed
returns-clause-framed c = whole c.taken_off.result c.args.bytes.now c.taken_off.ensures
