use Rattle.std.proofs.Common.{sym}
use Rattle.deb822_text.proofs.Distinct.{distinct_if_none, not_distinct}
use Rattle.deb822_text.proofs.judging.are_different.Goals as goal

pub returns-in-Ok : goal.returns-in-Ok
returns-in-Ok c = sym (distinct_if_none c.args.fields.now c.in-Ok.ensures)

pub returns-in-Err : goal.returns-in-Err
returns-in-Err c = not_distinct c.args.fields.now c.in-Err.fault c.not_different.result c.not_different.ensures c.in-Err.ensures
