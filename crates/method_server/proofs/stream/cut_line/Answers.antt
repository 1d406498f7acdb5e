use Rattle.std.proofs.Common.{sym, subst}
use Rattle.method_server.proofs.Readings.{cut_behind_feed, uncut}
use Rattle.method_server.specs.Taking.{IsCut}
use Rattle.method_server.proofs.stream.cut_line.Goals as goal

pub returns-in-Some-clause-cut : goal.returns-in-Some-clause-cut
returns-in-Some-clause-cut c = subst IsCut (sym c.split_at.ensures.front) (cut_behind_feed c.args.text.now c.in-Some.at c.in-Some.ensures)

pub returns-in-None-clause-cut : goal.returns-in-None-clause-cut
returns-in-None-clause-cut c = subst IsCut (sym c.split_at-in-None.ensures.front) (uncut c.args.text.now c.in-None.ensures)
