use Rattle.deb_fetch.proofs.Joins.{differ_by, named_by}
use Rattle.deb_fetch.proofs.finding.deb_of.Goals as goal

pub returns-then-several-clause-told : goal.returns-then-several-clause-told
returns-then-several-clause-told c = λ named is. (c.in_ok-copy-in-Some.ensures, differ_by named c.args.found c.in-Some.stanza c.in-Some.is c.if-several.true is)

pub returns-in_ok-deb-in-Some-clause-told : goal.returns-in_ok-deb-in-Some-clause-told
returns-in_ok-deb-in-Some-clause-told c = λ named is. named_by named c.args.found c.in-Some.stanza c.in_ok-deb-in-Some.deb c.in-Some.is c.if-several.false is c.in_ok-deb-in-Some.ensures.file
