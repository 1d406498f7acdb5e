use Rattle.ed_apply.proofs.FirstPlaces.{place-none, place-some}
use Rattle.deb_fetch.proofs.paragraphs.line_feed.Goals as goal

pub returns-in-Some-clause-place : goal.returns-in-Some-clause-place
returns-in-Some-clause-place c = place-some 10 c.args.text.now c.in-Some.at c.in-Some.ensures

pub returns-in-None-clause-place : goal.returns-in-None-clause-place
returns-in-None-clause-place c = place-none 10 c.args.text.now c.in-None.ensures
