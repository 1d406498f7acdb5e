use Rattle.ed_apply.proofs.FirstPlaces.{place-some, place-none}
use Rattle.ed_apply.proofs.lines.place_of.Goals as goal

pub returns-in-Some-clause-place : goal.returns-in-Some-clause-place
returns-in-Some-clause-place c = place-some c.args.byte c.args.text.now c.in-Some.at c.in-Some.ensures

pub returns-in-None-clause-place : goal.returns-in-None-clause-place
returns-in-None-clause-place c = place-none c.args.byte c.args.text.now c.in-None.ensures
