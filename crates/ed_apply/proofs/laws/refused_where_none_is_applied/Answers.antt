use Rattle.ed_apply.proofs.Outside.{none-applied, first-outside}
use Rattle.ed_apply.proofs.laws.refused_where_none_is_applied.Goals as goal

pub returns-clause-none : goal.returns-clause-none
returns-clause-none c = none-applied

pub returns-clause-first : goal.returns-clause-first
returns-clause-first c = first-outside
