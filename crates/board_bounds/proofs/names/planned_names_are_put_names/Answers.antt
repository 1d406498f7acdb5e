use Rattle.board_bounds.proofs.Theorems.{partial_names_are_others, planned_names_are_lists, planned_names_are_put_names}
use Rattle.board_bounds.proofs.names.planned_names_are_put_names.Goals as goal

pub returns-clause-put : goal.returns-clause-put
returns-clause-put c = planned_names_are_put_names

pub returns-clause-lists : goal.returns-clause-lists
returns-clause-lists c = planned_names_are_lists

pub returns-clause-others : goal.returns-clause-others
returns-clause-others c = partial_names_are_others
