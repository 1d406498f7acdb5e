use Rattle.board_model.proofs.Theorems.{changes_leave_outcomes, ready_sources_leave_outcomes, touched_are_apart, touched_are_own}
use Rattle.board_model.proofs.outcomes.changes_leave_outcomes.Goals as goal

pub returns-clause-slots : goal.returns-clause-slots
returns-clause-slots c = changes_leave_outcomes

pub returns-clause-boards : goal.returns-clause-boards
returns-clause-boards c = ready_sources_leave_outcomes

pub returns-clause-own : goal.returns-clause-own
returns-clause-own c = touched_are_own

pub returns-clause-apart : goal.returns-clause-apart
returns-clause-apart c = touched_are_apart
