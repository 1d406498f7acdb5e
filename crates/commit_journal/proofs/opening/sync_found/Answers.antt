use Rattle.std.proofs.Common.{[]}
use Rattle.commit_journal.specs.Phases.{IsOfCommit}
use Rattle.commit_journal.proofs.Moved.{recovers_on}
use Rattle.commit_journal.proofs.opening.sync_found.Goals as goal

pub returns-clause-moves : goal.returns-clause-moves
returns-clause-moves g c = recovers_on (IsOfCommit []) _ _ _ _ _ c.sync_found_names.result c.sync_found_journal.result c.sync_found_names.ensures.moves c.sync_found_journal.ensures.moves
