use Rattle.std.proofs.Common.{[]}
use Rattle.commit_journal.specs.Phases.{IsOfCommit}
use Rattle.commit_journal.proofs.Moved.{notes_on}
use Rattle.commit_journal.proofs.noting.write_record.Goals as goal

pub returns-clause-moves : goal.returns-clause-moves
returns-clause-moves g c = notes_on (IsOfCommit []) _ _ _ _ _ c.sync_journal_names.result c.write_body.result c.sync_journal_names.ensures.moves c.write_body.ensures.moves
