use Rattle.std.proofs.Common.{[]}
use Rattle.commit_journal.specs.Phases.{IsOfCommit}
use Rattle.commit_journal.proofs.Moved.{notes_on}
use Rattle.commit_journal.proofs.noting.write_body.Goals as goal

pub returns-clause-moves : goal.returns-clause-moves
returns-clause-moves g c =
    notes_on (IsOfCommit []) _ _ _ _ _ c.write_journal.result c.sync_journal.result (notes_on (IsOfCommit []) _ _ _ _ _ c.cut_journal.result c.write_journal.result c.cut_journal.ensures.moves c.write_journal.ensures.moves) c.sync_journal.ensures.moves
