use Rattle.journal_model.proofs.Literals.{journal_named}
use Rattle.commit_journal.proofs.opening.read_state.Goals as goal

pub read_whole-requires : goal.read_whole-requires
read_whole-requires g c = journal_named _ c.as_slice.ensures
