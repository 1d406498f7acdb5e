use Rattle.journal_model.proofs.Literals.{journal_named}
use Rattle.commit_journal.proofs.opening.first_byte.Goals as goal

pub read_at-requires : goal.read_at-requires
read_at-requires g c = journal_named _ c.as_slice.ensures
