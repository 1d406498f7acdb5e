use Rattle.journal_model.proofs.Spelled.{records_only}
use Rattle.journal_model.proofs.laws.records_only.Goals as goal

pub returns : goal.returns
returns c = records_only
