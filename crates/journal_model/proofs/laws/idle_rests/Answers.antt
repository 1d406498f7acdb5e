use Rattle.journal_model.proofs.Resting.{rests}
use Rattle.journal_model.proofs.laws.idle_rests.Goals as goal

pub returns : goal.returns
returns c = rests
