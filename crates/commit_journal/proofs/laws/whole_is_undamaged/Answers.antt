use Rattle.commit_journal.proofs.Running.{undamaged}
use Rattle.commit_journal.proofs.laws.whole_is_undamaged.Goals as goal

pub returns : goal.returns
returns c = undamaged
