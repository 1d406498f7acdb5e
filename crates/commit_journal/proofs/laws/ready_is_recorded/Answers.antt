use Rattle.commit_journal.proofs.Opens.{ready_recorded}
use Rattle.commit_journal.proofs.laws.ready_is_recorded.Goals as goal

pub returns : goal.returns
returns c = ready_recorded
