use Rattle.partial_store.proofs.Lasting.{lasts_synced, lasts_unmoved}
use Rattle.partial_store.proofs.laws.finished_lasts.Goals as goal

pub returns-clause-synced : goal.returns-clause-synced
returns-clause-synced c = lasts_synced

pub returns-clause-unmoved : goal.returns-clause-unmoved
returns-clause-unmoved c = lasts_unmoved
