use Rattle.start_values.proofs.Folders.{both_named}
use Rattle.start_values.proofs.start.read_start.Goals as goal

pub returns-clause-folders : goal.returns-clause-folders
returns-clause-folders g c = both_named _ c.in_ok-etc.ensures.named c.in_ok-lists.ensures.named
