use Rattle.acq_memory.specs.Held.{files_in}
use Rattle.acq_memory.proofs.Named.{all_named}
use Rattle.acq_memory.proofs.history.History.names.Goals as goal

pub returns-clause-named : goal.returns-clause-named
returns-clause-named c = all_named (files_in c.self.inside.held) c.in_ok-names.names c.self.invariant.1 c.in_ok-names.ensures
