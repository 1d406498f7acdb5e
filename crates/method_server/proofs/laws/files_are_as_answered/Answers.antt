use Rattle.method_server.proofs.Naming.{begun_stays, holds, stays}
use Rattle.method_server.proofs.laws.files_are_as_answered.Goals as goal

pub returns-clause-stays : goal.returns-clause-stays
returns-clause-stays c = stays

pub returns-clause-begun : goal.returns-clause-begun
returns-clause-begun c = begun_stays

pub returns-clause-holds : goal.returns-clause-holds
returns-clause-holds c = holds
