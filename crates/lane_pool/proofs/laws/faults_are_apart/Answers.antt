use Rattle.lane_pool.proofs.Apart.{faults_apart, own_heard}
use Rattle.lane_pool.proofs.laws.faults_are_apart.Goals as goal

pub returns-clause-apart : goal.returns-clause-apart
returns-clause-apart c = faults_apart

pub returns-clause-own : goal.returns-clause-own
returns-clause-own c = own_heard
