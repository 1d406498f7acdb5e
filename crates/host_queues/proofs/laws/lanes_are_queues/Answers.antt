use Rattle.host_queues.proofs.Theorems.{hosts_keep_lanes, hosts_take_turns, lanes_keep_order, one_is_out}
use Rattle.host_queues.proofs.laws.lanes_are_queues.Goals as goal

pub returns-clause-turns : goal.returns-clause-turns
returns-clause-turns c = hosts_take_turns

pub returns-clause-kept : goal.returns-clause-kept
returns-clause-kept c = hosts_keep_lanes

pub returns-clause-order : goal.returns-clause-order
returns-clause-order c = lanes_keep_order

pub returns-clause-one : goal.returns-clause-one
returns-clause-one c = one_is_out
