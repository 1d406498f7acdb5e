-- What holds of the definitions of this crate, for the proofs of the crates above.
use Rattle.host_queues.proofs.Orders.{lanes-order}
use Rattle.host_queues.proofs.Single.{one-out}
use Rattle.host_queues.proofs.Turns.{hosts-keep, hosts-turn}
use Rattle.host_queues.specs.Laws.{HostsKeepLanes, HostsTakeTurns, LanesKeepOrder, OneIsOut}

pub hosts_take_turns : HostsTakeTurns
hosts_take_turns = hosts-turn

pub hosts_keep_lanes : HostsKeepLanes
hosts_keep_lanes = hosts-keep

pub lanes_keep_order : LanesKeepOrder
lanes_keep_order = lanes-order

pub one_is_out : OneIsOut
one_is_out = one-out
