-- What queues stand for.
use Rattle.std.specs.BTreeMap.{get, btree_map_len}
use Rattle.std.specs.Cmp.Lexicographic.{slice_cmp}
use Rattle.std.specs.Ordering.{nat_cmp}
use Rattle.host_queues.specs.Lanes.{Lanes}
use Rattle.host_queues.specs.declared.queues.Queues.{Queues}

unfoldable pub lanes_of : Queues → Lanes
lanes_of queues = record {
  places = λ host. get (slice_cmp nat_cmp) queues.places host;
  seen = btree_map_len queues.places;
  queues = queues.lanes.items;
}
