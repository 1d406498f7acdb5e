use Rattle.std.proofs.Common.{map}
use Rattle.board_source.specs.Refinement.{config_of}
use Rattle.host_queues.specs.Lanes.{no_hosts}
use Rattle.host_queues.specs.Refinement.{lanes_of}
use Rattle.lists_dir.specs.Refinement.{old_in}
use Rattle.update_core.specs.Refinement.{slots_of}
use Rattle.update_core.proofs.Begun.{HasBegun}
use Rattle.update_core.proofs.beginning.begin_board.Given as goal

abbrev pub invariant-loop-source : goal.invariant-loop-source
invariant-loop-source l =
    HasBegun (config_of l.setup) l.setup.sources (map old_in l.fn.old) (no_hosts l.fn.lanes) l.source-index (map old_in l.rest.items) l.begun.keys.items (slots_of l.begun.slots.items) (lanes_of l.begun.queues)
