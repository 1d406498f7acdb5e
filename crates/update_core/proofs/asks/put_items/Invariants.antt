use Rattle.std.proofs.Common.{◌≡◌, ◌+◌, drop}
use Rattle.host_queues.specs.Refinement.{lanes_of}
use Rattle.board_model.specs.Boards as model
use Rattle.board_model.specs.Slots.{items_in}
use Rattle.board_slot.specs.Refinement.{slot_of}
use Rattle.update_core.proofs.asks.put_items.Given as goal

abbrev pub invariant-loop-place : goal.invariant-loop-place
invariant-loop-place l =
    model.put_items (l.fn.number + l.place) (drop l.place (items_in (slot_of l.slot))) (lanes_of l.queues)
    ≡ model.put_items l.fn.number (items_in (slot_of l.slot)) (lanes_of l.fn.queues)
