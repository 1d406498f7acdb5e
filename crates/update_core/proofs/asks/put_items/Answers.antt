use Rattle.std.proofs.Common.{◌≡◌, ℕ, ◌+◌, ◌<◌, refl, subst, arith}
use Rattle.std.specs.Prelude.{option_copied}
use Rattle.board_model.specs.Boards.{put_items}
use Rattle.board_model.specs.Slots.{items_in}
use Rattle.board_slot.specs.Refinement.{slot_of}
use Rattle.host_queues.specs.Refinement.{lanes_of}
use Rattle.update_core.proofs.Waiting.{put-more}
use Rattle.update_core.proofs.asks.put_items.Goals as goal

pub loop-place-preserved : goal.loop-place-preserved
loop-place-preserved c =
    let items = items_in (slot_of c.args.slot.now) in
    let place = c.loop-place.place in
    let next : c.args.number + (place + 1) ≡ c.args.number + place + 1 = omega arith in
    put-more (c.args.number + place) place (c.args.number + (place + 1)) (place + 1) items (lanes_of c.loop-place.queues) (lanes_of c.put_ask.new.queues) (option_copied c.ask.result)
    (put_items c.args.number items (lanes_of c.args.queues.now))
    (subst (λ (n : ℕ). place < n) c.count-count.ensures.value c.loop-place-test.true) next refl c.in_ok-put_ask.ensures c.ask.ensures c.loop-place.invariant
