use Rattle.std.proofs.Common.{◌≡◌, ◌∙◌, ◌+◌, ◌<◌, ◌++◌, ◌∷◌, [], ℕ, List, length, map, get_or, refl, sym, ap, subst, arith}
use Rattle.std.specs.Prelude.{reverse}
use Rattle.std.proofs.lemmas.List.{length-map, map-append}
use Rattle.acq_base.specs.declared.plan.Source.{Source}
use Rattle.board_model.specs.Boards.{put_ask}
use Rattle.board_model.specs.Keys.{keys_in}
use Rattle.board_model.specs.Slots.{Slot, ask_of, item_in}
use Rattle.board_slot.specs.Refinement.{slot_of}
use Rattle.board_source.specs.Refinement.{config_of}
use Rattle.host_queues.specs.Lanes.{no_hosts}
use Rattle.host_queues.specs.Refinement.{lanes_of}
use Rattle.lists_dir.specs.Refinement.{old_in}
use Rattle.update_core.specs.Refinement.{slots_of}
use Rattle.update_core.proofs.Anew.{map-reverse}
use Rattle.update_core.proofs.Begun.{all-begun, begun-more, begun-none}
use Rattle.update_core.proofs.beginning.begin_board.Goals as goal

pub loop-source-init : goal.loop-source-init
loop-source-init c =
    begun-none (config_of c.args.setup.now) c.args.setup.now.sources (map old_in c.args.old) (map old_in c.reverse.new.self.items) (no_hosts c.args.lanes) (lanes_of c.in_ok-new.field-0) c.new.result.items
    (slots_of c.new-2.result.items) (length-map c.args.old old_in ∙ c.requires.each)
    (ap (map old_in) (c.reverse.ensures.items ∙ ap reverse c.into_vec-rest.ensures) ∙ map-reverse old_in c.args.old) c.new.ensures.items (ap slots_of c.new-2.ensures.items) c.in_ok-new.ensures

pub loop-source-preserved : goal.loop-source-preserved
loop-source-preserved c =
    let sources = c.args.setup.now.sources in
    let slots = c.loop-source.begun.slots.items in
    let keys = c.loop-source.begun.keys.items in
    let i = c.loop-source.source-index in
    let source = c.source-item.result in
    begun-more (config_of c.args.setup.now) sources (map old_in c.args.old) (no_hosts c.args.lanes) i (i + 1)
    (map old_in c.loop-source.rest.items) (map old_in c.pop.new.self.items) keys c.add.new.self.keys.items (slots_of slots) (slots_of c.add.new.self.slots.items)
    (lanes_of c.loop-source.begun.queues) (lanes_of c.add.new.self.queues) source (old_in c.in-Some.old)
    (subst (λ (xs : List Source). i < length xs) c.as_slice-source-items.ensures c.loop-source-test.true)
    (subst (λ (xs : List Source). source ≡ get_or xs i source) c.as_slice-source-items.ensures c.source-item.is)
    refl (ap (map old_in) c.in-Some.ensures.items ∙ map-append old_in c.pop.new.self.items (c.in-Some.old ∷ []))
    (c.in_ok-add.ensures.keys ∙ ap (λ (n : ℕ). keys ++ keys_in n source) (sym (length-map slots slot_of)))
    (ap slots_of c.in_ok-add.ensures.slots ∙ map-append slot_of slots (c.in_ok-slot.slot ∷ []) ∙ ap (λ (s : Slot). slots_of slots ++ s ∷ []) c.in_ok-slot.ensures)
    (c.in_ok-add.ensures.queues ∙ ap (λ (s : Slot). put_ask (length keys) (ask_of (item_in s 0)) (lanes_of c.loop-source.begun.queues)) c.in_ok-slot.ensures)
    c.loop-source.invariant

pub returns : goal.returns
returns c =
    let sources = c.args.setup.now.sources in
    let inv = c.loop-source.invariant in
    let same : length c.as_slice-source-items.result.now ≡ length sources = ap length c.as_slice-source-items.ensures in
    let all : length sources ≡ c.loop-source.source-index = omega (arith, same, c.loop-source-test.false, inv.paired) in
    let whole = all-begun (config_of c.args.setup.now) sources (map old_in c.args.old) (no_hosts c.args.lanes) c.loop-source.source-index (map old_in c.loop-source.rest.items) c.loop-source.begun.keys.items
    (slots_of c.loop-source.begun.slots.items) (lanes_of c.loop-source.begun.queues) all inv in
    record { keys = whole.0; slots = whole.1; queues = whole.2 }
