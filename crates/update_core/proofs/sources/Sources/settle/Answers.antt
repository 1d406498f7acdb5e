use Rattle.std.proofs.Common.{◌≡◌, List, get_or, ap, subst}
use Rattle.std.proofs.lemmas.List.{length-set}
use Rattle.acq_base.specs.declared.plan.Source.{Source}
use Rattle.board_model.specs.Slots.{SettledSlot}
use Rattle.board_slot.specs.Refinement.{slot_of}
use Rattle.board_slot.specs.declared.slot.Slot.{Slot}
use Rattle.board_source.proofs.Changes.{read-there}
use Rattle.update_core.specs.Refinement.{slots_of}
use Rattle.update_core.proofs.Changed.{set-constant}
use Rattle.update_core.proofs.Ready.{get-of, ready-settled, ready-slot, settled-same, there-is}
use Rattle.update_core.proofs.sources.Sources.settle.Goals as goal

pub settle-requires : goal.settle-requires
settle-requires c =
    let slots = c.args.self.now.slots.items in
    let d : Slot = c.replace-slot.result in
    let is : d ≡ get_or slots c.args.place d = read-there slots c.args.place d c.index_mut.result.now c.replace-slot.ensures.value c.index_mut.ensures.value in
    record { ended = ready-slot slots c.args.place d c.requires.slot is c.requires.ready }

pub invariant_of-self : goal.invariant_of-self
invariant_of-self c = record {
  told = ready-settled c.args.self.now.slots.items c.args.self.now.ready c.remove.new.self c.args.place c.replace-slot.new.dest c.requires.slot (ap slot_of c.replace-slot.ensures.after)
      c.remove.ensures.updates.0 c.args.self.now.told;
}

pub returns : goal.returns
returns c =
    let slots = c.args.self.now.slots.items in
    let sources = c.args.setup.now.sources in
    let d : Slot = c.replace-slot.result in
    let is : d ≡ get_or slots c.args.place d = read-there slots c.args.place d c.index_mut.result.now c.replace-slot.ensures.value c.index_mut.ensures.value in
    record {
      settled = λ source slot s l.
          settled-same sources (slots_of slots) c.args.place source c.index-as_slice-at.result slot (slot_of d) c.in_ok-settled.settled
          (there-is sources c.args.place c.index-as_slice-at.result c.requires.source
          (subst (λ (xs : List Source). c.index-as_slice-at.result ≡ get_or xs c.args.place c.index-as_slice-at.result) c.as_slice.ensures c.index-as_slice-at.is)) (get-of slots c.args.place d c.requires.slot is) c.in_ok-settled.ensures s l;
      count = length-set slots c.args.place c.replace-slot.new.dest;
      slots = set-constant slot_of slots c.args.place c.replace-slot.new.dest SettledSlot (ap slot_of c.replace-slot.ensures.after);
    }
