use Rattle.std.proofs.Common.{◌≡◌, ◌∙◌, List, get_or, sym, ap, subst}
use Rattle.std.proofs.lemmas.List.{length-set}
use Rattle.std.proofs.Math.ListN.{set}
use Rattle.acq_base.specs.declared.plan.Source.{Source}
use Rattle.board_model.specs.Slots.{is_ready}
use Rattle.board_slot.specs.Heard.{HearsAnew}
use Rattle.board_slot.specs.Refinement.{slot_of}
use Rattle.board_slot.specs.declared.slot.Slot.{Slot}
use Rattle.board_source.specs.Names.{HasDiskNames, NamesDiffer}
use Rattle.board_source.specs.Refinement.{config_of}
use Rattle.board_source.proofs.Changes.{read-there}
use Rattle.update_model.specs.Trails.{LaneAnswer}
use Rattle.update_core.proofs.Anew.{heard-anew}
use Rattle.update_core.proofs.Ready.{ready-put, ready-taken, same-there, there-is}
use Rattle.update_core.proofs.sources.Sources.hear.Goals as goal

pub invariant_of-self : goal.invariant_of-self
invariant_of-self g c = record {
  told = ready-taken c.args.self.now.slots.items c.args.self.now.ready c.args.key.source c.replace-old.new.dest c.requires.slot c.requires.asks (ap slot_of c.replace-old.ensures.after) c.args.self.now.told;
}

pub invariant_of-self-in-Err-1 : goal.invariant_of-self-in-Err-1
invariant_of-self-in-Err-1 g c = record {
  told = λ m.
      c.in-Err.ensures.failed m
      ∙ ready-taken c.args.self.now.slots.items c.args.self.now.ready c.args.key.source c.replace-old.new.dest c.requires.slot c.requires.asks (ap slot_of c.replace-old.ensures.after) c.args.self.now.told m;
}

pub invariant_of-self-2 : goal.invariant_of-self-2
invariant_of-self-2 g c = record {
  told = ready-put c.args.self.now.slots.items c.args.self.now.ready c.mark.new.ready c.args.key.source c.replace-old.new.dest c.replace.new.dest c.is_ready.result c.requires.slot
      (c.is_ready.ensures ∙ sym (ap (λ (s : Slot). is_ready (slot_of s)) c.replace.ensures.after)) c.in_default.ensures.marked c.args.self.now.told;
}

pub hear-requires-clause-named : goal.hear-requires-clause-named
hear-requires-clause-named g c =
    let sources = c.args.setup.now.sources in
    let n = c.args.key.source in
    let found = c.index-as_slice-at.result in
    let is : found ≡ get_or sources n found = subst (λ (xs : List Source). found ≡ get_or xs n found) c.as_slice.ensures c.index-as_slice-at.is in
    subst NamesDiffer (sym is) (c.args.setup.now.named n found c.requires.source)

pub hear-requires-clause-fits : goal.hear-requires-clause-fits
hear-requires-clause-fits g c =
    let sources = c.args.setup.now.sources in
    let n = c.args.key.source in
    let found = c.index-as_slice-at.result in
    let is : found ≡ get_or sources n found = subst (λ (xs : List Source). found ≡ get_or xs n found) c.as_slice.ensures c.index-as_slice-at.is in
    subst HasDiskNames (sym is) (c.args.setup.now.fits n found c.requires.source)

pub returns-clause-count : goal.returns-clause-count
returns-clause-count g c =
    let slots = c.args.self.now.slots.items in
    let n = c.args.key.source in
    length-set (set slots n c.replace-old.new.dest) n c.replace.new.dest ∙ length-set slots n c.replace-old.new.dest

pub returns-clause-slots : goal.returns-clause-slots
returns-clause-slots g c source s =
    let slots = c.args.self.now.slots.items in
    let sources = c.args.setup.now.sources in
    let n = c.args.key.source in
    let found = c.index-as_slice-at.result in
    let d : Slot = c.replace-old.result in
    let is : d ≡ get_or slots n d = read-there slots n d c.index_mut.result.now c.replace-old.ensures.value c.index_mut.ensures.value in
    let there = there-is sources n found c.requires.source (subst (λ (xs : List Source). found ≡ get_or xs n found) c.as_slice.ensures c.index-as_slice-at.is) in
    let told : LaneAnswer = record { lane = c.args.lane; closed = c.args.closed } in
    heard-anew (g.D.Disk.tells c.args.disk.now) (g.D.Disk.files c.args.disk.now) (config_of c.args.setup.now) source c.args.key told slots d c.replace-old.new.dest c.in_ok-new.new c.replace.new.dest
    c.requires.slot is c.replace.ensures.after
    (subst (λ (x : Source). HearsAnew (g.D.Disk.tells c.args.disk.now) (g.D.Disk.files c.args.disk.now) (config_of c.args.setup.now) x c.args.key.place told (slot_of d) (slot_of c.in_ok-new.new))
    (same-there _ found source there s) c.in_ok-new.ensures.heard)
