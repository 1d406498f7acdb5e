use Rattle.std.proofs.Common.{sym, subst}
use Rattle.board_model.specs.Slots as model
use Rattle.board_source.specs.Refinement.{config_of, staying_of}
use Rattle.update_model.specs.Trails.{LaneAnswer}
use Rattle.board_slot.specs.Heard.{HearsAnew}
use Rattle.board_slot.specs.Refinement.{slot_of}
use Rattle.board_slot.specs.declared.slot.Slot.{Slot}
use Rattle.board_slot.specs.declared.slot.Slot.TheVariants as slots
use Rattle.board_slot.proofs.Heard.{heard-refused, heard-settled, not-asking}
use Rattle.board_slot.proofs.slot.Slot.hear.Goals as goal

pub returns-in_ok-slot-in-Listing-clause-heard : goal.returns-in_ok-slot-in-Listing-clause-heard
returns-in_ok-slot-in-Listing-clause-heard g c =
    let config = config_of c.args.setup.now in
    let told : LaneAnswer = record { lane = c.args.lane; closed = c.args.closed } in
    let before : model.Slot = slot_of (slots.Listing c.in-Listing.listing) in
    subst (λ (s : Slot). HearsAnew (g.D.Disk.tells c.args.disk.now) (g.D.Disk.files c.args.disk.now) config c.args.source.now c.args.place told (slot_of s) (slot_of c.in_ok-slot-in-Listing.slot)) (sym c.in-Listing.is)
    (not-asking (g.D.Disk.tells c.args.disk.now) (g.D.Disk.files c.args.disk.now) config c.args.source.now c.args.place told before (slot_of c.in_ok-slot-in-Listing.slot) (λ kept release at. absurd (cc))
    (c.in_ok-slot-in-Listing.ensures config c.args.source.now))

pub returns-in-Refused-clause-heard : goal.returns-in-Refused-clause-heard
returns-in-Refused-clause-heard g c =
    let config = config_of c.args.setup.now in
    let told : LaneAnswer = record { lane = c.args.lane; closed = c.args.closed } in
    let after : model.Slot = model.Refused (staying_of c.in-Refused.why) in
    subst (λ (s : Slot). HearsAnew (g.D.Disk.tells c.args.disk.now) (g.D.Disk.files c.args.disk.now) config c.args.source.now c.args.place told (slot_of s) after) (sym c.in-Refused.is)
    (not-asking (g.D.Disk.tells c.args.disk.now) (g.D.Disk.files c.args.disk.now) config c.args.source.now c.args.place told after after (λ kept release at. absurd (cc))
    (heard-refused config c.args.source.now c.args.place told (staying_of c.in-Refused.why)))

pub returns-in-Settled-clause-heard : goal.returns-in-Settled-clause-heard
returns-in-Settled-clause-heard g c =
    let config = config_of c.args.setup.now in
    let told : LaneAnswer = record { lane = c.args.lane; closed = c.args.closed } in
    subst (λ (s : Slot). HearsAnew (g.D.Disk.tells c.args.disk.now) (g.D.Disk.files c.args.disk.now) config c.args.source.now c.args.place told (slot_of s) model.SettledSlot) (sym c.in-Settled.is)
    (not-asking (g.D.Disk.tells c.args.disk.now) (g.D.Disk.files c.args.disk.now) config c.args.source.now c.args.place told model.SettledSlot model.SettledSlot (λ kept release at. absurd (cc))
    (heard-settled config c.args.source.now c.args.place told))
