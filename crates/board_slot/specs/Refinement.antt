-- What a source of a board stands for.
use Rattle.board_model.specs.Slots as model
use Rattle.board_source.specs.Listed.{standing_of, standings}
use Rattle.board_source.specs.Refinement.{found_of, staying_of}
use Rattle.lists_dir.specs.Refinement.{old_in}
use Rattle.board_slot.specs.declared.slot.Slot.{Slot}
use Rattle.board_slot.specs.declared.slot.Slot.TheVariants as slots

abbrev pub slot_of : Slot → model.Slot
slot_of (slots.Asking a) = model.Asking (old_in a.old) (standing_of a.release)
slot_of (slots.Listing l) = model.Listing (found_of l.found) l.there (standings l.lists.items.items)
slot_of (slots.Refused why) = model.Refused (staying_of why)
slot_of slots.Settled = model.SettledSlot
