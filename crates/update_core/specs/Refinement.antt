-- What the parts of a board stand for.
use Rattle.std.specs.Prelude.{◌≡◌, ℕ, Bool, false, List, map, slice_get, Option}
use Rattle.std.specs.BTreeSet.{BTreeSet, contains}
use Rattle.std.specs.Option.{option_map_or}
use Rattle.std.specs.Ordering.{nat_cmp}
use Rattle.board_model.specs.Slots as model
use Rattle.board_slot.specs.Refinement.{slot_of}
use Rattle.board_slot.specs.declared.slot.Slot.{Slot}

abbrev pub slots_of : List Slot → List model.Slot
slots_of slots = map slot_of slots

abbrev pub ready_in : Option model.Slot → Bool
ready_in slot = option_map_or model.is_ready slot false

-- whether the source at a place is ready
abbrev pub ready_at : List model.Slot → ℕ → Bool
ready_at slots place = ready_in (slice_get slots place)

-- these are the places of the sources that are ready
abbrev pub AreReady : List Slot → BTreeSet ℕ → Type 0
AreReady slots places = (place : ℕ) → contains nat_cmp places place ≡ ready_at (slots_of slots) place
