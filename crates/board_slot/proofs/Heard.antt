-- An answer heard where the Release isn't asked for: no file is read anew then.
use Rattle.std.proofs.Common.{◌≡◌, ◌≢◌, ◌∙◌, ℕ, zero, suc, Bool, [], None, refl, sym, ap}
use Rattle.acq_base.specs.declared.installed.Old.{Old}
use Rattle.acq_base.specs.declared.plan.Source.{Source}
use Rattle.acq_outside.specs.Disk.{Files}
use Rattle.board_model.specs.ReadAnew.{beside}
use Rattle.board_model.specs.Slots.{Setup, Standing, Slot, Asking, Listing, Refused, SettledSlot, heard_at}
use Rattle.update_model.specs.Outcomes.{Staying}
use Rattle.update_model.specs.Trails.{LaneAnswer}
use Rattle.board_slot.specs.Heard.{HearsAnew}

nothing : Old
nothing = record { release = None; lists = [] }

beside-same : (old : Old) (slot : Slot) → ((kept : Old) (release : Standing) → slot ≢ Asking kept release) → beside old slot ≡ slot
beside-same old (Asking kept release) none = absurd (none kept release refl)
beside-same old (Listing set there lists) none = refl
beside-same old (Refused why) none = refl
beside-same old SettledSlot none = refl

pub not-asking : (tells : Bool) (files : Files) (config : Setup) (source : Source) (place : ℕ) (told : LaneAnswer) (before after : Slot)
    → ((kept : Old) (release : Standing) → before ≢ Asking kept release) → after ≡ heard_at config source place told before
    → HearsAnew tells files config source place told before after
not-asking tells files config source place told before after none is = record {
  old = nothing;
  release = λ kept release at. absurd (none kept release at);
  same = λ telling kept release at stands. absurd (none kept release at);
  is = is ∙ ap (heard_at config source place told) (sym (beside-same nothing before none));
}

pub heard-refused : (config : Setup) (source : Source) (place : ℕ) (told : LaneAnswer) (why : Staying) → Refused why ≡ heard_at config source place told (Refused why)
heard-refused config source zero told why = refl
heard-refused config source (suc place) told why = refl

pub heard-settled : (config : Setup) (source : Source) (place : ℕ) (told : LaneAnswer) → SettledSlot ≡ heard_at config source place told SettledSlot
heard-settled config source zero told = refl
heard-settled config source (suc place) told = refl
