-- What is installed of a source, read anew: until its Release has come, a board may begin the source's lists beside other files
-- than it knew at first.
use Rattle.std.specs.Prelude.{◌≡◌, ℕ, List, slice_get, Some}
use Rattle.acq_base.specs.declared.installed.Old.{Old}
use Rattle.acq_base.specs.declared.plan.Source.{Source}
use Rattle.host_queues.specs.Lanes.{changed_at}
use Rattle.board_model.specs.Boards.{Board}
use Rattle.board_model.specs.Reached.{Reached}
use Rattle.board_model.specs.Runs.{Note}
use Rattle.board_model.specs.Slots.{Setup, Standing, Slot, Asking, Listing, Refused, SettledSlot}

-- a source whose Release is asked for, beside these files; another one stays
abbrev pub beside : Old → Slot → Slot
beside old (Asking kept release) = Asking old release
beside old (Listing set there lists) = Listing set there lists
beside old (Refused why) = Refused why
beside old SettledSlot = SettledSlot

abbrev pub with_old : ℕ → Old → Board → Board
with_old n old b = record b { slots = changed_at n (beside old) b.slots }

-- the Release of these files is the one that the board knows as installed, if the source's is asked for
abbrev pub KeepsRelease : ℕ → Old → Board → Type 0
KeepsRelease n old b = (kept : Old) (release : Standing) → slice_get b.slots n ≡ Some (Asking kept release) → old.release ≡ kept.release

-- nothing of a board is another but the installed lists of one source whose Release is asked for, if any
pub record IsReadAnew (b c : Board) : Type 0 where
  pub n : ℕ
  pub old : Old
  pub release : KeepsRelease n old b
  pub is : c ≡ with_old n old b

-- what is installed of each source whose Release is asked for is this
abbrev pub StandsOn : (Source → Old) → Board → Type 0
StandsOn installed b =
    (n : ℕ) (source : Source) (old : Old) (release : Standing) → slice_get b.config.sources n ≡ Some source
    → slice_get b.slots n ≡ Some (Asking old release) → old ≡ installed source

-- a board to which calls led beside some files, with the notes that it has, they would have led to beside others
pub record ReachedBeside (config : Setup) (notes : List Note) (b : Board) : Type 0 where
  pub olds : List Old
  pub reached : Reached config olds notes b

abbrev pub ReadAnewAreReached : Type 0
ReadAnewAreReached = (config : Setup) (olds : List Old) (notes : List Note) (b c : Board) → Reached config olds notes b → IsReadAnew b c → ReachedBeside config notes c
