-- An answer comes in, and the lists of a source whose Release came with it begin beside what the disk has of them.
use Rattle.std.specs.Prelude.{◌≡◌, ℕ, Bool, IsTrue, List, slice_get, Some}
use Rattle.acq_base.specs.declared.installed.Old.{Old}
use Rattle.acq_base.specs.declared.plan.Source.{Source}
use Rattle.acq_outside.specs.Disk.{Files}
use Rattle.board_model.specs.Boards.{Asker, Board, absorbed, took}
use Rattle.board_model.specs.ReadAnew.{IsReadAnew, StandsOn, beside}
use Rattle.board_model.specs.Slots.{Setup, Standing, Slot, Asking, heard_at}
use Rattle.board_model.specs.declared.key.Key.{Key}
use Rattle.host_queues.specs.Lanes.{changed_at}
use Rattle.lists_dir.specs.Installed.{installed_of}
use Rattle.update_model.specs.Trails.{LaneAnswer}
use Rattle.update_model.specs.declared.ask.Closed.{Closed}

-- Where the disk tells, and has what the board knows as installed, the answer is taken in by the board itself; a disk that doesn't
-- tell may give lists anew otherwise than they were summed, but the Release stays the one that was known.
pub record TakesIn (tells : Bool) (files : Files) (before : Board) (lane number : ℕ) (closed : Closed) (after : Board) : Type 0 where
  pub between : Board
  pub anew : IsReadAnew before between
  pub same : IsTrue tells → StandsOn (installed_of files) before → between ≡ before
  pub is : after ≡ absorbed between lane number closed

-- the same of the job of an item that asks, which was out from a lane
pub record TookAnew (tells : Bool) (files : Files) (before : Board) (number : ℕ) (a : Asker) (from : ℕ) (told : LaneAnswer) (after : Board) : Type 0 where
  pub between : Board
  pub anew : IsReadAnew before between
  pub same : IsTrue tells → StandsOn (installed_of files) before → between ≡ before
  pub is : after ≡ took between number a from told

-- an item of a source hears an answer
pub record AreHeardAnew (tells : Bool) (files : Files) (config : Setup) (source : Source) (key : Key) (told : LaneAnswer) (before after : List Slot) : Type 0 where
  pub old : Old
  pub release : (kept : Old) (release : Standing) → slice_get before key.source ≡ Some (Asking kept release) → old.release ≡ kept.release
  pub same : IsTrue tells → (kept : Old) (release : Standing) → slice_get before key.source ≡ Some (Asking kept release) → kept ≡ installed_of files source → old ≡ kept
  pub slots : after ≡ changed_at key.source (heard_at config source key.place told) (changed_at key.source (beside old) before)
