-- A source hears an answer, beside what is installed of it, whose lists may have been read anew.
use Rattle.std.specs.Prelude.{◌≡◌, ℕ, Bool, IsTrue}
use Rattle.acq_base.specs.declared.installed.Old.{Old}
use Rattle.acq_base.specs.declared.plan.Source.{Source}
use Rattle.acq_outside.specs.Disk.{Files}
use Rattle.board_model.specs.ReadAnew.{beside}
use Rattle.board_model.specs.Slots.{Setup, Standing, Slot, Asking, heard_at}
use Rattle.lists_dir.specs.Installed.{installed_of}
use Rattle.update_model.specs.Trails.{LaneAnswer}

pub record HearsAnew (tells : Bool) (files : Files) (config : Setup) (source : Source) (place : ℕ) (told : LaneAnswer) (before after : Slot) : Type 0 where
  pub old : Old
  pub release : (kept : Old) (release : Standing) → before ≡ Asking kept release → old.release ≡ kept.release
  pub same : IsTrue tells → (kept : Old) (release : Standing) → before ≡ Asking kept release → kept ≡ installed_of files source → old ≡ kept
  pub is : after ≡ heard_at config source place told (beside old before)
