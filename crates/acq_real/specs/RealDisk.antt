-- What a real disk shows.
use Rattle.std.specs.Prelude.{◌≡◌, ℕ, List, Result, false, string_bytes}
use Rattle.acq_outside.specs.Frame.{StaysBy, StaysCountingBy}
use Rattle.acq_real.specs.declared.disk.RealDisk.{RealDisk}
use Rattle.acq_real.specs.Folder.{IsPathInside, is_in_partial}
use Rattle.acq_real.specs.Opened.{AreDue, IsClosed}

abbrev pub faults_of : {R : Type 0} → RealDisk R → ℕ
faults_of disk = disk.faults

-- how often another process was found to hold it
abbrev pub times_held : {R : Type 0} → RealDisk R → ℕ
times_held disk = disk.times_held

-- the path of the folder that it works below
abbrev pub folder_of : {R : Type 0} → RealDisk R → List ℕ
folder_of disk = string_bytes disk.folder

-- no file that was opened by the path of this name is kept open
pub record IsNameClosed {R : Type 0} (disk : RealDisk R) (name : List ℕ) : Type 0 where
  pub is : (path : List ℕ) → IsPathInside (folder_of disk) name path → IsClosed disk.kept path

-- where this name lies beside `partial`, the next sync of names syncs the disk's folder
abbrev pub IsPending : {R : Type 0} → RealDisk R → List ℕ → Type 0
IsPending disk name = is_in_partial name ≡ false → AreDue disk.kept.folders

-- the same folder, no fault more, and not found held once more
pub record IsSame {R : Type 0} (before after : RealDisk R) : Type 0 where
  pub faults : faults_of after ≡ faults_of before
  pub held : times_held after ≡ times_held before
  pub folder : folder_of after ≡ folder_of before

-- The frame of a call: what each disk's call leaves, and the folder.
pub record StaysInside {R T E : Type 0} (old new : RealDisk R) (result : Result T E) : Type 0 where
  pub stays : StaysBy faults_of times_held (λ _. false) old new result
  pub open stays use *
  pub folder : folder_of new ≡ folder_of old

-- the same where errors of this kind alone are faults
pub record StaysInsideCounting {R T E : Type 0} (kind : E) (old new : RealDisk R) (result : Result T E) : Type 0 where
  pub stays : StaysCountingBy kind faults_of times_held (λ _. false) old new result
  pub open stays use *
  pub folder : folder_of new ≡ folder_of old
