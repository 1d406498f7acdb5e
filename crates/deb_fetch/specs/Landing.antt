-- What a crash leaves of a folder into which a package file is fetched.
use Rattle.std.specs.Prelude.{◌≡◌, ◌≢◌, ◌⊎◌, ℕ, List, [], Some, IsSomeAnd}
use Rattle.acq_base.specs.Sum.{Fits}
use Rattle.acq_base.specs.declared.sum.Sum.{Sum}
use Rattle.acq_outside.specs.Crash.{State, IsImage, synced}
use Rattle.acq_outside.specs.Disk.{Files}
use Rattle.acq_outside.specs.States.{From, Since}
use Rattle.acq_outside.specs.declared.state.FileState.{FileState}
use Rattle.journal_model.specs.Names.{partial}
use Rattle.journal_model.specs.Rest.{file_named, file_now}

-- the file of this name is there whole
abbrev pub HasWhole : List ℕ → Sum → Files → Type 0
HasWhole name sum image = IsSomeAnd (image name) (λ bytes. Fits bytes sum)

-- One thing that a crash might have left at a state has the same files, but for the one on its way; and the file of this name
-- is the same too, or it is whole.
pub record IsAsOfOrWhole (name : List ℕ) (sum : Sum) (s : State) (image : Files) : Type 0 where
  pub before : Files
  pub was : IsImage s before
  pub others : (other : List ℕ) → other ≢ name → other ≢ partial name → image other ≡ before other
  pub file : (image name ≡ before name) ⊎ HasWhole name sum image

-- so is whatever a crash leaves at a later state
abbrev pub LandsWhole : List ℕ → Sum → State → State → Type 0
LandsWhole name sum s t = (image : Files) → IsImage t image → IsAsOfOrWhole name sum s image

abbrev pub LandsWholeSince : List ℕ → Sum → List State → State → Type 0
LandsWholeSince name sum = From (LandsWhole name sum)

-- whatever a crash leaves, the file of this name is there whole
abbrev pub LeavesWhole : List ℕ → Sum → State → Type 0
LeavesWhole name sum s = (image : Files) → IsImage s image → HasWhole name sum image

-- the files of all names stay but for this one and the one on its way to it, with what lasts of them
abbrev pub KeepsOthers : List ℕ → List State → List State → Type 0
KeepsOthers name old new = (other : List ℕ) → other ≢ name → other ≢ partial name → file_now new other ≡ file_now old other

-- calls on the folder leave it so at every moment and at their end
pub record Lands (name : List ℕ) (sum : Sum) (old new : List State) : Type 0 where
  pub moments : Since old new (LandsWholeSince name sum old)
  pub others : KeepsOthers name old new

-- ---- for the crate's own functions

-- no change of names is pending
abbrev pub IsSettled : State → Type 0
IsSettled s = s.pending ≡ []

-- and the file of this name lasts as it is, if there is one
pub record IsSteady (name : List ℕ) (s : State) : Type 0 where
  pub settled : s.pending ≡ []
  pub lasts : (file : FileState) → file_named s name ≡ Some file → file ≡ synced file.seen

-- the file on its way lasts, and is the one of this sum
pub record IsReady (name : List ℕ) (sum : Sum) (s : State) : Type 0 where
  pub bytes : List ℕ
  pub file : file_named s (partial name) ≡ Some (synced bytes)
  pub sums : Fits bytes sum

-- and no change of names is pending
pub record MayLand (name : List ℕ) (sum : Sum) (s : State) : Type 0 where
  pub settled : s.pending ≡ []
  pub ready : IsReady name sum s

-- the file of this name lasts, and is the one of this sum
pub record HasLanded (name : List ℕ) (sum : Sum) (s : State) : Type 0 where
  pub bytes : List ℕ
  pub file : file_named s name ≡ Some (synced bytes)
  pub sums : Fits bytes sum
