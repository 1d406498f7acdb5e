-- Moments of a disk: what holds of it now, and at each moment since another.
use Rattle.std.specs.Prelude.{◌≡◌, ◌⊎◌, ℕ, List, [], ◌∷◌, ◌++◌, length, Some, option_map}
use Rattle.acq_outside.specs.Disk.{Files}
use Rattle.acq_outside.specs.Crash.{State, IsImage, IsApart, IsTorn, all_renamed, file_at, names_of, after, changed_file}
use Rattle.acq_outside.specs.declared.change.DiskCall.{DiskCall}
use Rattle.acq_outside.specs.declared.change.DiskCall.TheVariants.{Write, Cut, Sync, Rename, Remove, SyncNames}

-- the disk tells its states
abbrev pub IsTold : List State → Type 0
IsTold [] = ⊥
IsTold (s ∷ past) = Unit {0}

-- P of the disk as it is, where it tells
abbrev pub IsNow : (State → Type 0) → List State → Type 0
IsNow P [] = Unit {0}
IsNow P (s ∷ past) = P s

-- the disk tells, and P of it as it is
abbrev pub ToldAs : (State → Type 0) → List State → Type 0
ToldAs P [] = ⊥
ToldAs P (s ∷ past) = P s

abbrev pub Each : (State → Type 0) → List State → Type 0
Each P [] = Unit {0}
Each P (s ∷ states) = P s × Each P states

-- each state since then has P; one that didn't tell tells nothing now
pub record Since (old new : List State) (P : State → Type 0) : Type 0 where
  pub states : List State
  pub joined : new ≡ states ++ old
  pub untold : old ≡ [] → new ≡ []
  pub each : Each P states

-- what t is to the disk's state at an earlier moment, where it told
abbrev pub From : (State → State → Type 0) → List State → State → Type 0
From R [] t = Unit {0}
From R (s ∷ past) t = R s t

-- What a crash leaves, in the words of the calls.

-- once a file is synced, a crash leaves of it what reads give, under whatever name
abbrev pub SyncLasts : State → Type 0
SyncLasts s = (name : List ℕ) (i : ℕ) (image : Files) (left : IsImage (after s (Sync name)) image) → names_of s name ≡ Some i → left.bytes i ≡ (file_at s.files i).seen

-- once the names are synced, none of their changes is lost
abbrev pub NamesLast : State → Type 0
NamesLast s = (image : Files) (left : IsImage (after s SyncNames) image) → (name : List ℕ) → image name ≡ option_map left.bytes (names_of s name)

-- a sync leaves to a crash nothing that it couldn't leave before
abbrev pub SyncsShrink : State → Type 0
SyncsShrink s = ((name : List ℕ) (image : Files) → IsImage (after s (Sync name)) image → IsImage s image) × ((image : Files) → IsImage (after s SyncNames) image → IsImage s image)

-- in what a crash leaves, no two names lead to one file
abbrev pub LeavesApart : State → Type 0
LeavesApart s = (image : Files) (left : IsImage s image) → IsApart (all_renamed s.base left.some) (length s.files)

-- a crash leaves of a call that failed in its midst what it may leave of the call that is done
abbrev pub LeavesAsDone : State → Type 0
LeavesAsDone done = (file : _) (torn : State) (image : Files) → IsTorn file done torn → IsImage torn image → IsImage done image

abbrev pub IsSync : DiskCall → Type 0
IsSync (Write name at bytes) = ⊥
IsSync (Cut name len) = ⊥
IsSync (Sync name) = Unit {0}
IsSync (Rename from to) = ⊥
IsSync (Remove name) = ⊥
IsSync SyncNames = Unit {0}

-- a call that is no sync may be lost: what a crash may leave before it, it may leave after it
abbrev pub MayBeLost : State → Type 0
MayBeLost s = (call : DiskCall) → (IsSync call → ⊥) → (image : Files) → IsImage s image → IsImage (after s call) image

-- what a crash leaves in the midst of a call, whatever the call would have answered: it isn't done, or done in any part
abbrev pub IsLeftWithin : State → DiskCall → Files → Type 0
IsLeftWithin s call image = IsImage s image ⊎ ((torn : State) × IsTorn (changed_file s call) (after s call) torn × IsImage torn image)

-- in the midst of a sync it leaves what it may leave before, and in the midst of another call what it may leave of the call
-- that is done, also where the call fails and nothing of it is done
abbrev pub LeavesWithin : State → Type 0
LeavesWithin s = (call : DiskCall) (image : Files) → IsLeftWithin s call image → ((IsSync call → ⊥) → IsImage (after s call) image) × (IsSync call → IsImage s image)
