-- What a disk keeps open.
use Rattle.std.specs.Prelude.{◌≡◌, ◌≢◌, ℕ, true, false, List, Option, IfSome, string_bytes}
use Rattle.acq_real.specs.declared.opened.Kept.{Kept}
use Rattle.acq_real.specs.declared.opened.OpenFile.{OpenFile}
use Rattle.acq_real.specs.declared.opened.OpenFolders.{OpenFolders}

-- the path by which it was opened
abbrev pub opened_by : OpenFile → List ℕ
opened_by opened = string_bytes opened.path

-- it was made here, or was this user's alone when it was found
abbrev pub IsOwn : OpenFile → Type 0
IsOwn opened = opened.is_own ≡ true

-- no file that was opened by this path is kept open
pub record IsClosed (kept : Kept) (path : List ℕ) : Type 0 where
  pub in_partial : IfSome kept.in_partial (λ opened. opened_by opened ≢ path)
  pub beside : IfSome kept.beside (λ opened. opened_by opened ≢ path)

-- a path by which no file was open has none afterwards
pub record StaysClosed (before after : Kept) : Type 0 where
  pub is : (path : List ℕ) → IsClosed before path → IsClosed after path

-- no name in the disk's folder changed since that folder was last synced
abbrev pub IsSynced : OpenFolders → Type 0
IsSynced folders = folders.is_synced ≡ true

-- the disk's folder has to be synced: a name in it may have changed since it last was
abbrev pub IsDue : OpenFolders → Type 0
IsDue folders = folders.is_synced ≡ false

-- folders that are open, if there are any, are due. Those that are opened later begin as due.
abbrev pub AreDue : Option OpenFolders → Type 0
AreDue kept = IfSome kept IsDue
