-- How a disk and written files in memory keep their files, and which changes a disk takes.
use Rattle.std.specs.Prelude.{ℕ, List, [], ◌∷◌, IsSome}
use Rattle.std.specs.Ordering.{nat_cmp}
use Rattle.std.specs.Cmp.Lexicographic.{slice_cmp}
use Rattle.std.specs.BTreeMap.{BTreeMap, get}
use Rattle.acq_outside.specs.Disk.{Files, IsName}
use Rattle.acq_outside.specs.declared.change.DiskCall.{DiskCall}
use Rattle.acq_outside.specs.declared.change.DiskCall.TheVariants.{Write, Cut, Sync, Rename, Remove, SyncNames}

-- each file has a name that a disk may have
pub record HasNames (files : Files) : Type 0 where
  pub named : (name : List ℕ) → IsSome (files name) → IsName name

-- a change at names that a disk may have
abbrev pub IsNamed : DiskCall → Type 0
IsNamed (Write name at bytes) = IsName name
IsNamed (Cut name len) = IsName name
IsNamed (Sync name) = IsName name
IsNamed (Rename from to) = IsName from × IsName to
IsNamed (Remove name) = IsName name
IsNamed SyncNames = Unit {0}

-- the same of each of some changes
abbrev pub AreNamed : List DiskCall → Type 0
AreNamed [] = Unit {0}
AreNamed (change ∷ changes) = IsNamed change × AreNamed changes

-- the files that a sorted map of them holds
abbrev pub files_in : BTreeMap (List ℕ) (List ℕ) → Files
files_in map = λ name. get (slice_cmp nat_cmp) map name
