-- Where a file of a real disk lies.
use Rattle.std.specs.Prelude.{◌≡◌, ◌≢◌, ◌⊎◌, ℕ, Bool, List, [], ◌++◌, take, codes, Contains}
use Rattle.acq_outside.specs.Disk.{same_name}

-- a name that leads neither up nor further down: not empty, not `.` and not `..`, with no slash and no NUL in it
pub record IsSegment (name : List ℕ) : Type 0 where
  pub nonempty : name ≢ []
  pub not_same : name ≢ codes "."
  pub not_up : name ≢ codes ".."
  pub no_slash : ¬ (Contains name 47)
  pub no_nul : ¬ (Contains name 0)

-- the name of a file in the folder, or of one in its `partial`
abbrev pub IsInside : List ℕ → Type 0
IsInside name = (IsSegment name × (name ≢ codes "partial")) ⊎ ((file : List ℕ) × (name ≡ codes "partial/" ++ file) × IsSegment file)

-- the name begins with `partial/`
abbrev pub is_in_partial : List ℕ → Bool
is_in_partial name = same_name (codes "partial/") (take 8 name)

-- the path is the folder, a slash and the name, and such a name leads to no place outside of the folder
pub record IsPathInside (folder name path : List ℕ) : Type 0 where
  pub joined : path ≡ folder ++ (codes "/" ++ name)
  pub inside : IsInside name
