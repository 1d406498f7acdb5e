-- The names of the lists folder.
use Rattle.std.specs.Prelude.{◌≢◌, ℕ, ◌≤◌, nat_eq, Bool, true, false, not, ◌&&◌, ◌||◌, if◌then◌else◌, List, ◌++◌, length, take, drop, codes}
use Rattle.std.specs.List.{list_any}
use Rattle.acq_outside.specs.Disk.{IsName, same_name}

-- the file that a process holds while it works on the folder
abbrev pub lock : List ℕ
lock = codes "lock"

abbrev pub journal : List ℕ
journal = codes "journal"

-- a list on its way
abbrev pub partial : List ℕ → List ℕ
partial name = codes "partial/" ++ name

-- where a new journal is made
abbrev pub new_journal : List ℕ
new_journal = codes "partial/journal"

abbrev pub is_partial : List ℕ → Bool
is_partial name = same_name (take 8 name) (codes "partial/")

-- Names that stay in the folder.

-- a slash, or 0
abbrev pub ends_file_name : ℕ → Bool
ends_file_name byte = nat_eq byte 47 || nat_eq byte 0

-- the name of a file in a folder (POSIX.1-2017, 3.170): it isn't empty, no slash and no NUL stands in it, and it is
-- neither `.` nor `..`, which are the folder and the one above
unfoldable pub is_file_name : List ℕ → Bool
is_file_name name =
    (not (nat_eq (length name) 0) && not (list_any ends_file_name name)) && (not (same_name name (codes ".")) && not (same_name name (codes "..")))

-- the name of a file in the folder, or of one in its `partial`
abbrev pub is_inside : List ℕ → Bool
is_inside name = is_file_name (if is_partial name then drop 8 name else name)

-- a record's step of this name stays in the folder: a Put, for a file in it, or a Drop
abbrev pub stays_inside : Bool → List ℕ → Bool
stays_inside true name = is_file_name name
stays_inside false name = is_inside name

-- neither a list nor the journal
abbrev pub is_own_name : List ℕ → Bool
is_own_name name = same_name name lock || is_partial name

-- a list's name: that of a file in the folder, but for `lock` and `journal`
abbrev pub is_installed_name : List ℕ → Bool
is_installed_name name = (not (same_name name journal) && not (is_own_name name)) && is_file_name name

-- a name under which a record may put a list: with `partial/` before it, it is a name too
pub record IsPutName (name : List ℕ) : Type 0 where
  pub named : IsName name
  pub short : length name ≤ 247
  pub not_lock : name ≢ lock
  pub not_journal : name ≢ journal
