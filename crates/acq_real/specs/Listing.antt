-- Which names a real disk lists.
use Rattle.std.specs.Prelude.{ℕ, Bool, not, if◌then◌else◌, IsTrue, List, [], ◌∷◌, ◌++◌, codes, Contains}
use Rattle.std.specs.List.{list_all}
use Rattle.std.specs.Char.{is_ascii_control}
use Rattle.acq_outside.specs.Disk.{IsName}
use Rattle.acq_real.specs.Folder.{IsInside}
use Rattle.acq_real.specs.declared.listing.Entry.{Entry}

-- an entry's name below the disk's folder: one in `partial` has that folder before its own
abbrev pub listed_name : Entry → List ℕ
listed_name entry = if entry.is_partial then codes "partial/" ++ entry.name else entry.name

-- the names of the plain files, and of the links, which a call can replace or remove
abbrev pub plain_names : List Entry → List (List ℕ)
plain_names [] = []
plain_names (entry ∷ entries) = if entry.is_plain then listed_name entry ∷ plain_names entries else plain_names entries

-- no control character of ASCII stands in it, so that it can't forge a line where it is printed
abbrev pub is_printable : List ℕ → Bool
is_printable name = list_all (λ byte. not (is_ascii_control byte)) name

-- a name that the calls of a real disk take, without control characters
abbrev pub IsTaken : List ℕ → Type 0
IsTaken name = IsName name × IsInside name × IsTrue (is_printable name)

-- those of some names that the calls of a real disk take, and no others
pub record Keeps (names kept : List (List ℕ)) : Type 0 where
  pub sound : (name : List ℕ) → Contains kept name → Contains names name × IsTaken name
  pub complete : (name : List ℕ) → Contains names name → IsTaken name → Contains kept name
