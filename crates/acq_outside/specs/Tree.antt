-- Files that are served, by path.
use Rattle.std.specs.Prelude.{ℕ, bytes_eq, ◌&&◌, Bool, true, not, if◌then◌else◌, List, [], ◌∷◌, Option, Some, None}
use Rattle.std.specs.List.{list_any}

-- each file's path and its bytes
abbrev pub TreeFiles : Type 0
TreeFiles = List (List ℕ × List ℕ)

-- the bytes of the file at a path, which is compared byte by byte
abbrev pub file_at : TreeFiles → List ℕ → Option (List ℕ)
file_at [] path = None
file_at (file ∷ files) path = if bytes_eq file.0 path then Some file.1 else file_at files path

-- no two files have the same path
abbrev pub paths_differ : TreeFiles → Bool
paths_differ [] = true
paths_differ (file ∷ files) = not (list_any (λ other. bytes_eq other.0 file.0) files) && paths_differ files
