-- Which lists are there, and how far one has been read and summed.
use Rattle.std.specs.Prelude.{◌≡◌, ℕ, ◌+◌, ◌<◌, ◌≤◌, ◌^◌, Bool, List, [], ◌++◌, length, take, drop, get_or, Option, option_map, unwrap_or, IsTrue, map}
use Rattle.std.specs.List.{filter}
use Rattle.std.specs.Option.{is_some}
use Rattle.acq_base.specs.declared.uri.ListName.{ListName}
use Rattle.acq_outside.specs.Disk.{Files}
use Rattle.hash_gate.specs.Pieces.{HasSummed, size_so_far}
use Rattle.lists_dir.specs.declared.present.Found.{Found}
use Rattle.lists_dir.specs.declared.summing.Reading.{Reading}

-- the front of a buffer is what the file has of so many bytes at a place
pub record IsFilled (file : Option (List ℕ)) (at n room : ℕ) (after : List ℕ) : Type 0 where
  pub bytes : take n after ≡ take room (drop at (unwrap_or file []))

-- what a list's content has to do with its file, where the disk tells it: it is the front of it
pub record IsFront (tells : Bool) (file : Option (List ℕ)) (at : ℕ) (reading : Reading) : Type 0 where
  pub sized : IsTrue tells → reading.size ≡ option_map length file
  pub front : IsTrue tells → reading.content ≡ take at (unwrap_or file [])
  pub before : length reading.content ≤ at
  pub inside : length reading.content ≤ unwrap_or reading.size 0

-- a list of which all that was read is summed
pub record Stands (tells : Bool) (file : Option (List ℕ)) (at : ℕ) (reading : Reading) : Type 0 where
  pub front : IsFront tells file at reading
  pub summed : HasSummed reading.total reading.content

-- a list of which the last piece isn't summed yet
pub record Pends (tells : Bool) (file : Option (List ℕ)) (at : ℕ) (reading : Reading) : Type 0 where
  pub front : IsFront tells file at reading
  pub summed : (bytes : List ℕ) × HasSummed reading.total bytes × (reading.content ≡ bytes ++ reading.piece.items)
  pub room : size_so_far reading.total + length reading.piece.items < 2 ^ 64

-- the last piece is summed, and the rest stays
pub record Fed (before after : Reading) : Type 0 where
  pub taken : (bytes : List ℕ) → HasSummed before.total bytes → HasSummed after.total (bytes ++ before.piece.items)
  pub size : after.size ≡ before.size
  pub content : after.content ≡ before.content

-- the file that a list came to, if there is one
abbrev pub file_of : Reading → Option (List ℕ)
file_of reading = option_map (λ size. reading.content) reading.size

-- a list at its end
pub record Ends (tells : Bool) (file : Option (List ℕ)) (reading : Reading) : Type 0 where
  pub summed : HasSummed reading.total reading.content
  pub told : IsTrue tells → file_of reading ≡ file

-- a last piece that may be summed
abbrev pub CanFeed : Reading → Type 0
CanFeed reading = size_so_far reading.total + length reading.piece.items < 2 ^ 64

-- all last pieces are summed
abbrev pub AllFed : List Reading → List Reading → Type 0
AllFed before after = (i : ℕ) (r : Reading) → i < length before → Fed (get_or before i r) (get_or after i r)

-- each list has this to do with its name
abbrev pub Each : (ListName → Reading → Type 0) → List ListName → List Reading → Type 0
Each P names readings = (i : ℕ) (n : ListName) (r : Reading) → i < length names → P (get_or names i n) (get_or readings i r)

-- all lists stand at a place
abbrev pub AllStand : Bool → Files → ℕ → List ListName → List Reading → Type 0
AllStand tells files at names readings = Each (λ name reading. Stands tells (files name.0) at reading) names readings

abbrev pub AllPend : Bool → Files → ℕ → List ListName → List Reading → Type 0
AllPend tells files at names readings = Each (λ name reading. Pends tells (files name.0) at reading) names readings

-- whether a name has a file
abbrev pub has_file : Files → ListName → Bool
has_file files name = is_some (files name.0)

-- which of these names have one
pub record IsFound (files : Files) (names : List ListName) (found : Found) : Type 0 where
  pub flags : found.flags ≡ map (has_file files) names
  pub present : found.present ≡ filter (has_file files) names
