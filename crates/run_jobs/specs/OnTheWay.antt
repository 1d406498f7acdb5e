-- What a run leaves of the lists on their way.
use Rattle.std.specs.Prelude.{◌≡◌, ◌⊎◌, ◌<◌, ℕ, true, List, ◌∷◌, ◌++◌, length, slice_get, Option, Some, option_and_then, option_map}
use Rattle.std.specs.List.{AllByRecursion as Each}
use Rattle.acq_base.specs.declared.plan.Source.{Source}
use Rattle.acq_outside.specs.Crash.{State}
use Rattle.board_model.specs.Keys.{name_at}
use Rattle.board_model.specs.Runs.{Note}
use Rattle.board_model.specs.declared.key.Key.{Key}
use Rattle.job_fetch.specs.Fetched.{LastsAs}
use Rattle.journal_model.specs.Rest.{part_bytes, part_file}
use Rattle.update_model.specs.declared.ask.Body.TheVariants.{Bytes, Staged}
use Rattle.update_model.specs.declared.ask.Closed.{Closed}
use Rattle.update_model.specs.declared.ask.Closed.TheVariants.{Served, Not}

-- what an answer leaves of the file into which its pieces went: the whole file, of the sum that it tells, or more bytes than
-- its ask left out
abbrev pub LeftAs : List ℕ → List State → ℕ → Closed → Type 0
LeftAs name now from (Served (Staged sum)) = LastsAs name now sum
LeftAs name now from (Served (Bytes bytes)) = ⊥
LeftAs name now from (Not end) = from < length (part_bytes now name)

-- the name of the list that an item fetches
abbrev pub list_of : List Source → Key → Option (List ℕ)
list_of sources key = option_and_then (λ source. option_map (λ list. list.0) (name_at source key.place)) (slice_get sources key.source)

-- an answer to an ask whose pieces go into this list's file on its way
pub record IsStagedFor (sources : List Source) (name : List ℕ) (note : Note) : Type 0 where
  pub own : list_of sources note.key ≡ Some name
  pub staged : note.ask.stage ≡ true

abbrev pub IsServed : Closed → Type 0
IsServed (Served body) = Unit {0}
IsServed (Not end) = ⊥

-- none of these answers was a whole file of it
abbrev pub NoFileCame : List Source → List ℕ → List Note → Type 0
NoFileCame sources name notes = Each (λ note. IsStagedFor sources name note → IsServed note.told.closed → ⊥) notes

-- one of these answers left it so, and none behind that was a whole file of it
pub record WasLeft (sources : List Source) (name : List ℕ) (notes : List Note) (now : List State) : Type 0 where
  pub earlier : List Note
  pub note : Note
  pub later : List Note
  pub is : notes ≡ earlier ++ note ∷ later
  pub own : IsStagedFor sources name note
  pub left : LeftAs name now note.ask.from note.told.closed
  pub last : NoFileCame sources name later

-- A list on its way is as it was, where none of these answers was a whole file of it, or as one of them left it.
abbrev pub StaysOnItsWay : List Source → List Note → List State → List State → List ℕ → Type 0
StaysOnItsWay sources notes old now name = ((part_file now name ≡ part_file old name) × NoFileCame sources name notes) ⊎ WasLeft sources name notes now
