-- What a board still wants of the partial files.
use Rattle.std.specs.Prelude.{◌≡◌, ◌<◌, ◌⊎◌, ℕ, zero, suc, Bool, true, false, if◌then◌else◌, bytes_eq, List, [], ◌∷◌, slice_get, Option, Some, None}
use Rattle.acq_base.specs.declared.plan.Source.{Source}
use Rattle.acq_base.specs.declared.plan.Target.{Target}
use Rattle.acq_base.specs.declared.sum.Sum.{Sum}
use Rattle.acq_base.specs.declared.uri.ListName.{ListName}
use Rattle.update_model.specs.Points.{Point, Over, At}
use Rattle.update_model.specs.Walks.{Walk, Finish, Try}
use Rattle.update_model.specs.declared.ask.Ask.{Ask}
use Rattle.update_model.specs.declared.ask.Body.TheVariants.{Bytes, Staged}
use Rattle.update_model.specs.declared.ask.Closed.{Closed}
use Rattle.update_model.specs.declared.ask.Closed.TheVariants as closed
use Rattle.update_model.specs.declared.ask.Ending.{Ending}
use Rattle.update_model.specs.declared.ask.Ending.TheVariants as endings
use Rattle.update_model.specs.declared.end.End.{End}
use Rattle.update_model.specs.declared.end.End.TheVariants.{Got, Stands, Ended}
use Rattle.board_model.specs.Boards.{Board}
use Rattle.board_model.specs.Slots.{Slot, Asking, Listing, Standing, joined}

-- what is wanted of a list's partial file: that its first bytes stay, or all of it, of this sum, or nothing
pub data WantedPart : Type 0 where
  Resumes : (size : ℕ) → WantedPart
  Whole : (sum : Sum) → WantedPart
  Free : WantedPart

-- as many bytes are wanted, if any
abbrev pub use_from : ℕ → WantedPart
use_from zero = Free
use_from (suc n) = Resumes (suc n)

-- nothing else is wanted than before
abbrev pub Falls : WantedPart → WantedPart → Type 0
Falls before after = (after ≡ before) ⊎ (after ≡ Free)

-- ---- an item

-- while an ask is answered, where the partial file had this size: what is resumed, or all of it if the list isn't asked yet
abbrev pub use_while : ℕ → Ask → WantedPart
use_while size ask = if ask.stage then use_from ask.from else use_from size

-- behind its asks the file that came is wanted
abbrev pub use_of_end : End → WantedPart
use_of_end (Got (Staged sum)) = Whole sum
use_of_end (Got (Bytes bytes)) = Free
use_of_end Stands = Free
use_of_end (Ended cause) = Free

abbrev pub use_at : ℕ → Point → WantedPart
use_at size (Over end) = use_of_end end
use_at size (At ask left retries next) = use_while size ask

-- an item that isn't there wants nothing
abbrev pub use_by : ℕ → Option Standing → WantedPart
use_by size None = Free
use_by size (Some item) = use_at size item.point

-- ---- a board

-- a list that isn't asked for yet may be resumed
abbrev pub use_in : ℕ → ℕ → Slot → WantedPart
use_in size place (Asking old release) = use_from size
use_in size place (Listing set there lists) = use_by size (joined (slice_get lists place))
use_in size place other = Free

abbrev pub or_use : Option WantedPart → WantedPart → WantedPart
or_use None other = other
or_use (Some found) other = found

-- the use of the first of these lists that has this name
abbrev pub use_among : (List ℕ → ℕ) → Slot → ℕ → List Target → List ℕ → Option WantedPart
use_among sizes slot place [] name = None
use_among sizes slot place (target ∷ targets) name =
    if bytes_eq target.name.0 name then Some (use_in (sizes name) place slot) else use_among sizes slot (suc place) targets name

abbrev pub use_under : (List ℕ → ℕ) → List Source → List Slot → List ℕ → WantedPart
use_under sizes [] slots name = Free
use_under sizes (source ∷ sources) [] name = Free
use_under sizes (source ∷ sources) (slot ∷ slots) name = or_use (use_among sizes slot 0 source.targets name) (use_under sizes sources slots name)

-- what is wanted of the partial file under a name
abbrev pub wanted_part : Board → List ℕ → WantedPart
wanted_part b name = use_under b.config.sizes b.config.sources b.slots name

-- the partial file of this name was just served whole
abbrev pub IsWholeOf : Option ListName → Closed → List ℕ → WantedPart → Type 0
IsWholeOf (Some staged) (closed.Served (Staged sum)) name wanted = (name ≡ staged.0) × (wanted ≡ Whole sum)
IsWholeOf staged answer name wanted = ⊥

-- ---- in which order an item's asks use it

-- An ask wants no more than was wanted before it. It begins at the file's front or below its limit, and is resumed only where
-- it goes into the partial file.
pub record BeginsWell (size : ℕ) (before : WantedPart) (ask : Ask) : Type 0 where
  pub falls : Falls before (use_while size ask)
  pub below : (ask.from ≡ 0) ⊎ (ask.from < ask.max)
  pub staged : ask.stage ≡ false → ask.from ≡ 0

-- a staged file that is the end of a walk is the one that came last
abbrev pub IsLastFile : Ending → Walk → Type 0
IsLastFile ending (Finish (Got (Staged sum))) = ending ≡ endings.Served (Staged sum)
IsLastFile ending (Finish other) = Unit {0}
IsLastFile ending (Try ask next) = Unit {0}

abbrev pub UsesWell : ℕ → WantedPart → Walk → Type 0
UsesWell size before (Finish end) = Unit {0}
UsesWell size before (Try ask next) =
    BeginsWell size before ask × ((ending : Ending) → IsLastFile ending (next ending) × UsesWell size (use_while size ask) (next ending))

-- ---- what an ask of a list begins with

-- the size that the partial file of an item had; a Release has none
abbrev pub part_size : (List ℕ → ℕ) → Option ListName → ℕ
part_size sizes None = 0
part_size sizes (Some name) = sizes name.0

-- an ask is for the whole file, or goes on behind all that its partial file had, and then it goes into that
pub record BeginsAt (size : ℕ) (ask : Ask) : Type 0 where
  pub from : (ask.from ≡ 0) ⊎ ((ask.from ≡ size) × (ask.from < ask.max))
  pub staged : ask.stage ≡ false → ask.from ≡ 0

-- a file that is served is staged exactly where the ask is
abbrev pub IsServedAs : Bool → Closed → Type 0
IsServedAs stage (closed.Served (Staged sum)) = stage ≡ true
IsServedAs stage (closed.Served (Bytes bytes)) = stage ≡ false
IsServedAs stage other = Unit {0}
