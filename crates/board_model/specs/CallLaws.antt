-- What holds of a board behind each call.
use Rattle.std.specs.Prelude.{◌≡◌, ◌≢◌, ◌≤◌, ◌⊎◌, ◌↔◌, ℕ, true, false, List, [], ◌∷◌, Contains, length, slice_get, Some, None}
use Rattle.std.specs.List.{AllByRecursion as Each}
use Rattle.acq_base.specs.declared.installed.Old.{Old}
use Rattle.host_queues.specs.Lanes.{lane_of}
use Rattle.uri_names.specs.Names.{host_key_of}
use Rattle.update_model.specs.declared.ask.Closed.{Closed}
use Rattle.update_model.specs.declared.settled.Verdict2.{Verdict2}
use Rattle.board_model.specs.Boards.{Asker, Board, absorbed, asker_of, first_board, first_ready, is_out, issued_job, lane_with, settled_as, staged_name}
use Rattle.board_model.specs.Jobs.{JobsStand, NoneAsks}
use Rattle.board_model.specs.Keys.{name_at}
use Rattle.board_model.specs.Reached.{Reached}
use Rattle.board_model.specs.Runs.{Event, Note, run, start}
use Rattle.board_model.specs.Slots.{Setup, SettledSlot}
use Rattle.board_model.specs.Uses.{BeginsAt, Falls, IsServedAs, IsWholeOf, part_size, wanted_part, use_from}

-- whatever is called and answered, the jobs stand
abbrev pub JobsAlwaysStand : Type 0
JobsAlwaysStand =
    (config : Setup) (olds : List Old) (lanes : ℕ) (events : List Event) → length olds ≡ length config.sources → 1 ≤ lanes
    → JobsStand (run events (start config olds lanes))

-- what is asked is the whole file, or what is behind its partial file
abbrev pub AsksBeginWell : Type 0
AsksBeginWell =
    (config : Setup) (olds : List Old) (notes : List Note) (b : Board) (number : ℕ) (a : Asker)
    → Reached config olds notes b → asker_of b number ≡ Some a → BeginsAt (part_size config.sizes (name_at a.source a.key.place)) a.ask

-- ---- what is wanted of the partial files

-- at first what they hold
abbrev pub NewBoardsWantParts : Type 0
NewBoardsWantParts =
    (config : Setup) (olds : List Old) (lanes : ℕ) (name : List ℕ) → Falls (use_from (config.sizes name)) (wanted_part (first_board config olds lanes) name)

-- behind an answer no more than before, but the file that was just served whole
abbrev pub AbsorbedBoardsWantParts : Type 0
AbsorbedBoardsWantParts =
    (config : Setup) (olds : List Old) (notes : List Note) (b : Board) (method number from : ℕ) (closed : Closed) (a : Asker) (name : List ℕ)
    → Reached config olds notes b → lane_with b.out number ≡ Some from → asker_of b number ≡ Some a → IsServedAs a.ask.stage closed
    → Falls (wanted_part b name) (wanted_part (absorbed b method number closed) name)
    ⊎ IsWholeOf (staged_name b number) closed name (wanted_part (absorbed b method number closed) name)

-- behind a source that is settled no more than before
abbrev pub SettledBoardsWantParts : Type 0
SettledBoardsWantParts = (b : Board) (n : ℕ) (verdict : Verdict2) (name : List ℕ) → Falls (wanted_part b name) (wanted_part (settled_as b n verdict) name)

-- ---- which jobs go out

-- what is out is asked by an item
abbrev pub OutNumbersAsk : Type 0
OutNumbersAsk =
    (config : Setup) (olds : List Old) (notes : List Note) (b : Board) (number : ℕ) → Reached config olds notes b → is_out b number ≡ true
    → (a : Asker) × (asker_of b number ≡ Some a)

-- a job of the lane is out, or each item that asks a host of the lane has its job out
abbrev pub IsServedLane : Board → ℕ → Type 0
IsServedLane b lane =
    ((number : ℕ) × (slice_get b.out lane ≡ Some (Some number)))
    ⊎ ((number : ℕ) (a : Asker) → asker_of b number ≡ Some a → lane_of b.lanes (host_key_of a.ask.uri) ≡ Some lane → is_out b number ≡ true)

-- no job goes out of a lane exactly there
abbrev pub NoneGoesOutExactly : Type 0
NoneGoesOutExactly =
    (config : Setup) (olds : List Old) (notes : List Note) (b : Board) (lane : ℕ) → Reached config olds notes b
    → (issued_job b lane ≡ None) ↔ IsServedLane b lane

-- where none goes out of any lane, and none is out, no item asks
abbrev pub BoardsWithoutJobsAskNothing : Type 0
BoardsWithoutJobsAskNothing =
    (config : Setup) (olds : List Old) (notes : List Note) (b : Board) → Reached config olds notes b
    → ((lane : ℕ) → issued_job b lane ≡ None) → ((number : ℕ) → is_out b number ≡ false) → NoneAsks b

-- and where no item asks, a source that isn't settled is ready
abbrev pub QuietBoardsAreReady : Type 0
QuietBoardsAreReady =
    (config : Setup) (olds : List Old) (notes : List Note) (b : Board) → Reached config olds notes b → NoneAsks b → first_ready b.slots ≡ None
    → Each (λ slot. slot ≡ SettledSlot) b.slots

-- ---- which sources are settled

-- none of these is another
abbrev pub AreOnce : List ℕ → Type 0
AreOnce [] = Unit {0}
AreOnce (n ∷ ns) = Each (λ m. m ≢ n) ns × AreOnce ns

-- each source is settled once, and those that are settled have a settled slot
pub record SettledOnce (b : Board) : Type 0 where
  pub once : AreOnce b.settled
  pub settled : (n : ℕ) → Contains b.settled n ↔ (slice_get b.slots n ≡ Some SettledSlot)

abbrev pub SourcesAreSettledOnce : Type 0
SourcesAreSettledOnce = (config : Setup) (olds : List Old) (notes : List Note) (b : Board) → Reached config olds notes b → SettledOnce b
