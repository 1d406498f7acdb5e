-- Boards to which calls lead.
use Rattle.std.specs.Prelude.{◌≡◌, ◌≤◌, ℕ, List, [], ◌∷◌, ◌++◌, length, Option, Some}
use Rattle.acq_base.specs.declared.fetch.Job.{Job}
use Rattle.acq_base.specs.declared.installed.Old.{Old}
use Rattle.update_model.specs.declared.ask.Closed.{Closed}
use Rattle.update_model.specs.declared.settled.Settled.{Settled}
use Rattle.board_model.specs.Boards.{Asker, Board, absorbed, asker_of, first_board, first_ready, issued, lane_with, settled_as, settled_of}
use Rattle.board_model.specs.Runs.{Event, Note, note_of, run, start}
use Rattle.board_model.specs.Slots.{Setup}

-- Calls have led from a new board to this one, in which nothing that was answered waits, and its items have heard just what
-- these notes tell.
pub record Reached (config : Setup) (olds : List Old) (notes : List Note) (b : Board) : Type 0 where
  pub each : length olds ≡ length config.sources
  pub lanes : ℕ
  pub some : 1 ≤ lanes
  pub events : List Event
  pub jobs : List (Option Job)
  pub leads : run events (start config olds lanes) ≡ record { board = b; jobs = jobs; queue = []; notes = notes }

-- so they have to a board, whatever was heard
pub record IsReached (b : Board) : Type 0 where
  pub olds : List Old
  pub notes : List Note
  pub reached : Reached b.config olds notes b

-- ---- each call is an event, or two

abbrev pub NewBoardsAreReached : Type 0
NewBoardsAreReached =
    (config : Setup) (olds : List Old) (lanes : ℕ) → length olds ≡ length config.sources → 1 ≤ lanes
    → Reached config olds [] (first_board config olds lanes)

abbrev pub IssuedBoardsAreReached : Type 0
IssuedBoardsAreReached =
    (config : Setup) (olds : List Old) (notes : List Note) (b : Board) (lane : ℕ) → Reached config olds notes b → Reached config olds notes (issued b lane)

-- the answer to a job that is out is noted as its item's
abbrev pub AbsorbedBoardsAreReached : Type 0
AbsorbedBoardsAreReached =
    (config : Setup) (olds : List Old) (notes : List Note) (b : Board) (method number from : ℕ) (closed : Closed) (a : Asker)
    → Reached config olds notes b → lane_with b.out number ≡ Some from → asker_of b number ≡ Some a
    → Reached config olds (notes ++ note_of a (record { lane = method; closed = closed }) ∷ []) (absorbed b method number closed)

abbrev pub SettledBoardsAreReached : Type 0
SettledBoardsAreReached =
    (config : Setup) (olds : List Old) (notes : List Note) (b : Board) (n : ℕ) (settled : Settled)
    → Reached config olds notes b → first_ready b.slots ≡ Some n → settled_of b n ≡ Some settled
    → Reached config olds notes (settled_as b n settled.verdict)
