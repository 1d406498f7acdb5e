-- How many fetches were begun: by the coordinator just so many, and by a worker at most as many as it was handed jobs.
use Rattle.std.specs.Prelude.{◌≡◌, ◌⊎◌, ◌≤◌, ◌+◌, ℕ, suc, false, is_some, List, [], ◌∷◌, ◌++◌, length, slice_get, slice_set, Some}
use Rattle.acq_outside.specs.Count.{one_more}
use Rattle.board_model.specs.Jobs.{one_if}
use Rattle.board_model.specs.Slots.{joined}
use Rattle.lane_pool.specs.Counting.{counted_on}
use Rattle.lane_pool.specs.Pool.{Pool, own_begins}
use Rattle.run_jobs.specs.Counting.{asks_of_lane}
use Rattle.update_model.specs.declared.log.Asked.{Asked}
use Rattle.lane_jobs.specs.Going.{RunLanes}

-- over this lane as many begun, or handed to its worker, as its entries in the log, and so many more
abbrev pub BeginsMore : List ℕ → List ℕ → List Asked → ℕ → ℕ → Type 0
BeginsMore first begins asks lane more =
    (start last : ℕ) → slice_get first lane ≡ Some start → slice_get begins lane ≡ Some last → last ≡ counted_on start (length (asks_of_lane lane asks) + more)

-- A worker was handed one more where a job is out from its lane, and where no worker is used any more at most one.
pub record HasBegunOver (first : List ℕ) (state : RunLanes) (lane : ℕ) : Type 0 where
  pub more : ℕ
  pub most : more ≤ 1
  pub out : state.jobs.alone ≡ false → more ≡ one_if (is_some (joined (slice_get state.jobs.rows lane)))
  pub begun : BeginsMore first state.pool.begins state.board.asks (suc lane) more

-- Since these counts just as many fetches were begun over the coordinator's lane as the log tells, and each worker was handed as
-- many jobs or one more.
pub record HasBegun (first : List ℕ) (state : RunLanes) : Type 0 where
  pub own : BeginsMore first state.pool.begins state.board.asks 0 0
  pub workers : (lane : ℕ) → HasBegunOver first state lane

-- the coordinator began one more, to which the log tells an answer
pub record HasAskedOwn (old new : Pool) (asks later : List Asked) : Type 0 where
  pub begins : new.begins ≡ slice_set old.begins 0 (one_more (own_begins old))
  pub entry : Asked
  pub is : later ≡ asks ++ entry ∷ []
  pub lane : entry.lane ≡ 0

pub record HasAskedNothing (old new : Pool) (asks later : List Asked) : Type 0 where
  pub begins : new.begins ≡ old.begins
  pub same : later ≡ asks

abbrev pub AsksOwn : Pool → Pool → List Asked → List Asked → Type 0
AsksOwn old new asks later = HasAskedNothing old new asks later ⊎ HasAskedOwn old new asks later
