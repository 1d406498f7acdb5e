-- A run between two words of its jobs that are out.
use Rattle.std.specs.Prelude.{◌≡◌, ◌≢◌, ◌<◌, ℕ, suc, Bool, true, false, List, ◌++◌, length, map, slice_get, slice_index, slice_index_or, slice_set, Option, Some, None, option_map}
use Rattle.acq_base.specs.Mirror.{MirrorMap}
use Rattle.acq_base.specs.declared.fetch.Job.{Job}
use Rattle.acq_outside.specs.Count.{NoneFell, one_more}
use Rattle.acq_outside.specs.Crash.{State}
use Rattle.acq_outside.specs.States.{IsTold, IsNow}
use Rattle.acq_outside.specs.declared.word.Fetch.{Fetch}
use Rattle.board_model.specs.Agreeing.{part_at}
use Rattle.board_model.specs.Boards.{Asker, Board, asker_of, issued_job, job_for, name_staged}
use Rattle.board_model.specs.Runs.{Note}
use Rattle.job_fetch.specs.Hearing.{CanHear, HasComeIn, fetch_of, name_of}
use Rattle.job_fetch.specs.declared.intake.Intake.{Intake}
use Rattle.job_fetch.specs.declared.intake.Intake.TheVariants.{Held, Unopened, Filling}
use Rattle.journal_model.specs.Names.{is_partial}
use Rattle.journal_model.specs.Rest.{IsIdle, file_now}
use Rattle.lane_pool.specs.Pool.{IsWordTaken, Pool}
use Rattle.lane_pool.specs.declared.told.Told.{Told}
use Rattle.run_jobs.specs.OnTheWay.{StaysOnItsWay, WasLeft}
use Rattle.run_jobs.specs.Running.{HasCounted, IsSoundBegun, IsUnderWay, RunStart}
use Rattle.lane_jobs.specs.JobsOut.{JobsOut, is_filled, number_of}
use Rattle.lane_jobs.specs.declared.transfers.Transfer.{Transfer}

-- the lanes, the jobs that are out and the board
pub record RunLanes : Type 0 where
  pub pool : Pool
  pub jobs : JobsOut
  pub board : Board

abbrev pub run_lanes : Pool → JobsOut → Board → RunLanes
run_lanes pool jobs board = record { pool = pool; jobs = jobs; board = board }

-- ---- one job

-- a list's file that is being filled reaches behind the bytes that the job leaves out
abbrev pub IsPast : Job → Intake → Type 0
IsPast job (Held bytes) = Unit {0}
IsPast job (Unopened name) = Unit {0}
IsPast job (Filling filling) = job.from < filling.part.len

-- The job that is out is what an item asks, and its pieces go where the item's do. What has come of it can go on, and is what the
-- method with this mirror tells.
pub record IsTransfer (begun : RunStart) (b : Board) (now : List State) (world : Option MirrorMap) (t : Transfer) : Type 0 where
  pub a : Asker
  pub asks : asker_of b t.job.no ≡ Some a
  pub job_is : t.job ≡ job_for t.job.no a.ask
  pub list : name_of t.intake ≡ option_map (λ name. name.0) (name_staged a)
  pub can : CanHear t.job now t.intake
  pub past : IsPast t.job t.intake
  pub come : HasComeIn world (part_at begun.parts begun.config.sources a.key) t.job now t.intake

-- ---- all of them

-- the fetch is that of the job which is out from this lane, at the place up to which its pieces came
pub record IsGiven (rows : List (Option Transfer)) (lane : ℕ) (fetch : Fetch) : Type 0 where
  pub transfer : Transfer
  pub at : slice_get rows lane ≡ Some (Some transfer)
  pub is : fetch ≡ fetch_of transfer.job transfer.intake

-- Lane l of the board is that of the worker of lane l + 1. The jobs that are out from the board are these, and, while workers are
-- used, what each has under way is one of them.
pub record AreOut (begun : RunStart) (state : RunLanes) (now : List State) : Type 0 where
  pub numbers : state.board.out ≡ map number_of state.jobs.rows
  pub each : (lane : ℕ) (t : Transfer) → slice_get state.jobs.rows lane ≡ Some (Some t)
      → IsTransfer begun state.board now (slice_index_or begun.mirrors (suc lane) None) t
  pub given : state.jobs.alone ≡ false → (lane : ℕ) (fetch : Fetch) → slice_get state.pool.outs (suc lane) ≡ Some (Some fetch) → IsGiven state.jobs.rows lane fetch

-- the lanes are those of the methods with which the run was begun
pub record AreLanesOf (begun : RunStart) (pool : Pool) : Type 0 where
  pub worlds : pool.worlds ≡ begun.mirrors
  pub mirrors : length begun.mirrors ≡ length begun.counts
  pub outs : length pool.outs ≡ length begun.counts
  pub some : 0 < length begun.counts

-- A run between two words: what the board wants of the lists on their way is there, and each job that is out is its item's.
pub record IsRunningOver (begun : RunStart) (notes : List Note) (state : RunLanes) (now : List State) : Type 0 where
  pub under_way : IsUnderWay begun notes state.board now
  pub counted : HasCounted begun state.pool.counts state.board
  pub methods : AreLanesOf begun state.pool
  pub out : AreOut begun state now

-- the run that goes on over a sound plan, and a commit may be prepared
pub record MayAskOver (state : RunLanes) (now : List State) : Type 0 where
  pub begun : RunStart
  pub notes : List Note
  pub sound : IsSoundBegun begun
  pub running : IsRunningOver begun notes state now
  pub idle : IsNow IsIdle now

-- ---- what comes of it

-- What it has heard is behind what it had heard before. Where the disk tells, each list on its way that isn't being filled is as it
-- was, or as an answer left it; and where it was being filled it is as an answer left it.
pub record JobsAddNotes (begun : RunStart) (notes : List Note) (before after : RunLanes) (old now : List State) : Type 0 where
  pub more : List Note
  pub left : IsTold now → (name : List ℕ) → is_filled after.jobs name ≡ false → StaysOnItsWay begun.config.sources more old now name
  pub ended : IsTold now → (name : List ℕ) → is_filled before.jobs name ≡ true → is_filled after.jobs name ≡ false → WasLeft begun.config.sources name more now
  pub running : IsRunningOver begun (notes ++ more) after now

-- so each run goes on
abbrev pub JobsGoOn : RunLanes → RunLanes → List State → List State → Type 0
JobsGoOn before after old now =
    (begun : RunStart) (notes : List Note) → IsSoundBegun begun → IsRunningOver begun notes before old → JobsAddNotes begun notes before after old now

-- the methods' mirrors stay, and none of their counts falls
pub record KeepsLanes (old new : Pool) : Type 0 where
  pub worlds : new.worlds ≡ old.worlds
  pub counts : NoneFell old.counts new.counts

-- no file changes but those in the folder of lists on their way
abbrev pub KeepsWholeFiles : List State → List State → Type 0
KeepsWholeFiles old now = (name : List ℕ) → is_partial name ≡ false → file_now now name ≡ file_now old name

-- while workers are used, none has a job under way from this lane
abbrev pub IsUnused : ℕ → RunLanes → Type 0
IsUnused lane state = state.jobs.alone ≡ false → (fetch : Fetch) → slice_get state.pool.outs (suc lane) ≢ Some (Some fetch)

-- no job may go out from the first lanes
abbrev pub NoneGoesOutBelow : ℕ → Board → Type 0
NoneGoesOutBelow lanes b = (lane : ℕ) → lane < lanes → issued_job b lane ≡ None

-- a job was handed to the worker of this lane of the pool, while workers are used
pub record WasGiven (alone : Bool) (lane : ℕ) (fetch : Fetch) (old new : Pool) : Type 0 where
  pub used : alone ≡ false
  pub free : slice_get old.outs lane ≡ Some None
  pub worlds : new.worlds ≡ old.worlds
  pub counts : new.counts ≡ old.counts
  pub outs : new.outs ≡ slice_set old.outs lane (Some fetch)
  pub begins : new.begins ≡ slice_set old.begins lane (one_more (slice_index old.begins lane))

-- nothing that is known of the lanes changed
pub record WasRefused (old new : Pool) : Type 0 where
  pub worlds : new.worlds ≡ old.worlds
  pub counts : new.counts ≡ old.counts
  pub outs : new.outs ≡ old.outs
  pub begins : new.begins ≡ old.begins

abbrev pub IsHandedOver : Bool → ℕ → Fetch → Pool → Pool → Bool → Type 0
IsHandedOver alone lane fetch old new true = WasGiven alone lane fetch old new
IsHandedOver alone lane fetch old new false = WasRefused old new

-- a word was taken of lanes over which a run goes on, while workers are used
pub record IsDue (told : Told) (pool : Pool) (jobs : JobsOut) (b : Board) (now : List State) : Type 0 where
  pub before : Pool
  pub taken : IsWordTaken before told pool
  pub used : jobs.alone ≡ false
  pub ready : MayAskOver (run_lanes before jobs b) now
