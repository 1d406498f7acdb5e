-- The jobs of a board: which numbers wait and which are out, and what each asks.
use Rattle.std.specs.Prelude.{◌≡◌, ◌≢◌, ◌≤◌, ◌⊎◌, ℕ, ◌+◌, ◌==◌, Bool, true, false, if◌then◌else◌, is_some, List, [], ◌∷◌, map, slice_get, Option, Some, None, option_map}
use Rattle.std.specs.List.{AllByRecursion as Each}
use Rattle.acq_base.specs.declared.fetch.Job.{Job}
use Rattle.host_queues.specs.Lanes.{Queue, lane_of}
use Rattle.uri_names.specs.Names.{host_key_of}
use Rattle.board_model.specs.Boards.{Asker, Board, asker_of, is_out, is_out_as, job_for}
use Rattle.board_model.specs.Runs.{Answered, BoardRun}

-- the job that is out under a number: what its item asks
abbrev pub job_out : Board → ℕ → Option Job
job_out b number = if is_out b number then option_map (λ (a : Asker). job_for number a.ask) (asker_of b number) else None

-- no item asks
abbrev pub NoneAsks : Board → Type 0
NoneAsks b = (number : ℕ) → asker_of b number ≡ None

-- ---- how often a number is there

abbrev pub one_if : Bool → ℕ
one_if true = 1
one_if false = 0

abbrev pub times_in : ℕ → List ℕ → ℕ
times_in number [] = 0
times_in number (other ∷ others) = one_if (other == number) + times_in number others

-- in the lanes
abbrev pub times_waiting : ℕ → List Queue → ℕ
times_waiting number [] = 0
times_waiting number (queue ∷ queues) = times_in number queue.waiting + times_waiting number queues

-- and out
abbrev pub times_out : ℕ → List (Option ℕ) → ℕ
times_out number [] = 0
times_out number (out ∷ outs) = one_if (is_out_as number out) + times_out number outs

-- a number waits in a lane or is out from it
abbrev pub IsInLane : Board → ℕ → ℕ → Type 0
IsInLane b number lane =
    ((queue : Queue) × (slice_get b.lanes.queues lane ≡ Some queue) × (1 ≤ times_in number queue.waiting))
    ⊎ (slice_get b.out lane ≡ Some (Some number))

-- ---- all jobs

-- no two of these answers are to one job
abbrev pub AreAnsweredOnce : List Answered → Type 0
AreAnsweredOnce [] = Unit {0}
AreAnsweredOnce (a ∷ queue) = Each (λ (other : Answered). other.job.no ≢ a.job.no) queue × AreAnsweredOnce queue

-- Each item that asks waits or is out, once, in the lane of the host that it asks, and no other number does. What is out is
-- what its item asks, and so is what was answered, once, and isn't taken in yet.
pub record JobsStand (w : BoardRun) : Type 0 where
  pub once : (number : ℕ) → times_waiting number w.board.lanes.queues + times_out number w.board.out ≡ one_if (is_some (asker_of w.board number))
  pub hosts : (number lane : ℕ) (a : Asker) → asker_of w.board number ≡ Some a → IsInLane w.board number lane
      → lane_of w.board.lanes (host_key_of a.ask.uri) ≡ Some lane
  pub busy : map (λ (q : Queue). q.is_out) w.board.lanes.queues ≡ map is_some w.board.out
  pub numbers : w.board.out ≡ map (option_map (λ (job : Job). job.no)) w.jobs
  pub asked : (lane : ℕ) (job : Job) → slice_get w.jobs lane ≡ Some (Some job) → job_out w.board job.no ≡ Some job
  pub told : Each (λ (a : Answered). job_out w.board a.job.no ≡ Some a.job) w.queue
  pub told_once : AreAnsweredOnce w.queue
