-- Whole runs: calls of a board and answers to its jobs, in any order.
use Rattle.std.specs.Prelude.{ℕ, ◌==◌, if◌then◌else◌, List, [], ◌∷◌, ◌++◌, replicate, slice_get, Option, Some, None}
use Rattle.std.specs.List.{list_any}
use Rattle.acq_base.specs.declared.fetch.Job.{Job}
use Rattle.acq_base.specs.declared.installed.Old.{Old}
use Rattle.host_queues.specs.Lanes.{changed_at}
use Rattle.update_model.specs.Points.{entry}
use Rattle.update_model.specs.Trails.{LaneAnswer}
use Rattle.update_model.specs.declared.ask.Ask.{Ask}
use Rattle.update_model.specs.declared.ask.Closed.{Closed}
use Rattle.update_model.specs.declared.log.Asked.{Asked}
use Rattle.update_model.specs.declared.settled.Settled.{Settled}
use Rattle.board_model.specs.Boards.{Board, Asker, absorbed, asker_of, first_board, first_ready, issued, issued_job, lane_with, settled_as, settled_of}
use Rattle.board_model.specs.Keys.{path_at}
use Rattle.board_model.specs.Slots.{Setup, joined}
use Rattle.board_model.specs.declared.key.Key.{Key}

-- an answer of a method to a job, which waits to be taken in
pub record Answered : Type 0 where
  pub job : Job
  pub lane : ℕ
  pub closed : Closed

-- an answer that was taken in: which item heard it, to what it asked, and the path that stands for the item in the log
pub record Note : Type 0 where
  pub key : Key
  pub path : List ℕ
  pub ask : Ask
  pub told : LaneAnswer

-- the log's entry of it
abbrev pub entry_of : Note → Asked
entry_of note = entry note.key.source note.path note.ask note.told

-- a board, the job that each lane has out, the answers that wait, and those that were taken in
pub record BoardRun : Type 0 where
  pub board : Board
  pub jobs : List (Option Job)
  pub queue : List Answered
  pub notes : List Note

-- what may happen next: a lane's job goes out; the job that a lane has out is answered; the oldest answer is taken in; the
-- first source that is ready is settled
pub data Event : Type 0 where
  Issue : (lane : ℕ) → Event
  Answer : (lane method : ℕ) → (closed : Closed) → Event
  Absorb : Event
  Settle : Event

-- the job of a lane, where one goes out
abbrev pub sent_job : ℕ → Option Job → List (Option Job) → List (Option Job)
sent_job lane None jobs = jobs
sent_job lane (Some job) jobs = changed_at lane (λ other. Some job) jobs

-- a job is answered once
abbrev pub answered : BoardRun → ℕ → Closed → Option Job → BoardRun
answered w method closed None = w
answered w method closed (Some job) =
    if list_any (λ (a : Answered). a.job.no == job.no) w.queue
    then w
    else record w { queue = w.queue ++ (record { job = job; lane = method; closed = closed }) ∷ [] }

abbrev pub lane_answer_of : Answered → LaneAnswer
lane_answer_of a = record { lane = a.lane; closed = a.closed }

abbrev pub note_of : Asker → LaneAnswer → Note
note_of asker told = record { key = asker.key; path = path_at asker.source asker.key.place; ask = asker.ask; told = told }

-- what is noted of an answer: nothing of one to a job that isn't out
abbrev pub noted : LaneAnswer → Option ℕ → Option Asker → List Note
noted told (Some from) (Some asker) = note_of asker told ∷ []
noted told None asker = []
noted told (Some from) None = []

-- the job of a lane is done, where its answer is noted
abbrev pub without_job : Option ℕ → Option Asker → List (Option Job) → List (Option Job)
without_job (Some from) (Some asker) jobs = changed_at from (λ other. None) jobs
without_job None asker jobs = jobs
without_job (Some from) None jobs = jobs

abbrev pub take_first : BoardRun → List Answered → BoardRun
take_first w [] = w
take_first w (a ∷ queue) = record {
  board = absorbed w.board a.lane a.job.no a.closed;
  jobs = without_job (lane_with w.board.out a.job.no) (asker_of w.board a.job.no) w.jobs;
  queue = queue;
  notes = w.notes ++ noted (lane_answer_of a) (lane_with w.board.out a.job.no) (asker_of w.board a.job.no);
}

abbrev pub settle_as : BoardRun → ℕ → Option Settled → BoardRun
settle_as w n None = w
settle_as w n (Some settled) = record w { board = settled_as w.board n settled.verdict }

abbrev pub settle_first : BoardRun → Option ℕ → BoardRun
settle_first w None = w
settle_first w (Some n) = settle_as w n (settled_of w.board n)

abbrev pub happens : BoardRun → Event → BoardRun
happens w (Issue lane) = record w { board = issued w.board lane; jobs = sent_job lane (issued_job w.board lane) w.jobs }
happens w (Answer lane method closed) = answered w method closed (joined (slice_get w.jobs lane))
happens w Absorb = take_first w w.queue
happens w Settle = settle_first w (first_ready w.board.slots)

-- events one after another
abbrev pub run : List Event → BoardRun → BoardRun
run [] w = w
run (event ∷ events) w = run events (happens w event)

-- a board at its beginning, and nothing asked
abbrev pub start : Setup → List Old → ℕ → BoardRun
start config olds lanes = record { board = first_board config olds lanes; jobs = replicate lanes None; queue = []; notes = [] }
