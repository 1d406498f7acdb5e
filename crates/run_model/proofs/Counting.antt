-- A board has a verdict for each source.
use Rattle.std.proofs.Common.{◌≡◌, ◌∙◌, refl, sym, ap, arith, ℕ, zero, suc, Bool, true, false, List, [], ◌∷◌, ◌++◌, length, Option, Some, None}
use Rattle.std.specs.Prelude.{◌==◌, if◌then◌else◌, slice_get}
use Rattle.std.specs.List.{list_any}
use Rattle.std.proofs.lemmas.List.{length-map}
use Rattle.acq_base.specs.declared.fetch.Job.{Job}
use Rattle.acq_base.specs.declared.installed.Old.{Old}
use Rattle.board_model.specs.Boards.{Asker, Board, asker_of, first_ready, lane_with, settled_of, took_from}
use Rattle.board_model.specs.Reached.{Reached}
use Rattle.board_model.specs.Runs.{Answered, Event, Issue, Answer, Absorb, Settle, Note, BoardRun, answered, happens, run, settle_as, settle_first, start, take_first, lane_answer_of}
use Rattle.board_model.specs.Slots.{Setup, joined}
use Rattle.update_model.specs.Trails.{LaneAnswer}
use Rattle.update_model.specs.declared.ask.Closed.{Closed}
use Rattle.update_model.specs.declared.settled.Settled.{Settled}
use Rattle.host_queues.proofs.Changes.{length-changed}

abbrev count : BoardRun → ℕ
count w = length w.board.verdicts

answered_count : (w : BoardRun) (method : ℕ) (closed : Closed) (job : Option Job) → count (answered w method closed job) ≡ count w
answered_count w method closed None = refl
answered_count w method closed (Some job) = one (list_any (λ (a : Answered). a.job.no == job.no) w.queue)
  where
    one : (c : Bool) → count (if c then w else record w { queue = w.queue ++ (record { job = job; lane = method; closed = closed }) ∷ [] }) ≡ count w
    one true = refl
    one false = refl

took_count : (b : Board) (number : ℕ) (told : LaneAnswer) (from : Option ℕ) (a : Option Asker) → length (took_from b number told from a).verdicts ≡ length b.verdicts
took_count b number told (Some from) (Some a) = refl
took_count b number told None a = refl
took_count b number told (Some from) None = refl

taken_count : (w : BoardRun) (queue : List Answered) → count (take_first w queue) ≡ count w
taken_count w [] = refl
taken_count w (a ∷ queue) = took_count w.board a.job.no (lane_answer_of a) (lane_with w.board.out a.job.no) (asker_of w.board a.job.no)

settled_count : (w : BoardRun) (n : ℕ) (settled : Option Settled) → count (settle_as w n settled) ≡ count w
settled_count w n None = refl
settled_count w n (Some settled) = length-changed (λ other. settled.verdict) w.board.verdicts n

first_count : (w : BoardRun) (first : Option ℕ) → count (settle_first w first) ≡ count w
first_count w None = refl
first_count w (Some n) = settled_count w n (settled_of w.board n)

happens_count : (w : BoardRun) (event : Event) → count (happens w event) ≡ count w
happens_count w (Issue lane) = refl
happens_count w (Answer lane method closed) = answered_count w method closed (joined (slice_get w.jobs lane))
happens_count w Absorb = taken_count w w.queue
happens_count w Settle = first_count w (first_ready w.board.slots)

run_count : (events : List Event) (w : BoardRun) → count (run events w) ≡ count w
run_count [] w = refl
run_count (event ∷ events) w = run_count events (happens w event) ∙ happens_count w event

pub verdicts_count : (config : Setup) (olds : List Old) (notes : List Note) (b : Board) → Reached config olds notes b → length b.verdicts ≡ length config.sources
verdicts_count config olds notes b r =
    sym (ap count r.leads) ∙ run_count r.events (start config olds r.lanes) ∙ length-map config.sources _

-- lists of one length have elements at the same places
pub there_too : {X Y : Type 0} (xs : List X) (ys : List Y) (n : ℕ) (x : X) → length xs ≡ length ys → slice_get xs n ≡ Some x → (y : Y) × (slice_get ys n ≡ Some y)
there_too [] ys n x same is = absurd (cc)
there_too (z ∷ xs) [] n x same is = absurd (omega (arith, same))
there_too (z ∷ xs) (y ∷ ys) zero x same is = (y, refl)
there_too (z ∷ xs) (y ∷ ys) (suc n) x same is = there_too xs ys n x (omega (arith, same)) is
