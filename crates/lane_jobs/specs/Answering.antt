-- What one answer is, whichever lane it came from.
use Rattle.std.specs.Prelude.{◌≡◌, ◌≤◌, ◌⊎◌, ℕ, is_some, List, Option, Some, None}
use Rattle.acq_base.specs.Mirror.{MirrorMap}
use Rattle.acq_base.specs.declared.fetch.Job.{Job}
use Rattle.acq_outside.specs.Crash.{State}
use Rattle.acq_outside.specs.States.{IsTold}
use Rattle.job_fetch.specs.Fetched.{IsAnswer, IsCounted, IsSoundEnd}
use Rattle.job_fetch.specs.Hearing.{ChangesFile, ComesTo, KeepsBytes, RestsOn}
use Rattle.run_jobs.specs.OnTheWay.{IsServed, LeftAs}
use Rattle.update_model.specs.declared.ask.Closed.{Closed}

-- an answer left a list's file so, or served nothing and left it as it was
abbrev pub LeavesList : Option (List ℕ) → ℕ → List State → List State → Closed → Type 0
LeavesList None from old now closed = Unit {0}
LeavesList (Some name) from old now closed = IsTold now → ((now ≡ old) × (IsServed closed → ⊥)) ⊎ LeftAs name now from closed

-- The answer to a job whose pieces went into this list's file or into memory, by the method with this mirror, whose count of
-- faults went from `before` to `after` in it. The disk was `old` before the words that were taken in here: all of a fetch of the
-- coordinator's, the last one of a worker's.
pub record IsAnswered (world : Option MirrorMap) (part : List ℕ) (job : Job) (into : Option (List ℕ)) (before after : ℕ) (old now : List State) (closed : Closed) : Type 0 where
  pub counted : IsCounted before after closed
  pub count : before ≤ after
  pub sound : IsSoundEnd closed
  pub changes : ChangesFile into old now
  pub kept : KeepsBytes into job.from old now
  pub comes : ComesTo into now closed
  pub left : LeavesList into job.from old now closed
  pub answer : RestsOn into now closed → IsAnswer world part (is_some into) job closed
