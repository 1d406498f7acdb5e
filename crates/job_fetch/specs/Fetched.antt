-- What a fetch comes to, beside the method's mirror, its count of faults and the disk.
use Rattle.std.specs.Prelude.{◌≡◌, ◌⊎◌, ℕ, ◌<◌, ◌≤◌, Bool, true, List, length, take, Option, Some, IfSome, Result, IfOk, OnOk, OnErr}
use Rattle.acq_base.specs.Fetch.{IsSoundPlace}
use Rattle.acq_base.specs.Mirror.{MirrorMap, answer_at}
use Rattle.acq_base.specs.Sum.{sum_of}
use Rattle.acq_base.specs.declared.fetch.Job.{Job}
use Rattle.acq_base.specs.declared.sum.Sum.{Sum}
use Rattle.acq_outside.specs.Count.{Rose}
use Rattle.acq_outside.specs.Crash.{State, synced}
use Rattle.acq_outside.specs.Fetches.{Fetches}
use Rattle.acq_outside.specs.States.{IsTold, Since}
use Rattle.acq_outside.specs.declared.disk.Disk as disks
use Rattle.acq_outside.specs.declared.method.Method as methods
use Rattle.acq_outside.specs.declared.fault.OutError.{OutError}
use Rattle.journal_model.specs.Names.{partial}
use Rattle.journal_model.specs.Rest.{KeepsOtherFiles, KeptAtRestSince, part_bytes, part_file}
use Rattle.update_model.specs.Trails.{IsFaultOr, answered}
use Rattle.update_model.specs.declared.ask.Ask.{Ask}
use Rattle.update_model.specs.declared.ask.Body.TheVariants.{Bytes, Staged}
use Rattle.update_model.specs.declared.ask.Closed.{Closed}
use Rattle.update_model.specs.declared.ask.Closed.TheVariants.{Served, Not}
use Rattle.acq_base.specs.declared.fetch.NotServed.TheVariants.{Moved, Absent, TooBig, Garbled, Fault}
use Rattle.job_fetch.specs.Others.{OthersLeftSince}

-- what a job asks, whose file is staged or not
abbrev pub ask_of : Bool → Job → Ask
ask_of stage job = record { uri = job.uri; max = job.max; from = job.from; stage = stage }

-- a fault, or what the mirror answers to the job beside these bytes at the file's front
pub record IsAnswer (world : Option MirrorMap) (front : List ℕ) (stage : Bool) (job : Job) (closed : Closed) : Type 0 where
  pub told : IfSome world (λ entries. IsFaultOr closed (answered front (ask_of stage job) (answer_at entries job.uri)))

-- a fault tells the method's count before the fetch and after it, and comes only where it rose; anything else leaves it
abbrev pub IsCounted : ℕ → ℕ → Closed → Type 0
IsCounted before after (Not (Fault told_before told_after)) = (told_before ≡ before) × (told_after ≡ after) × Rose before after
IsCounted before after (Served body) = after ≡ before
IsCounted before after (Not (Moved place)) = after ≡ before
IsCounted before after (Not (Absent status)) = after ≡ before
IsCounted before after (Not TooBig) = after ≡ before
IsCounted before after (Not (Garbled at)) = after ≡ before

-- a place that it moves to can be fetched in turn
abbrev pub IsSoundEnd : Closed → Type 0
IsSoundEnd (Not (Moved place)) = IsSoundPlace place
IsSoundEnd _ = Unit {0}

-- a file that came is in memory
abbrev pub IsInMemory : Closed → Type 0
IsInMemory (Served (Staged sum)) = ⊥
IsInMemory _ = Unit {0}

-- the list's file on its way lasts, and has this sum
pub record LastsAs (name : List ℕ) (now : List State) (sum : Sum) : Type 0 where
  pub bytes : List ℕ
  pub file : part_file now name ≡ Some (synced bytes)
  pub sums : sum_of bytes ≡ sum

-- a file that came is the list's file on its way, of the sum that is told
abbrev pub IsStagedBody : List ℕ → List State → Closed → Type 0
IsStagedBody name now (Served (Bytes bytes)) = ⊥
IsStagedBody name now (Served (Staged sum)) = IsTold now → LastsAs name now sum
IsStagedBody name now _ = Unit {0}

-- what an answer over a disk rests on: a staged file on what the disk tells, anything else on nothing
abbrev pub IsKnown : List State → Closed → Type 0
IsKnown now (Served body) = IsTold now
IsKnown now _ = Unit {0}

-- an end that served nothing leaves the file as it was, or with bytes that came behind those that the job leaves out
abbrev pub LeavesFile : ℕ → List ℕ → List State → List State → Closed → Type 0
LeavesFile from name old new (Served body) = Unit {0}
LeavesFile from name old new _ = (new ≡ old) ⊎ (IsTold new → from < length (part_bytes new name))

-- Calls on one list's file on its way: at every moment what is at rest stays so; at their end the files of all other names
-- are as they were; and at every moment, where no change of another name was pending before, in a folder without a journal
-- too, a crash leaves the others as it might have left them then.
pub record Staging (name : List ℕ) (old new : List State) : Type 0 where
  pub moments : Since old new (KeptAtRestSince old)
  pub others : KeepsOtherFiles name old new
  pub only : Since old new (OthersLeftSince (partial name) old)

-- the first bytes of it stay
pub record KeepsFront (name : List ℕ) (keep : ℕ) (old new : List State) : Type 0 where
  pub front : IsTold new → take keep (part_bytes new name) ≡ take keep (part_bytes old name)
  pub within : IsTold new → keep ≤ length (part_bytes new name)

-- A fetch into a list's file on its way, whatever it comes to: faults of the method are counted and told, a place that it
-- moves to can be fetched, only this file changes, its first bytes stay, and a file that came lasts as its sum tells.
pub record Comes {D M : Type 0} (d : disks.Ghosts D) (m : methods.Ghosts M) (name : List ℕ) (from : ℕ)
    (old new : D) (asked answered : M) (result : Result Closed OutError) : Type 0 where
  pub method : Fetches m asked answered
  pub method_dry : OnErr result (m.faults answered ≡ m.faults asked)
  pub counted : IfOk result (IsCounted (m.faults asked) (m.faults answered))
  pub sound : IfOk result IsSoundEnd
  pub staging : Staging name (d.trace old) (d.trace new)
  pub front : OnOk result (KeepsFront name from (d.trace old) (d.trace new))
  pub staged : IfOk result (IsStagedBody name (d.trace new))

-- and of a whole job: the answer is the mirror's, and one that served nothing left the file or bytes behind the first ones
pub record ComesWhole {D M : Type 0} (d : disks.Ghosts D) (m : methods.Ghosts M) (name : List ℕ) (job : Job)
    (old new : D) (asked answered : M) (result : Result Closed OutError) : Type 0 where
  pub comes : Comes d m name job.from old new asked answered result
  pub open comes use *
  pub left : IfOk result (LeavesFile job.from name (d.trace old) (d.trace new))
  pub answer : IfOk result (λ closed. IsKnown (d.trace new) closed
      → IsAnswer (m.world asked) (part_bytes (d.trace old) name) true job closed)
