-- Whether what a board asks may be handed to a method.
use Rattle.std.specs.Prelude.{◌≡◌, ◌⊎◌, ◌<◌, ℕ, false, All, List, Some}
use Rattle.std.specs.List.{AllByRecursion as Each}
use Rattle.acq_base.specs.Plan.{IsPlanned}
use Rattle.acq_base.specs.Uri.{IsSound}
use Rattle.acq_base.specs.declared.fetch.Job.{Job}
use Rattle.acq_base.specs.declared.installed.Old.{Old}
use Rattle.acq_outside.specs.Word.{CanBegin}
use Rattle.item_graph.specs.Sound.{IsSoundAnswer}
use Rattle.update_model.specs.declared.ask.Ask.{Ask}
use Rattle.board_model.specs.Boards.{Asker, Board, asker_of, issued_job}
use Rattle.board_model.specs.Jobs.{job_out}
use Rattle.board_model.specs.Reached.{Reached}
use Rattle.board_model.specs.Runs.{Note}
use Rattle.board_model.specs.Slots.{Setup}

-- each answer that was heard leads to a sound place, if to any
abbrev pub LeadSoundly : List Note → Type 0
LeadSoundly notes = Each (λ note. IsSoundAnswer note.told.closed) notes

-- An ask may become a job: it is for a sound URI, it is for the whole file or begins below its limit, and it is for the whole
-- file where that goes into no partial file.
pub record MayBeFetched (ask : Ask) : Type 0 where
  pub sound : IsSound ask.uri
  pub begin : (ask.from ≡ 0) ⊎ (ask.from < ask.max)
  pub held : ask.stage ≡ false → ask.from ≡ 0

-- a method may be handed this job
pub record MayBeHanded (job : Job) : Type 0 where
  pub sound : IsSound job.uri
  pub begin : CanBegin job

-- so is what each item asks, over a sound plan, where answers led to sound places alone
abbrev pub AsksMayBeFetched : Type 0
AsksMayBeFetched =
    (config : Setup) (olds : List Old) (notes : List Note) (b : Board) (number : ℕ) (a : Asker)
    → All IsPlanned config.sources → LeadSoundly notes → Reached config olds notes b → asker_of b number ≡ Some a → MayBeFetched a.ask

-- so is each job that goes out
abbrev pub IssuedJobsMayBeHanded : Type 0
IssuedJobsMayBeHanded =
    (config : Setup) (olds : List Old) (notes : List Note) (b : Board) (lane : ℕ) (job : Job)
    → All IsPlanned config.sources → LeadSoundly notes → Reached config olds notes b → issued_job b lane ≡ Some job → MayBeHanded job

-- and each that is out
abbrev pub JobsOutMayBeHanded : Type 0
JobsOutMayBeHanded =
    (config : Setup) (olds : List Old) (notes : List Note) (b : Board) (number : ℕ) (job : Job)
    → All IsPlanned config.sources → LeadSoundly notes → Reached config olds notes b → job_out b number ≡ Some job → MayBeHanded job
