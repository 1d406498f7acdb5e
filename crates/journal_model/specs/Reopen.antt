-- Which lists a folder stands for, once its journal is carried out.
use Rattle.std.specs.Prelude.{◌≡◌, ◌⊎◌, if◌then◌else◌, List, [], ◌∷◌, Option, Some, None, unwrap_or}
use Rattle.acq_outside.specs.Disk.{Files}
use Rattle.acq_outside.specs.Crash.{State, IsImage, reads}
use Rattle.journal_model.specs.Names.{journal, is_installed_name}
use Rattle.journal_model.specs.Steps.{after_steps}
use Rattle.journal_model.specs.Reading.{journal_state_in}
use Rattle.journal_model.specs.declared.step.JournalState.{JournalState}
use Rattle.journal_model.specs.declared.step.JournalState.TheVariants.{Open, Damaged, Shut}

-- all names but `lock`, `journal` and those on their way
abbrev pub installed_files : Files → Files
installed_files files = λ name. if is_installed_name name then files name else None

abbrev pub opened : Files → JournalState → Option Files
opened files (Open steps) = Some (installed_files (after_steps files steps))
opened files (Damaged at) = None
opened files Shut = Some (installed_files files)

-- none where the gate is open before what is no record
abbrev pub reopened : Files → Option Files
reopened files = opened files (journal_state_in (files journal))

-- the lists that a disk stands for as reads give it; none where it tells nothing
abbrev pub installed_now : List State → Files
installed_now [] = λ name. None
installed_now (s ∷ past) = unwrap_or (reopened (reads s)) (λ name. None)

-- The lists that a crash leaves, once the journal is carried out.

-- these, whatever it leaves
abbrev pub CrashLeaves : Files → State → Type 0
CrashLeaves folder s = (image : Files) → IsImage s image → reopened image ≡ Some folder

abbrev pub CrashLeavesEither : Files → Files → State → Type 0
CrashLeavesEither former new s = (image : Files) → IsImage s image → (reopened image ≡ Some former) ⊎ (reopened image ≡ Some new)

-- those of something that a crash might have left at an earlier state
pub record IsAsOf (s : State) (image : Files) : Type 0 where
  pub before : Files
  pub was : IsImage s before
  pub same : reopened image ≡ reopened before

abbrev pub ReopensAsAt : State → State → Type 0
ReopensAsAt s t = (image : Files) → IsImage t image → IsAsOf s image
