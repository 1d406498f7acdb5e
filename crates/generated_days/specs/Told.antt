-- What a log tells of an update over a mirror in which no method failed.
use Rattle.std.specs.Prelude.{◌≡◌, ℕ, Contains, true, List, [], ◌∷◌, length, Some}
use Rattle.std.specs.List.{count_by, flat_map, sum_by}
use Rattle.acq_base.specs.Mirror.{MirrorMap}
use Rattle.acq_outside.specs.Crash.{AllSound, IsShown}
use Rattle.acq_outside.specs.Disk.{Files}
use Rattle.acq_outside.specs.States.{IsTold, ToldAs}
use Rattle.journal_model.specs.Reopen.{installed_now}
use Rattle.journal_model.specs.Rest.{IsAtRest, IsSynced}
use Rattle.run_model.specs.Runs.{is_installed}
use Rattle.update_engine.specs.Run.{Engine, LogIsTrue, Run, target_names}
use Rattle.update_model.specs.Next.{IsNext}
use Rattle.update_model.specs.Outcomes.{Directory, PartFiles, new_set}
use Rattle.update_model.specs.declared.log.RunLog.{RunLog}
use Rattle.generated_days.specs.Asks.{asks_for}
use Rattle.generated_days.specs.Clear.{IsClear}
use Rattle.generated_days.specs.Days.{is_gotten}

-- it tells as many new sets and asks as the mirror gives, and the directory is next
pub record TellsDay (mirror : MirrorMap) (run : Run) (before after : Directory) (log : RunLog) : Type 0 where
  pub parts : PartFiles
  pub none : (name : List ℕ) → Contains (flat_map target_names run.plan.sources) name → parts name ≡ []
  pub installed : count_by is_installed log.verdicts ≡ count_by (λ source. is_gotten before source (new_set mirror before parts source run.settings run.change run.moment)) run.plan.sources
  pub asks : length log.asks ≡ sum_by (asks_for mirror before parts run.settings run.change run.moment) run.plan.sources
  pub next : IsNext mirror before parts run.plan run.settings run.change run.moment after

-- over a disk that tells, was synced and had nothing on its way, and one method over a mirror, which counts no fault
pub record IsFaultless (mirror : MirrorMap) (before after : Engine) : Type 0 where
  pub world : before.mirrors ≡ Some mirror ∷ []
  pub none : before.faults ≡ 0 ∷ []
  pub still_none : after.faults ≡ 0 ∷ []
  pub synced : ToldAs IsSynced before.trace
  pub files : Files
  pub shown : IsShown true files before.trace
  pub clear : IsClear files
  pub told : IsTold after.trace
  pub sound : AllSound after.trace

-- the log tells the day, and the disk is at rest with the lists that it stands for
abbrev pub LogsTellDays : Type 0
LogsTellDays =
    (mirror : MirrorMap) (run : Run) (before after : Engine) (log : RunLog)
    → LogIsTrue run before after log → length log.verdicts ≡ length run.plan.sources → IsFaultless mirror before after
    → TellsDay mirror run (installed_now before.trace) (installed_now after.trace) log × ToldAs (IsAtRest (installed_now after.trace)) after.trace
