-- With what a run begins.
use Rattle.std.specs.Prelude.{All, List}
use Rattle.acq_base.specs.Plan.{IsPlanned}
use Rattle.acq_base.specs.declared.installed.Old.{Old}
use Rattle.acq_outside.specs.Disk.{Files}
use Rattle.board_model.specs.NameLaws.{AreNamedApart}
use Rattle.board_model.specs.RunLaws.{IsBegunOver}
use Rattle.board_model.specs.Slots.{Setup}
use Rattle.list_commits.specs.SetLaws.{HasInstalledFilesAlone}
use Rattle.update_model.specs.Outcomes.{PartFiles}

-- the board's configuration, what was installed of each source, and the lists on their way
pub record RunInput : Type 0 where
  pub config : Setup
  pub olds : List Old
  pub parts : PartFiles

-- the plan is sound, and what is installed are these lists
pub record ReadsPlanned (begun : RunInput) (lists : Files) : Type 0 where
  pub planned : All IsPlanned begun.config.sources
  pub apart : AreNamedApart begun.config
  pub over : IsBegunOver begun.config begun.olds lists begun.parts
  pub alone : HasInstalledFilesAlone lists
