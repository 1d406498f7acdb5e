-- A folder in which nothing is on its way.
use Rattle.std.specs.Prelude.{◌≡◌, ℕ, List, None}
use Rattle.acq_outside.specs.Disk.{Files}
use Rattle.journal_model.specs.Names.{journal, partial}
use Rattle.journal_model.specs.Reading.{journal_state_in}
use Rattle.journal_model.specs.declared.step.JournalState.TheVariants.{Shut}

-- no list is on its way, and the journal has no record
pub record IsClear (files : Files) : Type 0 where
  pub parts : (name : List ℕ) → files (partial name) ≡ None
  pub shut : journal_state_in (files journal) ≡ Shut
