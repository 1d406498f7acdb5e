-- The numbers of the refusals.
use Rattle.std.specs.Prelude.{ℕ}
use Rattle.commit_journal.specs.declared.error.JournalError.{JournalError}
use Rattle.commit_journal.specs.declared.error.JournalError.TheVariants.{DiskFault, BadJournal, NoMemory}

abbrev pub refusal_number : JournalError → ℕ
refusal_number DiskFault = 31
refusal_number (BadJournal at) = 32
refusal_number NoMemory = 0
