-- Why a run gives no log.
use Rattle.std.specs.Prelude.{ℕ}
use Rattle.acq_outside.specs.declared.fault.OutError.{OutError}
use Rattle.acq_outside.specs.declared.fault.OutError.TheVariants as outside
use Rattle.commit_journal.specs.declared.error.JournalError.{JournalError}
use Rattle.commit_journal.specs.declared.error.JournalError.TheVariants as journal
use Rattle.run_jobs.specs.declared.error.RunError.{RunError}
use Rattle.run_jobs.specs.declared.error.RunError.TheVariants as run

-- of an outside object's failure
abbrev pub run_error_of : OutError → RunError
run_error_of outside.Fault = run.DiskFault
run_error_of outside.NoMemory = run.NoMemory

-- of the journal's
abbrev pub run_error_for : JournalError → RunError
run_error_for journal.DiskFault = run.DiskFault
run_error_for (journal.BadJournal at) = run.BadJournal at
run_error_for journal.NoMemory = run.NoMemory

-- the numbers of the refusals
abbrev pub refusal_number : RunError → ℕ
refusal_number run.DiskFault = 31
refusal_number (run.BadJournal at) = 32
refusal_number run.NoMemory = 0
