-- What an opening finds, and what it keeps at every moment.
use Rattle.std.specs.Prelude.{◌≡◌, ◌≢◌, ◌⊎◌, ℕ, nat_eq, nat_lt, Bool, true, false, IsTrue, List, [], ◌∷◌, Option, Some, None, Result, Err, OnOk}
use Rattle.acq_outside.specs.Disk.{Files}
use Rattle.acq_outside.specs.Crash.{State}
use Rattle.acq_outside.specs.States.{IsNow, Since, From}
use Rattle.acq_outside.specs.declared.disk.Disk.{Ghosts}
use Rattle.journal_model.specs.Names.{journal, new_journal}
use Rattle.journal_model.specs.Reading.{journal_state_in}
use Rattle.journal_model.specs.Reopen.{ReopensAsAt, reopened}
use Rattle.journal_model.specs.Rest.{IsIdle, IsSynced, file_now}
use Rattle.journal_model.specs.Steps.{Touches, IsIn}
use Rattle.journal_model.specs.declared.step.Step.{Step}
use Rattle.journal_model.specs.declared.step.JournalState.{JournalState}
use Rattle.journal_model.specs.declared.step.JournalState.TheVariants.{Open, Damaged, Shut}
use Rattle.commit_journal.specs.declared.error.JournalError.{JournalError}
use Rattle.commit_journal.specs.declared.error.JournalError.TheVariants.{DiskFault, BadJournal, NoMemory}

-- each thing that a crash leaves at t reopens to what something that it might have left at s reopens to, and t is synced
-- where s is
pub record Recovers (s t : State) : Type 0 where
  pub images : ReopensAsAt s t
  pub synced : IsSynced s → IsSynced t

abbrev pub damage_at : JournalState → Option ℕ
damage_at (Open steps) = None
damage_at (Damaged at) = Some at
damage_at Shut = None

-- the place of the damage, where the gate is open before what is no record
abbrev pub damage_of : Files → Option ℕ
damage_of files = damage_at (journal_state_in (files journal))

-- no damage is told where there is none, and this one, or a fault or want of memory, where there is
abbrev pub FindsDamage : {T : Type 0} → Option ℕ → Result T JournalError → Type 0
FindsDamage None result = (at : ℕ) → result ≢ Err (BadJournal at)
FindsDamage (Some at) result = (result ≡ Err (BadJournal at)) ⊎ ((result ≡ Err DiskFault) ⊎ (result ≡ Err NoMemory))

-- byte 0 is 1
abbrev pub is_open : Option (List ℕ) → Bool
is_open None = false
is_open (Some []) = false
is_open (Some (gate ∷ body)) = nat_eq gate 1

-- Whose files an opening may change.

-- the files of all other names stay, and so does what lasts of them
pub record KeepsFilesBut (Own : List ℕ → Type 0) (old new : List State) : Type 0 where
  pub same : (name : List ℕ) → (Own name → ⊥) → file_now new name ≡ file_now old name

-- what a record behind an open gate changes
abbrev pub IsOfRecord : JournalState → List ℕ → Type 0
IsOfRecord (Open steps) name = (step : Step) × IsIn step steps × Touches step name
IsOfRecord (Damaged at) name = ⊥
IsOfRecord Shut name = ⊥

-- byte 0 is neither 0 nor 1, or isn't there
abbrev pub is_no_journal : Option (List ℕ) → Bool
is_no_journal None = true
is_no_journal (Some []) = true
is_no_journal (Some (gate ∷ body)) = nat_lt 1 gate

-- the journal, what the record changes that is carried out, and the place where a new journal is made, where one is
abbrev pub IsOfOpening : Option (List ℕ) → List ℕ → Type 0
IsOfOpening content name = (name ≡ journal) ⊎ (IsOfRecord (journal_state_in content) name ⊎ ((is_no_journal content ≡ true) × (name ≡ new_journal)))

-- What an opening promises.

-- A damage alone changes nothing and is told where it is; with no error, the lists are those that the files reopen to.
pub record Finds {D T : Type 0} (g : Ghosts D) (old new : D) (result : Result T JournalError) : Type 0 where
  pub unchanged : (at : ℕ) → result ≡ Err (BadJournal at) → g.files new ≡ g.files old
  pub lists : IsTrue (g.tells old) → OnOk result (reopened (g.files new) ≡ reopened (g.files old))
  pub damage : IsTrue (g.tells old) → FindsDamage (damage_of (g.files old)) result

-- It takes memory only where the gate is open. Stopped at any moment, it leaves to a crash nothing that isn't reopened as
-- before, and only files of an opening change; with no error a commit may be prepared.
pub record Opens {D T : Type 0} (g : Ghosts D) (old new : D) (result : Result T JournalError) : Type 0 where
  pub finds : Finds g old new result
  pub open finds use *
  pub thrifty : IsTrue (g.tells old) → is_open (g.files old journal) ≡ false → result ≢ Err NoMemory
  pub recovers : Since (g.trace old) (g.trace new) (From Recovers (g.trace old))
  pub others : IsTrue (g.tells old) → KeepsFilesBut (IsOfOpening (g.files old journal)) (g.trace old) (g.trace new)
  pub idle : OnOk result (IsNow IsIdle (g.trace new))
