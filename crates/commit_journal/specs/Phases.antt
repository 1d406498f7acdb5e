-- The states between the calls of an opening.
use Rattle.std.specs.Prelude.{◌≡◌, ◌≢◌, ◌⊎◌, ℕ, true, List, [], ◌∷◌, Option, Some, None}
use Rattle.acq_outside.specs.Disk.{Files, after_write, after_cut, after_rename}
use Rattle.acq_outside.specs.Crash.{State, names_of, file_at, synced}
use Rattle.acq_outside.specs.declared.state.NameChange.TheVariants.{Made}
use Rattle.acq_outside.specs.declared.change.DiskCall.{DiskCall}
use Rattle.acq_outside.specs.declared.change.DiskCall.TheVariants.{Rename, Remove}
use Rattle.journal_model.specs.Names.{journal, new_journal, partial}
use Rattle.journal_model.specs.Steps.{after_steps, IsNamedStep, Touches, IsIn, AreOf}
use Rattle.journal_model.specs.Reading.{journal_state_of}
use Rattle.journal_model.specs.Rest.{IsQuiet}
use Rattle.journal_model.specs.declared.step.Step.{Step}
use Rattle.journal_model.specs.declared.step.Step.TheVariants.{Put, Drop}
use Rattle.journal_model.specs.declared.step.JournalState.{JournalState}
use Rattle.journal_model.specs.declared.step.JournalState.TheVariants.{Open, Damaged, Shut}
use Rattle.commit_journal.specs.Opening.{is_no_journal}
use Rattle.commit_journal.specs.declared.opening.FirstByte.{FirstByte}
use Rattle.commit_journal.specs.declared.opening.FirstByte.TheVariants as first

-- no change of names is pending
abbrev pub NoNamePending : State → Type 0
NoNamePending s = s.pending ≡ []

-- and what reads give of the journal lasts
pub record IsJournalSynced (s : State) : Type 0 where
  pub unmoved : s.pending ≡ []
  pub lasts : (i : ℕ) → s.base journal ≡ Some i → file_at s.files i ≡ synced (file_at s.files i).seen

-- the first byte of the journal, as it was read
abbrev pub IsFirst : FirstByte → Option (List ℕ) → Type 0
IsFirst first.Shut content = (rest : List ℕ) × (content ≡ Some (0 ∷ rest))
IsFirst first.Open content = (rest : List ℕ) × (content ≡ Some (1 ∷ rest))
IsFirst first.Other content = is_no_journal content ≡ true

-- what a byte that was read says of the first byte, where n bytes were read
abbrev pub IsFirstOf : ℕ → ℕ → FirstByte → Type 0
IsFirstOf n gate first.Shut = (n ≢ 0) × (gate ≡ 0)
IsFirstOf n gate first.Open = (n ≢ 0) × (gate ≡ 1)
IsFirstOf n gate first.Other = (n ≡ 0) ⊎ ((gate ≢ 0) × (gate ≢ 1))

-- the journal is there with these bytes, which last and say these steps
pub record HasOpenRecord (steps : List Step) (s : State) : Type 0 where
  pub number : ℕ
  pub leads : s.base journal ≡ Some number
  pub bytes : List ℕ
  pub file : file_at s.files number ≡ synced bytes
  pub gate : journal_state_of bytes ≡ Open steps

-- some of the steps are done as reads give it
pub record IsCarrying (steps done : List Step) (s : State) : Type 0 where
  pub says : HasOpenRecord steps s
  pub pending : AreOf steps s.pending
  pub names : names_of s ≡ after_steps s.base done

-- all are done, and last
pub record IsDone (steps : List Step) (s : State) : Type 0 where
  pub says : HasOpenRecord steps s
  pub unmoved : s.pending ≡ []
  pub done : after_steps s.base steps ≡ s.base

-- the gate is being shut
pub record IsGateBeingShut (s : State) : Type 0 where
  pub unmoved : s.pending ≡ []
  pub number : ℕ
  pub leads : s.base journal ≡ Some number
  pub body : List ℕ
  pub seen : (file_at s.files number).seen ≡ 0 ∷ body

-- A new journal is made beside one that isn't open, or where there is none.
pub record HasNoOpenGate (s : State) : Type 0 where
  pub quiet : IsQuiet s
  pub unmoved : s.pending ≡ []

-- nothing is pending, or that the new file is made
pub record IsMakingJournal (s : State) : Type 0 where
  pub quiet : IsQuiet s
  pub made : (s.pending ≡ []) ⊎ ((i : ℕ) × (s.pending ≡ Made new_journal i ∷ []) × (s.base new_journal ≡ None))

-- the new file reads so
pub record HasNewJournal (content : List ℕ) (s : State) : Type 0 where
  pub may : IsMakingJournal s
  pub number : ℕ
  pub leads : names_of s new_journal ≡ Some number
  pub seen : (file_at s.files number).seen ≡ content

-- and it lasts
pub record HasNewJournalSynced (s : State) : Type 0 where
  pub may : IsMakingJournal s
  pub number : ℕ
  pub leads : names_of s new_journal ≡ Some number
  pub file : file_at s.files number ≡ synced (0 ∷ [])

-- it has the journal's name as reads give it
pub record IsNamed (s : State) : Type 0 where
  pub number : ℕ
  pub leads : names_of s journal ≡ Some number
  pub file : file_at s.files number ≡ synced (0 ∷ [])

-- the call that carries a step out
abbrev pub call_of : Step → DiskCall
call_of (Put list) = Rename (partial list) list
call_of (Drop list) = Remove list

-- each step's names are those of a disk
abbrev pub AllNamed : List Step → Type 0
AllNamed [] = Unit {0}
AllNamed (step ∷ steps) = IsNamedStep step × AllNamed steps

-- so are those of the record behind an open gate
abbrev pub NamesSteps : JournalState → Type 0
NamesSteps (Open steps) = AllNamed steps
NamesSteps (Damaged at) = Unit {0}
NamesSteps Shut = Unit {0}

-- Whose files calls may change.

-- the journal, and what the steps change
abbrev pub IsOfCommit : List Step → List ℕ → Type 0
IsOfCommit steps name = (name ≡ journal) ⊎ ((step : Step) × IsIn step steps × Touches step name)

-- the journal, and where a new one is made
abbrev pub IsOfMaking : List ℕ → Type 0
IsOfMaking name = (name ≡ journal) ⊎ (name ≡ new_journal)

-- What reads give after an opening's last calls.

-- the gate's byte written as 0
abbrev pub shut_files : Files → Files
shut_files files = after_write files journal 0 (0 ∷ [])

-- a new journal made
abbrev pub made_files : Files → Files
made_files files = after_rename (after_write (after_cut files new_journal 0) new_journal 0 (0 ∷ [])) new_journal journal
