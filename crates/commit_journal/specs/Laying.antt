-- The states between the calls of a preparation.
use Rattle.std.specs.Prelude.{◌≡◌, ℕ, List, [], ◌∷◌, Some}
use Rattle.acq_outside.specs.Crash.{State, file_at, synced}
use Rattle.journal_model.specs.Names.{journal}
use Rattle.journal_model.specs.Rest.{IsIdle, IsPartSynced, file_now}
use Rattle.commit_journal.specs.declared.changing.Change.{Change}
use Rattle.commit_journal.specs.declared.changing.Change.TheVariants.{Put, Drop}
use Rattle.commit_journal.specs.Changes.{content_of, IsNone}

-- what a Put puts is there with these bytes of lists on their way, and lasts
abbrev pub IsFilledFrom : (List ℕ → List ℕ) → State → Change → Type 0
IsFilledFrom part s (Put name content) = IsPartSynced name.0 (content_of part name.0 content) s
IsFilledFrom part s (Drop name) = Unit {0}

abbrev pub AreFilledFrom : (List ℕ → List ℕ) → List Change → State → Type 0
AreFilledFrom part [] s = Unit {0}
AreFilledFrom part (change ∷ changes) s = IsFilledFrom part s change × AreFilledFrom part changes s

-- the files of all names but these stay, and so does what lasts of them
abbrev pub KeepsUnnamedIn : List (List ℕ) → List State → List State → Type 0
KeepsUnnamedIn names old new = (other : List ℕ) → IsNone other names → file_now new other ≡ file_now old other

-- a commit may be prepared, and no change of names is pending
pub record IsIdleUnmoved (s : State) : Type 0 where
  pub idle : IsIdle s
  pub unmoved : s.pending ≡ []

-- and the journal reads so
pub record HasRecordWritten (bytes : List ℕ) (s : State) : Type 0 where
  pub idle : IsIdle s
  pub unmoved : s.pending ≡ []
  pub seen : (i : ℕ) → s.base journal ≡ Some i → (file_at s.files i).seen ≡ bytes

-- and it lasts
pub record HasRecordSynced (bytes : List ℕ) (s : State) : Type 0 where
  pub unmoved : s.pending ≡ []
  pub number : ℕ
  pub leads : s.base journal ≡ Some number
  pub file : file_at s.files number ≡ synced bytes
