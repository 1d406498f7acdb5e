-- The names of a source's lists, as names of a folder and of a record.
use Rattle.std.specs.Prelude.{◌≡◌, ◌≢◌, ℕ, true, All, Contains, List}
use Rattle.acq_base.specs.Plan.{IsPlanned, names_of}
use Rattle.acq_base.specs.declared.plan.Source.{Source}
use Rattle.journal_model.specs.Names.{IsPutName, is_installed_name, partial}

-- a record may put a list under each of them
abbrev pub PlannedNamesArePutNames : Type 0
PlannedNamesArePutNames = (source : Source) → IsPlanned source → All IsPutName (names_of source)

-- each is the name of a list: that of a file in the folder, neither the lock nor the journal, nor that of a list on its way
abbrev pub PlannedNamesAreLists : Type 0
PlannedNamesAreLists = (source : Source) → IsPlanned source → All (λ name. is_installed_name name ≡ true) (names_of source)

-- and none is the name of any list on its way
abbrev pub PartialNamesAreOthers : Type 0
PartialNamesAreOthers = (source : Source) → IsPlanned source → (name other : List ℕ) → Contains (names_of source) name → partial other ≢ name
