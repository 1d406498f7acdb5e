-- What the changes of a settled source, and those of a clean-up, make of the lists.
use Rattle.std.specs.Prelude.{◌≡◌, ◌≢◌, ℕ, true, false, All, List, AllPairs, Contains, None, Ok}
use Rattle.std.specs.List.{AllByRecursion as Each}
use Rattle.acq_base.specs.Plan.{names_of}
use Rattle.acq_base.specs.Sum.{sum_of}
use Rattle.acq_base.specs.declared.plan.Plan.{Plan}
use Rattle.acq_base.specs.declared.plan.Source.{Source}
use Rattle.acq_base.specs.declared.uri.ListName.{ListName}
use Rattle.acq_outside.specs.Disk.{Files}
use Rattle.journal_model.specs.Names.{IsPutName, is_installed_name, partial}
use Rattle.journal_model.specs.Reopen.{installed_files}
use Rattle.update_model.specs.Carried.{AreLoose, Does}
use Rattle.update_model.specs.Next.{OutcomeLeaves, Installs, CleansUp}
use Rattle.update_model.specs.Outcomes.{AdmittedRelease}
use Rattle.update_model.specs.declared.ask.Body.{Body}
use Rattle.update_model.specs.declared.ask.Body.TheVariants.{Bytes, Staged}
use Rattle.update_model.specs.declared.settled.Settled.{Settled}
use Rattle.board_model.specs.Changes.{AreMade, touched}
use Rattle.commit_journal.specs.Changes.{filled, folder_steps}
use Rattle.list_commits.specs.Changes.{changes_for, drops_for}
use Rattle.list_commits.specs.Loose.{AreLooseNames}

-- the names of a source as those of a planned one are: a record may put a list under each, each is that of a list, and none
-- is that of any list on its way
pub record HasPutNames (source : Source) : Type 0 where
  pub put : All IsPutName (names_of source)
  pub listed : All (λ name. is_installed_name name ≡ true) (names_of source)
  pub others : (name other : List ℕ) → Contains (names_of source) name → partial other ≢ name

-- a source's changes touch its names alone, and none of them twice
pub record OwnsChanges (source : Source) (settled : Settled) : Type 0 where
  pub own : (name : List ℕ) → Contains (touched source settled) name → Contains (names_of source) name
  pub apart : AllPairs (λ a b. a ≢ b) (touched source settled)

-- a list on its way has the sum of the file that came
abbrev pub HasSum : (List ℕ → List ℕ) → ListName → Body → Type 0
HasSum part name (Bytes bytes) = Unit {0}
HasSum part name (Staged sum) = sum_of (part name.0) ≡ sum

abbrev pub HaveSums : (List ℕ → List ℕ) → Settled → Type 0
HaveSums part settled = Each (λ put. HasSum part put.0 put.1) settled.puts

-- no file but lists
abbrev pub HasInstalledFilesAlone : Files → Type 0
HasInstalledFilesAlone folder = (name : List ℕ) → is_installed_name name ≡ false → folder name ≡ None

-- ---- laws

-- the changes of a source make its set of what is on its way
abbrev pub ChangesMakeSets : Type 0
ChangesMakeSets =
    (part : List ℕ → List ℕ) (source : Source) (settled : Settled) (folder : Files)
    → HasPutNames source → OwnsChanges source settled → HaveSums part settled
    → AreMade source settled folder (folder_steps (filled part (changes_for source settled)) folder)

-- where they leave a new set, they install it and do nothing else
abbrev pub MadeSetsAreInstalled : Type 0
MadeSetsAreInstalled =
    (source : Source) (settled : Settled) (set : AdmittedRelease) (before after : Files)
    → OwnsChanges source settled → AreMade source settled before after → OutcomeLeaves (Ok set) source before after
    → Does (Installs source set) before after

-- the changes of a clean-up remove its names, and nothing else
abbrev pub DropsCleanUp : Type 0
DropsCleanUp =
    (part : List ℕ → List ℕ) (names : List (List ℕ)) (folder : Files)
    → HasInstalledFilesAlone folder → Does (CleansUp names) folder (folder_steps (filled part (drops_for names)) folder)

-- the names of no source that a disk has are loose names of its lists
abbrev pub LooseNamesAreLoose : Type 0
LooseNamesAreLoose =
    (files : Files) (plan : Plan) (names : List (List ℕ)) → AreLooseNames files plan.sources names → AreLoose (installed_files files) plan names
