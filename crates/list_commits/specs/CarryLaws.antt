-- What one commit makes of the lists, group by group.
use Rattle.std.specs.Prelude.{◌≡◌, ℕ, List, [], ◌∷◌, Option, Some, None}
use Rattle.std.specs.List.{AllByRecursion as Each}
use Rattle.acq_base.specs.declared.plan.Source.{Source}
use Rattle.acq_outside.specs.Disk.{Files}
use Rattle.journal_model.specs.Reopen.{installed_files}
use Rattle.update_model.specs.Carried.{Does}
use Rattle.update_model.specs.Next.{CleansUp}
use Rattle.update_model.specs.declared.settled.Settled.{Settled}
use Rattle.board_model.specs.Changes.{AreMade}
use Rattle.commit_journal.specs.Changes.{Filled, filled_all, after_commit}
use Rattle.list_commits.specs.RecordLaws.{groups_of}
use Rattle.list_commits.specs.SetLaws.{HasInstalledFilesAlone, HasPutNames, HaveSums, OwnsChanges}

-- the sets of these sources are made one after another, and the clean-up is done behind them
abbrev pub AreCarried : List (Source × Settled) → Option (List (List ℕ)) → Files → Files → Type 0
AreCarried [] None before after = after ≡ before
AreCarried [] (Some names) before after = Does (CleansUp names) before after
AreCarried (one ∷ gathered) loose before after = (between : Files) × AreMade one.0 one.1 before between × AreCarried gathered loose between after

-- ---- laws

-- so does a commit of their groups, of what is on its way
abbrev pub GatheredAreCarried : Type 0
GatheredAreCarried =
    (part : List ℕ → List ℕ) (gathered : List (Source × Settled)) (loose : Option (List (List ℕ))) (folder : Files)
    → Each (λ one. HasPutNames one.0) gathered → Each (λ one. OwnsChanges one.0 one.1) gathered → Each (λ one. HaveSums part one.1) gathered → HasInstalledFilesAlone folder
    → AreCarried gathered loose folder (after_commit (filled_all part (groups_of gathered loose)) folder)

-- no commit puts a file that is no list's among the lists
abbrev pub CommitsKeepLists : Type 0
CommitsKeepLists = (commit : List (List Filled)) (folder : Files) → HasInstalledFilesAlone folder → HasInstalledFilesAlone (after_commit commit folder)

abbrev pub ListsAreAlone : Type 0
ListsAreAlone = (files : Files) → HasInstalledFilesAlone (installed_files files)
