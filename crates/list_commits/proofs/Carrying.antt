-- What a commit makes of the lists, group by group.
use Rattle.std.proofs.Common.{◌≡◌, refl, sym, ap, ◌∙◌, subst, ℕ, Bool, true, false, if◌then◌else◌, List, [], ◌∷◌, Option, Some, None}
use Rattle.std.specs.List.{AllByRecursion as Each}
use Rattle.acq_base.specs.declared.plan.Source.{Source}
use Rattle.acq_outside.specs.Disk.{Files, with_file}
use Rattle.journal_model.specs.Names.{is_installed_name}
use Rattle.journal_model.specs.Reopen.{installed_files}
use Rattle.journal_model.proofs.Twice.{with_other}
use Rattle.update_model.specs.declared.settled.Settled.{Settled}
use Rattle.commit_journal.specs.declared.changing.Change.{Change}
use Rattle.commit_journal.specs.Changes.{Filled, PutFile, DropFile, filled, filled_all, folder_step, folder_steps, after_commit}
use Rattle.list_commits.specs.Changes.{changes_for, drops_for}
use Rattle.list_commits.specs.RecordLaws.{group_of, groups_of}
use Rattle.list_commits.specs.CarryLaws.{AreCarried}
use Rattle.list_commits.specs.SetLaws.{HasInstalledFilesAlone, HasPutNames, HaveSums, OwnsChanges}
use Rattle.list_commits.proofs.Gone.{cleans_up}
use Rattle.list_commits.proofs.Owned.{sets_made}

-- one step
alone_with : (folder : Files) (name : List ℕ) (content : Option (List ℕ)) → HasInstalledFilesAlone folder → HasInstalledFilesAlone (if is_installed_name name then with_file folder name content else folder)
alone_with folder name content alone other aside = by (is_installed_name name) refl
  where
    by : (t : Bool) → is_installed_name name ≡ t → (if t then with_file folder name content else folder) other ≡ None
    by true list = with_other folder name content other (λ same. let wrong : true ≡ false = sym list ∙ ap is_installed_name same ∙ aside in absurd cc) ∙ alone other aside
    by false not_list = alone other aside

alone_step : (folder : Files) (change : Filled) → HasInstalledFilesAlone folder → HasInstalledFilesAlone (folder_step folder change)
alone_step folder (PutFile name bytes) alone = alone_with folder name (Some bytes) alone
alone_step folder (DropFile name) alone = alone_with folder name None alone

alone_steps : (changes : List Filled) (folder : Files) → HasInstalledFilesAlone folder → HasInstalledFilesAlone (folder_steps changes folder)
alone_steps [] folder alone = alone
alone_steps (change ∷ changes) folder alone = alone_steps changes (folder_step folder change) (alone_step folder change alone)

pub alone_all : (commit : List (List Filled)) (folder : Files) → HasInstalledFilesAlone folder → HasInstalledFilesAlone (after_commit commit folder)
unfolding after_commit
alone_all [] folder alone = alone
alone_all (group ∷ commit) folder alone = alone_all commit (folder_steps group folder) (alone_steps group folder alone)

pub lists_alone : (files : Files) → HasInstalledFilesAlone (installed_files files)
lists_alone files name aside = rw aside refl

-- all groups
first_group : (part : List ℕ → List ℕ) (group : List Change) (groups : List (List Change)) (folder : Files) → after_commit (filled_all part (group ∷ groups)) folder ≡ after_commit (filled_all part groups) (folder_steps (filled part group) folder)
unfolding after_commit filled_all
first_group part group groups folder = refl

no_group : (part : List ℕ → List ℕ) (folder : Files) → after_commit (filled_all part []) folder ≡ folder
unfolding after_commit filled_all
no_group part folder = refl

clean_up : (part : List ℕ → List ℕ) (loose : Option (List (List ℕ))) (folder : Files) → HasInstalledFilesAlone folder → AreCarried [] loose folder (after_commit (filled_all part (group_of loose)) folder)
clean_up part None folder alone = no_group part folder
clean_up part (Some names) folder alone =
    subst (AreCarried [] (Some names) folder) (sym (first_group part (drops_for names) [] folder ∙ no_group part (folder_steps (filled part (drops_for names)) folder))) (cleans_up part names folder alone)

pub carried_all : (part : List ℕ → List ℕ) (gathered : List (Source × Settled)) (loose : Option (List (List ℕ))) (folder : Files) → Each (λ one. HasPutNames one.0) gathered → Each (λ one. OwnsChanges one.0 one.1) gathered → Each (λ one. HaveSums part one.1) gathered → HasInstalledFilesAlone folder
    → AreCarried gathered loose folder (after_commit (filled_all part (groups_of gathered loose)) folder)
carried_all part [] loose folder put own have alone = clean_up part loose folder alone
carried_all part (one ∷ gathered) loose folder put own have alone =
    let between : Files = folder_steps (filled part (changes_for one.0 one.1)) folder in (
      between,
      sets_made part one.0 one.1 folder put.0 own.0 have.0,
      subst (AreCarried gathered loose between) (sym (first_group part (changes_for one.0 one.1) (groups_of gathered loose) folder))
          (carried_all part gathered loose between put.1 own.1 have.1 (alone_steps (filled part (changes_for one.0 one.1)) folder alone)),
    )
