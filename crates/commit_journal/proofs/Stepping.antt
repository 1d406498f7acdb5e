-- What a record carried out makes of the lists.
use Rattle.std.proofs.Common.{◌≡◌, ◌≢◌, inl, inr, refl, sym, ap, ◌∙◌, subst, ℕ, Bool, true, false, if◌then◌else◌, List, [], ◌∷◌, ◌++◌, Option, Some, None, option_map}
use Rattle.std.proofs.Math.Path.{fun_ext}
use Rattle.std.proofs.lemmas.Slice.Eq.{bytes_eq-Decides}
use Rattle.acq_outside.specs.Disk.{Files, same_name, with_file}
use Rattle.acq_outside.specs.Crash.{State, Names, IsOutcome, IsImage, file_at, all_renamed, synced}
use Rattle.acq_outside.proofs.Outcomes.{only_synced}
use Rattle.acq_outside.proofs.Crashes.{none_of_none}
use Rattle.acq_outside.specs.declared.state.FileState.{FileState}
use Rattle.acq_outside.specs.declared.state.NameChange.{NameChange}
use Rattle.journal_model.specs.Names.{partial, is_installed_name}
use Rattle.journal_model.specs.Spelling.{all_steps}
use Rattle.journal_model.specs.Steps.{moved_at, after_step, after_steps, Touches}
use Rattle.journal_model.specs.Reopen.{installed_files}
use Rattle.journal_model.specs.Rest.{file_named}
use Rattle.journal_model.proofs.Twice.{with_same, with_other, step_untouched}
use Rattle.journal_model.proofs.Views.{apart_names, partial_aside, list_not_aside, settled_names}
use Rattle.journal_model.specs.declared.step.Step.{Step}
use Rattle.commit_journal.specs.declared.changing.Change.{Change}
use Rattle.commit_journal.specs.declared.changing.Change.TheVariants.{Put, Drop}
use Rattle.commit_journal.specs.Changes.{Filled, PutFile, DropFile, content_of, filled_one, filled, filled_all, folder_step, folder_steps, after_commit, step_of, steps_of, steps_in, all_changes, touched_one, changed_names, AreApart, CanRecord}
use Rattle.commit_journal.specs.Recorded.{HasPutFile, HasPutFiles}
use Rattle.commit_journal.specs.Commits.{parts_of, ArePutsPrepared}
use Rattle.commit_journal.proofs.Recordable.{all_in, away_first, Away}
use Rattle.commit_journal.proofs.Parted.{away_rest}

untouched_part : (change : Change) (name : List ℕ) (names : List (List ℕ)) → Away (touched_one change) (partial name ∷ names) → Touches (step_of change) (partial name) → ⊥
untouched_part (Put own content) name names away (inl is) = away.0.0 is
untouched_part (Put own content) name names away (inr is) = away.1.0.0 is
untouched_part (Drop own) name names away is = away.0.0 is

holds_after : (part : List ℕ → List ℕ) (files : Files) (change : Change) (changes : List Change) → Away (touched_one change) (changed_names changes) → HasPutFiles part files changes → HasPutFiles part (after_step files (step_of change)) changes
holds_after part files change [] away holds = tt
holds_after part files change (Put name content ∷ changes) away holds =
    let later = away_rest (touched_one change) name.0 (partial name.0 ∷ changed_names changes) away in (
      step_untouched files (step_of change) (partial name.0) (untouched_part change name.0 (changed_names changes) later) ∙ holds.0,
      holds_after part files change changes (away_rest (touched_one change) (partial name.0) (changed_names changes) later) holds.1,
    )
holds_after part files change (Drop name ∷ changes) away holds = (tt, holds_after part files change changes (away_rest (touched_one change) name (changed_names changes) away) holds.1)

-- one change, at a list's name
abbrev Same : Files → Files → Type 0
Same a b = (name : List ℕ) → is_installed_name name ≡ true → a name ≡ b name

put_case : (files folder : Files) (own bytes name : List ℕ) (t : Bool) → is_installed_name own ≡ t → is_installed_name name ≡ true → files name ≡ folder name → (s : Bool) → same_name own name ≡ s
    → (if s then Some bytes else (if same_name (partial own) name then None else files name)) ≡ (if t then with_file folder own (Some bytes) else folder) name
put_case files folder own bytes name true own_list list same true is = sym (with_same folder own (Some bytes) name ((bytes_eq-Decides own name).0 is))
put_case files folder own bytes name true own_list list same false is =
    ap (λ (b : Bool). if b then None else files name) (other_name (partial own) name (apart_names (partial own) name (partial_aside own) (list_not_aside name list))) ∙ same
    ∙ sym (with_other folder own (Some bytes) name (λ eq. let yes : same_name own name ≡ true = (bytes_eq-Decides own name).1 eq in cc))
  where
    other_name : (a b : List ℕ) → a ≢ b → same_name a b ≡ false
    other_name a b differ = by (same_name a b) refl
      where
        by : (t : Bool) → same_name a b ≡ t → same_name a b ≡ false
        by true eq = absurd (differ ((bytes_eq-Decides a b).0 eq))
        by false eq = eq
put_case files folder own bytes name false own_list list same true is =
    let clash : is_installed_name own ≡ true = subst (λ (n : List ℕ). is_installed_name n ≡ true) (sym ((bytes_eq-Decides own name).0 is)) list in absurd cc
put_case files folder own bytes name false own_list list same false is =
    ap (λ (b : Bool). if b then None else files name) (other_name (partial own) name (apart_names (partial own) name (partial_aside own) (list_not_aside name list))) ∙ same
  where
    other_name : (a b : List ℕ) → a ≢ b → same_name a b ≡ false
    other_name a b differ = by (same_name a b) refl
      where
        by : (t : Bool) → same_name a b ≡ t → same_name a b ≡ false
        by true eq = absurd (differ ((bytes_eq-Decides a b).0 eq))
        by false eq = eq

drop_case : (files folder : Files) (own name : List ℕ) (t : Bool) → is_installed_name own ≡ t → is_installed_name name ≡ true → files name ≡ folder name → (s : Bool) → same_name own name ≡ s
    → (if s then None else files name) ≡ (if t then with_file folder own None else folder) name
drop_case files folder own name true own_list list same true is = sym (with_same folder own None name ((bytes_eq-Decides own name).0 is))
drop_case files folder own name true own_list list same false is = same ∙ sym (with_other folder own None name (λ eq. let yes : same_name own name ≡ true = (bytes_eq-Decides own name).1 eq in cc))
drop_case files folder own name false own_list list same true is =
    let clash : is_installed_name own ≡ true = subst (λ (n : List ℕ). is_installed_name n ≡ true) (sym ((bytes_eq-Decides own name).0 is)) list in absurd cc
drop_case files folder own name false own_list list same false is = same

same_after : (part : List ℕ → List ℕ) (files folder : Files) (change : Change) → HasPutFile part files change → Same files folder → Same (after_step files (step_of change)) (folder_step folder (filled_one part change))
same_after part files folder (Put own content) holds same name list =
    ap (λ (o : Option (List ℕ)). moved_at files (partial own.0) own.0 o name) holds
    ∙ put_case files folder own.0 (content_of part own.0 content) name (is_installed_name own.0) refl list (same name list) (same_name own.0 name) refl
same_after part files folder (Drop own) holds same name list = drop_case files folder own name (is_installed_name own) refl list (same name list) (same_name own name) refl

-- all of them
pub same_carried : (part : List ℕ → List ℕ) (files folder : Files) (changes : List Change) → AreApart (changed_names changes) → HasPutFiles part files changes → Same files folder → Same (after_steps files (steps_of changes)) (folder_steps (filled part changes) folder)
same_carried part files folder [] apart holds same = same
same_carried part files folder (change ∷ changes) apart holds same =
    let first = away_first change changes apart in
    same_carried part (after_step files (step_of change)) (folder_step folder (filled_one part change)) changes first.1 (holds_after part files change changes first.0 holds.1) (same_after part files folder change holds.0 same)

-- a name that is no list's stays without content
abbrev NoOthers : Files → Type 0
NoOthers folder = (name : List ℕ) → is_installed_name name ≡ false → folder name ≡ None

set_others : (folder : Files) (own : List ℕ) (content : Option (List ℕ)) (t : Bool) → is_installed_name own ≡ t → NoOthers folder → NoOthers (if t then with_file folder own content else folder)
set_others folder own content true own_list none name other =
    with_other folder own content name (λ same. let clash : is_installed_name name ≡ true = subst (λ (n : List ℕ). is_installed_name n ≡ true) same own_list in cc) ∙ none name other
set_others folder own content false own_list none name other = none name other

step_others : (folder : Files) (change : Filled) → NoOthers folder → NoOthers (folder_step folder change)
step_others folder (PutFile own bytes) none = set_others folder own (Some bytes) (is_installed_name own) refl none
step_others folder (DropFile own) none = set_others folder own None (is_installed_name own) refl none

steps_others : (folder : Files) (changes : List Filled) → NoOthers folder → NoOthers (folder_steps changes folder)
steps_others folder [] none = none
steps_others folder (change ∷ changes) none = steps_others (folder_step folder change) changes (step_others folder change none)

lists_others : (files : Files) → NoOthers (installed_files files)
lists_others files name other = rw other refl

lists_of_lists : (files folder : Files) → NoOthers folder → Same files folder → installed_files files ≡ folder
lists_of_lists files folder none same = fun_ext (λ name. at name (is_installed_name name) refl)
  where
    at : (name : List ℕ) (t : Bool) → is_installed_name name ≡ t → (if t then files name else None) ≡ folder name
    at name true list = same name list
    at name false other = sym (none name other)

lists_at : (files folder : Files) → installed_files files ≡ folder → Same files folder
lists_at files folder is name list = sym (ap (λ (b : Bool). if b then files name else None) list) ∙ ap (λ (f : Files). f name) is

-- groups one after another
steps_joined : (a b : List Filled) (folder : Files) → folder_steps (a ++ b) folder ≡ folder_steps b (folder_steps a folder)
steps_joined [] b folder = refl
steps_joined (c ∷ a) b folder = steps_joined a b (folder_step folder c)

filled_joined : (part : List ℕ → List ℕ) (a b : List Change) → filled part (a ++ b) ≡ filled part a ++ filled part b
filled_joined part [] b = refl
filled_joined part (c ∷ a) b = ap (λ (l : List Filled). filled_one part c ∷ l) (filled_joined part a b)

pub stepped_whole : (part : List ℕ → List ℕ) (groups : List (List Change)) (folder : Files) → after_commit (filled_all part groups) folder ≡ folder_steps (filled part (all_changes groups)) folder
unfolding after_commit filled_all
stepped_whole part [] folder = refl
stepped_whole part (group ∷ groups) folder =
    stepped_whole part groups (folder_steps (filled part group) folder)
    ∙ sym (ap (λ (l : List Filled). folder_steps l folder) (filled_joined part group (all_changes groups)) ∙ steps_joined (filled part group) (filled part (all_changes groups)) folder)

-- the lists of files that hold all that the record puts, after it
pub lists_after : (part : List ℕ → List ℕ) (files folder : Files) (groups : List (List Change)) → CanRecord groups → HasPutFiles part files (all_changes groups) → installed_files files ≡ folder
    → installed_files (after_steps files (all_steps (steps_in groups))) ≡ after_commit (filled_all part groups) folder
lists_after part files folder groups can holds is =
    ap (λ (l : List Step). installed_files (after_steps files l)) (all_in groups)
    ∙ lists_of_lists (after_steps files (steps_of (all_changes groups))) (folder_steps (filled part (all_changes groups)) folder)
    (steps_others folder (filled part (all_changes groups)) (subst NoOthers is (lists_others files)))
    (same_carried part files folder (all_changes groups) can.apart holds (lists_at files folder is))
    ∙ sym (stepped_whole part groups folder)

-- a file that lasts is shown
shown_at : (s : State) (image : Files) (is : IsImage s image) (bytes : List ℕ) (o : Option ℕ) → option_map (file_at s.files) o ≡ Some (synced bytes) → option_map is.bytes o ≡ Some bytes
shown_at s image is bytes None holds = absurd cc
shown_at s image is bytes (Some i) holds =
    let file : file_at s.files i ≡ synced bytes = cc in
    ap (λ (b : List ℕ). Some b) (only_synced bytes (is.bytes i) (subst (λ (f : FileState). IsOutcome f (is.bytes i)) file (is.outcomes i)))

pub synced_shown : (s : State) (image : Files) → IsImage s image → s.pending ≡ [] → (name bytes : List ℕ) → file_named s name ≡ Some (synced bytes) → image name ≡ Some bytes
synced_shown s image is unmoved name bytes holds =
    is.shows name
    ∙ ap (λ (l : List NameChange). option_map is.bytes (all_renamed s.base l name)) (none_of_none is.some s.pending is.part unmoved)
    ∙ shown_at s image is bytes (s.base name) (ap (λ (m : Names). option_map (file_at s.files) (m name)) (sym (settled_names s unmoved)) ∙ holds)

pub laid_out_shown : (s : State) (image : Files) → IsImage s image → s.pending ≡ [] → (changes : List Change) → ArePutsPrepared changes s → HasPutFiles (parts_of s) image changes
laid_out_shown s image is unmoved [] laid = tt
laid_out_shown s image is unmoved (Put name content ∷ changes) laid =
    (synced_shown s image is unmoved (partial name.0) (content_of (parts_of s) name.0 content) laid.0.is, laid_out_shown s image is unmoved changes laid.1)
laid_out_shown s image is unmoved (Drop name ∷ changes) laid = (tt, laid_out_shown s image is unmoved changes laid.1)
