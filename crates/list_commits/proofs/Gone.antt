-- What a clean-up makes of the lists, and which names it may take.
use Rattle.std.proofs.Common.{◌≡◌, ◌⊎◌, inl, inr, ⊎_elim, refl, sym, ap, ◌∙◌, subst, ℕ, Bool, true, false, if◌then◌else◌, List, [], ◌∷◌, Option, Some, None, Contains}
use Rattle.std.specs.Prelude.{is_some}
use Rattle.std.specs.List.{flat_map}
use Rattle.std.proofs.lemmas.Bool.{false≢true}
use Rattle.std.proofs.lemmas.List.Elements.{Contains-append_left, Contains-append_right, Contains-append_cases}
use Rattle.acq_base.specs.Plan.{names_of, plan_names}
use Rattle.acq_base.specs.declared.plan.Plan.{Plan}
use Rattle.acq_base.specs.declared.plan.Source.{Source}
use Rattle.acq_base.proofs.Lists.{first-or-rest}
use Rattle.acq_outside.specs.Disk.{Files, same_name, with_file}
use Rattle.journal_model.specs.Names.{journal, lock, partial, is_inside, is_own_name, is_installed_name}
use Rattle.journal_model.specs.Reopen.{installed_files}
use Rattle.journal_model.proofs.FolderNames.{list_inside}
use Rattle.journal_model.proofs.Twice.{with_same}
use Rattle.journal_model.proofs.Views.{list_not_aside, partial_aside}
use Rattle.update_model.specs.Carried.{AreLoose, Does}
use Rattle.update_model.specs.Next.{CleansUp}
use Rattle.board_model.proofs.Making.{none-in}
use Rattle.commit_journal.specs.Changes.{DropFile, filled, folder_step, folder_steps}
use Rattle.list_commits.specs.Changes.{drops_for}
use Rattle.list_commits.specs.Loose.{AreLooseNames, kept_names, kept_of, with_parts}
use Rattle.list_commits.specs.SetLaws.{HasInstalledFilesAlone}
use Rattle.list_commits.proofs.Apart.{here, none_if, there}
use Rattle.list_commits.proofs.Folding.{names_in, steps_beside}

pub names_gone : (names : List (List ℕ)) → names_in (drops_for names) ≡ names
names_gone [] = refl
names_gone (name ∷ names) = ap (λ (l : List (List ℕ)). name ∷ l) (names_gone names)

dropped_none : (folder : Files) (gone name : List ℕ) → folder name ≡ None → folder_step folder (DropFile gone) name ≡ None
dropped_none folder gone name none = by (is_installed_name gone)
  where
    absent : (t : Bool) → (if t then None else folder name) ≡ None
    absent true = refl
    absent false = none

    by : (t : Bool) → (if t then with_file folder gone None else folder) name ≡ None
    by true = absent (same_name gone name)
    by false = none

dropped_here : (folder : Files) (gone name : List ℕ) → HasInstalledFilesAlone folder → gone ≡ name → folder_step folder (DropFile gone) name ≡ None
dropped_here folder gone name alone same = by (is_installed_name gone) refl
  where
    by : (t : Bool) → is_installed_name gone ≡ t → (if t then with_file folder gone None else folder) name ≡ None
    by true list = with_same folder gone None name same
    by false other = alone name (sym (ap is_installed_name same) ∙ other)

stays_none : (part : List ℕ → List ℕ) (names : List (List ℕ)) (folder : Files) (name : List ℕ) → folder name ≡ None → folder_steps (filled part (drops_for names)) folder name ≡ None
stays_none part [] folder name none = none
stays_none part (gone ∷ names) folder name none = stays_none part names (folder_step folder (DropFile gone)) name (dropped_none folder gone name none)

gone_all : (part : List ℕ → List ℕ) (names : List (List ℕ)) (folder : Files) → HasInstalledFilesAlone folder → (name : List ℕ) → Contains names name → folder_steps (filled part (drops_for names)) folder name ≡ None
gone_all part [] folder alone name is = absurd (none-in name is)
gone_all part (gone ∷ names) folder alone name is = ⊎_elim
    (λ same. stays_none part names (folder_step folder (DropFile gone)) name (dropped_here folder gone name alone same))
    (gone_all part names (folder_step folder (DropFile gone)) (λ other aside. dropped_none folder gone other (alone other aside)) name)
    (first-or-rest gone names name is)

pub cleans_up : (part : List ℕ → List ℕ) (names : List (List ℕ)) (folder : Files) → HasInstalledFilesAlone folder → Does (CleansUp names) folder (folder_steps (filled part (drops_for names)) folder)
cleans_up part names folder alone = (
  gone_all part names folder alone,
  λ name never. steps_beside part (drops_for names) folder name (none_if name (names_in (drops_for names)) (λ is. never (subst (λ (l : List (List ℕ)). Contains l name) (names_gone names) is))),
)

-- The names that stay.
pub name_kept : (names : List (List ℕ)) (name : List ℕ) → Contains names name → Contains (with_parts names) name
name_kept [] name is = is
name_kept (first ∷ names) name is = ⊎_elim
    (here first (partial first ∷ with_parts names) name)
    (λ later. there first (partial first ∷ with_parts names) name (there (partial first) (with_parts names) name (name_kept names name later)))
    (first-or-rest first names name is)

pub part_kept : (names : List (List ℕ)) (name : List ℕ) → Contains names name → Contains (with_parts names) (partial name)
part_kept [] name is = absurd (none-in name is)
part_kept (first ∷ names) name is = ⊎_elim
    (λ same. there first (partial first ∷ with_parts names) (partial name) (here (partial first) (with_parts names) (partial name) (ap partial same)))
    (λ later. there first (partial first ∷ with_parts names) (partial name) (there (partial first) (with_parts names) (partial name) (part_kept names name later)))
    (first-or-rest first names name is)

-- a list's name, or that of a list on its way
abbrev IsOf : List (List ℕ) → List ℕ → Type 0
IsOf names name = Contains names name ⊎ ((list : List ℕ) × (partial list ≡ name))

kept_case : (names : List (List ℕ)) (name : List ℕ) → Contains (with_parts names) name → IsOf names name
kept_case [] name is = absurd (none-in name is)
kept_case (first ∷ names) name is = ⊎_elim
    (λ same. inl (here first names name same))
    (λ behind. ⊎_elim (λ same. inr (first, same)) (λ later. ⊎_elim (λ listed. inl (there first names name listed)) (λ on_its_way. inr on_its_way) (kept_case names name later)) (first-or-rest (partial first) (with_parts names) name behind))
    (first-or-rest first (partial first ∷ with_parts names) name is)

pub all_kept : (sources : List Source) (name : List ℕ) → Contains (flat_map names_of sources) name → Contains (flat_map kept_of sources) name
all_kept [] name is = is
all_kept (source ∷ sources) name is = ⊎_elim
    (λ own. Contains-append_left (kept_of source) (flat_map kept_of sources) name (name_kept (names_of source) name own))
    (λ other. Contains-append_right (kept_of source) (flat_map kept_of sources) name (all_kept sources name other))
    (Contains-append_cases (names_of source) (flat_map names_of sources) name is)

pub parts_kept : (sources : List Source) (name : List ℕ) → Contains (flat_map names_of sources) name → Contains (flat_map kept_of sources) (partial name)
parts_kept [] name is = absurd (none-in name is)
parts_kept (source ∷ sources) name is = ⊎_elim
    (λ own. Contains-append_left (kept_of source) (flat_map kept_of sources) (partial name) (part_kept (names_of source) name own))
    (λ other. Contains-append_right (kept_of source) (flat_map kept_of sources) (partial name) (parts_kept sources name other))
    (Contains-append_cases (names_of source) (flat_map names_of sources) name is)

all_cases : (sources : List Source) (name : List ℕ) → Contains (flat_map kept_of sources) name → IsOf (flat_map names_of sources) name
all_cases [] name is = inl is
all_cases (source ∷ sources) name is = ⊎_elim
    (λ own. ⊎_elim (λ listed. inl (Contains-append_left (names_of source) (flat_map names_of sources) name listed)) (λ on_its_way. inr on_its_way) (kept_case (names_of source) name own))
    (λ other. ⊎_elim (λ listed. inl (Contains-append_right (names_of source) (flat_map names_of sources) name listed)) (λ on_its_way. inr on_its_way) (all_cases sources name other))
    (Contains-append_cases (kept_of source) (flat_map kept_of sources) name is)

-- a name that stays and is a list's is planned
kept_list : (sources : List Source) (name : List ℕ) → is_installed_name name ≡ true → Contains (kept_names sources) name → Contains (flat_map names_of sources) name
kept_list sources name list is = ⊎_elim
    (λ same. absurd (let wrong : is_installed_name lock ≡ true = subst (λ (n : List ℕ). is_installed_name n ≡ true) (sym same) list in cc))
    (λ behind. ⊎_elim
    (λ same. absurd (let wrong : is_installed_name journal ≡ true = subst (λ (n : List ℕ). is_installed_name n ≡ true) (sym same) list in cc))
    (λ later. ⊎_elim (λ planned. planned) (λ (other, same). absurd (let wrong = sym (list_not_aside name list) ∙ sym (ap is_own_name same) ∙ partial_aside other in cc)) (all_cases sources name later))
    (first-or-rest journal (flat_map kept_of sources) name behind))
    (first-or-rest lock (journal ∷ flat_map kept_of sources) name is)

pub are_loose : (files : Files) (plan : Plan) (names : List (List ℕ)) → AreLooseNames files plan.sources names → AreLoose (installed_files files) plan names
are_loose files plan names are = record {
  apart = λ name is planned. (are.loose name is).other (there lock (journal ∷ flat_map kept_of plan.sources) name (there journal (flat_map kept_of plan.sources) name (all_kept plan.sources name planned)));
  all = λ name not_planned not_loose. by_list name not_planned not_loose (is_installed_name name) refl;
}
  where
    outside : (name : List ℕ) → is_installed_name name ≡ true → is_inside name ≡ false → ⊥
    outside name list out = false≢true (sym out ∙ list_inside name list)

    by_file : (name : List ℕ) → (Contains (plan_names plan) name → ⊥) → (Contains names name → ⊥) → is_installed_name name ≡ true → (o : Option (List ℕ)) → files name ≡ o → o ≡ None
    by_file name not_planned not_loose list None is = refl
    by_file name not_planned not_loose list (Some bytes) is =
        absurd (⊎_elim not_loose (λ rest. ⊎_elim (λ kept. not_planned (kept_list plan.sources name list kept)) (outside name list) rest) (are.all name (ap is_some is)))

    by_list : (name : List ℕ) → (Contains (plan_names plan) name → ⊥) → (Contains names name → ⊥) → (t : Bool) → is_installed_name name ≡ t → (if t then files name else None) ≡ None
    by_list name not_planned not_loose true list = by_file name not_planned not_loose list (files name) refl
    by_list name not_planned not_loose false other = refl
