-- Names of no source that a disk has.
use Rattle.std.proofs.Common.{◌≡◌, ◌∙◌, ◌⊎◌, inl, inr, ⊎_elim, refl, sym, ap, subst, ℕ, Bool, true, false, List, [], ◌∷◌, Contains, Option, None}
use Rattle.std.specs.Prelude.{bytes_eq, if◌then◌else◌, is_some}
use Rattle.std.specs.List.{flat_map}
use Rattle.std.proofs.lemmas.Slice.Eq.{bytes_eq-Decides}
use Rattle.acq_base.specs.Plan.{names_of}
use Rattle.acq_base.specs.declared.plan.Source.{Source}
use Rattle.acq_base.proofs.Lists.{first-or-rest}
use Rattle.acq_outside.specs.Disk.{Files}
use Rattle.journal_model.specs.Names.{is_installed_name, is_partial, journal, lock}
use Rattle.journal_model.proofs.FolderNames.{list_if, plain_inside}
use Rattle.journal_model.proofs.Twice.{other_name}
use Rattle.list_commits.specs.Loose.{IsLoose, kept_of}
use Rattle.list_commits.specs.SetLaws.{HasInstalledFilesAlone, LooseNamesAreLoose}
use Rattle.update_model.specs.Carried.{AreLoose}
use Rattle.board_model.proofs.Making.{none-in}
use Rattle.journal_model.specs.Reopen.{installed_files}
use Rattle.list_commits.proofs.Apart.{here, there}
use Rattle.run_model.specs.Runs.{AreLooseLists}

-- what is known of them
pub record Loose (sources : List Source) (lists : Files) (names : List (List ℕ)) : Type 0 where
  pub apart : (name : List ℕ) → Contains names name → Contains (flat_map names_of sources) name → ⊥
  pub listed : (name : List ℕ) → Contains names name → is_partial name ≡ false → is_installed_name name ≡ true
  pub exists : (name : List ℕ) → Contains names name → is_installed_name name ≡ true → is_some (lists name) ≡ true
  pub all : (name : List ℕ) → is_some (lists name) ≡ true → Contains names name ⊎ Contains (flat_map names_of sources) name

pub among : (name : List ℕ) (names : List (List ℕ)) → Contains names name ⊎ (Contains names name → ⊥)
among name [] = inr (none-in name)
among name (other ∷ names) = one (bytes_eq other name) refl (among name names)
  where
    one : (c : Bool) → bytes_eq other name ≡ c → Contains names name ⊎ (Contains names name → ⊥) → Contains (other ∷ names) name ⊎ (Contains (other ∷ names) name → ⊥)
    one true same rest = inl (here other names name ((bytes_eq-Decides other name).0 same))
    one false differ (inl later) = inl (there other names name later)
    one false differ (inr never) = inr (λ is. ⊎_elim (λ same. let wrong : true ≡ false = sym ((bytes_eq-Decides other name).1 same) ∙ differ in absurd (cc)) never (first-or-rest other names name is))

listed_if : (sources : List Source) (name : List ℕ) → IsLoose sources name → is_partial name ≡ false → is_installed_name name ≡ true
listed_if sources name loose whole =
    list_if name
    (other_name name journal (λ same. loose.other (there lock (journal ∷ flat_map kept_of sources) name (here journal (flat_map kept_of sources) name (sym same)))))
    (other_name name lock (λ same. loose.other (here lock (journal ∷ flat_map kept_of sources) name (sym same)))) whole (plain_inside name whole ∙ loose.inside)

pub loose_of : LooseNamesAreLoose → (sources : List Source) (lists : Files) (names : List (List ℕ)) → HasInstalledFilesAlone lists → AreLooseLists sources lists names → Loose sources lists names
loose_of law sources lists names alone are_loose = record {
  apart = loose.apart;
  listed = λ name is whole. listed_if sources name (are_loose.are.loose name is) whole;
  exists = λ name is list. subst (λ (o : Option (List ℕ)). is_some o ≡ true) (are_loose.same name list (loose.apart name is)) (are_loose.are.there name is);
  all = λ name some. one name some (is_installed_name name) refl;
}
  where
    loose : AreLoose (installed_files are_loose.files) (record { sources = sources }) names
    loose = law are_loose.files (record { sources = sources }) names are_loose.are

    gone : (name : List ℕ) → is_installed_name name ≡ true → (if is_installed_name name then are_loose.files name else None) ≡ None → are_loose.files name ≡ None
    gone name list is = rw list at is

    two : (name : List ℕ) → is_some (lists name) ≡ true → is_installed_name name ≡ true → (Contains (flat_map names_of sources) name → ⊥) → Contains names name ⊎ (Contains names name → ⊥) → Contains names name
    two name some list out (inl is) = is
    two name some list out (inr never) =
        let none_there : lists name ≡ None = sym (are_loose.same name list out) ∙ gone name list (loose.all name out never) in
        let wrong : false ≡ true = sym (ap is_some none_there) ∙ some in absurd (cc)

    one : (name : List ℕ) → is_some (lists name) ≡ true → (t : Bool) → is_installed_name name ≡ t → Contains names name ⊎ Contains (flat_map names_of sources) name
    one name some true list = elim (among name (flat_map names_of sources)) [
      | inl within ↦ inr within
      | inr out ↦ inl (two name some list out (among name names))
    ]
    one name some false list = let wrong : false ≡ true = sym (ap is_some (alone name list)) ∙ some in absurd (cc)
