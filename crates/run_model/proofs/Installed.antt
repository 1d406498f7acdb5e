-- What is installed of a source, by its names.
use Rattle.std.proofs.Common.{◌≡◌, ◌∙◌, ◌⊎◌, ⊎_elim, refl, sym, ap, subst, ℕ, zero, suc, Bool, true, false, List, [], ◌∷◌, ◌++◌, map, Contains, Option, Some, None}
use Rattle.std.specs.Prelude.{bytes_eq, if◌then◌else◌, slice_get, unwrap_or}
use Rattle.std.proofs.lemmas.Slice.Eq.{bytes_eq-Decides}
use Rattle.acq_base.specs.declared.installed.Old.{Old}
use Rattle.acq_base.specs.declared.plan.Source.{Source}
use Rattle.acq_base.specs.declared.plan.Target.{Target}
use Rattle.acq_base.proofs.Lists.{first-or-rest, map_in}
use Rattle.update_model.proofs.Carried.{each-from}
use Rattle.acq_outside.specs.Crash.{reads}
use Rattle.acq_outside.specs.Disk.{Files}
use Rattle.board_model.specs.Changes.{IsInstalled}
use Rattle.board_model.specs.Keys.{named}
use Rattle.board_model.proofs.Making.{none-in}
use Rattle.journal_model.specs.Names.{journal}
use Rattle.journal_model.specs.Reading.{journal_state_in}
use Rattle.journal_model.specs.Reopen.{opened}
use Rattle.journal_model.specs.declared.step.JournalState.{JournalState}
use Rattle.journal_model.specs.declared.step.JournalState.TheVariants.{Open, Damaged, Shut}
use Rattle.lists_dir.specs.Installed.{installed_of, listed, lists_of}
use Rattle.run_model.specs.Beginnings.{InstalledListsAreRunInput, OpenedListsAreAlone}

-- ---- names of rows

absent : (files : Files) (targets : List Target) (name : List ℕ) → files name ≡ None → named (lists_of files targets) name ≡ None
absent files [] name none = refl
absent files (target ∷ targets) name none = one (files target.name.0) refl (absent files targets name none)
  where
    two : (bytes : List ℕ) → files target.name.0 ≡ Some bytes → (c : Bool) → bytes_eq target.name.0 name ≡ c → named (lists_of files targets) name ≡ None → (if c then Some bytes else named (lists_of files targets) name) ≡ None
    two bytes is true same rest =
        let wrong : Some bytes ≡ None = sym is ∙ ap files ((bytes_eq-Decides target.name.0 name).0 same) ∙ none in absurd (cc)
    two bytes is false differ rest = rest

    one : (o : Option (List ℕ)) → files target.name.0 ≡ o → named (lists_of files targets) name ≡ None → named (listed target o ++ lists_of files targets) name ≡ None
    one None is rest = rest
    one (Some bytes) is rest = two bytes is (bytes_eq target.name.0 name) refl rest

present : (files : Files) (targets : List Target) (name bytes : List ℕ) → files name ≡ Some bytes → Contains (map (λ (t : Target). t.name.0) targets) name → named (lists_of files targets) name ≡ Some bytes
present files [] name bytes is among = absurd (none-in name among)
present files (target ∷ targets) name bytes is among = one (files target.name.0) refl (present files targets name bytes is) (first-or-rest target.name.0 (map (λ (t : Target). t.name.0) targets) name among)
  where
    two : (b : List ℕ) → files target.name.0 ≡ Some b → (c : Bool) → bytes_eq target.name.0 name ≡ c → (Contains (map (λ (t : Target). t.name.0) targets) name → named (lists_of files targets) name ≡ Some bytes)
        → (target.name.0 ≡ name) ⊎ Contains (map (λ (t : Target). t.name.0) targets) name → (if c then Some b else named (lists_of files targets) name) ≡ Some bytes
    two b there true same rest either = sym there ∙ ap files ((bytes_eq-Decides target.name.0 name).0 same) ∙ is
    two b there false differ rest either = ⊎_elim
        (λ same. let wrong : true ≡ false = sym ((bytes_eq-Decides target.name.0 name).1 same) ∙ differ in absurd (cc)) rest either

    one : (o : Option (List ℕ)) → files target.name.0 ≡ o → (Contains (map (λ (t : Target). t.name.0) targets) name → named (lists_of files targets) name ≡ Some bytes)
        → (target.name.0 ≡ name) ⊎ Contains (map (λ (t : Target). t.name.0) targets) name → named (listed target o ++ lists_of files targets) name ≡ Some bytes
    one None there rest either = ⊎_elim (λ same. let wrong : None ≡ Some bytes = sym there ∙ ap files same ∙ is in absurd (cc)) rest either
    one (Some b) there rest either = two b there (bytes_eq target.name.0 name) refl rest either

found : (files : Files) (targets : List Target) (name : List ℕ) (o : Option (List ℕ)) → files name ≡ o → Contains (map (λ (t : Target). t.name.0) targets) name → named (lists_of files targets) name ≡ files name
found files targets name None is among = absent files targets name is ∙ sym is
found files targets name (Some bytes) is among = present files targets name bytes is among ∙ sym is

installed_so : (files : Files) (source : Source) → IsInstalled source (installed_of files source) files
installed_so files source = record {
  release = refl;
  lists = each-from (λ target. named (lists_of files source.targets) target.name.0 ≡ files target.name.0) source.targets
      (λ target is. found files source.targets target.name.0 (files target.name.0) refl (map_in (λ (t : Target). t.name.0) source.targets target is));
}

-- ---- what a run begins with

mapped : (f : Source → Old) (sources : List Source) (n : ℕ) (source : Source) → slice_get sources n ≡ Some source → slice_get (map f sources) n ≡ Some (f source)
mapped f [] n source is = absurd (cc)
mapped f (s ∷ sources) zero source is = let same : s ≡ source = cc in ap (λ (x : Source). Some (f x)) same
mapped f (s ∷ sources) (suc n) source is = mapped f sources n source is

pub installed_lists_begin : InstalledListsAreRunInput
installed_lists_begin config olds lists parts are sizes = record {
  installed = λ n source old at.
      let both : Some (installed_of lists source) ≡ Some old = sym (mapped (installed_of lists) config.sources n source at.source_is) ∙ ap (λ (os : List Old). slice_get os n) (sym are) ∙ at.old_is in
      let same : installed_of lists source ≡ old = cc in
      subst (λ (o : Old). IsInstalled source o lists) same (installed_so lists source);
  sizes = sizes;
}

pub opened_lists_are_alone : OpenedListsAreAlone
opened_lists_are_alone [] name other = refl
opened_lists_are_alone (s ∷ past) name other = one (journal_state_in (reads s journal))
  where
    one : (gate : JournalState) → unwrap_or (opened (reads s) gate) (λ name. None) name ≡ None
    one (Open steps) = rw other refl
    one (Damaged at) = refl
    one Shut = rw other refl
