-- Names of a plan's sources, no two of which are one.
use Rattle.std.proofs.Common.{◌≡◌, ◌≢◌, refl, sym, ap, ◌∙◌, subst, ℕ, zero, suc, List, [], ◌∷◌, map, Contains, Some, option_map}
use Rattle.std.specs.Prelude.{slice_get}
use Rattle.std.specs.List.{flat_map}
use Rattle.std.proofs.lemmas.List.Elements.{Contains-append_left, Contains-append_right}
use Rattle.acq_base.specs.Plan.{names_of}
use Rattle.acq_base.specs.Sum.{sum_of}
use Rattle.acq_base.specs.declared.installed.Old.{Old}
use Rattle.acq_base.specs.declared.plan.Source.{Source}
use Rattle.acq_base.specs.declared.plan.Target.{Target}
use Rattle.acq_base.proofs.Lists.{map_in}
use Rattle.acq_outside.specs.Disk.{Files}
use Rattle.board_model.specs.Changes.{IsInstalled}
use Rattle.board_model.specs.Keys.{named}
use Rattle.commit_journal.specs.Changes.{AreApart}
use Rattle.release_file.specs.Release.{listed_sum}
use Rattle.update_model.specs.Next.{HasWholeSet, Keeps}
use Rattle.update_model.specs.Outcomes.{AdmittedRelease}
use Rattle.update_model.proofs.Carried.{each-from, each-at}
use Rattle.list_commits.proofs.Apart.{here, there}
use Rattle.list_commits.proofs.Recording.{both_apart, right_apart}

-- ---- elements of lists

pub get_in : {X : Type 0} (xs : List X) (n : ℕ) (x : X) → slice_get xs n ≡ Some x → Contains xs x
get_in [] n x is = absurd (cc)
get_in (y ∷ ys) zero x is = let same : y ≡ x = cc in here y ys x same
get_in (y ∷ ys) (suc n) x is = there y ys x (get_in ys n x is)

-- ---- names

pub in_plan : (sources : List Source) (n : ℕ) (source : Source) (name : List ℕ) → slice_get sources n ≡ Some source → Contains (names_of source) name → Contains (flat_map names_of sources) name
in_plan [] n source name is within = absurd (cc)
in_plan (s ∷ sources) zero source name is within =
    let same : s ≡ source = cc in
    Contains-append_left (names_of s) (flat_map names_of sources) name (subst (λ (x : Source). Contains (names_of x) name) (sym same) within)
in_plan (s ∷ sources) (suc n) source name is within = Contains-append_right (names_of s) (flat_map names_of sources) name (in_plan sources n source name is within)

pub sources_apart : (sources : List Source) (n m : ℕ) (source other : Source) (name : List ℕ) → AreApart (flat_map names_of sources) → slice_get sources n ≡ Some source → slice_get sources m ≡ Some other → n ≢ m
    → Contains (names_of source) name → Contains (names_of other) name → ⊥
sources_apart [] n m source other name apart is is' differ within within' = absurd (cc)
sources_apart (s ∷ sources) zero zero source other name apart is is' differ within within' = differ refl
sources_apart (s ∷ sources) zero (suc m) source other name apart is is' differ within within' =
    let same : s ≡ source = cc in
    both_apart (names_of s) (flat_map names_of sources) name apart (subst (λ (x : Source). Contains (names_of x) name) (sym same) within) (in_plan sources m other name is' within')
sources_apart (s ∷ sources) (suc n) zero source other name apart is is' differ within within' =
    let same : s ≡ other = cc in
    both_apart (names_of s) (flat_map names_of sources) name apart (subst (λ (x : Source). Contains (names_of x) name) (sym same) within') (in_plan sources n source name is within)
sources_apart (s ∷ sources) (suc n) (suc m) source other name apart is is' differ within within' =
    sources_apart sources n m source other name (right_apart (names_of s) (flat_map names_of sources) apart) is is' (λ same. differ (ap suc same)) within within'

-- ---- what lies under the names of a source

-- the same
abbrev pub SameUnder : Source → Files → Files → Type 0
SameUnder source a b = (name : List ℕ) → Contains (names_of source) name → b name ≡ a name

release_in : (source : Source) → Contains (names_of source) source.release_name.0
release_in source = here source.release_name.0 (map (λ (t : Target). t.name.0) source.targets) source.release_name.0 refl

target_in : (source : Source) (target : Target) → Contains source.targets target → Contains (names_of source) target.name.0
target_in source target is = there source.release_name.0 (map (λ (t : Target). t.name.0) source.targets) target.name.0 (map_in (λ (t : Target). t.name.0) source.targets target is)

pub holds_moved : (source : Source) (set : AdmittedRelease) (a b : Files) → SameUnder source a b → HasWholeSet a source set → HasWholeSet b source set
holds_moved source set a b same h = record {
  release_file = same source.release_name.0 (release_in source) ∙ h.release_file;
  lists = each-from (λ target. option_map sum_of (b target.name.0) ≡ listed_sum set.release target.path) source.targets
      (λ target is. ap (option_map sum_of) (same target.name.0 (target_in source target is))
      ∙ each-at (λ (t : Target). option_map sum_of (a t.name.0) ≡ listed_sum set.release t.path) source.targets target h.lists is);
}

pub keeps_same : (source : Source) (a b : Files) → SameUnder source a b → Keeps source a b
keeps_same source a b same = each-from (λ name. b name ≡ a name) (names_of source) same

pub installed_moved : (source : Source) (old : Old) (a b : Files) → SameUnder source a b → IsInstalled source old a → IsInstalled source old b
installed_moved source old a b same h = record {
  release = h.release ∙ sym (same source.release_name.0 (release_in source));
  lists = each-from (λ target. named old.lists target.name.0 ≡ b target.name.0) source.targets
      (λ target is. each-at (λ (t : Target). named old.lists t.name.0 ≡ a t.name.0) source.targets target h.lists is ∙ sym (same target.name.0 (target_in source target is)));
}
