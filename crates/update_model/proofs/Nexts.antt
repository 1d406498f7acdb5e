-- What a run leaves: determined but for bytes of equal sums, clean, and former sets where there is no new one.
use Rattle.std.proofs.Common.{◌≡◌, ◌↔◌, ℕ, Bool, true, ◌&&◌, if◌then◌else◌, List, [], ◌∷◌, map, Option, Some, None, option_map, Ok, Err, refl, sym, ap, ◌∙◌, subst}
use Rattle.std.specs.List.{list_all, slice_index_or, AllByRecursion as Each}
use Rattle.std.proofs.lemmas.Bool.{and_parts}
use Rattle.std.proofs.lemmas.List.Elements.{All-from_recursion}
use Rattle.std.proofs.lemmas.Option.{same_Some}
use Rattle.std.proofs.lemmas.Slice.Eq.{bytes_eq-Decides}
use Rattle.acq_base.specs.Sum.{sum_of}
use Rattle.acq_base.specs.declared.plan.Source.{Source}
use Rattle.acq_base.specs.declared.plan.Target.{Target}
use Rattle.acq_base.specs.declared.sum.Sum.{Sum}
use Rattle.acq_base.proofs.SameSums.{same_sum-true, same_sum-refl}
use Rattle.release_file.specs.Release.{listed_sum, same_sum}
use Rattle.release_file.specs.declared.release.Release.{Release}
use Rattle.update_model.specs.Laws.{NextsAreAlike, NextsAreClean, NextsKeep, HeldSetsAreFound}
use Rattle.update_model.specs.Next.{OutcomeLeaves, cleans, lets_clean_up, same_bytes, same_sums}
use Rattle.update_model.specs.Outcomes.{Directory, Outcome, new_set}

-- a source's names in two directories
abbrev AlikeAt : Source → Directory → Directory → Type 0
AlikeAt source a b = (a source.release_name.0 ≡ b source.release_name.0) × Each (λ target. option_map sum_of (a target.name.0) ≡ option_map sum_of (b target.name.0)) source.targets

listed-alike : (a b : Directory) (release : Release) (targets : List Target)
    → Each (λ target. option_map sum_of (a target.name.0) ≡ listed_sum release target.path) targets
    → Each (λ target. option_map sum_of (b target.name.0) ≡ listed_sum release target.path) targets
    → Each (λ target. option_map sum_of (a target.name.0) ≡ option_map sum_of (b target.name.0)) targets
listed-alike a b release [] h k = tt
listed-alike a b release (target ∷ targets) h k = (h.0 ∙ sym k.0, listed-alike a b release targets h.1 k.1)

kept-alike : (dir a b : Directory) (targets : List Target)
    → Each (λ name. a name ≡ dir name) (map (λ target. target.name.0) targets) → Each (λ name. b name ≡ dir name) (map (λ target. target.name.0) targets)
    → Each (λ target. option_map sum_of (a target.name.0) ≡ option_map sum_of (b target.name.0)) targets
kept-alike dir a b [] h k = tt
kept-alike dir a b (target ∷ targets) h k = (ap (option_map sum_of) (h.0 ∙ sym k.0), kept-alike dir a b targets h.1 k.1)

source-alike : (o : Outcome) (source : Source) (dir a b : Directory) → OutcomeLeaves o source dir a → OutcomeLeaves o source dir b → AlikeAt source a b
source-alike (Ok set) source dir a b h k = (h.release_file ∙ sym k.release_file, listed-alike a b set.release source.targets h.lists k.lists)
source-alike (Err why) source dir a b h k = (h.0 ∙ sym k.0, kept-alike dir a b source.targets h.1 k.1)

all-alike : (outcome_of : Source → Outcome) (dir a b : Directory) (sources : List Source)
    → Each (λ source. OutcomeLeaves (outcome_of source) source dir a) sources → Each (λ source. OutcomeLeaves (outcome_of source) source dir b) sources
    → Each (λ source. AlikeAt source a b) sources
all-alike outcome_of dir a b [] h k = tt
all-alike outcome_of dir a b (source ∷ sources) h k = (source-alike (outcome_of source) source dir a b h.0 k.0, all-alike outcome_of dir a b sources h.1 k.1)

firsts : {A : Type 0} (P Q : A → Type 0) (xs : List A) → Each (λ x. P x × Q x) xs → Each P xs
firsts P Q [] h = tt
firsts P Q (x ∷ xs) h = (h.0.0, firsts P Q xs h.1)

seconds : {A : Type 0} (P Q : A → Type 0) (xs : List A) → Each (λ x. P x × Q x) xs → Each Q xs
seconds P Q [] h = tt
seconds P Q (x ∷ xs) h = (h.0.1, seconds P Q xs h.1)

pub nexts-alike : NextsAreAlike
nexts-alike world dir parts plan settings change now a b h k =
    let both : Each (λ source. AlikeAt source a b) plan.sources =
    all-alike (λ source. new_set world dir parts source settings change now) dir a b plan.sources h.sources k.sources in
    record {
      releases = firsts (λ source. a source.release_name.0 ≡ b source.release_name.0) (λ source. Each (λ target. option_map sum_of (a target.name.0) ≡ option_map sum_of (b target.name.0)) source.targets) plan.sources both;
      lists = seconds (λ source. a source.release_name.0 ≡ b source.release_name.0) (λ source. Each (λ target. option_map sum_of (a target.name.0) ≡ option_map sum_of (b target.name.0)) source.targets) plan.sources both;
      others = λ name n. h.others name n ∙ sym (k.others name n);
    }

-- ---- names of no source, and sources without a new set

all-well : {X : Type 0} (test : X → Bool) (xs : List X) → Each (λ x. test x ≡ true) xs → list_all test xs ≡ true
all-well test [] h = refl
all-well test (x ∷ xs) h = rw h.0 (all-well test xs h.1)

each-mapped : {X Y : Type 0} (f : X → Y) (P : Y → Type 0) (xs : List X) → Each (λ x. P (f x)) xs → Each P (map f xs)
each-mapped f P [] h = tt
each-mapped f P (x ∷ xs) h = (h.0, each-mapped f P xs h.1)

pub nexts-clean : NextsAreClean
nexts-clean world dir parts plan settings change now after next on well name loose =
    let outcomes : List Outcome = map (λ source. new_set world dir parts source settings change now) plan.sources in
    let all : list_all lets_clean_up outcomes ≡ true =
    all-well lets_clean_up outcomes (each-mapped (λ source. new_set world dir parts source settings change now) (λ o. lets_clean_up o ≡ true) plan.sources well) in
    let goes : cleans settings outcomes ≡ true = ap (λ b. b && list_all lets_clean_up outcomes) on ∙ all in
    next.others name loose ∙ ap (λ b. if b then None else dir name) goes

pub nexts-keep : NextsKeep
nexts-keep world dir parts plan settings change now after next source why there is =
    let P : Source → Type 0 = λ s. OutcomeLeaves (new_set world dir parts s settings change now) s dir after in
    let at : P (slice_index_or plan.sources there.0 source) = All-from_recursion P plan.sources next.sources there.0 source there.1 in
    let here : P source = subst P there.2 at in
    subst (λ o. OutcomeLeaves o source dir after) is here

-- ---- sets that are there already

same-bytes : (file : Option (List ℕ)) (bytes : List ℕ) → (same_bytes file bytes ≡ true) ↔ (file ≡ Some bytes)
same-bytes None bytes = ((λ h. cc), (λ h. cc))
same-bytes (Some a) bytes =
    ((λ h. ap (λ x. Some x) ((bytes_eq-Decides a bytes).0 h)), (λ h. (bytes_eq-Decides a bytes).1 (same_Some a bytes h)))

same-sums : (a b : Option Sum) → (same_sums a b ≡ true) ↔ (a ≡ b)
same-sums None None = ((λ h. refl), (λ h. refl))
same-sums None (Some b) = ((λ h. cc), (λ h. cc))
same-sums (Some a) None = ((λ h. cc), (λ h. cc))
same-sums (Some a) (Some b) =
    ((λ h. ap (λ x. Some x) (same_sum-true a b h)), (λ h. subst (λ x. same_sum a x ≡ true) (same_Some a b h) (same_sum-refl a)))

pub tests-hold : {X : Type 0} (test : X → Bool) (P : X → Type 0) → ((x : X) → (test x ≡ true) ↔ P x) → (xs : List X) → (list_all test xs ≡ true) ↔ Each P xs
tests-hold test P by [] = ((λ h. tt), (λ h. refl))
tests-hold test P by (x ∷ xs) =
    let rest = tests-hold test P by xs in (
      (λ h. let parts = and_parts (test x) (list_all test xs) h in ((by x).0 parts.0, rest.0 parts.1)),
      (λ h. let here : test x ≡ true = (by x).1 h.0 in rw here (rest.1 h.1)),
    )

pub sets-found : HeldSetsAreFound
sets-found dir source set =
    let lists = tests-hold (λ target. same_sums (option_map sum_of (dir target.name.0)) (listed_sum set.release target.path))
    (λ target. option_map sum_of (dir target.name.0) ≡ listed_sum set.release target.path)
    (λ target. same-sums (option_map sum_of (dir target.name.0)) (listed_sum set.release target.path)) source.targets in
    let file = same-bytes (dir source.release_name.0) set.bytes in (
      (λ h.
          let parts = and_parts (same_bytes (dir source.release_name.0) set.bytes) _ h in
          record { release_file = file.0 parts.0; lists = lists.0 parts.1 }),
      (λ h. let here : same_bytes (dir source.release_name.0) set.bytes ≡ true = file.1 h.release_file in rw here (lists.1 h.lists)),
    )
