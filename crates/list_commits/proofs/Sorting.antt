-- Sets of names, and the names that they leave.
use Rattle.std.proofs.Common.{◌≡◌, ◌↔◌, ◌⊎◌, inl, inr, ⊎_elim, refl, sym, ap, ◌∙◌, subst, arith, ℕ, ◌≤◌, Bool, true, false, List, [], ◌∷◌, length, not, cond, Contains, All, IsTrue}
use Rattle.std.specs.Prelude.{◌&&◌, filter, slice_index_or}
use Rattle.std.specs.Ordering.{nat_cmp}
use Rattle.std.specs.Cmp.Lexicographic.{slice_cmp}
use Rattle.std.specs.BTreeSet.{BTreeSet, IsFromIterResult, contains}
use Rattle.std.proofs.lemmas.Cmp.{nat_list_cmp_total}
use Rattle.std.proofs.lemmas.Map.Lookups.{exact_bytes}
use Rattle.std.proofs.lemmas.Map.Keys.{Less-from_sorted}
use Rattle.std.proofs.lemmas.Map.Views.{btree_set_contains_from_list, btree_set_contains_iff, btree_set_len-le_from_list}
use Rattle.std.proofs.lemmas.Bool.{and_parts}
use Rattle.std.proofs.lemmas.List.Elements.{Contains-get_or}
use Rattle.acq_base.specs.declared.plan.Source.{Source}
use Rattle.acq_base.proofs.Lists.{first-or-rest}
use Rattle.board_model.proofs.Making.{none-in}
use Rattle.acq_outside.specs.Disk.{Files, IsNames}
use Rattle.journal_model.specs.Names.{is_inside}
use Rattle.list_commits.specs.Loose.{AreLooseNames, AreSorted, IsLoose, is_loose, kept_names}
use Rattle.list_commits.proofs.Apart.{here, there}

abbrev IsMade : List (List ℕ) → BTreeSet (List ℕ) → Type 0
IsMade xs set = IsFromIterResult (slice_cmp nat_cmp) xs set

pub made_of : (xs ys : List (List ℕ)) (set : BTreeSet (List ℕ)) → xs ≡ ys → IsMade xs set → IsMade ys set
made_of xs ys set same made = subst (λ (l : List (List ℕ)). IsMade l set) same made

pub has_just : (xs : List (List ℕ)) (set : BTreeSet (List ℕ)) → IsMade xs set → (name : List ℕ) → IsTrue (contains (slice_cmp nat_cmp) set name) ↔ Contains xs name
has_just xs set made name = btree_set_contains_from_list nat_list_cmp_total exact_bytes xs set made name

pub keys_just : (xs : List (List ℕ)) (set : BTreeSet (List ℕ)) → IsMade xs set → (name : List ℕ) → Contains set.keys name ↔ Contains xs name
keys_just xs set made name =
    let key = btree_set_contains_iff nat_list_cmp_total exact_bytes set name in
    let just = has_just xs set made name in
    (λ is. just.0 (key.1 is), λ is. key.0 (just.1 is))

pub keys_sorted : (xs : List (List ℕ)) (set : BTreeSet (List ℕ)) → IsMade xs set → AreSorted set.keys
keys_sorted xs set made i j d low high = Less-from_sorted (slice_cmp nat_cmp) set.keys i j d made.1 low high

pub keys_few : (xs : List (List ℕ)) (set : BTreeSet (List ℕ)) → IsMade xs set → length set.keys ≤ length xs
keys_few xs set made = btree_set_len-le_from_list nat_list_cmp_total xs set made

-- what a filter leaves
pub in_names : (p : List ℕ → Bool) (names : List (List ℕ)) (name : List ℕ) → Contains (filter p names) name → Contains names name × (p name ≡ true)
in_names p [] name is = absurd (none-in name is)
in_names p (first ∷ names) name is = by (in_names p names name) (p first) refl is
  where
    by : (Contains (filter p names) name → Contains names name × (p name ≡ true)) → (t : Bool) → p first ≡ t → Contains (cond t (first ∷ filter p names) (filter p names)) name → Contains (first ∷ names) name × (p name ≡ true)
    by others true passes is = ⊎_elim
        (λ same. (here first names name same, subst (λ (n : List ℕ). p n ≡ true) same passes))
        (λ later. let rest = others later in (there first names name rest.0, rest.1))
        (first-or-rest first (filter p names) name is)
    by others false fails is = let rest = others is in (there first names name rest.0, rest.1)

pub stays_in : (p : List ℕ → Bool) (names : List (List ℕ)) (name : List ℕ) → p name ≡ true → Contains names name → Contains (filter p names) name
stays_in p [] name passes is = is
stays_in p (first ∷ names) name passes is = by (stays_in p names name passes) (p first) refl
  where
    by : (Contains names name → Contains (filter p names) name) → (t : Bool) → p first ≡ t → Contains (cond t (first ∷ filter p names) (filter p names)) name
    by others true first_passes = ⊎_elim
        (here first (filter p names) name)
        (λ later. there first (filter p names) name (others later))
        (first-or-rest first names name is)
    by others false fails = ⊎_elim
        (λ same. absurd (let clash : p first ≡ true = subst (λ (n : List ℕ). p n ≡ true) (sym same) passes in let wrong : false ≡ true = sym fails ∙ clash in cc))
        others
        (first-or-rest first names name is)

-- the names that aren't kept, sorted
pub record AreOthers (sources : List Source) (names rest : List (List ℕ)) : Type 0 where
  pub within : (name : List ℕ) → Contains rest name → Contains names name
  pub loose : (name : List ℕ) → Contains rest name → IsLoose sources name
  pub all : (name : List ℕ) → Contains names name → Contains rest name ⊎ (Contains (kept_names sources) name ⊎ (is_inside name ≡ false))

pub are_others : (sources : List Source) (kept : BTreeSet (List ℕ)) (names others loose : List (List ℕ)) → ((name : List ℕ) → IsTrue (contains (slice_cmp nat_cmp) kept name) ↔ Contains (kept_names sources) name)
    → others ≡ filter (is_loose kept) names → ((name : List ℕ) → Contains loose name ↔ Contains others name) → AreOthers sources names loose
are_others sources kept names others loose just are same = record {
  within = λ name is. (among name is).0;
  loose = λ name is. record { other = λ stays. differs (has name) ((just name).1 stays) (passed name is).0; inside = (passed name is).1 };
  all = λ name is. by name is (has name) (is_inside name) refl refl;
}
  where
    has : List ℕ → Bool
    has = λ name. contains (slice_cmp nat_cmp) kept name

    among : (name : List ℕ) → Contains loose name → Contains names name × (is_loose kept name ≡ true)
    among name is = in_names (is_loose kept) names name (subst (λ (l : List (List ℕ)). Contains l name) are ((same name).0 is))

    passed : (name : List ℕ) → Contains loose name → (not (has name) ≡ true) × (is_inside name ≡ true)
    passed name is = and_parts (not (has name)) (is_inside name) (among name is).1

    differs : (t : Bool) → IsTrue t → not t ≡ true → ⊥
    differs true is wrong = cc
    differs false is wrong = cc

    by : (name : List ℕ) → Contains names name → (t u : Bool) → has name ≡ t → is_inside name ≡ u → Contains loose name ⊎ (Contains (kept_names sources) name ⊎ (is_inside name ≡ false))
    by name is true u kept_name inside = inr (inl ((just name).0 kept_name))
    by name is false false other outside = inr (inr outside)
    by name is false true other inside =
        inl ((same name).1 (subst (λ (l : List (List ℕ)). Contains l name) (sym are) (stays_in (is_loose kept) names name (ap (λ (b : Bool). not b && is_inside name) other ∙ inside) is)))

pub each_one : (P : List ℕ → Type 0) (names : List (List ℕ)) → ((name : List ℕ) → Contains names name → P name) → All P names
each_one P names each k d low = each (slice_index_or names k d) (Contains-get_or names k d low)

pub loose_in_files : (files : Files) (sources : List Source) (names loose : List (List ℕ)) → AreSorted loose → IsNames files names → AreOthers sources names loose → AreLooseNames files sources loose
loose_in_files files sources names loose sorted are others = record {
  sorted = sorted;
  there = λ name is. are.sound name (others.within name is);
  loose = others.loose;
  all = λ name is. others.all name (are.complete name is);
}

no_longer : (p : List ℕ → Bool) (names : List (List ℕ)) → length (filter p names) ≤ length names
no_longer p [] = omega arith
no_longer p (first ∷ names) = by (no_longer p names) (p first)
  where
    by : length (filter p names) ≤ length names → (t : Bool) → length (cond t (first ∷ filter p names) (filter p names)) ≤ length (first ∷ names)
    by shorter true = omega (arith, shorter)
    by shorter false = omega (arith, shorter)

pub few_others : (names others loose : List (List ℕ)) (p : List ℕ → Bool) → others ≡ filter p names → length loose ≤ length others → length loose ≤ length names
few_others names others loose p are few = omega (arith, ap length are, few, no_longer p names)
