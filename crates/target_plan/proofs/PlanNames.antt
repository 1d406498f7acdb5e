-- The names of a plan that is not refused.
use Rattle.std.proofs.Common.{◌≡◌, ◌≢◌, ℕ, ◌<◌, ◌≤◌, zero, suc, nat_lt, length, map, get_or, Bool, true, false, cond, List, [], ◌∷◌, ◌++◌, Option, Some, None, refl, sym, ap, ◌∙◌, subst, append_assoc, arith}
use Rattle.std.specs.List.{All, AllPairs, flat_map}
use Rattle.std.specs.Str.{bytes_eq}
use Rattle.std.specs.Cmp.Lexicographic.{slice_cmp}
use Rattle.std.specs.Ordering.{nat_cmp}
use Rattle.std.proofs.lemmas.Bool.{true≢false}
use Rattle.std.proofs.lemmas.Bool.Decides.{nat_tests}
use Rattle.std.proofs.lemmas.Cmp.{nat_list_cmp_total}
use Rattle.std.proofs.lemmas.List.{append-nil, map-append, length-map}
use Rattle.std.proofs.lemmas.List.Elements.{All-nil, All-cons}
use Rattle.std.proofs.lemmas.List.Quantifiers.{all_pairs_push}
use Rattle.acq_base.specs.declared.plan.Source.{Source}
use Rattle.acq_base.specs.Plan.{names_of}
use Rattle.target_plan.specs.declared.checks.File.{File}
use Rattle.target_plan.specs.declared.draft.Draft.{Draft}
use Rattle.target_plan.specs.declared.draft.Planned.{Planned}
use Rattle.target_plan.specs.declared.error.PlanError.{PlanError}
use Rattle.target_plan.specs.declared.error.PlanError.TheVariants.{LongName, TooMany}
use Rattle.target_plan.specs.Drafts.{file_of, files_of, files_in, finished, target_in}
use Rattle.target_plan.specs.Planning.{or_else, name_refusal, long_name, clash_of, clash_with, clash_behind, clash, too_many}
use Rattle.target_plan.proofs.Grouping.{laws_of_keys}
use Rattle.target_plan.proofs.Clashes.{file_name, is_same_file, same_file}

first-none : (a b : Option PlanError) → or_else a b ≡ None → a ≡ None
first-none None b e = refl
first-none (Some a) b e = absurd (cc)

second-none : (a b : Option PlanError) → or_else a b ≡ None → b ≡ None
second-none None b e = e
second-none (Some a) b e = absurd (cc)

not-some : (b : Bool) (refusal : PlanError) (later : Option PlanError) → cond b (Some refusal) later ≡ None → b ≡ false
not-some true refusal later e = absurd (cc)
not-some false refusal later e = refl

not-first : (b : Bool) (refusal : PlanError) (later : Option PlanError) → cond b (Some refusal) later ≡ None → later ≡ None
not-first true refusal later e = absurd (cc)
not-first false refusal later e = e

at-most : (limit n : ℕ) → nat_lt limit n ≡ false → n ≤ limit
at-most limit n e = grind (arith, nat_tests)

-- ---- lengths

short-names : (files : List File) → long_name files ≡ None → All (λ (name : List ℕ). length name ≤ 240) (map file_name files)
unfolding long_name
short-names [] e = All-nil (λ (name : List ℕ). length name ≤ 240)
short-names (f ∷ files) e =
    All-cons (λ (name : List ℕ). length name ≤ 240) (file_name f) (map file_name files)
    (at-most 240 (length (file_name f)) (not-some (nat_lt 240 (length (file_name f))) (LongName f.name) None (first-none (name_refusal f.name) (long_name files) e)))
    (short-names files (second-none (name_refusal f.name) (long_name files) e))

few-files : (files : List File) → too_many files ≡ None → length files ≤ 4096
unfolding too_many
few-files files e = at-most 4096 (length files) (not-some (nat_lt 4096 (length files)) TooMany None e)

-- ---- names that differ

same-name : (f g : File) → file_name f ≡ file_name g → is_same_file f g ≡ true
same-name f g same = ap (λ (name : List ℕ). bytes_eq name (file_name g)) same ∙ (laws_of_keys is_same_file (slice_cmp nat_cmp) nat_list_cmp_total file_name same_file).refl g

differs : (earlier : List File) (f : File) → clash_with earlier f ≡ None → (k : ℕ) (d : List ℕ) → k < length (map file_name earlier) → get_or (map file_name earlier) k d ≢ file_name f
unfolding clash_with
differs [] f e k d within = absurd (omega (arith, within))
differs (g ∷ earlier) f e zero d within = λ same. true≢false (sym (same-name g f same) ∙ not-some (is_same_file g f) (clash_of g f) (clash_with earlier f) e)
differs (g ∷ earlier) f e (suc k) d within = differs earlier f (not-first (is_same_file g f) (clash_of g f) (clash_with earlier f) e) k d (omega (arith, within))

all-differ : (earlier files : List File) → AllPairs (λ (a b : List ℕ). a ≢ b) (map file_name earlier) → clash_behind earlier files ≡ None → AllPairs (λ (a b : List ℕ). a ≢ b) (map file_name (earlier ++ files))
unfolding clash_behind
all-differ earlier [] apart e = subst (λ (fs : List File). AllPairs (λ (a b : List ℕ). a ≢ b) (map file_name fs)) (sym (append-nil earlier)) apart
all-differ earlier (f ∷ files) apart e =
    let here = first-none (clash_with earlier f) (clash_behind (earlier ++ f ∷ []) files) e in
    let more = all_pairs_push (λ (a b : List ℕ). a ≢ b) (map file_name earlier) (file_name f) apart (differs earlier f here) in
    subst (λ (fs : List File). AllPairs (λ (a b : List ℕ). a ≢ b) (map file_name fs)) (append_assoc earlier (f ∷ []) files)
    (all-differ (earlier ++ f ∷ []) files (subst (AllPairs (λ (a b : List ℕ). a ≢ b)) (sym (map-append file_name earlier (f ∷ []))) more) (second-none (clash_with earlier f) (clash_behind (earlier ++ f ∷ []) files) e))

-- ---- the names of a plan are those of its files

list-names : (lists : List Planned) → map (λ target. target.name.0) (map target_in lists) ≡ map file_name (map file_of lists)
list-names [] = refl
list-names (planned ∷ lists) = ap (λ (names : List (List ℕ)). planned.target.name.0 ∷ names) (list-names lists)

draft-names : (d : Draft) → names_of (finished d) ≡ map file_name (files_of d)
unfolding finished files_of
draft-names d = ap (λ (names : List (List ℕ)). d.source.release_name.0 ∷ names) (list-names d.lists)

plan-names : (drafts : List Draft) → flat_map names_of (map finished drafts) ≡ map file_name (files_in drafts)
unfolding files_in
plan-names [] = refl
plan-names (d ∷ drafts) = (λ i. draft-names d i ++ plan-names drafts i) ∙ sym (map-append file_name (files_of d) (flat_map files_of drafts))

module _ (drafts : List Draft) (files : List File) (sources : List Source) (are_files : files ≡ files_in drafts) (are_sources : sources ≡ map finished drafts) where
  names-are : flat_map names_of sources ≡ map file_name files
  names-are = ap (flat_map names_of) are_sources ∙ plan-names drafts ∙ ap (map file_name) (sym are_files)

  pub distinct_names : clash files ≡ None → AllPairs (λ (a b : List ℕ). a ≢ b) (flat_map names_of sources)
  distinct_names e = subst (AllPairs (λ (a b : List ℕ). a ≢ b)) (sym names-are) (all-differ [] files (λ i j d below within. absurd (omega (arith, within))) e)

  pub few_names : too_many files ≡ None → length (flat_map names_of sources) ≤ 4096
  few_names e = omega (arith, ap length names-are, length-map files file_name, few-files files e)

  pub no_long_names : long_name files ≡ None → All (λ (name : List ℕ). length name ≤ 240) (flat_map names_of sources)
  no_long_names e = subst (All (λ (name : List ℕ). length name ≤ 240)) (sym names-are) (short-names files e)
