-- Files of one name, and the places of names.
use Rattle.std.proofs.Common.{◌≡◌, ℕ, ◌+◌, ◌<◌, zero, suc, length, take, drop, slice_index_or, Bool, true, false, cond, List, [], ◌∷◌, ◌++◌, Option, Some, None, refl, sym, ap, ◌∙◌, subst, arith}
use Rattle.std.specs.BTreeMap.{BTreeMap, get, Updates}
use Rattle.std.specs.Cmp.Lexicographic.{slice_cmp}
use Rattle.std.specs.Ordering.{is_eq, nat_cmp}
use Rattle.std.specs.Str.{bytes_eq}
use Rattle.std.proofs.lemmas.Cmp.{nat_list_cmp_total}
use Rattle.std.proofs.lemmas.List.{drop_more, take_more, get_or-take, length-take-le}
use Rattle.std.proofs.lemmas.Map.Text.{is_eq-slice_cmp}
use Rattle.target_plan.specs.declared.checks.File.{File}
use Rattle.target_plan.specs.declared.error.PlanError.{PlanError}
use Rattle.target_plan.specs.Planning.{or_else, clash_of, clash_with, clash_behind}
use Rattle.target_plan.proofs.Grouping.{place_from, none_or_some, some_inside, place-bound, place-within, laws_of_keys, HasPlaces, places_append}

abbrev pub file_name : File → List ℕ
file_name file = file.name.0

abbrev pub is_same_file : File → File → Bool
is_same_file a b = bytes_eq (file_name a) (file_name b)

pub same_file : (a b : File) → is_eq (slice_cmp nat_cmp (file_name a) (file_name b)) ≡ is_same_file a b
same_file a b = is_eq-slice_cmp (file_name a) (file_name b)

-- the map has the place of each of these files' names
abbrev pub HasNames : BTreeMap (List ℕ) ℕ → List File → Type 0
HasNames m files = HasPlaces is_same_file (slice_cmp nat_cmp) nat_list_cmp_total file_name same_file m files

clash-none : (n : ℕ) (fs : List File) (x : File) → place_from is_same_file n fs x ≡ None → clash_with fs x ≡ None
unfolding clash_with
clash-none n [] x e = refl
clash-none n (f ∷ fs) x e = by (is_same_file f x) refl (clash-none (n + 1) fs x) where
  by : (b : Bool) → is_same_file f x ≡ b → (place_from is_same_file (n + 1) fs x ≡ None → clash_with fs x ≡ None) → cond (is_same_file f x) (Some (clash_of f x)) (clash_with fs x) ≡ None
  by true k rest = absurd (none_or_some (place_from is_same_file n (f ∷ fs) x) n e (ap (λ (b : Bool). cond b (Some n) (place_from is_same_file (n + 1) fs x)) k))
  by false k rest = ap (λ (b : Bool). cond b (Some (clash_of f x)) (clash_with fs x)) k ∙ rest (sym (ap (λ (b : Bool). cond b (Some n) (place_from is_same_file (n + 1) fs x)) k) ∙ e)

clash-some : (n at : ℕ) (fs : List File) (x d : File) → place_from is_same_file n fs x ≡ Some (n + at) → clash_with fs x ≡ Some (clash_of (slice_index_or fs at d) x)
unfolding clash_with
clash-some n at [] x d e = absurd (none_or_some None (n + at) refl e)
clash-some n zero (f ∷ fs) x d e = by (is_same_file f x) refl where
  by : (b : Bool) → is_same_file f x ≡ b → cond (is_same_file f x) (Some (clash_of f x)) (clash_with fs x) ≡ Some (clash_of f x)
  by true k = ap (λ (b : Bool). cond b (Some (clash_of f x)) (clash_with fs x)) k
  by false k = absurd (omega (arith, place-bound is_same_file (laws_of_keys is_same_file (slice_cmp nat_cmp) nat_list_cmp_total file_name same_file) (n + 1) fs x (n + 0) (sym (ap (λ (b : Bool). cond b (Some n) (place_from is_same_file (n + 1) fs x)) k) ∙ e)))
clash-some n (suc at) (f ∷ fs) x d e = by (is_same_file f x) refl (clash-some (n + 1) at fs x d) where
  by : (b : Bool) → is_same_file f x ≡ b → (place_from is_same_file (n + 1) fs x ≡ Some (n + 1 + at) → clash_with fs x ≡ Some (clash_of (slice_index_or fs at d) x)) → cond (is_same_file f x) (Some (clash_of f x)) (clash_with fs x) ≡ Some (clash_of (slice_index_or fs at d) x)
  by true k rest = absurd (omega (arith, some_inside (sym (ap (λ (b : Bool). cond b (Some n) (place_from is_same_file (n + 1) fs x)) k) ∙ e)))
  by false k rest = ap (λ (b : Bool). cond b (Some (clash_of f x)) (clash_with fs x)) k ∙ rest (sym (ap (λ (b : Bool). cond b (Some n) (place_from is_same_file (n + 1) fs x)) k) ∙ e ∙ ap Some (omega arith))

item_at : (files : List File) (at : ℕ) (x : File) → at < length files → x ≡ slice_index_or files at x → drop at files ≡ x ∷ drop (at + 1) files
item_at files at x within is = drop_more files at x within ∙ ap (λ (f : File). f ∷ drop (at + 1) files) (sym is)

items_to : (files : List File) (at : ℕ) (x : File) → at < length files → x ≡ slice_index_or files at x → take at files ++ x ∷ [] ≡ take (at + 1) files
items_to files at x within is = ap (λ (f : File). take at files ++ f ∷ []) is ∙ sym (take_more files at x within)

zero_and : (n : ℕ) → n ≡ 0 + n
zero_and n = omega arith

pub clash_absent : (files : List File) (at : ℕ) (x : File) (m : BTreeMap (List ℕ) ℕ) → at < length files → x ≡ slice_index_or files at x → HasNames m (take at files) → get (slice_cmp nat_cmp) m (file_name x) ≡ None
    → clash_behind (take at files) (drop at files) ≡ clash_behind (take (at + 1) files) (drop (at + 1) files)
unfolding clash_behind
clash_absent files at x m within is places absent =
    ap (clash_behind (take at files)) (item_at files at x within is)
    ∙ ap (λ (o : Option PlanError). or_else o (clash_behind (take at files ++ x ∷ []) (drop (at + 1) files))) (clash-none 0 (take at files) x (sym (places x) ∙ absent))
    ∙ ap (λ (earlier : List File). clash_behind earlier (drop (at + 1) files)) (items_to files at x within is)

pub clash_within : (files : List File) (at first : ℕ) (x : File) (m : BTreeMap (List ℕ) ℕ) → at < length files → HasNames m (take at files) → get (slice_cmp nat_cmp) m (file_name x) ≡ Some first → first < at
clash_within files at first x m within places found =
    omega (arith, within, length-take-le at files (omega (arith, within)), place-within is_same_file (laws_of_keys is_same_file (slice_cmp nat_cmp) nat_list_cmp_total file_name same_file) 0 (take at files) x first (sym (places x) ∙ found))

pub clash_present : (files : List File) (at first : ℕ) (x : File) (m : BTreeMap (List ℕ) ℕ) → at < length files → x ≡ slice_index_or files at x → HasNames m (take at files) → get (slice_cmp nat_cmp) m (file_name x) ≡ Some first
    → clash_behind (take at files) (drop at files) ≡ Some (clash_of (slice_index_or files first x) x)
unfolding clash_behind
clash_present files at first x m within is places found =
    ap (clash_behind (take at files)) (item_at files at x within is)
    ∙ ap (λ (o : Option PlanError). or_else o (clash_behind (take at files ++ x ∷ []) (drop (at + 1) files))) (clash-some 0 first (take at files) x x (sym (places x) ∙ found ∙ ap Some (zero_and first)))
    ∙ ap (λ (f : File). Some (clash_of f x)) (get_or-take at files first x (clash_within files at first x m within places found))

pub names_more : (files : List File) (at : ℕ) (x : File) (k : List ℕ) (m m' : BTreeMap (List ℕ) ℕ) → at < length files → x ≡ slice_index_or files at x → k ≡ file_name x → HasNames m (take at files) → get (slice_cmp nat_cmp) m (file_name x) ≡ None
    → Updates (slice_cmp nat_cmp) m m' k (Some at) → HasNames m' (take (at + 1) files)
names_more files at x k m m' within is key places absent updates =
    subst (HasNames m') (items_to files at x within is)
    (places_append is_same_file (slice_cmp nat_cmp) nat_list_cmp_total file_name same_file m m' (take at files) x at (sym (length-take-le at files (omega (arith, within)))) places absent
    (subst (λ (q : List ℕ). Updates (slice_cmp nat_cmp) m m' q (Some at)) key updates))
