-- The names that count, in byte order, each once: what they are, and that a sort and a removal of repeated names give them.
use Rattle.std.proofs.Common.{◌≡◌, ◌∙◌, refl, sym, ap, subst, true≢false, ⊎_elim, inl, inr, ◌⊎◌, Bool, true, false, cond, List, [], ◌∷◌}
use Rattle.std.specs.Prelude.{nat_eq, filter}
use Rattle.std.specs.declared.cmp.Ordering.{Ordering}
use Rattle.std.specs.declared.cmp.Ordering.TheVariants.{Less, Equal, Greater}
use Rattle.std.specs.List.{dedup, list_all}
use Rattle.std.specs.List.Sorted.{IsPermutation, IsSorted}
use Rattle.std.specs.Cmp.Lexicographic.{pointwise, texts_ties}
use Rattle.std.proofs.lemmas.Cmp.{nat_list_cmp_total, nat_list_eq_equiv}
use Rattle.std.proofs.lemmas.List.Kept.{IsStrictlySortedBy-dedup, Contains-dedup, Contains-from_dedup}
use Rattle.std.proofs.lemmas.List.Sorted.{Contains-permutation, IsPermutation-sym}
use Rattle.std.proofs.lemmas.Slice.Eq.{bytes_eq-Decides}
use Rattle.std.specs.Prelude.{IfSome, Option, Some, None}
use Rattle.acq_outside.specs.Etc.{EtcFiles, folder_names}
use Rattle.acq_outside.specs.declared.etc.Place.{Place}
use Rattle.configuration.specs.Answers.{AreNames}
use Rattle.configuration.specs.Names.{counts, placed, with_name, listing}
use Rattle.configuration.proofs.Order.{Name, cmp, IsIn, IsBelow, IsOrdered, in_from_contains, contains_from_in, tied, turned, below_more, ordered_head, ordered_tail, ordered_cons, ordered_nil, same_names}

-- ---- one more name

below_with : (a name : Name) (names : List Name) → cmp a name ≡ Less → IsBelow a names → IsBelow a (with_name name names)
unfolding with_name
below_with a name [] less below = (less, tt)
below_with a name (first ∷ others) less below = go (cmp name first) (below_with a name others less below.1)
  where
    go : (o : Ordering) → IsBelow a (with_name name others) → IsBelow a (placed o name first others (with_name name others))
    go Less among = (less, below)
    go Equal among = below
    go Greater among = (below.0, among)

pub ordered_with : (name : Name) (names : List Name) → IsOrdered names → IsOrdered (with_name name names)
unfolding with_name
ordered_with name [] order = ordered_cons name [] tt ordered_nil
ordered_with name (first ∷ others) order = go (cmp name first) refl (ordered_with name others (ordered_tail first others order))
  where
    go : (o : Ordering) → cmp name first ≡ o → IsOrdered (with_name name others) → IsOrdered (placed o name first others (with_name name others))
    go Less e among = ordered_cons name (first ∷ others) (e, below_more name first others e (ordered_head first others order)) order
    go Equal e among = order
    go Greater e among = ordered_cons first (with_name name others) (below_with first name others (turned name first e) (ordered_head first others order)) among

pub in_with : (name : Name) (names : List Name) (other : Name) → IsIn (with_name name names) other → (name ≡ other) ⊎ IsIn names other
unfolding with_name
in_with name [] other within = within
in_with name (first ∷ others) other within = go (cmp name first) (in_with name others other) within
  where
    go : (o : Ordering) → (IsIn (with_name name others) other → (name ≡ other) ⊎ IsIn others other) → IsIn (placed o name first others (with_name name others)) other → (name ≡ other) ⊎ IsIn (first ∷ others) other
    go Less among within = within
    go Equal among within = inr within
    go Greater among (inl is) = inr (inl is)
    go Greater among (inr later) = ⊎_elim (λ (same : name ≡ other). inl same) (λ (rest : IsIn others other). inr (inr rest)) (among later)

pub with_in : (name : Name) (names : List Name) (other : Name) → (name ≡ other) ⊎ IsIn names other → IsIn (with_name name names) other
unfolding with_name
with_in name [] other within = within
with_in name (first ∷ others) other within = go (cmp name first) refl (with_in name others other) within
  where
    go : (o : Ordering) → cmp name first ≡ o → ((name ≡ other) ⊎ IsIn others other → IsIn (with_name name others) other) → (name ≡ other) ⊎ IsIn (first ∷ others) other → IsIn (placed o name first others (with_name name others)) other
    go Less e among within = within
    go Equal e among (inl same) = inl (sym (tied name first e) ∙ same)
    go Equal e among (inr rest) = rest
    go Greater e among (inl same) = inr (among (inl same))
    go Greater e among (inr (inl is)) = inl is
    go Greater e among (inr (inr rest)) = inr (among (inr rest))

-- ---- the listing

pub listing_ordered : (is_counted : Name → Bool) (names : List Name) → IsOrdered (listing is_counted names)
unfolding listing
listing_ordered is_counted [] = ordered_nil
listing_ordered is_counted (name ∷ names) = go (is_counted name) (listing_ordered is_counted names)
  where
    go : (b : Bool) → IsOrdered (listing is_counted names) → IsOrdered (cond b (with_name name (listing is_counted names)) (listing is_counted names))
    go true order = ordered_with name (listing is_counted names) order
    go false order = order

abbrev pub Counts : (Name → Bool) → List Name → Name → Type 0
Counts is_counted names name = IsIn names name × (is_counted name ≡ true)

pub listed_counts : (is_counted : Name → Bool) (names : List Name) (name : Name) → IsIn (listing is_counted names) name → Counts is_counted names name
unfolding listing
listed_counts is_counted [] name within = absurd within
listed_counts is_counted (first ∷ others) name within =
    go (is_counted first) refl (λ (rest : IsIn (listing is_counted others) name). let both = listed_counts is_counted others name rest in (inr both.0, both.1)) within
  where
    go : (b : Bool) → is_counted first ≡ b → (IsIn (listing is_counted others) name → Counts is_counted (first ∷ others) name) → IsIn (cond b (with_name first (listing is_counted others)) (listing is_counted others)) name → Counts is_counted (first ∷ others) name
    go true e later within = ⊎_elim (λ (same : first ≡ name). (inl same, ap is_counted (sym same) ∙ e)) later (in_with first (listing is_counted others) name within)
    go false e later within = later within

pub counts_listed : (is_counted : Name → Bool) (names : List Name) (name : Name) → IsIn names name → is_counted name ≡ true → IsIn (listing is_counted names) name
unfolding listing
counts_listed is_counted [] name within counted = absurd within
counts_listed is_counted (first ∷ others) name within counted = go (is_counted first) refl (λ (rest : IsIn others name). counts_listed is_counted others name rest counted) within
  where
    go : (b : Bool) → is_counted first ≡ b → (IsIn others name → IsIn (listing is_counted others) name) → (first ≡ name) ⊎ IsIn others name → IsIn (cond b (with_name first (listing is_counted others)) (listing is_counted others)) name
    go true e later (inl same) = with_in first (listing is_counted others) name (inl same)
    go true e later (inr rest) = with_in first (listing is_counted others) name (inr (later rest))
    go false e later (inl same) = absurd (true≢false (sym counted ∙ (ap is_counted (sym same) ∙ e)))
    go false e later (inr rest) = later rest

-- ---- the names that are kept

pub in_filter : (is_counted : Name → Bool) (names : List Name) (name : Name) → IsIn (filter is_counted names) name → Counts is_counted names name
in_filter is_counted [] name within = absurd within
in_filter is_counted (first ∷ others) name within =
    go (is_counted first) refl (λ (rest : IsIn (filter is_counted others) name). let both = in_filter is_counted others name rest in (inr both.0, both.1)) within
  where
    go : (b : Bool) → is_counted first ≡ b → (IsIn (filter is_counted others) name → Counts is_counted (first ∷ others) name) → IsIn (cond b (first ∷ filter is_counted others) (filter is_counted others)) name → Counts is_counted (first ∷ others) name
    go true e later (inl same) = (inl same, ap is_counted (sym same) ∙ e)
    go true e later (inr rest) = later rest
    go false e later rest = later rest

pub filter_in : (is_counted : Name → Bool) (names : List Name) (name : Name) → IsIn names name → is_counted name ≡ true → IsIn (filter is_counted names) name
filter_in is_counted [] name within counted = absurd within
filter_in is_counted (first ∷ others) name within counted = go (is_counted first) refl (λ (rest : IsIn others name). filter_in is_counted others name rest counted) within
  where
    go : (b : Bool) → is_counted first ≡ b → (IsIn others name → IsIn (filter is_counted others) name) → (first ≡ name) ⊎ IsIn others name → IsIn (cond b (first ∷ filter is_counted others) (filter is_counted others)) name
    go true e later (inl same) = inl same
    go true e later (inr rest) = inr (later rest)
    go false e later (inl same) = absurd (true≢false (sym counted ∙ (ap is_counted (sym same) ∙ e)))
    go false e later (inr rest) = later rest

-- a list of names put in order, each once
abbrev pub once : List Name → List Name
once sorted = dedup (pointwise nat_eq) sorted

pub once_ordered : (sorted : List Name) → IsSorted cmp sorted → IsOrdered (once sorted)
once_ordered sorted order = IsStrictlySortedBy-dedup nat_list_cmp_total texts_ties sorted order

pub once_in : (kept sorted : List Name) (name : Name) → IsPermutation kept sorted → IsIn kept name → IsIn (once sorted) name
once_in kept sorted name moved within =
    in_from_contains (once sorted) name
    (Contains-dedup nat_list_eq_equiv (λ a b. (bytes_eq-Decides a b).0) sorted name (Contains-permutation kept sorted name moved (contains_from_in kept name within)))

pub in_once : (kept sorted : List Name) (name : Name) → IsPermutation kept sorted → IsIn (once sorted) name → IsIn kept name
in_once kept sorted name moved within =
    in_from_contains kept name
    (Contains-permutation sorted kept name (IsPermutation-sym kept sorted moved) (Contains-from_dedup (pointwise nat_eq) sorted name (contains_from_in (once sorted) name within)))

permuted_in : (told got : List Name) (name : Name) → IsPermutation told got → IsIn told name → IsIn got name
permuted_in told got name moved within = in_from_contains got name (Contains-permutation told got name moved (contains_from_in told name within))

-- they are the names of the folder that count, in whichever order these came
pub once_is_listing : (is_counted : Name → Bool) (told got sorted : List Name) → IsPermutation told got → IsPermutation (filter is_counted got) sorted → IsSorted cmp sorted → once sorted ≡ listing is_counted told
once_is_listing is_counted told got sorted moved permuted order =
    same_names (once sorted) (listing is_counted told) (once_ordered sorted order) (listing_ordered is_counted told)
    (λ name within.
    let kept = in_filter is_counted got name (in_once (filter is_counted got) sorted name permuted within) in
    counts_listed is_counted told name (permuted_in got told name (IsPermutation-sym told got moved) kept.0) kept.1)
    (λ name within.
    let listed = listed_counts is_counted told name within in
    once_in (filter is_counted got) sorted name permuted (filter_in is_counted got name (permuted_in told got name moved listed.0) listed.1))

all_count : (is_counted : Name → Bool) (names : List Name) → ((name : Name) → IsIn names name → is_counted name ≡ true) → list_all is_counted names ≡ true
all_count is_counted [] all = refl
all_count is_counted (first ∷ others) all = rw (all first (inl refl)) (all_count is_counted others (λ name within. all name (inr within)))

-- and in any case names that count
pub once_count : (is_counted : Name → Bool) (got sorted : List Name) → IsPermutation (filter is_counted got) sorted → list_all is_counted (once sorted) ≡ true
once_count is_counted got sorted permuted = all_count is_counted (once sorted) (λ name within. (in_filter is_counted got name (in_once (filter is_counted got) sorted name permuted within)).1)

-- what a sort and a removal of repeated names make of those that count
pub names_listed : (told : Option EtcFiles) (place : Place) (got kept sorted listed : List Name) → IfSome told (λ all. IsPermutation (folder_names all place) got) → kept ≡ filter (counts place) got → IsPermutation kept sorted → IsSorted cmp sorted
    → listed ≡ once sorted → AreNames told place listed
names_listed (Some all) place got kept sorted listed moved keeps permuted order is =
    is ∙ once_is_listing (counts place) (folder_names all place) got sorted moved (subst (λ (ns : List Name). IsPermutation ns sorted) keeps permuted) order
names_listed None place got kept sorted listed moved keeps permuted order is =
    let counted = once_count (counts place) got sorted (subst (λ (ns : List Name). IsPermutation ns sorted) keeps permuted) in
    (subst (λ (ns : List Name). IsOrdered ns) (sym is) (once_ordered sorted order), ap (list_all (counts place)) is ∙ counted)
