-- The keys of sources, components and names.
use Rattle.std.proofs.Common.{◌≡◌, ℕ, ◌<◌, ◌==◌, Bool, true, false, ◌&&◌, List, [], ◌∷◌, ◌++◌, length, map, Option, Some, None, IsSome, IfSome, refl, sym, ap, ◌∙◌, subst}
use Rattle.std.specs.Global.{Vec}
use Rattle.std.specs.BTreeMap.{BTreeMap, get, Updates, IsUnchanged}
use Rattle.std.proofs.lemmas.List.{length-map}
use Rattle.std.specs.Cmp.{IsTotalOrder, unsigned_tied, bool_cmp_total, tied_then}
use Rattle.std.specs.Cmp.Lexicographic.{slice_cmp}
use Rattle.std.specs.Ordering.{is_eq, nat_cmp, bool_cmp, ordering_then}
use Rattle.std.specs.Str.{bytes_eq}
use Rattle.std.specs.declared.cmp.Ordering.{Ordering}
use Rattle.std.proofs.lemmas.Cmp.{nat_cmp_total, nat_list_cmp_total, on_total, then_total}
use Rattle.std.proofs.lemmas.Map.Text.{is_eq-slice_cmp}
use Rattle.acq_base.specs.Uri.{scheme_index}
use Rattle.acq_base.specs.declared.uri.Scheme.{Scheme}
use Rattle.acq_base.specs.declared.uri.Scheme.TheVariants.{Http, File}
use Rattle.source_lists.specs.declared.entry.Entry.{Entry}
use Rattle.target_plan.specs.Offers.{Asked, Mention, is_same_arch, is_same_component}
use Rattle.target_plan.specs.Drafts.{is_same_source, is_same_name, name_of}
use Rattle.target_plan.specs.Groups.{entered}
use Rattle.target_plan.specs.Seen.{is_file, key_of, key_cmp, seen, seen_group}
use Rattle.target_plan.specs.declared.draft.Planned.{Planned}
use Rattle.target_plan.specs.declared.groups.SourceKey.{SourceKey}
use Rattle.target_plan.proofs.Grouping.{AreGrouped, group_within, group_entered}
use Rattle.target_plan.proofs.Vectors.{seen_through}

pub key_total : IsTotalOrder key_cmp
key_total =
    then_total (on_total (λ (k : SourceKey). k.is_file) bool_cmp_total)
    (then_total (on_total (λ (k : SourceKey). k.host) nat_list_cmp_total)
    (then_total (on_total (λ (k : SourceKey). k.port) nat_cmp_total)
    (then_total (on_total (λ (k : SourceKey). k.path) nat_list_cmp_total) (on_total (λ (k : SourceKey). k.suite) nat_list_cmp_total))))

schemes : (a b : Scheme) → is_eq (bool_cmp (is_file a) (is_file b)) ≡ (scheme_index a == scheme_index b)
schemes Http Http = refl
schemes Http File = refl
schemes File Http = refl
schemes File File = refl

five : (s h p q u : Bool) → (s && (h && (p && (q && u)))) ≡ ((s && h && p && q) && u)
five false h p q u = refl
five true false p q u = refl
five true true false q u = refl
five true true true false u = refl
five true true true true u = refl

all_tied : (a b c d e : Ordering) → is_eq (ordering_then a (ordering_then b (ordering_then c (ordering_then d e)))) ≡ (is_eq a && (is_eq b && (is_eq c && (is_eq d && is_eq e))))
all_tied a b c d e =
    sym (tied_then a (ordering_then b (ordering_then c (ordering_then d e))))
    ∙ ap (λ (t : Bool). is_eq a && t) (sym (tied_then b (ordering_then c (ordering_then d e)))
    ∙ ap (λ (t : Bool). is_eq b && t) (sym (tied_then c (ordering_then d e))
    ∙ ap (λ (t : Bool). is_eq c && t) (sym (tied_then d e))))

pub same_key : (a b : Entry) → is_eq (key_cmp (key_of a) (key_of b)) ≡ is_same_source a b
unfolding is_same_source
same_key a b =
    all_tied (bool_cmp (is_file a.uri.scheme) (is_file b.uri.scheme)) (slice_cmp nat_cmp a.uri.host b.uri.host) (nat_cmp a.uri.port b.uri.port) (slice_cmp nat_cmp a.uri.path b.uri.path) (slice_cmp nat_cmp a.suite b.suite)
    ∙ (λ i. schemes a.uri.scheme b.uri.scheme i && (is_eq-slice_cmp a.uri.host b.uri.host i && (unsigned_tied a.uri.port b.uri.port i && (is_eq-slice_cmp a.uri.path b.uri.path i && is_eq-slice_cmp a.suite b.suite i))))
    ∙ five (scheme_index a.uri.scheme == scheme_index b.uri.scheme) (bytes_eq a.uri.host b.uri.host) (a.uri.port == b.uri.port) (bytes_eq a.uri.path b.uri.path) (bytes_eq a.suite b.suite)

abbrev pub component_of : Mention → List ℕ
component_of mention = mention.0

pub same_component : (a b : Mention) → is_eq (slice_cmp nat_cmp (component_of a) (component_of b)) ≡ is_same_component a b
same_component a b = is_eq-slice_cmp a.0 b.0

abbrev pub arch_of : Asked → List ℕ
arch_of asked = asked.0

pub same_arch : (a b : Asked) → is_eq (slice_cmp nat_cmp (arch_of a) (arch_of b)) ≡ is_same_arch a b
same_arch a b = is_eq-slice_cmp a.0 b.0

pub same_name : (a b : Planned) → is_eq (slice_cmp nat_cmp (name_of a) (name_of b)) ≡ is_same_name a b
same_name a b = is_eq-slice_cmp (name_of a) (name_of b)

-- ---- a vector of groups and the map of their places, one item further

module _ {T X K : Type 0} (f : T → X) (same : X → X → Bool) (cmp : K → K → Ordering) (total : IsTotalOrder cmp) (key : X → K) (link : (a b : X) → is_eq (cmp (key a) (key b)) ≡ same a b) where
  pub grouped_within : (m : BTreeMap K ℕ) (old : List (T × Vec T)) (xs : List X) (y : X) (k : K) (found : Option ℕ) → k ≡ key y → AreGrouped same cmp total key link m (map (seen_group f) old) xs → found ≡ get cmp m k → IfSome found (λ at. at < length old)
  grouped_within m old xs y k found of_item so_far is =
      subst (λ (n : ℕ). IfSome found (λ at. at < n)) (length-map old (seen_group f)) (group_within same cmp total key link m (map (seen_group f) old) xs y found so_far (is ∙ ap (get cmp m) of_item))

  pub grouped_more : (m m' : BTreeMap K ℕ) (old new : List (T × Vec T)) (xs : List X) (item : T) (k : K) (found : Option ℕ) (len : ℕ) → k ≡ key (f item) → len ≡ length old → AreGrouped same cmp total key link m (map (seen_group f) old) xs → found ≡ get cmp m k
      → (IsSome found → IsUnchanged m m') → (found ≡ None → Updates cmp m m' k (Some len)) → map (seen_group seen) new ≡ entered found item (map (seen_group seen) old) → AreGrouped same cmp total key link m' (map (seen_group f) new) (xs ++ f item ∷ [])
  grouped_more m m' old new xs item k found len of_item is_len so_far is unchanged updates enters =
      group_entered same cmp total key link m m' (map (seen_group f) old) (map (seen_group f) new) xs (f item) found len (is_len ∙ sym (length-map old (seen_group f))) so_far (is ∙ ap (get cmp m) of_item) unchanged
      (λ none. subst (λ (q : K). Updates cmp m m' q (Some len)) of_item (updates none)) (seen_through f found item old new enters)
