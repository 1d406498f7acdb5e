-- Bases, and what lies below them, are in the URL Standard's spelling.
use Rattle.std.proofs.Common.{◌≡◌, ◌≢◌, ℕ, zero, suc, ◌+◌, ◌-◌, ◌<◌, ◌≤◌, inl, inr, Bool, true, false, ◌||◌, ◌==◌, nat_lt, List, [], ◌∷◌, ◌++◌, length, get_or, take, reverse, All, IsTrue, unwrap_or, codes, refl, sym, ap, ◌∙◌, subst, append_assoc, length-append, lit≤, arith}
use Rattle.std.specs.List.{list_all, list_any, slice_split, suffix_len}
use Rattle.std.proofs.lemmas.Bool.{cases_eq, cond-true, cond-false, and_parts, or_cases, or_parts, both_ways, or_from, ne_eqb, eq-eqb, eqb-true, eqb-false, ltb-true, and_left}
use Rattle.std.proofs.lemmas.Option.{slice_get_within}
use Rattle.std.proofs.lemmas.List.{take_more, take_all, get_or-reverse}
use Rattle.std.proofs.lemmas.List.Elements.{All-nil, All-head, All-tail, All-append, All-push, All-take, All-weaker}
use Rattle.std.proofs.lemmas.List.Sums.{AllPass-from_list_all, list_all-from_AllPass, suffix_len-le-length, prefix_len_passes}
use Rattle.std.proofs.lemmas.List.Splits.{slice_split_at}
use Rattle.url.specs.declared.sets.TheConstants.{PATH}
use Rattle.url.specs.declared.scheme.SchemeType.{SchemeType}
use Rattle.url.specs.Scheme.{is_special}
use Rattle.url.specs.Scheme as scheme
use Rattle.url.specs.Path.{IsSegment, IsSegmentList, join_segments, without_last_segment, dot_count, dot_len}
use Rattle.url.specs.Parts.{kind_of}
use Rattle.url.proofs.InputLemmas.{rsplit_once_at}
use Rattle.url.proofs.HostLemmas.{none_from_list_any}
use Rattle.url.proofs.PathLemmas.{without_last_valid, push_valid, empty_segment}
use Rattle.url.proofs.SetLemmas.{kept_from_passes}
use Rattle.acq_base.specs.declared.uri.Uri.{Uri}
use Rattle.acq_base.specs.Uri.{is_uri_character}
use Rattle.acq_base.proofs.Uris.{alphanumeric_small}
use Rattle.uri_names.specs.Reading.{with_one_slash}
use Rattle.uri_names.specs.Folder.{is_slash, is_dot, is_dot_dot, resolved, joined, remove_dot_segments, below_of, is_below_character, AreBelowCharacters}
use Rattle.uri_names.specs.Normal.{IsNormal, IsBase}
use Rattle.uri_names.proofs.Segments.{AllOf, UnlessDots, split_all, split_whole, resolved_all}
use Rattle.uri_names.proofs.BelowSound.{removed, below_rooted, below_characters}
use Rattle.uri_names.proofs.SoundParts.{sound_but}
use Rattle.uri_names.proofs.Moved.{moved, plain_parts}

-- ---- one slash at the end

abbrev is_end : ℕ → Bool
is_end c = c == 47

-- a path without the `/` at its end
front_list : (kind : SchemeType) (front : List ℕ) → IsSegmentList kind (front ++ 47 ∷ []) → IsSegmentList kind front
front_list kind front list =
    let cut : without_last_segment (front ++ 47 ∷ []) ≡ front = ap (λ r. unwrap_or r.0 []) (rsplit_once_at 47 front [] (All-nil (λ b. b ≢ 47))) in
    subst (IsSegmentList kind) cut (without_last_valid kind (front ++ 47 ∷ []) list)

in_suffix : (path : List ℕ) (n : ℕ) → n < suffix_len is_end path → get_or path (length path - suc n) 0 ≡ 47
in_suffix path n inside =
    let long = suffix_len-le-length is_end path in
    let place : n < length path = omega arith in
    let same : length path - 1 - n ≡ length path - suc n = omega arith in
    ap (λ k. get_or path k 0) (sym same) ∙ sym (get_or-reverse path n 0 place) ∙ eqb-true (get_or (reverse path) n 0) 47 (prefix_len_passes is_end (reverse path) n 0 inside)

cut_list : (kind : SchemeType) (path : List ℕ) (n : ℕ) → n ≤ suffix_len is_end path → IsSegmentList kind path → IsSegmentList kind (take (length path - n) path)
cut_list kind path zero within list = subst (IsSegmentList kind) (sym (take_all (length path - 0) path (omega arith))) list
cut_list kind path (suc n) within list =
    let before = cut_list kind path n (omega arith) list in
    let long = suffix_len-le-length is_end path in
    let place : length path - suc n < length path = omega arith in
    let one : (length path - suc n) + 1 ≡ length path - n = omega arith in
    let cell = take_more path (length path - suc n) 0 place ∙ ap (λ c. take (length path - suc n) path ++ c ∷ []) (in_suffix path n (omega arith)) in
    front_list kind (take (length path - suc n) path) (subst (IsSegmentList kind) (ap (λ k. take k path) (sym one) ∙ cell) before)

slash_list : (kind : SchemeType) (path : List ℕ) → IsSegmentList kind path → IsSegmentList kind (with_one_slash path)
unfolding with_one_slash
slash_list kind path list = push_valid kind _ [] (cut_list kind path (suffix_len is_end path) (omega arith) list) (empty_segment kind)

slash_some : (path : List ℕ) → 0 < length (with_one_slash path)
unfolding with_one_slash
slash_some path = simp length-append (omega arith)

slash_all : (C : ℕ → Type 0) (path : List ℕ) → C 47 → All C path → All C (with_one_slash path)
unfolding with_one_slash
slash_all C path slash all = All-push C _ 47 (All-take C _ path all) slash

slash_front : (path : List ℕ) → (front : List ℕ) × (with_one_slash path ≡ front ++ 47 ∷ [])
unfolding with_one_slash
slash_front path = (_, refl)

pub base_from : (uri : Uri) → IsNormal uri → list_any (λ c. c == 63) uri.path ≡ false → IsBase (record uri { path = with_one_slash uri.path })
base_from uri normal none =
    let plain = All-weaker (λ c. (c == 63) ≡ false) (λ c. c ≢ 63) (λ c e. eqb-false c 63 e) uri.path (none_from_list_any (λ c. c == 63) uri.path none) in
    let parts = plain_parts uri normal plain in
    let kind = kind_of normal.url in
    let list = subst (IsSegmentList kind) (sym parts.path) parts.list.0 in
    let characters = subst (λ p. list_all is_uri_character p ≡ true) (sym parts.path) parts.characters in
    let front = slash_front uri.path in
    record {
      normal = moved uri normal (with_one_slash uri.path) parts.query (slash_list kind uri.path list, λ _. slash_some uri.path)
          (list_all-from_AllPass is_uri_character _ (slash_all (λ c. IsTrue (is_uri_character c)) uri.path refl (AllPass-from_list_all is_uri_character uri.path characters)));
      plain = slash_all (λ c. c ≢ 63) uri.path (λ e. eqb-false 47 63 refl e) plain;
      front = front.0;
      ended = front.1;
    }

-- ---- segments of characters that `below` takes

not_among : (c d : ℕ) → is_below_character d ≡ false → IsTrue (is_below_character c) → c ≢ d
not_among c d none here same = both_ways _ none (rw (sym same) here)

list_below : (xs : List ℕ) → list_all (λ d. nat_lt d 128) xs ≡ true → (c : ℕ) → list_any (λ d. c == d) xs ≡ true → c < 128
list_below [] each c e = cc
list_below (x ∷ xs) each c e =
    let parts = and_parts _ _ each in
    elim (or_cases _ _ e) [
      | inl here ↦ rw (eqb-true c x here) (ltb-true x 128 parts.0)
      | inr later ↦ list_below xs parts.1 c later
    ]

ascii : (c : ℕ) → IsTrue (is_below_character c) → c < 128
ascii c here =
    elim (or_cases _ _ here) [
      | inl letter ↦ alphanumeric_small c letter
      | inr mark ↦ list_below (codes "._-+~:/") refl c mark
    ]

plain_first : (c : ℕ) (r : List ℕ) → c ≢ 46 → c ≢ 37 → dot_len (c ∷ r) ≡ 0
plain_first c r dot percent = cond-false (c == 46) _ _ (ne_eqb c 46 dot) ∙ cond-false _ 3 0 (and_left _ _ (and_left _ _ (ne_eqb c 37 percent)))

short_dot : (c : ℕ) (r : List ℕ) → c ≢ 37 → dot_len (c ∷ r) ≤ 1
short_dot c r percent =
    elim (cases_eq c 46) [
      | inl same ↦ rw same (lit≤ tt)
      | inr other ↦ omega (arith, plain_first c r other percent)
    ]

-- a segment that begins with a dot, and is no dot segment
dotted : (r : List ℕ) → All (λ c. c ≢ 37) r → (is_dot (46 ∷ r) || is_dot_dot (46 ∷ r)) ≡ false → dot_count (46 ∷ r) ≡ 0
unfolding dot_count
dotted [] plain none = cc
dotted (d ∷ []) plain none =
    elim (cases_eq d 46) [
      | inl same ↦ absurd (both_ways (is_dot_dot (46 ∷ d ∷ [])) (or_parts (is_dot (46 ∷ d ∷ [])) (is_dot_dot (46 ∷ d ∷ [])) none).1 (rw same refl))
      | inr other ↦ cond-false (dot_len (d ∷ []) == 1) 2 0 (ne_eqb _ 1 (λ e. omega (arith, plain_first d [] other (All-head (λ c. c ≢ 37) d [] plain))))
    ]
dotted (d ∷ e ∷ q) plain none =
    cond-false (length (d ∷ e ∷ q) == 0) 1 _ (ne_eqb (length (d ∷ e ∷ q)) 0 (λ same. omega arith))
    ∙ cond-false (dot_len (d ∷ e ∷ q) == length (d ∷ e ∷ q)) 2 0 (ne_eqb _ (length (d ∷ e ∷ q)) (λ same. omega (arith, short_dot d (e ∷ q) (All-head (λ c. c ≢ 37) d (e ∷ q) plain))))

no_dots : (s : List ℕ) → All (λ c. c ≢ 37) s → (is_dot s || is_dot_dot s) ≡ false → dot_count s ≡ 0
unfolding dot_count
no_dots [] plain none = refl
no_dots (c ∷ r) plain none =
    elim (cases_eq c 46) [
      | inl same ↦ subst (λ x. (is_dot (x ∷ r) || is_dot_dot (x ∷ r)) ≡ false → dot_count (x ∷ r) ≡ 0) (sym same) (λ not_dots. dotted r (All-tail (λ x. x ≢ 37) c r plain) not_dots) none
      | inr other ↦ cond-true (dot_len (c ∷ r) == 0) _ _ (eq-eqb _ 0 (plain_first c r other (All-head (λ x. x ≢ 37) c r plain)))
    ]

plain_slash : (kind : SchemeType) (c : ℕ) → c ≢ 47 → c ≢ 92 → scheme.is_slash kind c ≡ false
plain_slash kind c slash back = or_from _ _ (ne_eqb c 47 slash) (and_left _ _ (ne_eqb c 92 back))

below_segment : (kind : SchemeType) (s : List ℕ) → All (λ c. IsTrue (is_below_character c)) s → All (λ c. c ≢ 47) s → UnlessDots (IsSegment kind) s
below_segment kind s characters whole none = record {
  escaped = All-weaker (λ c. IsTrue (is_below_character c)) _ (λ c here. kept_from_passes is_below_character PATH refl c (ascii c here) here) s characters;
  whole = λ k d inside. plain_slash kind (get_or s k d) (whole k d inside) (not_among (get_or s k d) 92 refl (characters k d inside));
  resolved = no_dots s (All-weaker (λ c. IsTrue (is_below_character c)) (λ c. c ≢ 37) (λ c here. not_among c 37 refl here) s characters) none;
}

no_slash : (s : List ℕ) → All (λ c. c ≢ 47) s → All (λ c. is_slash c ≡ false) s
no_slash = All-weaker (λ c. c ≢ 47) (λ c. is_slash c ≡ false) (λ c other. ne_eqb c 47 other)

split_joined : (s : List ℕ) (segments : List (List ℕ)) (path : List ℕ) → All (AllOf (λ c. c ≢ 47)) (s ∷ segments) → slice_split is_slash (s ++ (join_segments segments ++ 47 ∷ path)) ≡ (s ∷ segments) ++ slice_split is_slash path
split_joined s [] path whole = slice_split_at is_slash s 47 path (no_slash s (All-head (AllOf (λ c. c ≢ 47)) s [] whole)) refl
split_joined s (t ∷ segments) path whole =
    let C : ℕ → Type 0 = λ c. c ≢ 47 in
    slice_split_at is_slash s 47 ((t ++ join_segments segments) ++ 47 ∷ path) (no_slash s (All-head (AllOf C) s (t ∷ segments) whole)) refl
    ∙ ap (λ l. s ∷ l) (ap (slice_split is_slash) (append_assoc t (join_segments segments) (47 ∷ path)) ∙ split_joined t segments path (All-tail (AllOf C) s (t ∷ segments) whole))

-- a path of segments with another path behind its last slash
removed_joined : (segments : List (List ℕ)) (path : List ℕ) → All (AllOf (λ c. c ≢ 47)) segments → remove_dot_segments (join_segments segments ++ 47 ∷ path) ≡ joined (resolved (segments ++ slice_split is_slash path))
removed_joined [] path whole = removed path
removed_joined (s ∷ segments) path whole =
    removed ((s ++ join_segments segments) ++ 47 ∷ path)
    ∙ ap (λ l. joined (resolved l)) (ap (slice_split is_slash) (append_assoc s (join_segments segments) (47 ∷ path)) ∙ split_joined s segments path whole)

segment_whole : (kind : SchemeType) (s : List ℕ) → IsSegment kind s → All (λ c. c ≢ 47) s
segment_whole kind s segment =
    All-weaker (λ c. scheme.is_slash kind c ≡ false) (λ c. c ≢ 47) (λ c none same. both_ways (scheme.is_slash kind c) none (rw same refl)) s segment.whole

below_list : (kind : SchemeType) (front path : List ℕ) → IsSegmentList kind (front ++ 47 ∷ []) → AreBelowCharacters path → IsSegmentList kind (remove_dot_segments ((front ++ 47 ∷ []) ++ path))
below_list kind front path list characters =
    let before = front_list kind front list in
    let segments = before.segments in
    let parts = slice_split is_slash path in
    let whole : (front ++ 47 ∷ []) ++ path ≡ join_segments segments ++ 47 ∷ path = append_assoc front (47 ∷ []) path ∙ ap (λ f. f ++ 47 ∷ path) before.joined in
    let good : All (UnlessDots (IsSegment kind)) parts = λ k d inside. below_segment kind (get_or parts k d) (split_all (λ c. IsTrue (is_below_character c)) path characters k d inside) (split_whole path k d inside) in
    record {
      segments = resolved (segments ++ parts);
      joined = ap remove_dot_segments whole ∙ removed_joined segments path (All-weaker (IsSegment kind) (AllOf (λ c. c ≢ 47)) (segment_whole kind) segments before.each);
      each = resolved_all (IsSegment kind) (segments ++ parts) (empty_segment kind)
          (All-append (UnlessDots (IsSegment kind)) segments parts (All-weaker (IsSegment kind) (UnlessDots (IsSegment kind)) (λ s segment none. segment) segments before.each) good);
    }

pub below_normal : (base : Uri) (path : List ℕ) → IsBase base → AreBelowCharacters path → IsNormal (below_of base path)
unfolding below_of
below_normal base path is_base characters =
    let parts = plain_parts base is_base.normal is_base.plain in
    let kind = kind_of is_base.normal.url in
    let but = sound_but base is_base.normal in
    let list : IsSegmentList kind base.path = subst (IsSegmentList kind) (sym parts.path) parts.list.0 in
    let below = subst (λ p. IsSegmentList kind (remove_dot_segments (p ++ path))) (sym is_base.ended) (below_list kind is_base.front path (subst (IsSegmentList kind) is_base.ended list) characters) in
    let all = below_characters base.path path but.rooted but.path characters in
    let some = slice_get_within _ 0 47 (below_rooted base.path path but.rooted) in
    moved base is_base.normal (remove_dot_segments (base.path ++ path)) parts.query (below, λ _. some) (list_all-from_AllPass is_uri_character _ all)
