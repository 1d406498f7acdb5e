-- Removing dot segments leaves a path that begins with a slash, and never makes it longer.
use Rattle.std.proofs.Common.{◌≡◌, ℕ, zero, suc, ◌+◌, ◌-◌, ◌<◌, ◌≤◌, true, false, ◌||◌, cond, List, [], ◌∷◌, ◌++◌, length, get_or, take, fold, Some, refl, sym, ap, ◌∙◌, length-append, arith}
use Rattle.std.specs.List.{slice_split, onto_first, slice_get}
use Rattle.std.proofs.lemmas.Bool.{cond_both, cond-false, or_parts, or_from, both_ways}
use Rattle.std.proofs.lemmas.List.Concat.{flat_map-append}
use Rattle.uri_names.specs.Folder.{is_slash, is_dot, is_dot_dot, enter, ends_in_dots, resolved, joined}

abbrev weight : List (List ℕ) → ℕ
weight segments = length (joined segments)

-- the segment that a dot segment at the end leaves
abbrev pub closing : List (List ℕ) → List (List ℕ)
closing segments = cond (ends_in_dots segments) ([] ∷ []) []

weight-append : (a b : List (List ℕ)) → weight (a ++ b) ≡ weight a + weight b
weight-append a b = ap length (flat_map-append (λ s. 47 ∷ s) a b) ∙ length-append (joined a) (joined b)

weight-cons : (s : List ℕ) (segments : List (List ℕ)) → weight (s ∷ segments) ≡ suc (length s) + weight segments
weight-cons s segments = length-append (47 ∷ s) (joined segments)

weight-take : (n : ℕ) (segments : List (List ℕ)) → weight (take n segments) ≤ weight segments
weight-take zero segments = omega arith
weight-take (suc n) [] = omega arith
weight-take (suc n) (s ∷ segments) = omega (arith, weight-cons s (take n segments), weight-cons s segments, weight-take n segments)

weight-enter : (kept : List (List ℕ)) (s : List ℕ) → weight (enter kept s) ≤ weight kept + suc (length s)
unfolding enter
weight-enter kept s =
    cond_both (is_dot s) kept _ (λ r. weight r ≤ weight kept + suc (length s)) (λ _. omega arith)
    (λ _. cond_both (is_dot_dot s) (take (length kept - 1) kept) (kept ++ s ∷ []) (λ r. weight r ≤ weight kept + suc (length s))
    (λ _. omega (arith, weight-take (length kept - 1) kept))
    (λ _. omega (arith, weight-append kept (s ∷ []), weight-cons s [])))

weight-enter_dots : (kept : List (List ℕ)) (s : List ℕ) → (is_dot s || is_dot_dot s) ≡ true → weight (enter kept s) ≤ weight kept
unfolding enter
weight-enter_dots kept s dots =
    cond_both (is_dot s) kept _ (λ r. weight r ≤ weight kept) (λ _. omega arith)
    (λ first. cond_both (is_dot_dot s) (take (length kept - 1) kept) (kept ++ s ∷ []) (λ r. weight r ≤ weight kept) (λ _. weight-take (length kept - 1) kept) (λ second. absurd (both_ways _ (or_from _ _ first second) dots)))

pub enter_keeps : (kept : List (List ℕ)) (s : List ℕ) → (is_dot s || is_dot_dot s) ≡ false → enter kept s ≡ kept ++ s ∷ []
unfolding enter
enter_keeps kept s none = let tests = or_parts (is_dot s) (is_dot_dot s) none in
    cond-false (is_dot s) kept _ tests.0 ∙ cond-false (is_dot_dot s) (take (length kept - 1) kept) (kept ++ s ∷ []) tests.1

-- the last of two or more segments is the last of those behind the first
pub ends_later : (s t : List ℕ) (rest : List (List ℕ)) → ends_in_dots (s ∷ t ∷ rest) ≡ ends_in_dots (t ∷ rest)
unfolding ends_in_dots
ends_later s t rest =
    let n = length rest in
    let longer : suc (suc n) - 1 ≡ suc n = omega arith in
    let shorter : suc n - 1 ≡ n = omega arith in
    ap (λ i. is_dot (get_or (s ∷ t ∷ rest) i []) || is_dot_dot (get_or (s ∷ t ∷ rest) i [])) longer
    ∙ ap (λ i. is_dot (get_or (t ∷ rest) i []) || is_dot_dot (get_or (t ∷ rest) i [])) (sym shorter)

weight-fold : (rest : List (List ℕ)) (kept : List (List ℕ)) (s : List ℕ) → weight (fold enter kept (s ∷ rest)) + weight (closing (s ∷ rest)) ≤ weight kept + weight (s ∷ rest)
unfolding ends_in_dots
weight-fold [] kept s =
    cond_both (ends_in_dots (s ∷ [])) ([] ∷ []) [] (λ r. weight (enter kept s) + weight r ≤ weight kept + weight (s ∷ []))
    (λ dots. omega (arith, weight-enter_dots kept s dots, weight-cons s []))
    (λ _. omega (arith, weight-enter kept s, weight-cons s []))
weight-fold (t ∷ rest) kept s =
    let later = weight-fold rest (enter kept s) t in
    let here = weight-enter kept s in
    rw (ends_later s t rest) (omega (arith, weight-cons s (t ∷ rest), later, here))

pub weight-resolved : (s : List ℕ) (rest : List (List ℕ)) → length (joined (resolved (s ∷ rest))) ≤ length (joined (s ∷ rest))
unfolding resolved
weight-resolved s rest = omega (arith, weight-append (fold enter [] (s ∷ rest)) (closing (s ∷ rest)), weight-fold rest [] s)

-- ---- the first byte

-- something is kept, or a dot segment is the last
stays : (rest : List (List ℕ)) (kept : List (List ℕ)) (s : List ℕ) → 0 < length (fold enter kept (s ∷ rest) ++ closing (s ∷ rest))
unfolding ends_in_dots
stays [] kept s =
    cond_both (ends_in_dots (s ∷ [])) ([] ∷ []) [] (λ r. 0 < length (enter kept s ++ r))
    (λ _. simp length-append (omega arith))
    (λ none. rw (enter_keeps kept s none) (simp length-append (omega arith)))
stays (t ∷ rest) kept s = rw (ends_later s t rest) (stays rest (enter kept s) t)

joined_rooted : (segments : List (List ℕ)) → 0 < length segments → slice_get (joined segments) 0 ≡ Some 47
joined_rooted [] some = absurd (omega arith)
joined_rooted (s ∷ segments) some = refl

pub resolved_rooted : (s : List ℕ) (rest : List (List ℕ)) → slice_get (joined (resolved (s ∷ rest))) 0 ≡ Some 47
unfolding resolved
resolved_rooted s rest = joined_rooted _ (stays rest [] s)

-- ---- the parts of a text

weight-onto : (c : ℕ) (parts : List (List ℕ)) → 0 < weight parts → weight (onto_first c parts) ≡ suc (weight parts)
weight-onto c [] some = absurd (omega arith)
weight-onto c (part ∷ parts) some = omega (arith, weight-cons (c ∷ part) parts, weight-cons part parts)

pub weight-split : (text : List ℕ) → length (joined (slice_split is_slash text)) ≡ suc (length text)
weight-split [] = refl
weight-split (c ∷ text) =
    let later = weight-split text in
    cond_both (is_slash c) ([] ∷ slice_split is_slash text) (onto_first c (slice_split is_slash text)) (λ r. weight r ≡ suc (suc (length text)))
    (λ _. ap suc later)
    (λ _. weight-onto c (slice_split is_slash text) (omega (arith, later)) ∙ ap suc later)
