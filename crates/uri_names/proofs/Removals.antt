-- Removing dot segments goes by the standard's rounds.
use Rattle.std.proofs.Common.{◌≡◌, ◌≢◌, inl, inr, ℕ, suc, ◌-◌, Bool, true, false, cond, List, [], ◌∷◌, ◌++◌, length, take, drop, fold, codes, All, Some, refl, sym, ap, ◌∙◌, subst, append_assoc, arith}
use Rattle.std.specs.List.{slice_split, onto_first, slice_get}
use Rattle.std.specs.Cmp.Lexicographic.{bytes_decides}
use Rattle.std.proofs.lemmas.Bool.{cond_both, eqb-true, false≢true, or_from}
use Rattle.std.proofs.lemmas.List.{append-nil}
use Rattle.std.proofs.lemmas.List.Concat.{flat_map-append}
use Rattle.std.proofs.lemmas.List.Elements.{All-nil, All-head, All-tail, All-push, All-take}
use Rattle.acq_base.specs.declared.uri.Uri.{Uri}
use Rattle.acq_base.specs.Uri.{IsSound}
use Rattle.uri_names.specs.Folder.{is_slash, is_dot, is_dot_dot, enter, ends_in_dots, resolved, joined, remove_dot_segments, below_of}
use Rattle.uri_names.specs.DotSegments.{HasNoSlash, IsPlainSegment, IsWithoutLast, Removes, ended, dot, last_dot, dots, last_dots, segment, IsWithoutDots}
use Rattle.uri_names.proofs.Segments.{split_whole}
use Rattle.uri_names.proofs.Lengths.{closing, ends_later, enter_keeps}
use Rattle.uri_names.proofs.BelowSound.{root, removed}

-- ---- the segments of a text

joined-onto : (c : ℕ) (parts : List (List ℕ)) (text : List ℕ) → joined parts ≡ 47 ∷ text → joined (onto_first c parts) ≡ 47 ∷ c ∷ text
joined-onto c [] text e = absurd cc
joined-onto c (part ∷ parts) text e = ap (λ (t : List ℕ). 47 ∷ c ∷ drop 1 t) e

joined-split : (text : List ℕ) → joined (slice_split is_slash text) ≡ 47 ∷ text
joined-split [] = refl
joined-split (c ∷ text) =
    cond_both (is_slash c) ([] ∷ slice_split is_slash text) (onto_first c (slice_split is_slash text)) (λ parts. joined parts ≡ 47 ∷ c ∷ text)
    (λ slash. ap (λ (t : List ℕ). 47 ∷ t) (joined-split text) ∙ ap (λ (d : ℕ). 47 ∷ d ∷ text) (sym (eqb-true c 47 slash)))
    (λ _. joined-onto c (slice_split is_slash text) text (joined-split text))

joined-push : (kept : List (List ℕ)) (s : List ℕ) → joined (kept ++ s ∷ []) ≡ joined kept ++ 47 ∷ s
joined-push kept s = flat_map-append (λ t. 47 ∷ t) kept (s ∷ []) ∙ ap (λ (t : List ℕ). joined kept ++ t) (append-nil (47 ∷ s))

-- ---- the last segment taken away

last_of : (k : List ℕ) (kept : List (List ℕ)) → All HasNoSlash (k ∷ kept) → (text : List ℕ) × HasNoSlash text × (joined (k ∷ kept) ≡ joined (take (length kept) (k ∷ kept)) ++ 47 ∷ text)
last_of k [] all = (k, All-head HasNoSlash k [] all, append-nil (47 ∷ k))
last_of k (l ∷ kept) all =
    let behind = last_of l kept (All-tail HasNoSlash k (l ∷ kept) all) in
    (behind.0, behind.1, ap (λ (t : List ℕ). (47 ∷ k) ++ t) behind.2 ∙ sym (append_assoc (47 ∷ k) (joined (take (length kept) (l ∷ kept))) (47 ∷ behind.0)))

without_last : (kept : List (List ℕ)) → All HasNoSlash kept → IsWithoutLast (joined kept) (joined (take (length kept - 1) kept))
without_last [] all = inl (refl, refl)
without_last (k ∷ kept) all =
    let shorter : length kept ≡ suc (length kept) - 1 = omega arith in
    inr (subst (λ (n : ℕ). (text : List ℕ) × HasNoSlash text × (joined (k ∷ kept) ≡ joined (take n (k ∷ kept)) ++ 47 ∷ text)) shorter (last_of k kept all))

-- ---- the rounds

-- the segment that a dot segment at the end leaves
closes : (output : List ℕ) → Removes output (codes "/") (output ++ 47 ∷ [])
closes output = segment output [] [] (output ++ 47 ∷ []) (All-nil (λ c. c ≢ 47), (λ e. absurd cc), λ e. absurd cc) (inl refl) (ended (output ++ 47 ∷ []))

closed : (kept : List (List ℕ)) → Removes (joined kept) (codes "/") (joined (kept ++ [] ∷ []))
closed kept = subst (Removes (joined kept) (codes "/")) (sym (joined-push kept [])) (closes (joined kept))

plain : (s : List ℕ) → HasNoSlash s → is_dot s ≡ false → is_dot_dot s ≡ false → IsPlainSegment s
plain s whole first second = (whole, (λ e. false≢true (sym first ∙ (bytes_decides s (codes ".")).1 e)), λ e. false≢true (sym second ∙ (bytes_decides s (codes "..")).1 e))

abbrev Ends : List (List ℕ) → List (List ℕ) → Type 0
Ends kept segments = Removes (joined kept) (joined segments) (joined (fold enter kept segments ++ closing segments))

last_round : (kept : List (List ℕ)) (s : List ℕ) → All HasNoSlash kept → HasNoSlash s → Ends kept (s ∷ [])
unfolding enter ends_in_dots
last_round kept s all whole = on_dot (is_dot s) refl (is_dot_dot s) refl
  where
    on_dot : (a : Bool) → is_dot s ≡ a → (b : Bool) → is_dot_dot s ≡ b → Ends kept (s ∷ [])
    on_dot true is b other = subst (λ t. Ends kept (t ∷ [])) (sym ((bytes_decides s (codes ".")).0 is)) (last_dot (joined kept) (joined (kept ++ [] ∷ [])) (closed kept))
    on_dot false first true is = subst (λ t. Ends kept (t ∷ [])) (sym ((bytes_decides s (codes "..")).0 is))
        (last_dots (joined kept) (joined (take (length kept - 1) kept)) (joined (take (length kept - 1) kept ++ [] ∷ [])) (without_last kept all) (closed (take (length kept - 1) kept)))
    on_dot false first false second =
        let e : fold enter kept (s ∷ []) ++ closing (s ∷ []) ≡ kept ++ s ∷ [] =
        ap (λ (t : Bool). fold enter kept (s ∷ []) ++ cond t ([] ∷ []) []) (or_from (is_dot s) (is_dot_dot s) first second) ∙ append-nil (enter kept s) ∙ enter_keeps kept s (or_from (is_dot s) (is_dot_dot s) first second) in
        subst (λ (r : List (List ℕ)). Removes (joined kept) (joined (s ∷ [])) (joined r)) (sym e)
        (subst (Removes (joined kept) (joined (s ∷ []))) (sym (joined-push kept s)) (segment (joined kept) s [] (joined kept ++ 47 ∷ s) (plain s whole first second) (inl refl) (ended (joined kept ++ 47 ∷ s))))

rounds : (kept : List (List ℕ)) (s : List ℕ) (more : List (List ℕ)) → All HasNoSlash kept → All HasNoSlash (s ∷ more) → Ends kept (s ∷ more)
unfolding enter
rounds kept s [] all each = last_round kept s all (All-head HasNoSlash s [] each)
rounds kept s (t ∷ more) all each =
    subst (λ (b : Bool). Removes (joined kept) (joined (s ∷ t ∷ more)) (joined (fold enter (enter kept s) (t ∷ more) ++ cond b ([] ∷ []) []))) (sym (ends_later s t more)) (on_dot (λ then whole. rounds then t more whole (All-tail HasNoSlash s (t ∷ more) each)) (is_dot s) refl (is_dot_dot s) refl)
  where
    result : List (List ℕ) → List ℕ
    result then = joined (fold enter then (t ∷ more) ++ closing (t ∷ more))

    on_dot : ((then : List (List ℕ)) → All HasNoSlash then → Ends then (t ∷ more)) → (a : Bool) → is_dot s ≡ a → (b : Bool) → is_dot_dot s ≡ b → Removes (joined kept) (joined (s ∷ t ∷ more)) (result (enter kept s))
    on_dot later true is b other =
        subst (λ u. Removes (joined kept) (joined (u ∷ t ∷ more)) (result (enter kept u))) (sym ((bytes_decides s (codes ".")).0 is))
        (dot (joined kept) (t ++ joined more) (result kept) (later kept all))
    on_dot later false first true is =
        let shorter = take (length kept - 1) kept in
        subst (λ u. Removes (joined kept) (joined (u ∷ t ∷ more)) (result (enter kept u))) (sym ((bytes_decides s (codes "..")).0 is))
        (dots (joined kept) (joined shorter) (t ++ joined more) (result shorter) (without_last kept all) (later shorter (All-take HasNoSlash (length kept - 1) kept all)))
    on_dot later false first false second =
        let whole = All-head HasNoSlash s (t ∷ more) each in
        subst (λ (k : List (List ℕ)). Removes (joined kept) (joined (s ∷ t ∷ more)) (result k)) (sym (enter_keeps kept s (or_from (is_dot s) (is_dot_dot s) first second)))
        (segment (joined kept) s (joined (t ∷ more)) (result (kept ++ s ∷ [])) (plain s whole first second) (inr (t ++ joined more, refl))
        (subst (λ (output : List ℕ). Removes output (joined (t ∷ more)) (result (kept ++ s ∷ []))) (joined-push kept s) (later (kept ++ s ∷ []) (All-push HasNoSlash kept s all whole))))

resolves : (parts : List (List ℕ)) (text : List ℕ) → joined parts ≡ 47 ∷ text → All HasNoSlash parts → IsWithoutDots (47 ∷ text) (joined (resolved parts))
unfolding resolved
resolves [] text e each = absurd cc
resolves (s ∷ more) text e each = subst (λ (path : List ℕ). IsWithoutDots path (joined (resolved (s ∷ more)))) e (rounds [] s more (All-nil HasNoSlash) each)

-- a path that is appended to one that begins with a slash
below_without_dots : (front path : List ℕ) → slice_get front 0 ≡ Some 47 → IsWithoutDots (front ++ path) (remove_dot_segments (front ++ path))
below_without_dots front path rooted =
    let slash = root front rooted in
    let text = slash.rest ++ path in
    let whole : front ++ path ≡ 47 ∷ text = ap (λ p. p ++ path) slash.is in
    rw (whole, removed text) (resolves (slice_split is_slash text) text (joined-split text) (split_whole text))

pub below_rounds : (base : Uri) (path : List ℕ) → IsSound base → IsWithoutDots (base.path ++ path) (below_of base path).path
unfolding below_of
below_rounds base path sound = below_without_dots base.path path sound.rooted
