-- The segments of a path, and those that stay once dot segments are removed.
use Rattle.std.proofs.Common.{◌≡◌, ◌≢◌, ℕ, ◌-◌, false, ◌||◌, List, [], ◌∷◌, ◌++◌, length, take, All, fold}
use Rattle.std.specs.List.{slice_split, onto_first}
use Rattle.std.proofs.lemmas.Bool.{cond_both, or_from, eqb-false}
use Rattle.std.proofs.lemmas.List.Elements.{All-nil, All-cons, All-head, All-tail, All-append, All-push, All-take}
use Rattle.uri_names.specs.Folder.{is_slash, is_dot, is_dot_dot, enter, ends_in_dots, resolved, joined}

abbrev pub AllOf : (ℕ → Type 0) → List ℕ → Type 0
AllOf C text = All C text

-- ---- what holds of each byte

pub onto_all : (C : ℕ → Type 0) (c : ℕ) (parts : List (List ℕ)) → C c → All (AllOf C) parts → All (AllOf C) (onto_first c parts)
onto_all C c [] here all = All-cons (AllOf C) (c ∷ []) [] (All-cons C c [] here (All-nil C)) (All-nil (AllOf C))
onto_all C c (part ∷ parts) here all =
    All-cons (AllOf C) (c ∷ part) parts (All-cons C c part here (All-head (AllOf C) part parts all)) (All-tail (AllOf C) part parts all)

pub split_all : (C : ℕ → Type 0) (text : List ℕ) → All C text → All (AllOf C) (slice_split is_slash text)
split_all C [] all = All-cons (AllOf C) [] [] (All-nil C) (All-nil (AllOf C))
split_all C (c ∷ text) all =
    let later = split_all C text (All-tail C c text all) in
    cond_both (is_slash c) ([] ∷ slice_split is_slash text) (onto_first c (slice_split is_slash text)) (All (AllOf C))
    (λ _. All-cons (AllOf C) [] (slice_split is_slash text) (All-nil C) later)
    (λ _. onto_all C c (slice_split is_slash text) (All-head C c text all) later)

-- no part holds a slash
pub split_whole : (text : List ℕ) → All (AllOf (λ c. c ≢ 47)) (slice_split is_slash text)
split_whole [] = let C = λ (c : ℕ). c ≢ 47 in All-cons (AllOf C) [] [] (All-nil C) (All-nil (AllOf C))
split_whole (c ∷ text) =
    let C : ℕ → Type 0 = λ c. c ≢ 47 in
    let later = split_whole text in
    cond_both (is_slash c) ([] ∷ slice_split is_slash text) (onto_first c (slice_split is_slash text)) (All (AllOf C))
    (λ _. All-cons (AllOf C) [] (slice_split is_slash text) (All-nil C) later)
    (λ other. onto_all C c (slice_split is_slash text) (eqb-false c 47 other) later)

pub joined_all : (C : ℕ → Type 0) → C 47 → (segments : List (List ℕ)) → All (AllOf C) segments → All C (joined segments)
joined_all C slash [] all = All-nil C
joined_all C slash (s ∷ segments) all =
    All-append C (47 ∷ s) (joined segments) (All-cons C 47 s slash (All-head (AllOf C) s segments all)) (joined_all C slash segments (All-tail (AllOf C) s segments all))

-- ---- what holds of each segment that stays

-- it holds where the segment isn't a dot segment
abbrev pub UnlessDots : (List ℕ → Type 0) → List ℕ → Type 0
UnlessDots P s = (is_dot s || is_dot_dot s) ≡ false → P s

enter_all : (P : List ℕ → Type 0) (kept : List (List ℕ)) (s : List ℕ) → All P kept → UnlessDots P s → All P (enter kept s)
unfolding enter
enter_all P kept s all one =
    cond_both (is_dot s) kept _ (All P) (λ _. all)
    (λ first. cond_both (is_dot_dot s) (take (length kept - 1) kept) (kept ++ s ∷ []) (All P) (λ _. All-take P (length kept - 1) kept all) (λ second. All-push P kept s all (one (or_from _ _ first second))))

fold_all : (P : List ℕ → Type 0) (segments kept : List (List ℕ)) → All P kept → All (UnlessDots P) segments → All P (fold enter kept segments)
fold_all P [] kept all each = all
fold_all P (s ∷ segments) kept all each =
    fold_all P segments (enter kept s) (enter_all P kept s all (All-head (UnlessDots P) s segments each)) (All-tail (UnlessDots P) s segments each)

pub resolved_all : (P : List ℕ → Type 0) (segments : List (List ℕ)) → P [] → All (UnlessDots P) segments → All P (resolved segments)
unfolding resolved
resolved_all P segments empty each =
    All-append P (fold enter [] segments) _ (fold_all P segments [] (All-nil P) each)
    (cond_both (ends_in_dots segments) ([] ∷ []) [] (All P) (λ _. All-cons P [] [] empty (All-nil P)) (λ _. All-nil P))
