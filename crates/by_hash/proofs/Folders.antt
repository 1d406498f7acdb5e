-- The folder of a path, read from its end, and as the one cut behind its last slash.
use Rattle.std.proofs.Common.{◌≡◌, ℕ, ◌+◌, ◌-◌, ◌≤◌, ◌==◌, true, false, if◌then◌else◌, List, [], ◌∷◌, ◌++◌, length, take, get_or, Contains, inl, inr, refl, sym, ap, ◌∙◌, append_assoc, arith}
use Rattle.std.specs.List.{list_any}
use Rattle.std.proofs.Math.Bool.{or-true, or-false}
use Rattle.std.proofs.Math.Seq.{take-length}
use Rattle.std.proofs.lemmas.Bool.{cases_Bool, eqb-true}
use Rattle.std.proofs.lemmas.List.{take_more}
use Rattle.std.proofs.lemmas.List.Folds.{list_any-append}
use Rattle.std.proofs.lemmas.Map.Views.{Contains-from_any}
use Rattle.by_hash.specs.Beside.{is_slash, folder, ReplacesLast}

slash_behind : (xs : List ℕ) (rest : List ℕ) → list_any is_slash (xs ++ 47 ∷ rest) ≡ true
slash_behind xs rest = list_any-append is_slash xs (47 ∷ rest) ∙ or-true (list_any is_slash xs)

-- a path is its own folder where it ends with a slash; else its last byte is behind the folder
folder-push : (xs : List ℕ) (c : ℕ) → folder (xs ++ c ∷ []) ≡ (if c == 47 then xs ++ c ∷ [] else folder xs)
folder-push [] c = elim (cases_Bool (c == 47)) [ inl is ↦ rw is refl | inr isnt ↦ rw isnt refl ]
folder-push (x ∷ xs) c =
    elim (cases_Bool (c == 47)) [
      | inl is ↦
          let last : list_any is_slash (c ∷ []) ≡ true = rw is refl in
          let slash : list_any is_slash (x ∷ xs ++ c ∷ []) ≡ true = list_any-append is_slash (x ∷ xs) (c ∷ []) ∙ rw last (or-true (list_any is_slash (x ∷ xs))) in
          rw (slash, folder-push xs c, is) refl
      | inr isnt ↦
          let last : list_any is_slash (c ∷ []) ≡ false = rw isnt refl in
          let same : list_any is_slash (x ∷ xs ++ c ∷ []) ≡ list_any is_slash (x ∷ xs) = list_any-append is_slash (x ∷ xs) (c ∷ []) ∙ rw last (or-false (list_any is_slash (x ∷ xs))) in
          rw (same, folder-push xs c, isnt) refl
    ]

differs : (c : ℕ) → (c ≡ 47 → ⊥) → (c == 47) ≡ false
differs c other = elim (cases_Bool (c == 47)) [ inl is ↦ absurd (other (eqb-true c 47 is)) | inr isnt ↦ isnt ]

folder-last : (path : List ℕ) (d : ℕ) → 1 ≤ length path
    → folder path ≡ (if get_or path (length path - 1) d == 47 then path else folder (take (length path - 1) path))
folder-last path d some =
    let n : ℕ = length path - 1 in
    let last : take (n + 1) path ≡ take n path ++ get_or path n d ∷ [] = take_more path n d (omega (arith, some)) in
    let count : n + 1 ≡ length path = omega (arith, some) in
    let whole : path ≡ take n path ++ get_or path n d ∷ [] = sym (take-length path) ∙ ap (λ k. take k path) (sym count) ∙ last in
    ap folder whole ∙ folder-push (take n path) (get_or path n d) ∙ ap (λ p. if get_or path n d == 47 then p else folder (take n path)) (sym whole)

pub folder-slash : (path : List ℕ) → 1 ≤ length path → get_or path (length path - 1) 0 ≡ 47 → folder path ≡ path
folder-slash path some is =
    let test : (get_or path (length path - 1) 0 == 47) ≡ true = rw is refl in
    folder-last path 0 some ∙ rw test refl

pub folder-other : (path : List ℕ) → 1 ≤ length path → (get_or path (length path - 1) 0 ≡ 47 → ⊥) → folder path ≡ folder (take (length path - 1) path)
folder-other path some other = folder-last path 0 some ∙ rw (differs (get_or path (length path - 1) 0) other) refl

no_slash : (xs : List ℕ) → (Contains xs 47 → ⊥) → list_any is_slash xs ≡ false
no_slash xs none = elim (cases_Bool (list_any is_slash xs)) [
  | inl some ↦ absurd (none (Contains-from_any {eq = λ q c. c == q} (λ q c h. sym (eqb-true c q h)) 47 xs some))
  | inr isnt ↦ isnt
]

folder-none : (xs : List ℕ) → list_any is_slash xs ≡ false → folder xs ≡ []
folder-none [] none = refl
folder-none (x ∷ xs) none = rw none refl

folder-cut : (front segment : List ℕ) → list_any is_slash segment ≡ false → folder (front ++ 47 ∷ segment) ≡ front ++ 47 ∷ []
folder-cut [] segment none = ap (λ xs. 47 ∷ xs) (folder-none segment none)
folder-cut (x ∷ front) segment none = rw (slash_behind (x ∷ front) segment) (ap (λ xs. x ∷ xs) (folder-cut front segment none))

-- what stands behind the last slash is replaced
pub replaces : (path name : List ℕ) → ReplacesLast path name (folder path ++ name)
replaces path name = λ front segment cut none.
    ap (λ p. folder p ++ name) cut ∙ rw (folder-cut front segment (no_slash segment none)) (append_assoc front (47 ∷ []) name)
