-- Empty lines at the front of a text, one after another.
use Rattle.std.proofs.Common.{◌≡◌, ℕ, List, [], ◌∷◌, drop, arith, true, false, Bool, ap, ◌∙◌, refl}
use Rattle.std.specs.Prelude.{◌==◌, ◌&&◌, if◌then◌else◌}
use Rattle.http_requests.specs.Heads.{behind_blank}
use Rattle.http_requests.specs.Tests.{empty_line}

-- what stands behind the empty lines of a text of two bytes or more, by the tests of its first two
abbrev after : ℕ → ℕ → List ℕ → Bool → Bool → List ℕ
after c d text one two = if one then behind_blank (d ∷ text) else if two then behind_blank text else c ∷ d ∷ text

by_tests : (c d : ℕ) (text : List ℕ) (one two : Bool) → (c == 10) ≡ one → ((c == 13) && (d == 10)) ≡ two → behind_blank (c ∷ d ∷ text) ≡ after c d text one two
by_tests c d text one two is also = ap (λ t. after c d text t ((c == 13) && (d == 10))) is ∙ ap (after c d text one) also

-- a text without an empty line at its front stays
pub none_in_front : (text : List ℕ) → empty_line text ≡ 0 → behind_blank text ≡ text
none_in_front [] none = refl
none_in_front (c ∷ []) none = by (c == 10) refl none
  where
    by : (t : Bool) → (c == 10) ≡ t → ◌≡◌ {A = ℕ} (if t then 1 else 0) 0 → behind_blank (c ∷ []) ≡ c ∷ []
    by true is none = absurd (omega (arith, none))
    by false is none = ap (λ t. if t then [] else c ∷ []) is
none_in_front (c ∷ d ∷ text) none = by (c == 10) ((c == 13) && (d == 10)) refl refl none
  where
    by : (t u : Bool) → (c == 10) ≡ t → ((c == 13) && (d == 10)) ≡ u → ◌≡◌ {A = ℕ} (if t then 1 else if u then 2 else 0) 0 → behind_blank (c ∷ d ∷ text) ≡ c ∷ d ∷ text
    by true u is also none = absurd (omega (arith, none))
    by false true is also none = absurd (omega (arith, none))
    by false false is also none = by_tests c d text false false is also

-- an empty line at the front may be left out
pub one_in_front : (text : List ℕ) → behind_blank text ≡ behind_blank (drop (empty_line text) text)
one_in_front [] = refl
one_in_front (c ∷ []) = by (c == 10) refl
  where
    by : (t : Bool) → (c == 10) ≡ t → behind_blank (c ∷ []) ≡ behind_blank (drop (if t then 1 else 0) (c ∷ []))
    by true is = ap (λ t. if t then [] else c ∷ []) is
    by false is = refl
one_in_front (c ∷ d ∷ text) = by (c == 10) ((c == 13) && (d == 10)) refl refl
  where
    by : (t u : Bool) → (c == 10) ≡ t → ((c == 13) && (d == 10)) ≡ u → behind_blank (c ∷ d ∷ text) ≡ behind_blank (drop (if t then 1 else if u then 2 else 0) (c ∷ d ∷ text))
    by true u is also = by_tests c d text true u is also
    by false true is also = by_tests c d text false true is also
    by false false is also = refl
