use Rattle.std.proofs.Common.{◌≡◌, ℕ, ◌<◌, ◌≤◌, ◌||◌, Bool, true, false, List, [], ◌∷◌, ◌++◌, length, take, drop, arith, sym, ap, ◌∙◌, refl, append-nil}
use Rattle.std.specs.List.{list_any}
use Rattle.std.proofs.lemmas.List.{append_cancel_left, take_at, take-append-le, take-append-drop}
use Rattle.std.proofs.lemmas.List.Folds.{list_any-append}
use Rattle.http_wire.specs.Forms.{is_line_feed}

-- ---- fronts of one text

pub cancel : (a b x y : List ℕ) → length a ≡ length b → a ++ x ≡ b ++ y → (a ≡ b) × (x ≡ y)
cancel a b x y len same =
    let front : a ≡ b = sym (take_at a x (length a) refl) ∙ ap (take (length a)) same ∙ take_at b y (length a) (sym len) in
    (front, append_cancel_left a x y (same ∙ ap (λ t. t ++ y) (sym front)))

-- a front that isn't longer is a front of the other
pub front_of : (a b p r : List ℕ) → length p ≤ length a → a ++ b ≡ p ++ r → a ≡ p ++ drop (length p) a
front_of a b p r inside same =
    let front : take (length p) a ≡ p = sym (take-append-le (length p) a b inside) ∙ ap (take (length p)) same ∙ take_at p r (length p) refl in
    sym (take-append-drop (length p) a) ∙ ap (λ t. t ++ drop (length p) a) front

-- a longer front goes on with a byte
pub beyond : (a b p r : List ℕ) → length a < length p → a ++ b ≡ p ++ r → (x : ℕ) × (more : List ℕ) × (p ≡ a ++ x ∷ more)
beyond a b p r longer same =
    let front = front_of p r a b (let l : length a ≤ length p = omega arith in l) (sym same) in
    split (drop (length a) p) front
  where
    split : (t : List ℕ) → p ≡ a ++ t → (x : ℕ) × (more : List ℕ) × (p ≡ a ++ x ∷ more)
    split [] is = absurd (let e : length p ≡ length a = ap length (is ∙ append-nil a) in omega arith)
    split (x ∷ more) is = (x, more, is)

pub snoc : (x : ℕ) (r : List ℕ) → (front : List ℕ) × (y : ℕ) × (x ∷ r ≡ front ++ y ∷ [])
snoc x [] = ([], x, refl)
snoc x (z ∷ r) = let rest = snoc z r in (x ∷ rest.0, rest.1, ap (λ t. x ∷ t) rest.2)

-- ---- lines

ends_any : (a : List ℕ) → list_any is_line_feed (a ++ 10 ∷ []) ≡ true
ends_any [] = refl
ends_any (c ∷ a) = ap (λ t. is_line_feed c || t) (ends_any a) ∙ or_true (is_line_feed c)
  where
    or_true : (t : Bool) → (t || true) ≡ true
    or_true true = refl
    or_true false = refl

pub has_feed : (a rest : List ℕ) → list_any is_line_feed ((a ++ 10 ∷ []) ++ rest) ≡ true
has_feed a rest = list_any-append is_line_feed (a ++ 10 ∷ []) rest ∙ ap (λ t. t || list_any is_line_feed rest) (ends_any a)
