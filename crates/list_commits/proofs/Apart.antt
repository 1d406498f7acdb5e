-- Lists of names, never two of which are one.
use Rattle.std.proofs.Common.{◌≡◌, ◌≢◌, ⊎_elim, refl, sym, arith, ℕ, suc, List, [], ◌∷◌, ◌++◌, Contains, AllPairs}
use Rattle.std.proofs.lemmas.List.Elements.{Contains-append_right}
use Rattle.board_model.proofs.Making.{none-in}
use Rattle.commit_journal.specs.Changes.{IsNone, AreApart}
use Rattle.acq_base.proofs.Lists.{first-or-rest}

pub here : {X : Type 0} (x : X) (xs : List X) (y : X) → x ≡ y → Contains (x ∷ xs) y
here x xs y same = (0, omega arith, same)

pub there : {X : Type 0} (x : X) (xs : List X) (y : X) → Contains xs y → Contains (x ∷ xs) y
there x xs y is = Contains-append_right (x ∷ []) xs y is

pub none_if : (name : List ℕ) (names : List (List ℕ)) → (Contains names name → ⊥) → IsNone name names
none_if name [] never = tt
none_if name (x ∷ xs) never = (λ same. never (here x xs name same), none_if name xs (λ is. never (there x xs name is)))

pub not_in : (name : List ℕ) (names : List (List ℕ)) → IsNone name names → Contains names name → ⊥
not_in name [] none is = none-in name is
not_in name (x ∷ xs) none is = ⊎_elim none.0 (not_in name xs none.1) (first-or-rest x xs name is)

pub apart_of : (names : List (List ℕ)) → AllPairs (λ a b. a ≢ b) names → AreApart names
apart_of [] all = tt
apart_of (x ∷ xs) all = (none_if x xs (λ is. all 0 (suc is.0) x (omega arith) (omega (arith, is.1)) (sym is.2)), apart_of xs (λ i j d low high. all (suc i) (suc j) d (omega (arith, low)) (omega (arith, high))))

pub none_append : (name : List ℕ) (xs ys : List (List ℕ)) → IsNone name xs → IsNone name ys → IsNone name (xs ++ ys)
none_append name [] ys none_x none_y = none_y
none_append name (x ∷ xs) ys none_x none_y = (none_x.0, none_append name xs ys none_x.1 none_y)

pub apart_append : (xs ys : List (List ℕ)) → AreApart xs → AreApart ys → ((name : List ℕ) → Contains xs name → IsNone name ys) → AreApart (xs ++ ys)
apart_append [] ys apart_x apart_y none = apart_y
apart_append (x ∷ xs) ys apart_x apart_y none =
    (none_append x xs ys apart_x.0 (none x (here x xs x refl)), apart_append xs ys apart_x.1 apart_y (λ name is. none name (there x xs name is)))

-- a name that is moved behind others
none_insert : (name x : List ℕ) (xs ys : List (List ℕ)) → x ≢ name → IsNone name (xs ++ ys) → IsNone name (xs ++ x ∷ ys)
none_insert name x [] ys differ none = (differ, none)
none_insert name x (y ∷ xs) ys differ none = (none.0, none_insert name x xs ys differ none.1)

pub apart_insert : (x : List ℕ) (xs ys : List (List ℕ)) → IsNone x (xs ++ ys) → AreApart (xs ++ ys) → AreApart (xs ++ x ∷ ys)
apart_insert x [] ys none apart = (none, apart)
apart_insert x (y ∷ xs) ys none apart = (none_insert y x xs ys (λ same. none.0 (sym same)) apart.0, apart_insert x xs ys none.1 apart.1)

pub contains_insert : (x name : List ℕ) (xs ys : List (List ℕ)) → Contains (xs ++ x ∷ ys) name → Contains (x ∷ (xs ++ ys)) name
contains_insert x name [] ys is = is
contains_insert x name (y ∷ xs) ys is = ⊎_elim
    (λ same. there x (y ∷ (xs ++ ys)) name (here y (xs ++ ys) name same))
    (λ in_rest. ⊎_elim (here x (y ∷ (xs ++ ys)) name) (λ later. there x (y ∷ (xs ++ ys)) name (there y (xs ++ ys) name later)) (first-or-rest x (xs ++ ys) name (contains_insert x name xs ys in_rest)))
    (first-or-rest y (xs ++ x ∷ ys) name is)
