-- Lists with one element changed, as another list sees them.
use Rattle.std.proofs.Common.{◌≡◌, ◌∙◌, ℕ, zero, suc, ◌<◌, nat_eq, false, List, [], ◌∷◌, length, map, get_or, refl, ap, arith}
use Rattle.std.specs.Prelude.{slice_get}
use Rattle.std.proofs.Math.ListN.{set}
use Rattle.std.proofs.lemmas.List.{set-set}
use Rattle.std.proofs.lemmas.Bool.Decides.{nat_tests}
use Rattle.host_queues.specs.Lanes.{changed_at}
use Rattle.board_source.proofs.Changes.{set-changed}

-- where what is put there doesn't depend on what was
pub set-constant : {A B : Type 0} (view : A → B) (xs : List A) (n : ℕ) (y : A) (z : B) → view y ≡ z → map view (set xs n y) ≡ changed_at n (λ old. z) (map view xs)
set-constant view [] n y z e = refl
set-constant view (x ∷ xs) zero y z e = ap (λ w. w ∷ map view xs) e
set-constant view (x ∷ xs) (suc n) y z e = ap (λ ws. view x ∷ ws) (set-constant view xs n y z e)

pub set-plain : {A : Type 0} (xs : List A) (n : ℕ) (y : A) → set xs n y ≡ changed_at n (λ old. y) xs
set-plain [] n y = refl
set-plain (x ∷ xs) zero y = refl
set-plain (x ∷ xs) (suc n) y = ap (λ ys. x ∷ ys) (set-plain xs n y)

pub get-other : {A : Type 0} (f : A → A) (xs : List A) (n m : ℕ) → nat_eq n m ≡ false → slice_get (changed_at n f xs) m ≡ slice_get xs m
get-other f [] n m apart = refl
get-other f (x ∷ xs) zero zero apart = absurd (grind (arith, nat_tests, apart))
get-other f (x ∷ xs) zero (suc m) apart = refl
get-other f (x ∷ xs) (suc n) zero apart = refl
get-other f (x ∷ xs) (suc n) (suc m) apart = get-other f xs n m (grind (arith, nat_tests, apart))

-- taken out, changed and put back
pub put-changed : {A B : Type 0} (view : A → B) (f : B → B) (xs : List A) (n : ℕ) (d hole new dest : A) → n < length xs → d ≡ get_or xs n d → dest ≡ new
    → view new ≡ f (view d) → map view (set (set xs n hole) n dest) ≡ changed_at n f (map view xs)
put-changed view f xs n d hole new dest within is same e =
    ap (map view) (set-set xs n hole dest) ∙ set-changed view f xs n d dest within is (ap view same ∙ e)
