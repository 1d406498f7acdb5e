-- Lists with one element changed.
use Rattle.std.proofs.Common.{◌≡◌, ◌∙◌, ℕ, zero, suc, ◌<◌, ◌≤◌, nat_eq, false, List, [], ◌∷◌, length, get_or, Some, None, refl, sym, ap, arith}
use Rattle.std.specs.Prelude.{option_map, slice_get}
use Rattle.std.proofs.Math.ListN.{set}
use Rattle.std.proofs.lemmas.Bool.Decides.{nat_tests}
use Rattle.host_queues.specs.Lanes.{changed_at}

pub changed-set : {A : Type 0} (f : A → A) (xs : List A) (n : ℕ) (d y : A) → n < length xs → d ≡ get_or xs n d → y ≡ f d → set xs n y ≡ changed_at n f xs
changed-set f [] n d y within is e = absurd (grind (arith, within))
changed-set f (x ∷ xs) zero d y within is e = ap (λ z. z ∷ xs) (e ∙ ap f is)
changed-set f (x ∷ xs) (suc n) d y within is e = ap (λ zs. x ∷ zs) (changed-set f xs n d y (omega (arith, within)) is e)

pub changed-past : {A : Type 0} (f : A → A) (xs : List A) (n : ℕ) → length xs ≤ n → changed_at n f xs ≡ xs
changed-past f [] n past = refl
changed-past f (x ∷ xs) zero past = absurd (grind (arith, past))
changed-past f (x ∷ xs) (suc n) past = ap (λ zs. x ∷ zs) (changed-past f xs n (omega (arith, past)))

pub length-changed : {A : Type 0} (f : A → A) (xs : List A) (n : ℕ) → length (changed_at n f xs) ≡ length xs
length-changed f [] n = refl
length-changed f (x ∷ xs) zero = refl
length-changed f (x ∷ xs) (suc n) = ap suc (length-changed f xs n)

pub get-past : {A : Type 0} (xs : List A) (n : ℕ) → length xs ≤ n → slice_get xs n ≡ None
get-past [] n past = refl
get-past (x ∷ xs) zero past = absurd (grind (arith, past))
get-past (x ∷ xs) (suc n) past = get-past xs n (omega (arith, past))

pub get-within : {A : Type 0} (xs : List A) (n : ℕ) (d : A) → n < length xs → d ≡ get_or xs n d → slice_get xs n ≡ Some d
get-within [] n d within is = absurd (grind (arith, within))
get-within (x ∷ xs) zero d within is = ap (λ (z : _). Some z) (sym is)
get-within (x ∷ xs) (suc n) d within is = get-within xs n d (omega (arith, within)) is

pub get-some : {A : Type 0} (xs : List A) (n : ℕ) → n < length xs → (x : A) × (slice_get xs n ≡ Some x)
get-some [] n within = absurd (grind (arith, within))
get-some (x ∷ xs) zero within = (x, refl)
get-some (x ∷ xs) (suc n) within = get-some xs n (omega (arith, within))

pub get-changed : {A : Type 0} (f : A → A) (xs : List A) (n : ℕ) → slice_get (changed_at n f xs) n ≡ option_map f (slice_get xs n)
get-changed f [] n = refl
get-changed f (x ∷ xs) zero = refl
get-changed f (x ∷ xs) (suc n) = get-changed f xs n

pub get-other : {A : Type 0} (f : A → A) (xs : List A) (n m : ℕ) → nat_eq m n ≡ false → slice_get (changed_at n f xs) m ≡ slice_get xs m
get-other f [] n m apart = refl
get-other f (x ∷ xs) zero zero apart = absurd (grind (arith, nat_tests, apart))
get-other f (x ∷ xs) zero (suc m) apart = refl
get-other f (x ∷ xs) (suc n) zero apart = refl
get-other f (x ∷ xs) (suc n) (suc m) apart = get-other f xs n m (grind (arith, nat_tests, apart))
