-- The sums of a Release, one more file at a time.
use Rattle.std.proofs.Common.{◌≡◌, ◌∙◌, ℕ, zero, suc, ◌<◌, cond, List, [], ◌∷◌, length, drop, get_or, Option, Some, sym, ap, arith}
use Rattle.std.specs.Prelude.{bytes_eq}
use Rattle.std.specs.Cmp.Lexicographic.{slice_cmp}
use Rattle.std.specs.Ordering.{nat_cmp, is_eq}
use Rattle.std.proofs.lemmas.Map.Text.{is_eq-slice_cmp}
use Rattle.acq_base.specs.declared.sum.Sum.{Sum}
use Rattle.release_file.specs.Release.{sum_in}
use Rattle.release_file.specs.declared.release.Listed.{Listed}

-- what stands from a place on
pub drop-there : {A : Type 0} (xs : List A) (n : ℕ) (d : A) → n < length xs → d ≡ get_or xs n d → drop n xs ≡ d ∷ drop (suc n) xs
drop-there [] n d within is = absurd (grind (arith, within))
drop-there (x ∷ xs) zero d within is = ap (λ y. y ∷ xs) (sym is)
drop-there (x ∷ xs) (suc n) d within is = drop-there xs n d (omega (arith, within)) is

pub put-sum : (behind : List Listed) (file : Listed) (key q : List ℕ) (sum : Sum) (now before : Option Sum) → key ≡ file.path → sum ≡ file.sum
    → now ≡ cond (is_eq (slice_cmp nat_cmp key q)) (Some sum) before → before ≡ sum_in behind q → now ≡ sum_in (file ∷ behind) q
put-sum behind file key q sum now before at is e same =
    e ∙ ap (λ b. cond b (Some sum) before) (is_eq-slice_cmp key q) ∙ ap (λ (k : List ℕ). cond (bytes_eq k q) (Some sum) before) at
    ∙ ap (λ (s : Sum). cond (bytes_eq file.path q) (Some s) before) is ∙ ap (λ (o : Option Sum). cond (bytes_eq file.path q) (Some file.sum) o) same
