-- Cells that may be any.
use Rattle.std.proofs.Common.{◌≡◌, refl, ap, ◌∙◌, arith, ℕ, zero, suc, ◌+◌, ◌<◌, List, [], ◌∷◌, ◌++◌, length, take, drop, Option, None, add-one}
use Rattle.std.proofs.lemmas.List.{drop_more}
use Rattle.acq_outside.specs.Disk.{spliced}
use Rattle.acq_outside.specs.Crash.{all_any}

pub any_length : (bytes : List ℕ) → length (all_any bytes) ≡ length bytes
any_length [] = refl
any_length (b ∷ bytes) = ap suc (any_length bytes)

more : (bytes : List ℕ) (i : ℕ) → i < length bytes → all_any (take (suc i) bytes) ≡ all_any (take i bytes) ++ None ∷ []
more [] i below = absurd (omega arith)
more (b ∷ bytes) zero below = refl
more (b ∷ bytes) (suc i) below = ap (λ (l : List (Option ℕ)). None ∷ l) (more bytes i (omega arith))

pub any_more : (bytes : List ℕ) (i : ℕ) → i < length bytes → all_any (take (i + 1) bytes) ≡ all_any (take i bytes) ++ None ∷ []
any_more bytes i below = ap (λ (k : ℕ). all_any (take k bytes)) (add-one i) ∙ more bytes i below

pub laid_any : (cells : List (Option ℕ)) (at : ℕ) (bytes : List ℕ) → spliced cells at (all_any bytes) ≡ take at cells ++ all_any bytes ++ drop (at + length bytes) cells
laid_any cells at bytes = ap (λ (n : ℕ). take at cells ++ all_any bytes ++ drop (at + n) cells) (any_length bytes)

pub any_step : (bytes : List ℕ) (i : ℕ) → i < length bytes → all_any (drop i bytes) ≡ None ∷ all_any (drop (i + 1) bytes)
any_step bytes i below = ap all_any (drop_more bytes i 0 below)
