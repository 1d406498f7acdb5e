-- Lines of a text.
use Rattle.std.proofs.Common.{◌≡◌, ℕ, ◌<◌, List, [], ◌∷◌, length, refl, arith}
use Rattle.apt_conf.specs.Tokens.{last_line}

-- what has one byte is one line
pub last_line_one : (text : List ℕ) → length text < 2 → 0 < length text → last_line text ≡ 1
unfolding last_line
last_line_one [] short some = absurd (omega arith)
last_line_one (c ∷ []) short some = refl
last_line_one (c ∷ d ∷ rest) short some = absurd (omega arith)
