-- A header is a line with a sound name before its first colon.
use Rattle.std.proofs.Common.{◌≡◌, ℕ, zero, suc, ◌+◌, true, false, List, [], ◌∷◌, take, Some, None, refl, ap, ◌∙◌, arith}
use Rattle.std.specs.List.{list_any, position_or_len}
use Rattle.std.proofs.lemmas.Bool.{false_from_ne_true}
use Rattle.bstr.specs.Find.{IsFirstByte, is_byte}
use Rattle.clear_text.specs.Frame.{is_colon, is_name, is_header}

-- the place of the first colon
place : (line : List ℕ) (n : ℕ) → IsFirstByte (is_byte 58) line (Some n) → (list_any is_colon line ≡ true) × (position_or_len is_colon line ≡ n)
place [] n first = absurd (omega (arith, first.0.high))
place (c ∷ line) zero first = let here : is_colon c ≡ true = first.1 in (rw here refl, rw here refl)
place (c ∷ line) (suc n) first =
    let there : is_colon c ≡ false = false_from_ne_true (is_colon c) (first.0.before 0 (omega arith) (omega arith)) in
    let rest = place line n (record { low = omega arith; high = omega (arith, first.0.high); before = λ k low high. first.0.before (suc k) (omega arith) (omega arith) }, first.1) in
    (rw there rest.0, rw there (ap (λ k. 1 + k) rest.1 ∙ omega arith))

nowhere : (line : List ℕ) → IsFirstByte (is_byte 58) line None → list_any is_colon line ≡ false
nowhere [] none = refl
nowhere (c ∷ line) none =
    let there : is_colon c ≡ false = false_from_ne_true (is_colon c) (none 0 (omega arith) (omega arith)) in
    rw there (nowhere line (λ k low high. none (suc k) (omega arith) (omega arith)))

pub header-colon : (line : List ℕ) (n : ℕ) → IsFirstByte (is_byte 58) line (Some n) → is_header line ≡ is_name (take n line)
header-colon line n first = let p = place line n first in rw (p.0, p.1) refl

pub header-bare : (line : List ℕ) → IsFirstByte (is_byte 58) line None → is_header line ≡ false
header-bare line none = rw (nowhere line none) refl

pub ruleset colons = (header-colon, header-bare)
