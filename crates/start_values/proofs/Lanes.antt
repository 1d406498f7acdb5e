-- What isn't UTF-8 is no digit.
use Rattle.std.proofs.Common.{◌≡◌, ℕ, zero, suc, lit<, ◌<◌, List, [], ◌∷◌, Option, Some, None, IsUtf8, IsSomeAnd, refl, arith}
use Rattle.std.specs.Str.{IsAscii}
use Rattle.std.proofs.lemmas.Str.{IsUtf8-from_ascii}
use Rattle.start_values.specs.Start.{lanes_of_byte, lanes_of_value}

ascii_byte : (byte : ℕ) → byte < 128 → IsAscii (byte ∷ [])
ascii_byte byte small zero = small
ascii_byte byte small (suc i) = lit< tt

no_digit : (byte : ℕ) → ¬ (IsUtf8 (byte ∷ [])) → 4 ≡ lanes_of_byte byte
no_digit byte no_text =
    let large : ¬ (byte < 128) = λ small. no_text (IsUtf8-from_ascii (byte ∷ []) (ascii_byte byte small)) in
    grind (arith, large)

-- anything but a text counts as 4
pub lanes_of_no_text : (value : Option (List ℕ)) → IsSomeAnd value (λ bytes. ¬ (IsUtf8 bytes)) → 4 ≡ lanes_of_value value
lanes_of_no_text None no_text = absurd no_text
lanes_of_no_text (Some []) no_text = refl
lanes_of_no_text (Some (byte ∷ [])) no_text = no_digit byte no_text
lanes_of_no_text (Some (byte ∷ (next ∷ rest))) no_text = refl
