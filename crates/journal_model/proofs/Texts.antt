-- The test of a text.
use Rattle.std.proofs.Common.{◌≡◌, sym, refl, Bool, true, false, List, ℕ}
use Rattle.std.specs.Str.{IsUtf8, is_utf8}
use Rattle.std.proofs.lemmas.Str.{IsUtf8-from_is_utf8, is_utf8-from_IsUtf8}

pub text : (bytes : List ℕ) → IsUtf8 bytes → true ≡ is_utf8 bytes
text bytes is = sym (is_utf8-from_IsUtf8 bytes is)

pub no_text : (bytes : List ℕ) → (IsUtf8 bytes → ⊥) → false ≡ is_utf8 bytes
no_text bytes never = by (is_utf8 bytes) refl
  where
    by : (b : Bool) → is_utf8 bytes ≡ b → false ≡ is_utf8 bytes
    by true is = absurd (never (IsUtf8-from_is_utf8 bytes is))
    by false is = sym is
