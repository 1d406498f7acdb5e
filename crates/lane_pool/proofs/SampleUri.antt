-- The URIs of the tests are sound.
use Rattle.std.proofs.Common.{◌≡◌, ℕ, zero, suc, ◌≤◌, [], ◌∷◌, Option, Some, None, IsTrue, length, refl, ap, arith, lit<}
use Rattle.std.proofs.lemmas.List.Elements.{All-from_recursion}
use Rattle.acq_base.specs.declared.uri.Uri.{Uri}
use Rattle.acq_base.specs.declared.uri.Scheme.TheVariants.{Http}
use Rattle.acq_base.specs.Uri.{IsSound, IsHostCharacter, KeepsColonsInBrackets, is_uri_character, text_of_parts}

letter_fits : (letter : ℕ) → 97 ≤ letter → letter ≤ 122 → IsHostCharacter letter
letter_fits letter low high = ((λ e. absurd (omega arith)), (λ e. absurd (omega arith)), (λ e. absurd (omega arith)), omega arith, omega arith)

abbrev number_in : Option ℕ → ℕ
number_in None = 0
number_in (Some n) = n

no_colon : (letter : ℕ) → 97 ≤ letter → KeepsColonsInBrackets (letter ∷ [])
no_colon letter low zero e = absurd (let a : letter ≡ 58 = ap number_in e in omega arith)
no_colon letter low (suc k) e = absurd (let a : 0 ≡ 58 = ap number_in e in omega arith)

abbrev pub sample : ℕ → Uri
sample letter = record { scheme = Http; host = letter ∷ []; port = 80; path = 47 ∷ [] }

pub sample_uri : (letter : ℕ) → (97 ≤ letter) × (letter ≤ 122) → IsSound (sample letter)
unfolding text_of_parts
sample_uri letter range = record {
  short = omega arith;
  rooted = refl;
  path = All-from_recursion (λ c. IsTrue (is_uri_character c)) (47 ∷ []) (refl, tt);
  authority = record { nonempty = λ e. absurd (let a = ap length e in omega arith); plain = All-from_recursion IsHostCharacter (letter ∷ []) (letter_fits letter range.0 range.1, tt); colons = no_colon letter range.0 };
  port = lit< tt;
}
