-- Digits, visible bytes, and values behind a space.
use Rattle.std.proofs.Common.{◌≡◌, ℕ, ◌+◌, ◌<◌, ◌≤◌, ◌^◌, Bool, IsTrue, true, false, refl, sym, ap, ◌∙◌, List, [], ◌∷◌, ◌++◌, length, take, drop, reverse, All, arith, not, nat_lt, Some}
use Rattle.std.specs.Prelude.{◌==◌, ◌&&◌, if◌then◌else◌}
use Rattle.std.specs.Char.{is_ascii_digit}
use Rattle.std.specs.Fmt.{decimal}
use Rattle.std.specs.List.{list_all, prefix_len}
use Rattle.std.specs.Str.Parse.{digits_value}
use Rattle.std.proofs.Math.Seq.{take-append_seam, drop-append-add}
use Rattle.std.proofs.lemmas.List.{reverse-append, length-reverse}
use Rattle.std.proofs.lemmas.List.Elements.{All-cons, All-nil, All-head, All-tail}
use Rattle.std.proofs.lemmas.List.Sums.{AllPass-from_list_all}
use Rattle.std.proofs.lemmas.Bool.Decides.{nat_tests}
use Rattle.std.proofs.lemmas.Fmt.{digits_decimal, digits_value-decimal, decimal_nonempty, length-decimal-le}
use Rattle.httparse.specs.Grammar.{AllPass, Field, IsField, IsToken, crlf, is_ows, is_token_byte, is_value_byte, skip_ows, trim_ows}
use Rattle.httparse.proofs.TrimLemmas.{trim_ows_space, AllPass-reverse}
use Rattle.acq_base.proofs.Numbers.{numerals}
use Rattle.http_wire.specs.Fields.{before, behind, is_digits, number}

-- ---- all bytes of a text

-- what follows of each element holds of all
pub each : (P Q : ℕ → Type 0) (xs : List ℕ) → ((c : ℕ) → P c → Q c) → All P xs → All Q xs
each P Q [] f all = All-nil Q
each P Q (c ∷ cs) f all = All-cons Q c cs (f c (All-head P c cs all)) (each P Q cs f (All-tail P c cs all))

-- `Visible` as a test
abbrev pub is_visible : ℕ → Bool
is_visible c = nat_lt 32 c && nat_lt c 127

-- a byte of visible ASCII
abbrev pub Visible : ℕ → Type 0
Visible c = (32 < c) × (c < 127)

-- a text that is written out is seen to be visible by computing it
pub seen : (text : List ℕ) → list_all is_visible text ≡ true → All Visible text
seen text all = each (λ c. IsTrue (is_visible c)) Visible text (λ c h. grind (arith, nat_tests)) (AllPass-from_list_all is_visible text all)

-- a visible byte may stand in a value
value_byte : (c : ℕ) → Visible c → IsTrue (is_value_byte c)
value_byte c h = let a = h.0 in let b = h.1 in grind (arith, nat_tests)

-- visible bytes may stand in a field's value
pub values_all : (text : List ℕ) → All Visible text → AllPass is_value_byte text
values_all text all = each Visible (λ b. IsTrue (is_value_byte b)) text value_byte all

-- ---- fields

-- a field as this server and its askers write it
abbrev pub field : List ℕ → List ℕ → Field
field name value = record { name = name; raw = 32 ∷ value; end = crlf }

-- a name that is written out is seen to be a token by computing it
pub token : (name : List ℕ) → nat_lt 0 (length name) ≡ true → list_all is_token_byte name ≡ true → IsToken name
token name some all = (grind (arith, nat_tests), AllPass-from_list_all is_token_byte name all)

-- a written field is one of the grammar
pub field_valid : (name value : List ℕ) → IsToken name → AllPass is_value_byte value → IsField (field name value)
field_valid name value token all = record { name = token; raw = All-cons (λ b. IsTrue (is_value_byte b)) 32 value refl all }

-- ---- decimals

-- a byte that is an ASCII digit
abbrev pub Digit : ℕ → Type 0
Digit c = (47 < c) × (c < 58)

-- a decimal has digits alone
decimal_digits : (n : ℕ) → n < 2 ^ 64 → list_all is_ascii_digit (decimal n) ≡ true
decimal_digits n small = digits_decimal numerals n small

-- a decimal writes its number
pub decimal_value : (n : ℕ) → n < 2 ^ 64 → digits_value 10 (decimal n) ≡ n
decimal_value n small = digits_value-decimal numerals n small

-- and one at least
pub decimal_is_digits : (n : ℕ) → n < 2 ^ 64 → is_digits (decimal n) ≡ true
decimal_is_digits n small = let some = decimal_nonempty n small in let all = decimal_digits n small in grind (arith, nat_tests)

-- and 20 at most
pub decimal_short : (n : ℕ) → n < 2 ^ 64 → length (decimal n) ≤ 20
decimal_short n small = length-decimal-le 20 n (omega arith) (omega arith) small

-- a decimal is read as its number
pub decimal_number : (n : ℕ) → n < 2 ^ 64 → number (decimal n) ≡ Some n
decimal_number n small = by (is_digits (decimal n)) (decimal_is_digits n small) (nat_lt (digits_value 10 (decimal n)) (2 ^ 64)) (fits (digits_value 10 (decimal n)) (decimal_value n small))
  where
    fits : (v : ℕ) → v ≡ n → nat_lt v (2 ^ 64) ≡ true
    fits v is = grind (arith, nat_tests)

    by : (p : Bool) → is_digits (decimal n) ≡ true → (q : Bool) → nat_lt (digits_value 10 (decimal n)) (2 ^ 64) ≡ true → number (decimal n) ≡ Some n
    by p some q fits_it = rw (some, fits_it) (ap (λ (k : ℕ). Some k) (decimal_value n small))

-- `Digit` is what std's test says
digit_is : (c : ℕ) → IsTrue (is_ascii_digit c) → Digit c
digit_is c h = grind (arith, nat_tests)

-- each byte of a decimal is a digit
pub decimal_all : (n : ℕ) → n < 2 ^ 64 → All Digit (decimal n)
decimal_all n small = each (λ c. IsTrue (is_ascii_digit c)) Digit (decimal n) digit_is (AllPass-from_list_all is_ascii_digit (decimal n) (decimal_digits n small))

-- and so visible
pub decimal_visible : (n : ℕ) → n < 2 ^ 64 → All Visible (decimal n)
decimal_visible n small = each Digit Visible (decimal n) (λ c h. (omega (arith, h.0), omega (arith, h.1))) (decimal_all n small)

-- ---- values without the white space around them

-- no blank and no control character
abbrev dark : ℕ → Bool
dark c = nat_lt 32 c

-- such a byte is no white space
no_space : (c : ℕ) → IsTrue (dark c) → is_ows c ≡ false
no_space c h = grind (arith, nat_tests)

-- a visible byte is one
darkens : (c : ℕ) → Visible c → IsTrue (dark c)
darkens c h = let a = h.0 in grind (arith, nat_tests)

-- and so all of a visible text
dark_all : (text : List ℕ) → All Visible text → AllPass dark text
dark_all text all = each Visible (λ c. IsTrue (dark c)) text darkens all

-- no white space is passed over where there is none
skips_none : (text : List ℕ) → AllPass dark text → skip_ows text ≡ text
skips_none [] all = refl
skips_none (c ∷ text) all = ap (λ b. if b then skip_ows text else c ∷ text) (no_space c (All-head (λ b. IsTrue (dark b)) c text all))

-- a value of visible bytes is read as it is
pub trimmed_is : (v : List ℕ) → All Visible v → trim_ows (32 ∷ v) ≡ v
trimmed_is v all =
    let bytes = dark_all v all in
    trim_ows_space v (skips_none v bytes) (skips_none (reverse v) (AllPass-reverse dark v bytes))

-- nor at the front of more
skips_front : (front rest : List ℕ) → 0 < length front → AllPass dark front → skip_ows (front ++ rest) ≡ front ++ rest
skips_front [] rest some all = absurd (omega arith)
skips_front (c ∷ front) rest some all = ap (λ b. if b then skip_ows (front ++ rest) else c ∷ (front ++ rest)) (no_space c (All-head (λ b. IsTrue (dark b)) c front all))

-- so is one that begins with no white space and ends in visible bytes
pub trimmed_ending : (front end : List ℕ) → skip_ows (front ++ end) ≡ front ++ end → 0 < length end → All Visible end → trim_ows (32 ∷ (front ++ end)) ≡ front ++ end
trimmed_ending front end begins some all =
    let long : 0 < length (reverse end) = (let e = length-reverse end in omega (arith, e, some)) in
    let ends = skips_front (reverse end) (reverse front) long (AllPass-reverse dark end (dark_all end all)) in
    trim_ows_space (front ++ end) begins (ap skip_ows (reverse-append front end) ∙ ends ∙ sym (reverse-append front end))

-- ---- digits up to a mark that is none

-- the mark is found behind the digits
digits_before : (mark : ℕ) (ds rest : List ℕ) → mark < 48 → All Digit ds → prefix_len (λ c. not (c == mark)) (ds ++ mark ∷ rest) ≡ length ds
digits_before mark [] rest low all = ap (λ b. if not b then 1 + prefix_len (λ c. not (c == mark)) rest else 0) (same mark)
  where
    same : (n : ℕ) → (n == n) ≡ true
    same n = grind (arith, nat_tests)
digits_before mark (c ∷ ds) rest low all =
    ap (λ b. if not b then 1 + prefix_len (λ c. not (c == mark)) (ds ++ mark ∷ rest) else 0) (differ c (All-head Digit c ds all).0)
    ∙ (let later = digits_before mark ds rest low (All-tail Digit c ds all) in omega (arith, later))
  where
    differ : (c : ℕ) → 47 < c → (c == mark) ≡ false
    differ c h = grind (arith, nat_tests)

-- the digits stand before it
pub before_is : (mark : ℕ) (ds rest : List ℕ) → mark < 48 → All Digit ds → before mark (ds ++ mark ∷ rest) ≡ ds
before_is mark ds rest low all = ap (λ n. take n (ds ++ mark ∷ rest)) (digits_before mark ds rest low all) ∙ take-append_seam ds (mark ∷ rest)

-- and the rest behind it
pub behind_is : (mark : ℕ) (ds rest : List ℕ) → mark < 48 → All Digit ds → behind mark (ds ++ mark ∷ rest) ≡ rest
behind_is mark ds rest low all = ap (λ n. drop (n + 1) (ds ++ mark ∷ rest)) (digits_before mark ds rest low all) ∙ drop-append-add ds (mark ∷ rest) 1
