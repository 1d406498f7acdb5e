-- That a text of decimal digits is what std's `parse` reads, and when it is a number.
use Rattle.std.proofs.Common.{◌≡◌, ◌↔◌, ℕ, ◌<◌, ◌≤◌, ◌^◌, true, List, [], ◌∷◌, inl, inr, length, Some, None, Result, Ok, Err, IsSome, refl, arith, rules}
use Rattle.std.proofs.lemmas.Bool.{and_parts, cases_Bool}
use Rattle.std.proofs.lemmas.List.Sums.{AllPass-from_list_all, list_all-from_AllPass}
use Rattle.std.proofs.lemmas.Str.{IsUtf8-from_ascii}
use Rattle.std.proofs.lemmas.Str.Ascii.{IsAscii-nil, IsAscii-cons}
use Rattle.std.proofs.lemmas.Str.Parse.{IsNumeralModel, IsDigitsTest, numerals_by_value, parse_digits}
use Rattle.std.specs.Char.{is_ascii_digit}
use Rattle.std.specs.List.{list_all}
use Rattle.std.specs.Result.{result_ok, OkIff}
use Rattle.std.specs.Str.{IsAscii, IsUtf8}
use Rattle.std.specs.Str.Parse.{digits_value, ParsesUnsigned}
use Rattle.std.proofs.lemmas.Bool.Decides.{nat_tests}
use Rattle.acq_base.specs.Digits.{IsNumber, is_number, number_of_digits}

-- `list_all is_ascii_digit` in std's words for numerals
digits_test : IsDigitsTest (λ ds. list_all is_ascii_digit ds ≡ true)
digits_test = search rules

pub numerals : IsNumeralModel (λ ds. list_all is_ascii_digit ds ≡ true) (digits_value 10)
numerals = numerals_by_value _ digits_test

IsNumber-from_test : (text : List ℕ) → is_number text ≡ true → IsNumber text
IsNumber-from_test text h =
    let digits : list_all is_ascii_digit text ≡ true = grind (arith, nat_tests) in
    record { digits = AllPass-from_list_all is_ascii_digit text digits; nonempty = grind (arith, nat_tests); short = grind (arith, nat_tests); below = grind (arith, nat_tests) }

test-from_IsNumber : (text : List ℕ) → IsNumber text → is_number text ≡ true
test-from_IsNumber text h =
    let digits : list_all is_ascii_digit text ≡ true = list_all-from_AllPass is_ascii_digit text h.digits in
    let nonempty = h.nonempty in
    let short = h.short in
    let below = h.below in
    grind (arith, nat_tests)

-- a number is there exactly where the text is one
pub IsSome-number : (text : List ℕ) → IsSome (number_of_digits text) ↔ IsNumber text
IsSome-number text =
    elim (cases_Bool (is_number text)) [
      | inl is ↦ let value : number_of_digits text ≡ Some (digits_value 10 text) = rw is in rw value ((λ _. IsNumber-from_test text is), (λ _. refl))
      | inr isnt ↦ let none : number_of_digits text ≡ None = rw isnt in rw none ((λ e. absurd (cc)), (λ h. let is = test-from_IsNumber text h in absurd (cc)))
    ]

-- digits are ASCII, and so UTF-8
pub digits_ascii : (text : List ℕ) → list_all is_ascii_digit text ≡ true → IsAscii text
digits_ascii [] h = IsAscii-nil
digits_ascii (c ∷ rest) h =
    let p = and_parts (is_ascii_digit c) (list_all is_ascii_digit rest) h in
    IsAscii-cons c rest (grind (arith, nat_tests)) (digits_ascii rest p.1)

pub digits_utf8 : (text : List ℕ) → list_all is_ascii_digit text ≡ true → IsUtf8 text
digits_utf8 text h = IsUtf8-from_ascii text (digits_ascii text h)

-- what `parse` answers on digits is the number that they write
number_from_ok_iff : {E : Type 0} (text : List ℕ) (r : Result ℕ E) → OkIff r ((0 < length text) × (digits_value 10 text < 2 ^ 64)) (digits_value 10 text) → list_all is_ascii_digit text ≡ true → length text ≤ 20 → result_ok r ≡ number_of_digits text
number_from_ok_iff text (Ok x) h digits short = grind (arith, nat_tests)
number_from_ok_iff text (Err e) h digits short = grind (arith, nat_tests)

pub parsed_number : {E : Type 0} (text : List ℕ) (r : Result ℕ E) → ParsesUnsigned 64 10 text r → list_all is_ascii_digit text ≡ true → length text ≤ 20 → result_ok r ≡ number_of_digits text
parsed_number text r h digits short = number_from_ok_iff text r (parse_digits numerals 64 text r h digits) digits short
