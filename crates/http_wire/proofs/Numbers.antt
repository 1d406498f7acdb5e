-- That digits are what std's `parse` reads.
use Rattle.std.proofs.Common.{◌≡◌, ℕ, ◌<◌, ◌^◌, true, List, length, Result, Ok, Err, arith}
use Rattle.std.proofs.lemmas.Str.{IsUtf8-from_ascii}
use Rattle.std.proofs.lemmas.Str.Parse.{parse_digits}
use Rattle.std.specs.Char.{is_ascii_digit}
use Rattle.std.specs.List.{list_all}
use Rattle.std.specs.Result.{result_ok, OkIff}
use Rattle.std.specs.Str.{IsUtf8}
use Rattle.std.specs.Str.Parse.{digits_value, ParsesUnsigned}
use Rattle.std.proofs.lemmas.Bool.Decides.{nat_tests}
use Rattle.acq_base.proofs.Numbers.{digits_ascii, numerals}
use Rattle.http_wire.specs.Fields.{is_digits, number}

all_of : (text : List ℕ) → is_digits text ≡ true → list_all is_ascii_digit text ≡ true
all_of text h = grind (arith, nat_tests)

pub digits_utf8 : (text : List ℕ) → is_digits text ≡ true → IsUtf8 text
digits_utf8 text h = IsUtf8-from_ascii text (digits_ascii text (all_of text h))

-- what `parse` answers on digits is the number that they write
number_from_ok_iff : {E : Type 0} (text : List ℕ) (r : Result ℕ E) → OkIff r ((0 < length text) × (digits_value 10 text < 2 ^ 64)) (digits_value 10 text) → list_all is_ascii_digit text ≡ true → is_digits text ≡ true → result_ok r ≡ number text
number_from_ok_iff text (Ok x) h digits some = grind (arith, nat_tests)
number_from_ok_iff text (Err e) h digits some = grind (arith, nat_tests)

pub parsed_number : {E : Type 0} (text : List ℕ) (r : Result ℕ E) → ParsesUnsigned 64 10 text r → is_digits text ≡ true → result_ok r ≡ number text
parsed_number text r h some = number_from_ok_iff text r (parse_digits numerals 64 text r h (all_of text some)) (all_of text some) some
