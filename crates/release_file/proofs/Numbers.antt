-- That a text of few decimal digits writes a small number.
use Rattle.std.proofs.Common.{◌≡◌, ◌&&◌, nat_le, ℕ, ◌<◌, ◌≤◌, ◌^◌, true, List, length, inl, inr, Some, None, Result, Ok, Err, sym, subst, ◌∙◌, arith, IfSome}
use Rattle.std.proofs.lemmas.Bool.{cases_Bool}
use Rattle.std.proofs.lemmas.Bool.Decides.{nat_tests}
use Rattle.std.proofs.lemmas.Str.Parse.{digits_value_short}
use Rattle.std.specs.Char.{is_ascii_digit}
use Rattle.std.specs.List.{list_all}
use Rattle.std.specs.Result.{result_ok, OkIff}
use Rattle.std.specs.Str.Parse.{digits_value}
use Rattle.acq_base.specs.Digits.{number_of_digits}
use Rattle.acq_base.proofs.Numbers.{numerals}
use Rattle.release_file.specs.DateText.{number_of}

-- so many digits write a number below that power of ten
digits-lt : (text : List ℕ) (most : ℕ) → list_all is_ascii_digit text ≡ true → length text ≤ most → digits_value 10 text < 10 ^ most
digits-lt text most h short = digits_value_short numerals text most h short

-- few digits are digits of a number below 2^64
pub few_digits : (least most : ℕ) (text : List ℕ) → 1 ≤ least → least ≤ length text → length text ≤ most → most ≤ 4 → number_of_digits text ≡ number_of least most text
unfolding number_of
few_digits least most text some low high few =
    elim (cases_Bool (list_all is_ascii_digit text)) [
      | inl is ↦
          let small : digits_value 10 text < 10 ^ 4 = digits-lt text 4 is (omega arith) in
          grind (arith, nat_tests)
      | inr isnt ↦ grind (arith, nat_tests)
    ]

pub long_digits : (least most : ℕ) (text : List ℕ) → length text < least → None ≡ number_of least most text
unfolding number_of
long_digits least most text short = grind (arith, nat_tests)

-- where it is a number, it is below that power of ten
pub number_of-lt : (least most : ℕ) (text : List ℕ) → IfSome (number_of least most text) (λ n. n < 10 ^ most)
unfolding number_of
number_of-lt least most text =
    elim (cases_Bool (nat_le least (length text) && nat_le (length text) most && list_all is_ascii_digit text)) [
      | inl is ↦
          let digits : list_all is_ascii_digit text ≡ true = grind (arith, nat_tests) in
          let high : length text ≤ most = grind (arith, nat_tests) in
          rw is (digits-lt text most digits high)
      | inr isnt ↦ rw isnt tt
    ]

number_small : (least most : ℕ) (text : List ℕ) → most ≤ 4 → IfSome (number_of least most text) (λ n. n < 10 ^ 4)
unfolding number_of
number_small least most text few =
    elim (cases_Bool (nat_le least (length text) && nat_le (length text) most && list_all is_ascii_digit text)) [
      | inl is ↦
          let digits : list_all is_ascii_digit text ≡ true = grind (arith, nat_tests) in
          let high : length text ≤ most = grind (arith, nat_tests) in
          rw is (digits-lt text 4 digits (omega arith))
      | inr isnt ↦ rw isnt tt
    ]

-- a small number is one of 16 bits
narrowed : {E : Type 0} (n : ℕ) (r : Result ℕ E) → OkIff r (n < 65536) n → n < 10 ^ 4 → result_ok r ≡ Some n
narrowed n (Ok x) h small = grind (arith, nat_tests)
narrowed n (Err e) h small = grind (arith, nat_tests)

pub narrow : {E : Type 0} (least most : ℕ) (text : List ℕ) (n : ℕ) (r : Result ℕ E) → number_of least most text ≡ Some n → most ≤ 4 → OkIff r (n < 65536) n → result_ok r ≡ number_of least most text
narrow least most text n r is few h = narrowed n r h (subst (λ o. IfSome o (λ m. m < 10 ^ 4)) is (number_small least most text few)) ∙ sym is
