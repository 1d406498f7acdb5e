-- Numbers as texts write them: in decimal digits, without a sign.
use Rattle.std.specs.Prelude.{ℕ, ◌^◌, ◌<◌, ◌≤◌, ◌&&◌, nat_lt, nat_le, Bool, if◌then◌else◌, List, length, Option, Some, None}
use Rattle.std.specs.List.{AllPass, list_all}
use Rattle.std.specs.Char.{is_ascii_digit}
use Rattle.std.specs.Str.Parse.{digits_value}

-- 1 to 20 decimal digits, of a number below 2^64
abbrev pub is_number : List ℕ → Bool
is_number text = list_all is_ascii_digit text && nat_le 1 (length text) && nat_le (length text) 20 && nat_lt (digits_value 10 text) (2 ^ 64)

pub record IsNumber (text : List ℕ) : Type 0 where
  pub digits : AllPass is_ascii_digit text
  pub nonempty : 1 ≤ length text
  pub short : length text ≤ 20
  pub below : digits_value 10 text < 2 ^ 64

-- the number that such digits write
abbrev pub number_of_digits : List ℕ → Option ℕ
number_of_digits text = if is_number text then Some (digits_value 10 text) else None
