-- A file's sum: what it is, and how releases and indexes write it.
use Rattle.std.specs.Prelude.{◌≡◌, ℕ, List, length, Option, Some, None, Result, Ok, Err}
use Rattle.std.specs.List.{AllPass}
use Rattle.std.specs.Result.{result_ok}
use Rattle.hex.specs.Hex.{is_hex_digit, decode_sized}
use Rattle.sha2.specs.Sha256.{sha256}
use Rattle.acq_base.specs.Digits.{number_of_digits}
use Rattle.acq_base.specs.declared.sum.Sum.{Sum}
use Rattle.acq_base.specs.declared.sum.SumError.{SumError}
use Rattle.acq_base.specs.declared.sum.SumError.TheVariants.{BadHash, BadSize}

-- the length in bytes and the SHA-256 digest of a file (FIPS 180-4, section 6.2)
abbrev pub sum_of : List ℕ → Sum
sum_of bytes = record { size = length bytes; sha = record { 0 = sha256 bytes } }

-- the file is the one that the sum names
abbrev pub Fits : List ℕ → Sum → Type 0
Fits bytes sum = sum_of bytes ≡ sum

-- 64 hexadecimal digits, of either case
abbrev pub IsHash : List ℕ → Type 0
IsHash text = (length text ≡ 64) × AllPass is_hex_digit text

-- the sum of these digest bytes, if a size is there
abbrev pub sized : List ℕ → Option ℕ → Result Sum SumError
sized digest (Some size) = Ok (record { size = size; sha = record { 0 = digest } })
sized digest None = Err BadSize

abbrev pub hashed : Option (List ℕ) → List ℕ → Result Sum SumError
hashed (Some digest) size = sized digest (number_of_digits size)
hashed None size = Err BadHash

-- the sum that a hash and a size write, the hash judged first
abbrev pub sum_of_texts : List ℕ → List ℕ → Result Sum SumError
sum_of_texts hash size = hashed (result_ok (decode_sized hash 32)) size

abbrev pub refusal_number : SumError → ℕ
refusal_number BadHash = 1
refusal_number BadSize = 2
