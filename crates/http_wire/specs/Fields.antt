-- The fields of a head, and what their values say.
use Rattle.std.specs.Prelude.{ℕ, ◌+◌, ◌^◌, ◌==◌, ◌&&◌, not, nat_lt, Bool, if◌then◌else◌, List, [], ◌∷◌, length, take, drop, codes, map, bytes_eq, Option, Some, None}
use Rattle.std.specs.Char.{is_ascii_digit, to_ascii_lowercase}
use Rattle.std.specs.List.{flat_map, list_all, list_any, slice_split, prefix_len}
use Rattle.std.specs.Str.Parse.{digits_value}
use Rattle.acq_base.specs.Words.{trimmed}

-- names and values, in order
abbrev pub Fields : Type 0
Fields = List (List ℕ × List ℕ)

-- words are compared without regard to the case of ASCII letters (RFC 9110, section 5.1)
abbrev pub same_word : List ℕ → List ℕ → Bool
same_word a b = bytes_eq (map to_ascii_lowercase a) (map to_ascii_lowercase b)

abbrev pub value_if_named : List ℕ → List ℕ × List ℕ → List (List ℕ)
value_if_named name field = if same_word field.0 name then field.1 ∷ [] else []

-- the values of the fields of a name, in order
unfoldable pub values : List ℕ → Fields → List (List ℕ)
values name fields = flat_map (value_if_named name) fields

-- one decimal digit or more
abbrev pub is_digits : List ℕ → Bool
is_digits text = nat_lt 0 (length text) && list_all is_ascii_digit text

-- the number below 2^64 that digits write, leading zeros included
abbrev pub number : List ℕ → Option ℕ
number text = if is_digits text && nat_lt (digits_value 10 text) (2 ^ 64) then Some (digits_value 10 text) else None

-- the text up to the first such byte, and what stands behind that byte
abbrev pub before : ℕ → List ℕ → List ℕ
before mark text = take (prefix_len (λ c. not (c == mark)) text) text

abbrev pub behind : ℕ → List ℕ → List ℕ
behind mark text = drop (prefix_len (λ c. not (c == mark)) text + 1) text

-- FIRST-LAST/TOTAL, digits in all three places, the first of them this number
unfoldable pub is_span : ℕ → List ℕ → Bool
is_span from text =
    is_digits (before 45 text) && (digits_value 10 (before 45 text) == from)
    && is_digits (before 47 (behind 45 text)) && is_digits (behind 47 (behind 45 text))

-- the bytes of a file from this one on (RFC 9110, section 14.4)
abbrev pub is_range : ℕ → List ℕ → Bool
is_range from value = bytes_eq (take 6 value) (codes "bytes ") && is_span from (drop 6 value)

-- the word `close` among words cut at commas (RFC 9112, section 9.6)
unfoldable pub has_close : List ℕ → Bool
has_close value = list_any (λ word. same_word (trimmed word) (codes "close")) (slice_split (λ c. c == 44) value)
