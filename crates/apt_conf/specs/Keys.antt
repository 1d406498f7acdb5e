-- Keys of apt.conf(5), and the value that pairs give to one.
use Rattle.std.specs.Prelude.{ℕ, ◌+◌, ◌==◌, ◌&&◌, ◌||◌, not, nat_lt, Bool, true, false, if◌then◌else◌, List, [], ◌∷◌, length, drop, Option, Some, None, codes}
use Rattle.std.specs.List.{list_any, list_all}
use Rattle.std.specs.Char.{is_ascii_alphanumeric, eq_ignore_ascii_case}
use Rattle.std.specs.Str.{str_eq_ignore_ascii_case}

-- a key and its value
abbrev pub Pair : Type 0
Pair = List ℕ × List ℕ

-- letters, digits and `_-.:/+`
abbrev pub is_key_character : ℕ → Bool
is_key_character c = is_ascii_alphanumeric c || list_any (λ d. c == d) (codes "_-.:/+")

abbrev pub is_key : List ℕ → Bool
is_key text = not (length text == 0) && list_all is_key_character text

-- whether a part of a key between, before or after `::` is empty, each `::` being the first two colons that are left.
-- The first argument tells whether a part begins at the front
abbrev pub is_parting : ℕ → ℕ → Bool
is_parting c d = c == 58 && d == 58

unfoldable pub empty_part : Bool → List ℕ → Bool
empty_part begins [] = begins
empty_part begins (c ∷ []) = false
empty_part begins (c ∷ d ∷ rest) = if is_parting c d then begins || empty_part true rest else empty_part false (d ∷ rest)

abbrev pub has_empty_part : List ℕ → Bool
has_empty_part key = empty_part true key

-- keys are compared without regard to ASCII case
unfoldable pub same_key : List ℕ → List ℕ → Bool
same_key a b = str_eq_ignore_ascii_case a b

-- how many first bytes of two texts are the same, ASCII case aside
unfoldable pub common_length : List ℕ → List ℕ → ℕ
common_length [] b = 0
common_length (c ∷ a) [] = 0
common_length (c ∷ a) (d ∷ b) = if eq_ignore_ascii_case d c then common_length a b + 1 else 0

-- how many first bytes of a key another key has that goes on with `rest` behind its first `shared` bytes, where
-- `matched` of them are known, and whether it is that key
unfoldable pub compared : List ℕ → ℕ → ℕ → List ℕ → ℕ × Bool
compared key shared matched rest =
    if nat_lt matched shared then (matched, false)
    else (
      shared + common_length (drop shared key) rest,
      common_length (drop shared key) rest == length (drop shared key) && common_length (drop shared key) rest == length rest,
    )

-- the later of two values, where there is a later one
abbrev pub later : {T : Type 0} → Option T → Option T → Option T
later (Some value) before = Some value
later None before = before

-- the last value that pairs give to a key
unfoldable pub value_of : List Pair → List ℕ → Option (List ℕ)
value_of [] key = None
value_of (pair ∷ pairs) key = later (value_of pairs key) (if same_key pair.0 key then Some pair.1 else None)
