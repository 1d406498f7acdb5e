-- Blanks and words: what stands between separators, and a text without the blanks at its ends.
use Rattle.std.specs.Prelude.{ℕ, ◌==◌, ◌||◌, nat_lt, Bool, true, false, if◌then◌else◌, List, [], ◌∷◌, length, filter, reverse}
use Rattle.std.specs.List.{slice_split}

-- a space or a tab
abbrev pub is_blank : ℕ → Bool
is_blank c = c == 32 || c == 9

-- what stands between the items of a list
abbrev pub is_blank_or_comma : ℕ → Bool
is_blank_or_comma c = is_blank c || c == 44

-- what separates words: blanks, and commas too in a list
abbrev pub separates : Bool → ℕ → Bool
separates false = is_blank
separates true = is_blank_or_comma

-- the text from its first byte that is no blank
abbrev pub trimmed_start : List ℕ → List ℕ
trimmed_start [] = []
trimmed_start (c ∷ rest) = if is_blank c then trimmed_start rest else c ∷ rest

-- the text up to its last byte that is no blank
abbrev pub trimmed_end : List ℕ → List ℕ
trimmed_end text = reverse (trimmed_start (reverse text))

-- the text without the blanks at both ends
abbrev pub trimmed : List ℕ → List ℕ
trimmed text = trimmed_end (trimmed_start text)

-- a piece of a text counts as a word where it has a byte
abbrev pub is_word : List ℕ → Bool
is_word piece = nat_lt 0 (length piece)

-- the words of a text, in order: its longest pieces without a separator
unfoldable pub words : (ℕ → Bool) → List ℕ → List (List ℕ)
words is_separator text = filter is_word (slice_split is_separator text)
