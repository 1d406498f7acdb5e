-- The lines of a message (APT's method interface). A line ends at a line feed, and at nothing else.
use Rattle.std.specs.Prelude.{ℕ, ◌+◌, ◌-◌, ◌*◌, ◌==◌, ◌||◌, ◌&&◌, not, nat_le, Bool, true, false, List, [], ◌∷◌, ◌++◌, drop, map}
use Rattle.std.specs.List.{list_any, list_all, before_first, after_first, flat_map}
use Rattle.std.specs.Char.{is_ascii_digit}
use Rattle.acq_base.specs.Words.{trimmed_start}
use Rattle.method_messages.specs.declared.message.Message.{Message}

abbrev pub is_feed : ℕ → Bool
is_feed c = c == 10

-- a line, which has no line feed in it
abbrev pub is_line : List ℕ → Bool
is_line line = not (list_any is_feed line)

-- lines, each ended by a line feed
abbrev pub ended : List (List ℕ) → List ℕ
ended lines = flat_map (λ line. line ++ 10 ∷ []) lines

-- ---- the first line

-- three digits, a space, and a text of at least one byte
abbrev pub is_first : List ℕ → Bool
is_first (a ∷ b ∷ c ∷ space ∷ d ∷ text) = is_ascii_digit a && (is_ascii_digit b && (is_ascii_digit c && space == 32))
is_first _ = false

-- what a digit stands for
abbrev pub digit : ℕ → ℕ
digit c = c - 48

-- the number that the three digits write
abbrev pub number_in : List ℕ → ℕ
number_in (a ∷ b ∷ c ∷ text) = 100 * digit a + 10 * digit b + digit c
number_in _ = 0

-- the text behind the space
abbrev pub text_in : List ℕ → List ℕ
text_in line = drop 4 line

-- ---- a field

abbrev pub is_colon : ℕ → Bool
is_colon c = c == 58

abbrev pub begins_with : (ℕ → Bool) → List ℕ → Bool
begins_with test [] = false
begins_with test (c ∷ cs) = test c

-- neither `#` nor `-`
abbrev pub may_begin_name : ℕ → Bool
may_begin_name c = not (c == 35 || c == 45)

abbrev pub is_name_character : ℕ → Bool
is_name_character c = nat_le 33 c && (nat_le c 126 && not (is_colon c))

-- a name as in control text (Debian Policy, section 5.1): printable ASCII but space and colon, at least one, `#` and `-` not first
abbrev pub is_name : List ℕ → Bool
is_name name = begins_with may_begin_name name && list_all is_name_character name

-- a name and a colon, whatever follows
abbrev pub is_field : List ℕ → Bool
is_field line = list_any is_colon line && is_name (before_first is_colon line)

-- the name before the first colon, and the value behind it, without the blanks at its front
abbrev pub field_in : List ℕ → List ℕ × List ℕ
field_in line = (before_first is_colon line, trimmed_start (after_first is_colon line))

-- ---- all of them

-- the lines with which a message can begin: a first one, and fields
abbrev pub can_begin : List (List ℕ) → Bool
can_begin [] = true
can_begin (first ∷ fields) = is_first first && list_all is_field fields

-- the line may follow these
abbrev pub may_follow : List (List ℕ) → List ℕ → Bool
may_follow [] line = is_first line
may_follow (first ∷ fields) line = is_field line

-- what the lines say
abbrev pub message_in : List ℕ → List (List ℕ) → Message
message_in first fields = record { number = number_in first; text = text_in first; fields = map field_in fields }
