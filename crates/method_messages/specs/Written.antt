-- How a message is written (APT's method interface), and which can be.
use Rattle.std.specs.Prelude.{ℕ, ◌+◌, ◌/◌, ◌%◌, ◌&&◌, not, nat_le, Bool, List, [], ◌∷◌, ◌++◌, length}
use Rattle.std.specs.List.{list_all, flat_map}
use Rattle.acq_base.specs.Words.{is_blank}
use Rattle.method_messages.specs.declared.message.Message.{Message}
use Rattle.method_messages.specs.Lines.{is_line, begins_with, is_name}

abbrev pub three_digits : ℕ → List ℕ
three_digits n = (48 + n / 100) ∷ (48 + n / 10 % 10) ∷ (48 + n % 10) ∷ []

-- `NAME: VALUE`, with one space before an empty value too
abbrev pub field_text : List ℕ × List ℕ → List ℕ
field_text field = field.0 ++ 58 ∷ 32 ∷ (field.1 ++ 10 ∷ [])

-- its first line, its fields, and an empty line
unfoldable pub written : Message → List ℕ
written message = three_digits message.number ++ 32 ∷ (message.text ++ 10 ∷ (flat_map field_text message.fields ++ 10 ∷ []))

-- a field that reads again as it is: a name, and a value of one line without a blank at its front
abbrev pub is_valid_field : List ℕ × List ℕ → Bool
is_valid_field field = is_name field.0 && (is_line field.1 && not (begins_with is_blank field.1))

abbrev pub is_valid_number : ℕ → Bool
is_valid_number n = nat_le 100 n && nat_le n 999

abbrev pub is_valid_text : List ℕ → Bool
is_valid_text text = nat_le 1 (length text) && is_line text

-- A message that can be written, within 65,536 bytes.
unfoldable pub is_valid : Message → Bool
is_valid message =
    is_valid_number message.number && (is_valid_text message.text
    && (list_all is_valid_field message.fields && nat_le (length (written message)) 65536))
