-- How control text is written (Debian Policy, section 5.1), and which paragraphs can be.
use Rattle.std.specs.Prelude.{◌≡◌, ℕ, ◌==◌, ◌||◌, ◌&&◌, not, Bool, true, false, if◌then◌else◌, List, [], ◌∷◌, ◌++◌, map, reverse, is_some, Ok}
use Rattle.std.specs.List.{list_all, flat_map}
use Rattle.acq_base.specs.Words.{is_blank}
use Rattle.deb822_text.specs.declared.paragraph.Field.{Field}
use Rattle.deb822_text.specs.declared.paragraph.Paragraph.{Paragraph}
use Rattle.deb822_text.specs.Control.{is_empty, begins_with, is_name, field_named, paragraphs_of}

-- ---- what can be written

-- neither a line feed nor a carriage return
abbrev pub is_line_character : ℕ → Bool
is_line_character c = not (c == 10 || c == 13)

abbrev pub ends_with : (ℕ → Bool) → List ℕ → Bool
ends_with test line = begins_with test (reverse line)

-- a field's first line may be empty
abbrev pub is_first_line : List ℕ → Bool
is_first_line line = list_all is_line_character line && not (begins_with is_blank line) && not (ends_with is_blank line)

-- a later line is not of blanks alone, and may begin with one
abbrev pub is_later_line : List ℕ → Bool
is_later_line line = list_all is_line_character line && not (list_all is_blank line) && not (ends_with is_blank line)

abbrev pub are_field_lines : List (List ℕ) → Bool
are_field_lines [] = false
are_field_lines (first ∷ later) = is_first_line first && list_all is_later_line later

abbrev pub is_writable_field : Field → Bool
is_writable_field field = is_name field.name && are_field_lines field.lines

-- no two of the names are one, ASCII case aside
abbrev pub are_distinct : List Field → Bool
are_distinct [] = true
are_distinct (field ∷ fields) = not (is_some (field_named fields field.name)) && are_distinct fields

abbrev pub is_writable_paragraph : Paragraph → Bool
is_writable_paragraph paragraph = not (is_empty paragraph.fields) && (list_all is_writable_field paragraph.fields && are_distinct paragraph.fields)

unfoldable pub is_writable : List Paragraph → Bool
is_writable paragraphs = list_all is_writable_paragraph paragraphs

-- ---- the written form

-- an empty first line stands for itself, and any other behind a space
abbrev pub first_line_text : List ℕ → List ℕ
first_line_text line = if is_empty line then 10 ∷ [] else 32 ∷ line ++ 10 ∷ []

abbrev pub later_line_text : List ℕ → List ℕ
later_line_text line = 32 ∷ line ++ 10 ∷ []

abbrev pub lines_text : List (List ℕ) → List ℕ
lines_text [] = 10 ∷ []
lines_text (first ∷ later) = first_line_text first ++ flat_map later_line_text later

abbrev pub field_text : Field → List ℕ
field_text field = field.name ++ 58 ∷ lines_text field.lines

abbrev pub paragraph_text : Paragraph → List ℕ
paragraph_text paragraph = flat_map field_text paragraph.fields

-- an empty line, and a paragraph
abbrev pub next_paragraph_text : Paragraph → List ℕ
next_paragraph_text paragraph = 10 ∷ paragraph_text paragraph

unfoldable pub text_of : List Paragraph → List ℕ
text_of [] = []
text_of (paragraph ∷ more) = paragraph_text paragraph ++ flat_map next_paragraph_text more

-- ---- reading again

abbrev pub unplaced_field : Field → Field
unplaced_field field = record field { at = 0 }

abbrev pub unplaced_paragraph : Paragraph → Paragraph
unplaced_paragraph paragraph = record { fields = map unplaced_field paragraph.fields }

-- the paragraphs without the numbers of their lines
abbrev pub unplaced : List Paragraph → List Paragraph
unplaced paragraphs = map unplaced_paragraph paragraphs

-- reading the text, with comments or without, gives these paragraphs, the numbers of their lines aside
abbrev pub ReadsAs : List ℕ → List Paragraph → Type 0
ReadsAs bytes paragraphs =
    (comments : Bool) → (again : List Paragraph) × (paragraphs_of bytes comments ≡ Ok again) × (unplaced again ≡ unplaced paragraphs)
