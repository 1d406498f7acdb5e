-- Control text (Debian Policy, section 5.1): the paragraphs of a text, and the line at which a text is refused.
use Rattle.std.specs.Prelude.{ℕ, ◌+◌, ◌==◌, ◌||◌, ◌&&◌, not, nat_le, Bool, true, false, if◌then◌else◌, List, [], ◌∷◌, ◌++◌, map, filter, find, drop, Option, Some, None, Result, Ok, Err}
use Rattle.std.specs.List.{list_any, list_all, slice_split, before_first, after_first}
use Rattle.std.specs.Str.{str_eq_ignore_ascii_case}
use Rattle.std.specs.Str.Lines.{lines as text_lines}
use Rattle.acq_base.specs.Words.{is_blank, trimmed_end, trimmed}
use Rattle.deb822_text.specs.declared.paragraph.Field.{Field}
use Rattle.deb822_text.specs.declared.paragraph.Paragraph.{Paragraph}
use Rattle.deb822_text.specs.declared.error.TextError.{TextError}
use Rattle.deb822_text.specs.declared.error.TextError.TheVariants.{BadField, Twice, Loose, NoMemory}

-- ---- one line

abbrev pub is_colon : ℕ → Bool
is_colon c = c == 58

abbrev pub is_hash : ℕ → Bool
is_hash c = c == 35

abbrev pub is_empty : {X : Type 0} → List X → Bool
is_empty [] = true
is_empty (x ∷ xs) = false

-- the first byte passes the test, and there is one
abbrev pub begins_with : (ℕ → Bool) → List ℕ → Bool
begins_with test [] = false
begins_with test (c ∷ cs) = test c

-- neither `#` nor `-`
abbrev pub may_begin_name : ℕ → Bool
may_begin_name c = not (is_hash c || c == 45)

abbrev pub is_name_character : ℕ → Bool
is_name_character c = nat_le 33 c && nat_le c 126 && not (is_colon c)

-- a field's name: printable ASCII but space and colon, at least one, `#` and `-` not first
abbrev pub is_name : List ℕ → Bool
is_name name = begins_with may_begin_name name && list_all is_name_character name

-- what a line is by itself, with its number counted from 1
pub data Line : Type 0 where
  Separator : Line
  Comment : Line
  Continuation : ℕ → List ℕ → Line
  Named : ℕ → List ℕ → List ℕ → Line
  Unknown : ℕ → Line

-- a name, a colon, and text
abbrev pub named_line : ℕ → List ℕ → List ℕ → Line
named_line at name text = if is_name name then Named at name (trimmed text) else Unknown at

-- what stands before the first colon is the name
abbrev pub field_line : ℕ → List ℕ → Line
field_line at line = if list_any is_colon line then named_line at (before_first is_colon line) (after_first is_colon line) else Unknown at

-- A line of blanks alone separates paragraphs. A comment begins with `#`, where comments are on. A continuation begins
-- with a blank, which isn't its text's. A field is a name, a colon, and text. Blanks at the ends of a text don't count.
unfoldable pub line_of : Bool → ℕ → List ℕ → Line
line_of comments at line =
    if list_all is_blank line then Separator
    else if comments && begins_with is_hash line then Comment
    else if begins_with is_blank line then Continuation at (trimmed_end (drop 1 line))
    else field_line at line

abbrev pub lines_from : Bool → ℕ → List (List ℕ) → List Line
lines_from comments at [] = []
lines_from comments at (line ∷ more) = line_of comments at line ∷ lines_from comments (at + 1) more

-- the lines of a text, each ended by a line feed or by the end, a carriage return before the line feed left out
unfoldable pub lines_of : Bool → List ℕ → List Line
lines_of comments bytes = lines_from comments 1 (text_lines bytes)

-- ---- the value

abbrev pub is_separator : Line → Bool
is_separator Separator = true
is_separator _ = false

abbrev pub is_counted : Line → Bool
is_counted Comment = false
is_counted _ = true

-- the lines between separators, comments taken out; between two separators in a row there are none
abbrev pub groups_of : List Line → List (List Line)
groups_of lines = slice_split is_separator (filter is_counted lines)

-- the texts of the continuations at the front
abbrev pub continued : List Line → List (List ℕ)
continued [] = []
continued (Continuation at text ∷ lines) = text ∷ continued lines
continued (_ ∷ lines) = []

-- each field of a group, with its own text and those of the continuations behind it
abbrev pub fields_of : List Line → List Field
fields_of [] = []
fields_of (Named at name text ∷ lines) = record { name = name; lines = text ∷ continued lines; at = at } ∷ fields_of lines
fields_of (_ ∷ lines) = fields_of lines

abbrev pub paragraph_of : List Line → Paragraph
paragraph_of lines = record { fields = fields_of lines }

-- each group with a line is a paragraph
abbrev pub paragraphs_in : List (List Line) → List Paragraph
paragraphs_in groups = map paragraph_of (filter (λ group. not (is_empty group)) groups)

-- ---- the refusal

-- the names of the fields in a list of lines
abbrev pub names_in : List Line → List (List ℕ)
names_in [] = []
names_in (Named at name text ∷ lines) = name ∷ names_in lines
names_in (_ ∷ lines) = names_in lines

-- one of the names is this one, ASCII case aside
abbrev pub has_name : List (List ℕ) → List ℕ → Bool
has_name names name = list_any (λ other. str_eq_ignore_ascii_case other name) names

-- what is wrong with a line, behind these lines of its group
abbrev pub line_fault : List Line → Line → Option TextError
line_fault before Separator = None
line_fault before Comment = None
line_fault before (Continuation at text) = if is_empty (names_in before) then Some (Loose at) else None
line_fault before (Named at name text) = if has_name (names_in before) name then Some (Twice at) else None
line_fault before (Unknown at) = Some (BadField at)

abbrev pub or_else : Option TextError → Option TextError → Option TextError
or_else None other = other
or_else (Some fault) other = Some fault

-- the first fault of lines that stand behind others of their group
abbrev pub fault_behind : List Line → List Line → Option TextError
fault_behind before [] = None
fault_behind before (line ∷ lines) = or_else (line_fault before line) (fault_behind (before ++ line ∷ []) lines)

-- the first fault of the first group that has one
abbrev pub first_fault : List (List Line) → Option TextError
first_fault [] = None
first_fault (group ∷ groups) = or_else (fault_behind [] group) (first_fault groups)

abbrev pub refused_or : {X : Type 0} → Option TextError → X → Result X TextError
refused_or None value = Ok value
refused_or (Some fault) value = Err fault

unfoldable pub reading_of : List Line → Result (List Paragraph) TextError
reading_of lines = refused_or (first_fault (groups_of lines)) (paragraphs_in (groups_of lines))

-- the paragraphs of a text, or its refusal; `#` begins a comment where comments are on
unfoldable pub paragraphs_of : List ℕ → Bool → Result (List Paragraph) TextError
paragraphs_of bytes comments = reading_of (lines_of comments bytes)

-- ---- looking up

-- the first field of this name, ASCII case aside
abbrev pub field_named : List Field → List ℕ → Option Field
field_named fields name = find (λ field. str_eq_ignore_ascii_case field.name name) fields

-- ---- refusals

abbrev pub refusal_number : TextError → ℕ
refusal_number (BadField line) = 3
refusal_number (Twice line) = 4
refusal_number (Loose line) = 5
refusal_number NoMemory = 0

abbrev pub refusal_line : TextError → ℕ
refusal_line (BadField line) = line
refusal_line (Twice line) = line
refusal_line (Loose line) = line
refusal_line NoMemory = 0
