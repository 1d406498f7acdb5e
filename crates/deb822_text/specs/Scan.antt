-- Reading line by line: what a reader that goes on from what it has read so far does at each line.
use Rattle.std.specs.Prelude.{◌≡◌, ℕ, ◌⊎◌, if◌then◌else◌, List, [], ◌∷◌, ◌++◌, Option, Some, None, Result, Ok, Err}
use Rattle.deb822_text.specs.declared.paragraph.Field.{Field}
use Rattle.deb822_text.specs.declared.paragraph.Paragraph.{Paragraph}
use Rattle.deb822_text.specs.declared.error.TextError.{TextError}
use Rattle.deb822_text.specs.declared.error.TextError.TheVariants.{BadField, Twice, Loose, NoMemory}
use Rattle.deb822_text.specs.declared.reading.Reading.{Reading}
use Rattle.deb822_text.specs.Control.{Line, Separator, Comment, Continuation, Named, Unknown, is_empty, has_name, or_else}
use Rattle.deb822_text.specs.Names.{names_of, repeated}

-- the whole paragraphs, and the fields of the one that is open
pub record State : Type 0 where
  pub paragraphs : List Paragraph
  pub fields : List Field

abbrev pub start : State
start = record { paragraphs = []; fields = [] }

-- a line more of the last field
abbrev pub add_line : List Field → List ℕ → List Field
add_line [] text = []
add_line (field ∷ []) text = record field { lines = field.lines ++ text ∷ [] } ∷ []
add_line (field ∷ next ∷ more) text = field ∷ add_line (next ∷ more) text

-- the paragraphs with the open one, if it has a field
abbrev pub closed : State → List Paragraph
closed state = if is_empty state.fields then state.paragraphs else state.paragraphs ++ record { fields = state.fields } ∷ []

abbrev pub fault_at : List Field → Line → Option TextError
fault_at fields Separator = None
fault_at fields Comment = None
fault_at fields (Continuation at text) = if is_empty fields then Some (Loose at) else None
fault_at fields (Named at name text) = if has_name (names_of fields) name then Some (Twice at) else None
fault_at fields (Unknown at) = Some (BadField at)

abbrev pub step : State → Line → State
step state Separator = record { paragraphs = closed state; fields = [] }
step state Comment = state
step state (Continuation at text) = record { paragraphs = state.paragraphs; fields = add_line state.fields text }
step state (Named at name text) = record { paragraphs = state.paragraphs; fields = state.fields ++ record { name = name; lines = text ∷ []; at = at } ∷ [] }
step state (Unknown at) = state

abbrev pub unless : {X : Type 0} → Option TextError → Result X TextError → Result X TextError
unless None result = result
unless (Some fault) result = Err fault

unfoldable pub scan : State → List Line → Result (List Paragraph) TextError
scan state [] = Ok (closed state)
scan state (line ∷ lines) = unless (fault_at state.fields line) (scan (step state line) lines)

-- ---- the program's reader

abbrev pub state_of : Reading → State
state_of reading = record { paragraphs = reading.paragraphs; fields = reading.fields.items }

-- The names of an open paragraph are compared where it ends, where a line is refused, and early where a field comes behind
-- 4, 32, 256 fields and so on. Up to there a name that an earlier field has is a fault still owed: it comes before that of any
-- line behind it.
abbrev pub owed : State → Line → Option TextError
owed state line = or_else (repeated state.fields) (fault_at state.fields line)

-- it takes a line as a step, and owes what it owed or the line's fault
abbrev pub GoesOn : State → Line → State → Type 0
GoesOn old line new = (repeated new.fields ≡ owed old line) × (new ≡ step old line)

-- it goes on, or refuses the text with what it owes then
abbrev pub Takes : {X : Type 0} → State → Line → Result X TextError → State → Type 0
Takes old line (Ok done) new = GoesOn old line new
Takes old line (Err fault) new = (fault ≡ NoMemory) ⊎ (owed old line ≡ Some fault)
