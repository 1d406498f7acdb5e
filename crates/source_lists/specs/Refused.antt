-- The refusals of a sources list: their numbers and lines, and what a refusal of control text becomes.
use Rattle.std.specs.Prelude.{ℕ}
use Rattle.deb822_text.specs.declared.error.TextError.{TextError}
use Rattle.deb822_text.specs.declared.error.TextError.TheVariants as text
use Rattle.source_lists.specs.declared.error.ListError.{ListError}
use Rattle.source_lists.specs.declared.error.ListError.TheVariants.{LongFile, BadLine, NoComponent, LooseComponent, Operator, BadUri, Scheme, BadField, Twice, Loose, NoMemory}

abbrev pub refusal_of_text : TextError → ListError
refusal_of_text (text.BadField line) = BadField line
refusal_of_text (text.Twice line) = Twice line
refusal_of_text (text.Loose line) = Loose line
refusal_of_text text.NoMemory = NoMemory

abbrev pub refusal_number : ListError → ℕ
refusal_number LongFile = 37
refusal_number (BadLine line) = 16
refusal_number (NoComponent line) = 17
refusal_number (LooseComponent line) = 18
refusal_number (Operator line) = 19
refusal_number (BadUri line) = 6
refusal_number (Scheme line) = 7
refusal_number (BadField line) = 3
refusal_number (Twice line) = 4
refusal_number (Loose line) = 5
refusal_number NoMemory = 0

abbrev pub refusal_line : ListError → ℕ
refusal_line LongFile = 0
refusal_line (BadLine line) = line
refusal_line (NoComponent line) = line
refusal_line (LooseComponent line) = line
refusal_line (Operator line) = line
refusal_line (BadUri line) = line
refusal_line (Scheme line) = line
refusal_line (BadField line) = line
refusal_line (Twice line) = line
refusal_line (Loose line) = line
refusal_line NoMemory = 0
