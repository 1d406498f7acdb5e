-- The refusals of an Index: their numbers and lines, and what a refusal of its control text becomes.
use Rattle.std.specs.Prelude.{ℕ}
use Rattle.deb822_text.specs.declared.error.TextError.{TextError}
use Rattle.deb822_text.specs.declared.error.TextError.TheVariants as text
use Rattle.pdiff_index.specs.declared.error.IndexError.{IndexError}
use Rattle.pdiff_index.specs.declared.error.IndexError.TheVariants.{BadIndex, NoMemory}

abbrev pub refusal_of_text : TextError → IndexError
refusal_of_text (text.BadField line) = BadIndex line
refusal_of_text (text.Twice line) = BadIndex line
refusal_of_text (text.Loose line) = BadIndex line
refusal_of_text text.NoMemory = NoMemory

abbrev pub refusal_number : IndexError → ℕ
refusal_number (BadIndex line) = 24
refusal_number NoMemory = 0

abbrev pub refusal_line : IndexError → ℕ
refusal_line (BadIndex line) = line
refusal_line NoMemory = 0
