-- The refusals of a Release: their numbers and lines, and what a refusal of its frame or its control text becomes.
use Rattle.std.specs.Prelude.{ℕ}
use Rattle.clear_text.specs.declared.error.FrameError.{FrameError}
use Rattle.clear_text.specs.declared.error.FrameError.TheVariants as frame
use Rattle.deb822_text.specs.declared.error.TextError.{TextError}
use Rattle.deb822_text.specs.declared.error.TextError.TheVariants as text
use Rattle.release_file.specs.declared.error.ReleaseError.{ReleaseError}
use Rattle.release_file.specs.declared.error.ReleaseError.TheVariants.{BadFrame, BadField, Twice, Loose, NotOne, NoDate, BadDate, NoSums, BadSums, NoMemory}

abbrev pub refusal_of_frame : FrameError → ReleaseError
refusal_of_frame (frame.BadFrame line) = BadFrame line
refusal_of_frame frame.NoMemory = NoMemory

abbrev pub refusal_of_text : TextError → ReleaseError
refusal_of_text (text.BadField line) = BadField line
refusal_of_text (text.Twice line) = Twice line
refusal_of_text (text.Loose line) = Loose line
refusal_of_text text.NoMemory = NoMemory

abbrev pub refusal_number : ReleaseError → ℕ
refusal_number (BadFrame line) = 33
refusal_number (BadField line) = 3
refusal_number (Twice line) = 4
refusal_number (Loose line) = 5
refusal_number NotOne = 12
refusal_number NoDate = 8
refusal_number (BadDate line) = 9
refusal_number NoSums = 11
refusal_number (BadSums line) = 10
refusal_number NoMemory = 0

abbrev pub refusal_line : ReleaseError → ℕ
refusal_line (BadFrame line) = line
refusal_line (BadField line) = line
refusal_line (Twice line) = line
refusal_line (Loose line) = line
refusal_line NotOne = 0
refusal_line NoDate = 0
refusal_line (BadDate line) = line
refusal_line NoSums = 0
refusal_line (BadSums line) = line
refusal_line NoMemory = 0
