-- A control text is read paragraph by paragraph (Debian Policy, section 5.1).
use Rattle.std.specs.Prelude.{◌≡◌, ◌⊎◌, ℕ, true, false, List, [], ◌∷◌, ◌++◌, Option, Some, None, option_map}
use Rattle.std.specs.List.{list_all}
use Rattle.std.specs.Result.{result_ok}
use Rattle.std.specs.Str.Lines.{lines as text_lines}
use Rattle.acq_base.specs.Words.{is_blank}
use Rattle.deb822_text.specs.Control.{paragraphs_of}
use Rattle.deb822_text.specs.Written.{unplaced}
use Rattle.deb822_text.specs.declared.paragraph.Paragraph.{Paragraph}

-- the paragraphs of a text, the numbers of their lines aside, where it is control text
unfoldable pub read_plainly : List ℕ → Option (List Paragraph)
read_plainly text = option_map unplaced (result_ok (paragraphs_of text false))

-- the last of the lines has nothing but blanks
abbrev pub EndInBlanks : List (List ℕ) → Type 0
EndInBlanks lines = (above : List (List ℕ)) × (last : List ℕ) × (lines ≡ above ++ last ∷ []) × (list_all is_blank last ≡ true)

-- a text is cut behind a line that separates paragraphs, or at its end
pub record IsCut (text front rest : List ℕ) : Type 0 where
  pub lines : text_lines text ≡ text_lines front ++ text_lines rest
  pub ended : (rest ≡ []) ⊎ EndInBlanks (text_lines front)

-- what is read first, and then the rest, where both can be read
abbrev pub read_on : {A : Type 0} → Option (List A) → Option (List A) → Option (List A)
read_on None later = None
read_on (Some first) later = option_map (λ more. first ++ more) later

-- reading a text is reading its front and then its rest
abbrev pub ReadsByParagraphs : Type 0
ReadsByParagraphs = (text front rest : List ℕ) → IsCut text front rest → read_plainly text ≡ read_on (read_plainly front) (read_plainly rest)
