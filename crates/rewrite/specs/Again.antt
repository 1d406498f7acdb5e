-- Control text written again.
use Rattle.std.specs.Prelude.{◌≡◌, ◌⊎◌, ℕ, true, false, List, Result, Ok, Err}
use Rattle.deb822_text.specs.declared.paragraph.Paragraph.{Paragraph}
use Rattle.deb822_text.specs.declared.error.TextError.TheVariants.{NoMemory}
use Rattle.deb822_text.specs.Control.{paragraphs_of}
use Rattle.deb822_text.specs.Written.{is_writable, text_of}
use Rattle.rewrite.specs.declared.Refused.{Refused}
use Rattle.rewrite.specs.declared.Refused.TheVariants.{Text, Unwritable}

-- the written form of what the text is read as, comments left out; or why there is none
abbrev pub IsAnswer : List ℕ → Result (List ℕ) Refused → Type 0
IsAnswer text (Ok again) = (paragraphs : List Paragraph) × (paragraphs_of text true ≡ Ok paragraphs) × (again ≡ text_of paragraphs)
IsAnswer text (Err (Text error)) = (error ≡ NoMemory) ⊎ (paragraphs_of text true ≡ Err error)
IsAnswer text (Err Unwritable) = (paragraphs : List Paragraph) × (paragraphs_of text true ≡ Ok paragraphs) × (is_writable paragraphs ≡ false)
