-- What a Release lists, in terms of its sum lines, each taken by itself.
use Rattle.std.specs.Prelude.{ℕ, false, List, [], ◌∷◌, codes, drop, Option, Some, None, Result, Ok, Err}
use Rattle.deb822_text.specs.Control.{paragraphs_of, field_named}
use Rattle.deb822_text.specs.declared.error.TextError.{TextError}
use Rattle.deb822_text.specs.declared.paragraph.Field.{Field}
use Rattle.deb822_text.specs.declared.paragraph.Paragraph.{Paragraph}
use Rattle.release_file.specs.Release.{entries_in, text_within}
use Rattle.release_file.specs.declared.error.ReleaseError.{ReleaseError}
use Rattle.release_file.specs.declared.release.Listed.{Listed}

abbrev pub sums_of_paragraphs : Result (List Paragraph) TextError → Option Field
sums_of_paragraphs (Ok (paragraph ∷ [])) = field_named paragraph.fields (codes "SHA256")
sums_of_paragraphs _ = None

abbrev pub sums_of_text : Result (List ℕ) ReleaseError → Option Field
sums_of_text (Ok text) = sums_of_paragraphs (paragraphs_of text false)
sums_of_text (Err refusal) = None

-- the field SHA256 of a Release, in the one paragraph of its text
unfoldable pub sums_field : List ℕ → Option Field
sums_field bytes = sums_of_text (text_within bytes)

-- the lines of a field behind its first
abbrev pub later_lines : Option Field → List (List ℕ)
later_lines None = []
later_lines (Some field) = drop 1 field.lines

-- what the sum lines of a Release say, line by line
abbrev pub entries_of : List ℕ → List Listed
entries_of bytes = entries_in (later_lines (sums_field bytes))
