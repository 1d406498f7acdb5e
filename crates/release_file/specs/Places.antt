-- Where fields stand: a field and its lines can be numbered.
use Rattle.std.specs.Prelude.{◌+◌, ◌<◌, ◌^◌, List, [], ◌∷◌, length}
use Rattle.deb822_text.specs.declared.paragraph.Field.{Field}
use Rattle.deb822_text.specs.declared.paragraph.Paragraph.{Paragraph}

abbrev pub IsPlaced : Field → Type 0
IsPlaced field = field.at + length field.lines < 2 ^ 64

abbrev pub ArePlaced : List Field → Type 0
ArePlaced [] = Unit {0}
ArePlaced (field ∷ fields) = IsPlaced field × ArePlaced fields

abbrev pub AreAllPlaced : List Paragraph → Type 0
AreAllPlaced [] = Unit {0}
AreAllPlaced (paragraph ∷ paragraphs) = ArePlaced paragraph.fields × AreAllPlaced paragraphs
