-- The texts of lines that a stream is read in: heads, chunk-size lines and trailers. What makes one whole, unfinished or
-- wrong, by the grammar of RFC 9112 and this profile's limits.
use Rattle.std.specs.Prelude.{◌≡◌, ℕ, ◌<◌, ◌≤◌, ◌⊎◌, ◌==◌, Bool, List, [], ◌++◌, length, drop, All}
use Rattle.std.specs.List.{count_by, prefix_len}
use Rattle.httparse.specs.Pieces.{is_newline}
use Rattle.httparse.specs.Grammar.{ResponseHead, print_response, IsResponseHead, ChunkLine, print_chunk_line, IsChunkLine, Field, LineEnd, IsField, print_section}

-- texts that values have, of which some are within the limits; and which texts pass the limits
pub record Form (V : Type 0) : Type 1 where
  pub valid : V → Type 0
  pub print : V → List ℕ
  pub fits : V → Type 0
  pub passes : List ℕ → Type 0

-- the text begins with that value, which is within the limits, and goes on with the rest
pub record Whole {V : Type 0} (form : Form V) (text : List ℕ) (v : V) (rest : List ℕ) : Type 0 where
  pub valid : form.valid v
  pub fits : form.fits v
  pub is : text ≡ form.print v ++ rest

abbrev pub HasNone : {V : Type 0} → Form V → List ℕ → Type 0
HasNone {V} form text = (v : V) (rest : List ℕ) → ¬ (Whole form text v rest)

-- with further bytes the text can be a value's, limits aside
abbrev pub May : {V : Type 0} → Form V → List ℕ → Type 0
May {V} form text = (more : List ℕ) × (v : V) × form.valid v × (text ++ more ≡ form.print v ++ [])

-- no further bytes make the text begin with a value
abbrev pub Never : {V : Type 0} → Form V → List ℕ → Type 0
Never {V} form text = (more : List ℕ) (v : V) (rest : List ℕ) → form.valid v → ¬ (text ++ more ≡ form.print v ++ rest)

-- no value yet, but one may come
pub record Unfinished {V : Type 0} (form : Form V) (text : List ℕ) : Type 0 where
  pub none : HasNone form text
  pub may : May form text
  pub within : ¬ (form.passes text)

-- No value, and none can come: it is told by the first byte that shows it, wherever that stands in a line.
pub record Bad {V : Type 0} (form : Form V) (text : List ℕ) : Type 0 where
  pub none : HasNone form text
  pub why : Never form text ⊎ form.passes text

abbrev pub is_line_feed : ℕ → Bool
is_line_feed b = b == 10

abbrev pub line_feeds : List ℕ → ℕ
line_feeds text = count_by is_line_feed text

-- how many lines have ended behind the empty lines at the front
unfoldable pub lines_behind_blank : List ℕ → ℕ
lines_behind_blank text = line_feeds (drop (prefix_len is_newline text) text)

-- A head: at most 65,536 bytes, the empty lines before it included, and 128 fields. The 129th field has come where 130
-- lines have ended, the status line being the first.
abbrev pub head_form : Form ResponseHead
head_form = record {
  valid = IsResponseHead;
  print = print_response;
  fits = λ h. (length h.fields ≤ 128) × (length (print_response h) ≤ 65536);
  passes = λ text. (65536 < length text) ⊎ (129 < lines_behind_blank text);
}

-- A chunk's size line (RFC 9112, section 7.1): at most 4,096 bytes, its end included.
abbrev pub size_form : Form ChunkLine
size_form = record {
  valid = IsChunkLine;
  print = print_chunk_line;
  fits = λ l. length (print_chunk_line l) ≤ 4096;
  passes = λ text. 4096 < length text;
}

-- Trailers (RFC 9112, section 7.1.2): fields and an empty line, under a head's limits.
abbrev pub Trailers : Type 0
Trailers = List Field × LineEnd

abbrev pub trailer_form : Form Trailers
trailer_form = record {
  valid = λ t. All IsField t.0;
  print = λ t. print_section t.0 t.1;
  fits = λ t. (length t.0 ≤ 128) × (length (print_section t.0 t.1) ≤ 65536);
  passes = λ text. (65536 < length text) ⊎ (128 < line_feeds text);
}
