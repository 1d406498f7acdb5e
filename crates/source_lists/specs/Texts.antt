-- What a whole text of sources.list(5) gives, in terms of its lines or stanzas, each by itself.
use Rattle.std.specs.Prelude.{◌≡◌, ℕ, ◌+◌, ◌<◌, ◌≤◌, ◌⊎◌, nat_lt, true, if◌then◌else◌, List, [], ◌∷◌, ◌++◌, length, IsOk, Result, Ok, Err}
use Rattle.std.specs.List.{flat_map, AllByRecursion}
use Rattle.std.specs.Str.Lines.{lines as text_lines}
use Rattle.deb822_text.specs.Control.{paragraphs_of}
use Rattle.deb822_text.specs.declared.error.TextError.{TextError}
use Rattle.deb822_text.specs.declared.paragraph.Paragraph.{Paragraph}
use Rattle.source_lists.specs.declared.entry.Entry.{Entry}
use Rattle.source_lists.specs.declared.error.ListError.{ListError}
use Rattle.source_lists.specs.declared.error.ListError.TheVariants.{LongFile, NoMemory}
use Rattle.source_lists.specs.Steps.{◌>>=◌, each}
use Rattle.source_lists.specs.OneLine.{Numbered, line_entries}
use Rattle.source_lists.specs.Refused.{refusal_of_text}
use Rattle.source_lists.specs.Stanzas.{stanza_entries}

abbrev pub numbered_from : ℕ → List (List ℕ) → List Numbered
numbered_from at [] = []
numbered_from at (line ∷ lines) = (at, line) ∷ numbered_from (at + 1) lines

-- the lines of a text, numbered from 1; a carriage return before a line feed belongs to the line's end
unfoldable pub numbered_lines : List ℕ → List Numbered
numbered_lines bytes = numbered_from 1 (text_lines bytes)

abbrev pub joined : List (List Entry) → List Entry
joined found = flat_map (λ entries. entries) found

-- the entries of all items in order, if each is read
unfoldable pub all_entries : {X : Type 0} → (X → Result (List Entry) ListError) → List X → Result (List Entry) ListError
all_entries read items = do
  found ← each read items
  Ok (joined found)

-- the entries of a text in the one-line form, which has at most 1,048,576 bytes
unfoldable pub list_entries : List ℕ → List ℕ → List ℕ → Result (List Entry) ListError
list_entries file arch bytes =
    if nat_lt 1048576 (length bytes) then Err LongFile else all_entries (line_entries file arch) (numbered_lines bytes)

abbrev pub entries_of_stanzas : List ℕ → List ℕ → Result (List Paragraph) TextError → Result (List Entry) ListError
entries_of_stanzas file arch (Ok stanzas) = all_entries (stanza_entries file arch) stanzas
entries_of_stanzas file arch (Err refusal) = Err (refusal_of_text refusal)

-- the entries of a text in the deb822 form, which is read as control text first, comments on
unfoldable pub sources_entries : List ℕ → List ℕ → List ℕ → Result (List Entry) ListError
sources_entries file arch bytes =
    if nat_lt 1048576 (length bytes) then Err LongFile else entries_of_stanzas file arch (paragraphs_of bytes true)

-- ---- laws

-- the entries that an item by itself gives
abbrev pub given : Result (List Entry) ListError → List Entry
given (Ok entries) = entries
given (Err refusal) = []

-- each item by itself is read, and the entries are theirs in order
pub record AreRead {X : Type 0} (read : X → Result (List Entry) ListError) (items : List X) (entries : List Entry) : Type 0 where
  pub all : AllByRecursion (λ item. IsOk (read item)) items
  pub same : entries ≡ flat_map (λ item. given (read item)) items

-- the refusal is that of an item by itself, and each item before it is read
pub record IsFirstRefused {X : Type 0} (read : X → Result (List Entry) ListError) (items : List X) (refusal : ListError) : Type 0 where
  pub before : List X
  pub item : X
  pub behind : List X
  pub split : items ≡ before ++ item ∷ behind
  pub refused : read item ≡ Err refusal
  pub allowed : AllByRecursion (λ item. IsOk (read item)) before

-- a text in the one-line form is refused for its length, or at its first line that isn't read
abbrev pub IsListRefusal : List ℕ → List ℕ → List ℕ → ListError → Type 0
IsListRefusal file arch bytes refusal =
    (refusal ≡ NoMemory)
    ⊎ (((1048576 < length bytes) × (refusal ≡ LongFile))
    ⊎ ((length bytes ≤ 1048576) × IsFirstRefused (line_entries file arch) (numbered_lines bytes) refusal))

-- a text in the deb822 form is control text, and its stanzas are each read
pub record AreSources (file arch bytes : List ℕ) (entries : List Entry) : Type 0 where
  pub stanzas : List Paragraph
  pub text : paragraphs_of bytes true ≡ Ok stanzas
  pub read : AreRead (stanza_entries file arch) stanzas entries

-- its text is refused as control text
pub record IsTextRefused (bytes : List ℕ) (refusal : ListError) : Type 0 where
  pub fault : TextError
  pub text : paragraphs_of bytes true ≡ Err fault
  pub same : refusal ≡ refusal_of_text fault

-- its first stanza that isn't read is refused
pub record IsStanzaRefused (file arch bytes : List ℕ) (refusal : ListError) : Type 0 where
  pub stanzas : List Paragraph
  pub text : paragraphs_of bytes true ≡ Ok stanzas
  pub first : IsFirstRefused (stanza_entries file arch) stanzas refusal

-- a text in the deb822 form is refused for its length, or as control text, or at its first stanza that isn't read
abbrev pub IsSourcesRefusal : List ℕ → List ℕ → List ℕ → ListError → Type 0
IsSourcesRefusal file arch bytes refusal =
    (refusal ≡ NoMemory)
    ⊎ (((1048576 < length bytes) × (refusal ≡ LongFile))
    ⊎ ((length bytes ≤ 1048576) × (IsTextRefused bytes refusal ⊎ IsStanzaRefused file arch bytes refusal)))
