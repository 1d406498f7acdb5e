-- The one-line form of sources.list(5), "THE DEB AND DEB-SRC TYPES: GENERAL FORMAT": what a line gives.
use Rattle.std.specs.Prelude.{ℕ, ◌==◌, ◌&&◌, ◌||◌, not, Bool, true, false, if◌then◌else◌, List, [], ◌∷◌, codes, bytes_eq, take, drop, Option, Some, None, option_map, option_to_list, ok_or, Result, Ok, Err}
use Rattle.std.specs.List.{list_any, list_all, slice_split, before_first, after_first}
use Rattle.acq_base.specs.Words.{is_blank, trimmed_start, words}
use Rattle.acq_base.specs.declared.plan.ByHash.{ByHash}
use Rattle.source_lists.specs.declared.entry.Entry.{Entry}
use Rattle.source_lists.specs.declared.error.ListError.{ListError}
use Rattle.source_lists.specs.declared.error.ListError.TheVariants.{BadLine, Operator}
use Rattle.source_lists.specs.declared.options.Choice.{Choice}
use Rattle.source_lists.specs.declared.options.Choice.TheVariants.{Archs, Hashes, Patches, Nothing}
use Rattle.source_lists.specs.declared.options.Options.{Options}
use Rattle.source_lists.specs.declared.one_line.Place.{Place}
use Rattle.source_lists.specs.declared.values.Types.{Types}
use Rattle.source_lists.specs.Steps.{◌>>=◌, each}
use Rattle.source_lists.specs.Values.{types_at, base_at, suite_at, components_at, architectures, by_hash_of, boolean_of}

-- ---- the parts of a line

abbrev pub is_hash : ℕ → Bool
is_hash c = c == 35

-- `#` begins a comment, which goes to the line's end
abbrev pub uncommented : List ℕ → List ℕ
uncommented line = before_first is_hash line

abbrev pub first_word : List ℕ → List ℕ
first_word text = before_first is_blank (trimmed_start text)

-- the text from its second word on
abbrev pub behind_first : List ℕ → List ℕ
behind_first text = trimmed_start (after_first is_blank (trimmed_start text))

abbrev pub is_close : ℕ → Bool
is_close c = c == 93

-- `[` begins the second word
abbrev pub has_options : List ℕ → Bool
has_options behind = bytes_eq (take 1 behind) (codes "[")

-- the options stand between that `[` and the next `]`, or the end where there is none
unfoldable pub options_text : List ℕ → List ℕ
options_text behind = if has_options behind then before_first is_close (drop 1 behind) else []

-- the URI, the suite and the components stand behind that `]`
unfoldable pub source_text : List ℕ → List ℕ
source_text behind = if has_options behind then after_first is_close (drop 1 behind) else behind

unfoldable pub is_closed : List ℕ → Bool
is_closed behind = not (has_options behind) || list_any is_close (drop 1 behind)

-- ---- options

abbrev pub is_equals : ℕ → Bool
is_equals c = c == 61

abbrev pub is_comma : ℕ → Bool
is_comma c = c == 44

-- `+=` or `-=` stands in the word
unfoldable pub has_operator : List ℕ → Bool
has_operator [] = false
has_operator (c ∷ []) = false
has_operator (c ∷ d ∷ rest) = ((c == 43 || c == 45) && d == 61) || has_operator (d ∷ rest)

-- what an option says, if its value is allowed: of the names `arch`, `by-hash` and `pdiffs`, in this case, and nothing of
-- any other
unfoldable pub choice_of : List ℕ → List ℕ → Option Choice
choice_of name value =
    if bytes_eq name (codes "arch") then option_map Archs (architectures (slice_split is_comma value))
    else if bytes_eq name (codes "by-hash") then option_map Hashes (by_hash_of value)
    else if bytes_eq name (codes "pdiffs") then option_map Patches (boolean_of value)
    else Some Nothing

-- a word of the options is NAME=VALUE
unfoldable pub choice_at : ℕ → List ℕ → Result Choice ListError
choice_at at word =
    if has_operator word then Err (Operator at)
    else if list_any is_equals word then ok_or (choice_of (before_first is_equals word) (after_first is_equals word)) (BadLine at)
    else Err (BadLine at)

abbrev pub archs_in : Choice → Option (List (List ℕ))
archs_in (Archs archs) = Some archs
archs_in _ = None

abbrev pub hashes_in : Choice → Option ByHash
hashes_in (Hashes by_hash) = Some by_hash
hashes_in _ = None

abbrev pub patches_in : Choice → Option Bool
patches_in (Patches pdiffs) = Some pdiffs
patches_in _ = None

abbrev pub later : {A : Type 0} → Option A → Option A → Option A
later (Some value) before = Some value
later None before = before

-- the last thing of a kind that the choices say
abbrev pub last_said : {A : Type 0} → (Choice → Option A) → List Choice → Option A
last_said said [] = None
last_said said (choice ∷ choices) = later (last_said said choices) (said choice)

-- of an option that repeats, the last occurrence counts
unfoldable pub options_in : List Choice → Options
options_in choices = record {
  archs = last_said archs_in choices;
  by_hash = last_said hashes_in choices;
  pdiffs = last_said patches_in choices;
}

-- options with one more choice
abbrev pub with_choice : Options → Choice → Options
with_choice options choice = record {
  archs = later (archs_in choice) options.archs;
  by_hash = later (hashes_in choice) options.by_hash;
  pdiffs = later (patches_in choice) options.pdiffs;
}

-- each word of the options is judged, also one of an option that repeats
unfoldable pub options_at : ℕ → List (List ℕ) → Result Options ListError
options_at at words = do
  choices ← each (choice_at at) words
  Ok (options_in choices)

-- ---- the line

-- a URI, a suite, and components
unfoldable pub place_at : List ℕ → ℕ → List (List ℕ) → Result Place ListError
place_at arch at [] = Err (BadLine at)
place_at arch at (word ∷ []) = do
  uri ← base_at at word
  Err (BadLine at)
place_at arch at (word ∷ second ∷ others) = do
  uri ← base_at at word
  suite ← suite_at arch at second
  components ← components_at at (suite ∷ []) others
  Ok (record { uri = uri; suite = suite; components = components })

abbrev pub closed_at : ℕ → Bool → Result (Unit {0}) ListError
closed_at at true = Ok tt
closed_at at false = Err (BadLine at)

abbrev pub entry_of : List ℕ → ℕ → Types → Place → Options → Entry
entry_of file at types place options = record {
  file = file;
  line = at;
  binary = types.binary;
  source = types.source;
  uri = place.uri;
  suite = place.suite;
  components = place.components;
  archs = options.archs;
  by_hash = options.by_hash;
  pdiffs = options.pdiffs;
}

-- the entry of a line that isn't blank, its comment cut; faults are looked for from left to right
unfoldable pub entry_at : List ℕ → List ℕ → ℕ → List ℕ → Result Entry ListError
entry_at file arch at text = do
  types ← types_at at (first_word text ∷ [])
  options ← options_at at (words is_blank (options_text (behind_first text)))
  closed ← closed_at at (is_closed (behind_first text))
  place ← place_at arch at (words is_blank (source_text (behind_first text)))
  Ok (entry_of file at types place options)

-- a line, with its number
abbrev pub Numbered : Type 0
Numbered = ℕ × List ℕ

-- the entry of a line, unless it is blank but for a comment
unfoldable pub line_entry : List ℕ → List ℕ → Numbered → Result (Option Entry) ListError
line_entry file arch (at, line) =
    if list_all is_blank (uncommented line) then Ok None else do
      entry ← entry_at file arch at (uncommented line)
      Ok (Some entry)

-- what a line by itself gives
unfoldable pub line_entries : List ℕ → List ℕ → Numbered → Result (List Entry) ListError
line_entries file arch line = do
  found ← line_entry file arch line
  Ok (option_to_list found)
