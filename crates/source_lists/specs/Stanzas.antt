-- The deb822 form of sources.list(5), "DEB822-STYLE FORMAT": what a stanza gives.
use Rattle.std.specs.Prelude.{◌≡◌, ◌⊎◌, ◌++◌, ℕ, Bool, true, if◌then◌else◌, List, [], ◌∷◌, map, codes, Option, Some, None, ok_or, Result, Ok, Err}
use Rattle.std.specs.List.{flat_map}
use Rattle.acq_base.specs.Words.{is_blank, words}
use Rattle.acq_base.specs.declared.plan.ByHash.{ByHash}
use Rattle.acq_base.specs.declared.uri.Uri.{Uri}
use Rattle.deb822_text.specs.Control.{field_named}
use Rattle.deb822_text.specs.declared.paragraph.Field.{Field}
use Rattle.deb822_text.specs.declared.paragraph.Paragraph.{Paragraph}
use Rattle.source_lists.specs.declared.entry.Entry.{Entry}
use Rattle.source_lists.specs.declared.error.ListError.{ListError}
use Rattle.source_lists.specs.declared.error.ListError.TheVariants.{BadLine, NoMemory}
use Rattle.source_lists.specs.declared.options.Options.{Options}
use Rattle.source_lists.specs.declared.stanza.Stanza.{Stanza}
use Rattle.source_lists.specs.declared.values.Types.{Types}
use Rattle.source_lists.specs.Steps.{◌>>=◌, each}
use Rattle.source_lists.specs.Values.{types_at, base_at, suite_at, components_at, architectures, by_hash_of, boolean_of}

-- ---- fields

-- the words of a field, on all its lines
unfoldable pub field_words : Field → List (List ℕ)
field_words field = flat_map (words is_blank) field.lines

-- a stanza is named by the line of its first field
abbrev pub first_at : List Field → ℕ
first_at [] = 0
first_at (field ∷ fields) = field.at

-- a value for a field that may be absent
abbrev pub if_there : {A : Type 0} → (Field → Result A ListError) → Option Field → Result (Option A) ListError
if_there read None = Ok None
if_there read (Some field) = do
  value ← read field
  Ok (Some value)

-- the line of a field, or that of the stanza's first field where it isn't there
abbrev pub line_of : ℕ → Option Field → ℕ
line_of first None = first
line_of first (Some field) = field.at

abbrev pub words_in : Option Field → List (List ℕ)
words_in None = []
words_in (Some field) = field_words field

abbrev pub filled : ℕ → List (List ℕ) → Result (List (List ℕ)) ListError
filled at [] = Err (BadLine at)
filled at (word ∷ others) = Ok (word ∷ others)

-- the words of a field that must be there, with at least one
unfoldable pub some_words : ℕ → Option Field → Result (List (List ℕ)) ListError
some_words first field = filled (line_of first field) (words_in field)

-- what exactly one word reads as
abbrev pub only : {A : Type 0} → (List ℕ → Option A) → List (List ℕ) → Option A
only read (word ∷ []) = read word
only read _ = None

-- ---- their values

unfoldable pub types_of : ℕ → Option Field → Result Types ListError
types_of first field = do
  found ← some_words first field
  types_at (line_of first field) found

unfoldable pub uris_of : ℕ → Option Field → Result (List Uri) ListError
uris_of first field = do
  found ← some_words first field
  each (base_at (line_of first field)) found

unfoldable pub suites_of : List ℕ → ℕ → Option Field → Result (List (List ℕ)) ListError
suites_of arch first field = do
  found ← some_words first field
  each (suite_at arch (line_of first field)) found

-- without the field there are no components
unfoldable pub components_of : ℕ → List (List ℕ) → Option Field → Result (List (List ℕ)) ListError
components_of first suites field = components_at (line_of first field) suites (words_in field)

unfoldable pub architectures_of : Field → Result (List (List ℕ)) ListError
architectures_of field = ok_or (architectures (field_words field)) (BadLine field.at)

unfoldable pub hashes_of : Field → Result ByHash ListError
hashes_of field = ok_or (only by_hash_of (field_words field)) (BadLine field.at)

unfoldable pub truth_of : Field → Result Bool ListError
truth_of field = ok_or (only boolean_of (field_words field)) (BadLine field.at)

-- a stanza counts unless it says that it doesn't
unfoldable pub enabled_of : Option Field → Result Bool ListError
enabled_of None = Ok true
enabled_of (Some field) = truth_of field

unfoldable pub options_of : List Field → Result Options ListError
options_of fields = do
  archs ← if_there architectures_of (field_named fields (codes "Architectures"))
  by_hash ← if_there hashes_of (field_named fields (codes "By-Hash"))
  pdiffs ← if_there truth_of (field_named fields (codes "PDiffs"))
  Ok (record { archs = archs; by_hash = by_hash; pdiffs = pdiffs })

-- ---- the stanza

-- what an enabled stanza says, its fields judged in this order
unfoldable pub stanza_of : List ℕ → List Field → Result Stanza ListError
stanza_of arch fields = do
  types ← types_of (first_at fields) (field_named fields (codes "Types"))
  uris ← uris_of (first_at fields) (field_named fields (codes "URIs"))
  suites ← suites_of arch (first_at fields) (field_named fields (codes "Suites"))
  components ← components_of (first_at fields) suites (field_named fields (codes "Components"))
  options ← options_of fields
  Ok (record { types = types; uris = uris; suites = suites; components = components; options = options })

abbrev pub entry_for : List ℕ → ℕ → Stanza → Uri → List ℕ → Entry
entry_for file at stanza uri suite = record {
  file = file;
  line = at;
  binary = stanza.types.binary;
  source = stanza.types.source;
  uri = uri;
  suite = suite;
  components = stanza.components;
  archs = stanza.options.archs;
  by_hash = stanza.options.by_hash;
  pdiffs = stanza.options.pdiffs;
}

abbrev pub entries_of_uri : List ℕ → ℕ → Stanza → Uri → List Entry
entries_of_uri file at stanza uri = map (λ suite. entry_for file at stanza uri suite) stanza.suites

-- an entry for each URI and, within it, each suite
unfoldable pub entries_for : List ℕ → ℕ → Stanza → List Entry
entries_for file at stanza = flat_map (λ uri. entries_of_uri file at stanza uri) stanza.uris

unfoldable pub enabled_entries : List ℕ → List ℕ → List Field → Result (List Entry) ListError
enabled_entries file arch fields = do
  stanza ← stanza_of arch fields
  Ok (entries_for file (first_at fields) stanza)

-- what a stanza by itself gives: nothing where it is disabled, and then it isn't judged further
unfoldable pub stanza_entries : List ℕ → List ℕ → Paragraph → Result (List Entry) ListError
stanza_entries file arch paragraph = do
  enabled ← enabled_of (field_named paragraph.fields (codes "Enabled"))
  if enabled then enabled_entries file arch paragraph.fields else Ok []

-- ---- the program

-- entries get those that are read behind them, or their refusal is given, unless memory ran out
abbrev pub Adds : Result (Unit {0}) ListError → List Entry → List Entry → Result (List Entry) ListError → Type 0
Adds (Ok done) old new read = (found : List Entry) × (read ≡ Ok found) × (new ≡ old ++ found)
Adds (Err refusal) old new read = (refusal ≡ NoMemory) ⊎ (read ≡ Err refusal)
