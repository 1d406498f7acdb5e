-- The words of sources.list(5) by themselves: types, suites, components, architectures, and what options say.
use Rattle.std.specs.Prelude.{ℕ, zero, suc, ◌==◌, ◌&&◌, ◌||◌, not, Bool, true, false, if◌then◌else◌, List, [], ◌∷◌, ◌++◌, length, take, codes, bytes_eq, Option, Some, None, Result, Ok, Err}
use Rattle.std.specs.List.{list_any, list_all, slice_split, starts_with, ends_with}
use Rattle.std.specs.Char.{is_ascii_alphanumeric}
use Rattle.std.specs.Str.{str_eq_ignore_ascii_case}
use Rattle.acq_base.specs.Settings.{is_architecture}
use Rattle.acq_base.specs.declared.plan.ByHash.{ByHash}
use Rattle.acq_base.specs.declared.plan.ByHash.TheVariants.{No, Yes, Force}
use Rattle.acq_base.specs.declared.uri.Uri.{Uri}
use Rattle.uri_names.specs.Reading.{read_base_of}
use Rattle.uri_names.specs.declared.error.UriError.{UriError}
use Rattle.uri_names.specs.declared.error.UriError.TheVariants as uri
use Rattle.source_lists.specs.declared.error.ListError.{ListError}
use Rattle.source_lists.specs.declared.error.ListError.TheVariants.{BadLine, NoComponent, LooseComponent, BadUri, Scheme, NoMemory}
use Rattle.source_lists.specs.declared.values.Types.{Types}

-- ---- characters

abbrev pub is_slash : ℕ → Bool
is_slash c = c == 47

-- letters, digits and `._-+~:`
abbrev pub is_name_character : ℕ → Bool
is_name_character c = is_ascii_alphanumeric c || list_any (λ d. c == d) (codes "._-+~:")

abbrev pub is_path_character : ℕ → Bool
is_path_character c = is_name_character c || is_slash c

abbrev pub is_empty : {X : Type 0} → List X → Bool
is_empty xs = length xs == 0

abbrev pub is_dot_dot : List ℕ → Bool
is_dot_dot segment = bytes_eq segment (codes "..")

-- a segment between slashes is `..`
unfoldable pub leads_up : List ℕ → Bool
leads_up path = list_any is_dot_dot (slice_split is_slash path)

abbrev pub begins_with_slash : List ℕ → Bool
begins_with_slash text = starts_with (λ a b. a == b) text (codes "/")

abbrev pub ends_with_slash : List ℕ → Bool
ends_with_slash text = ends_with (λ a b. a == b) text (codes "/")

-- what becomes part of a path below a base: letters, digits and `._-+~:/`, at least one, and no segment `..`
unfoldable pub is_path : List ℕ → Bool
is_path text = not (is_empty text) && list_all is_path_character text && not (leads_up text)

-- ---- types

abbrev pub is_binary : List ℕ → Bool
is_binary word = bytes_eq word (codes "deb")

abbrev pub is_source : List ℕ → Bool
is_source word = bytes_eq word (codes "deb-src")

abbrev pub is_type : List ℕ → Bool
is_type word = is_binary word || is_source word

-- the types are `deb` and `deb-src`: an archive of binary packages, and one of source packages
unfoldable pub types_at : ℕ → List (List ℕ) → Result Types ListError
types_at at words =
    if list_all is_type words
    then Ok (record { binary = list_any is_binary words; source = list_any is_source words })
    else Err (BadLine at)

-- ---- URIs

abbrev pub refusal_of_uri : ℕ → UriError → ListError
refusal_of_uri at uri.Scheme = Scheme at
refusal_of_uri at uri.BadUri = BadUri at
refusal_of_uri at uri.NoMemory = NoMemory

abbrev pub placed : ℕ → Result Uri UriError → Result Uri ListError
placed at (Ok base) = Ok base
placed at (Err refusal) = Err (refusal_of_uri at refusal)

-- the base URI that a word of this line is
unfoldable pub base_at : ℕ → List ℕ → Result Uri ListError
base_at at word = placed at (read_base_of word)

-- ---- suites

-- `$(ARCH)`, which stands for the architecture of the machine
abbrev pub begins_with_name : List ℕ → Bool
begins_with_name text = bytes_eq (take 7 text) (codes "$(ARCH)")

-- the text with the architecture in place of each `$(ARCH)`, whose first bytes may be passed already
unfoldable pub replaced_behind : List ℕ → ℕ → List ℕ → List ℕ
replaced_behind arch passed [] = []
replaced_behind arch (suc passed) (c ∷ rest) = replaced_behind arch passed rest
replaced_behind arch zero (c ∷ rest) =
    if begins_with_name (c ∷ rest) then arch ++ replaced_behind arch 6 rest else c ∷ replaced_behind arch 0 rest

abbrev pub replaced : List ℕ → List ℕ → List ℕ
replaced arch text = replaced_behind arch 0 text

-- without the slashes at the front; `/` alone stays
unfoldable pub without_slashes : List ℕ → List ℕ
without_slashes [] = []
without_slashes (c ∷ []) = c ∷ []
without_slashes (c ∷ d ∷ rest) = if is_slash c then without_slashes (d ∷ rest) else c ∷ d ∷ rest

abbrev pub judged_suite : ℕ → List ℕ → Result (List ℕ) ListError
judged_suite at suite = if is_path suite then Ok suite else Err (BadLine at)

-- the suite that a word of this line is, on a machine of this architecture
unfoldable pub suite_at : List ℕ → ℕ → List ℕ → Result (List ℕ) ListError
suite_at arch at word = judged_suite at (without_slashes (replaced arch word))

-- a suite that ends in `/` is the exact path of a folder
abbrev pub is_exact : List ℕ → Bool
is_exact suite = ends_with_slash suite

-- ---- components

unfoldable pub is_component : List ℕ → Bool
is_component word = is_path word && not (begins_with_slash word) && not (ends_with_slash word)

-- an exact path takes no component, and any other suite needs at least one
unfoldable pub components_at : ℕ → List (List ℕ) → List (List ℕ) → Result (List (List ℕ)) ListError
components_at at suites words =
    if is_empty words && not (list_all is_exact suites) then Err (NoComponent at)
    else if not (is_empty words) && list_any is_exact suites then Err (LooseComponent at)
    else if list_all is_component words then Ok words
    else Err (BadLine at)

-- ---- architectures

-- at least one, and each is one
unfoldable pub architectures : List (List ℕ) → Option (List (List ℕ))
architectures words = if not (is_empty words) && list_all is_architecture words then Some words else None

-- ---- by-hash and booleans

-- `yes`, `no` or `force`, spelled exactly so
unfoldable pub by_hash_of : List ℕ → Option ByHash
by_hash_of word =
    if bytes_eq word (codes "yes") then Some Yes
    else if bytes_eq word (codes "no") then Some No
    else if bytes_eq word (codes "force") then Some Force
    else None

-- a text is this word, ASCII case aside
abbrev pub is_word : List ℕ → List ℕ → Bool
is_word text word = str_eq_ignore_ascii_case text word

unfoldable pub means_yes : List ℕ → Bool
means_yes text = is_word text (codes "yes") || is_word text (codes "true") || is_word text (codes "with") || is_word text (codes "on") || is_word text (codes "enable") || is_word text (codes "1")

unfoldable pub means_no : List ℕ → Bool
means_no text = is_word text (codes "no") || is_word text (codes "false") || is_word text (codes "without") || is_word text (codes "off") || is_word text (codes "disable") || is_word text (codes "0")

-- a boolean, ASCII case aside
unfoldable pub boolean_of : List ℕ → Option Bool
boolean_of word = if means_yes word then Some true else if means_no word then Some false else None
