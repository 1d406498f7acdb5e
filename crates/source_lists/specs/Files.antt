-- Which files of sources.list.d count (sources.list(5), "SOURCES.LIST.D").
use Rattle.std.specs.Prelude.{ℕ, ◌==◌, ◌||◌, Bool, if◌then◌else◌, List, codes, Option, Some, None}
use Rattle.std.specs.List.{list_all, ends_with}
use Rattle.std.specs.Char.{is_ascii_alphanumeric}
use Rattle.source_lists.specs.declared.files.Form.{Form}
use Rattle.source_lists.specs.declared.files.Form.TheVariants.{List as OneLine, Sources}

-- letters, digits, `_`, `-` and `.`
abbrev pub is_file_character : ℕ → Bool
is_file_character c = is_ascii_alphanumeric c || c == 95 || c == 45 || c == 46

abbrev pub has_ending : List ℕ → List ℕ → Bool
has_ending ending name = ends_with (λ a b. a == b) name ending

-- the form that the ending of a name says
abbrev pub form_by_ending : List ℕ → Option Form
form_by_ending name =
    if has_ending (codes ".list") name then Some OneLine
    else if has_ending (codes ".sources") name then Some Sources
    else None

-- the form of a file of this name, if it counts
unfoldable pub form_of : List ℕ → Option Form
form_of name = if list_all is_file_character name then form_by_ending name else None
