-- What lies below a base URI.
use Rattle.std.specs.Prelude.{ℕ, ◌-◌, ◌==◌, ◌||◌, Bool, if◌then◌else◌, List, [], ◌∷◌, ◌++◌, length, take, drop, codes, bytes_eq, fold, slice_index_or, All, IsTrue}
use Rattle.std.specs.List.{flat_map, slice_split, list_any}
use Rattle.acq_base.specs.declared.uri.Uri.{Uri}
use Rattle.acq_base.specs.Uri.{is_alphanumeric}

abbrev pub is_slash : ℕ → Bool
is_slash c = c == 47

abbrev pub is_dot : List ℕ → Bool
is_dot segment = bytes_eq segment (codes ".")

abbrev pub is_dot_dot : List ℕ → Bool
is_dot_dot segment = bytes_eq segment (codes "..")

-- the segments that stay after one more: `.` goes, and `..` takes the segment before it along
unfoldable pub enter : List (List ℕ) → List ℕ → List (List ℕ)
enter kept segment =
    if is_dot segment then kept
    else (if is_dot_dot segment then take (length kept - 1) kept
    else kept ++ segment ∷ [])

-- the last segment is a dot segment
unfoldable pub ends_in_dots : List (List ℕ) → Bool
ends_in_dots segments =
    let last = slice_index_or segments (length segments - 1) [] in is_dot last || is_dot_dot last

-- the segments without dot segments; one at the end leaves the slash before it
unfoldable pub resolved : List (List ℕ) → List (List ℕ)
resolved segments = fold enter [] segments ++ (if ends_in_dots segments then [] ∷ [] else [])

-- each segment after a `/`
abbrev pub joined : List (List ℕ) → List ℕ
joined segments = flat_map (λ segment. 47 ∷ segment) segments

-- a path without its dot segments (RFC 3986, section 5.2.4); one that doesn't begin with `/` stays
unfoldable pub remove_dot_segments : List ℕ → List ℕ
remove_dot_segments path =
    if bytes_eq (take 1 path) (codes "/") then joined (resolved (slice_split is_slash (drop 1 path)))
    else path

-- the characters of a path that is appended: letters, digits and `._-+~:/`
abbrev pub is_below_character : ℕ → Bool
is_below_character c = is_alphanumeric c || list_any (λ d. c == d) (codes "._-+~:/")

abbrev pub AreBelowCharacters : List ℕ → Type 0
AreBelowCharacters path = All (λ c. IsTrue (is_below_character c)) path

-- the URI of a path below a base: the path is appended, and dot segments are removed
unfoldable pub below_of : Uri → List ℕ → Uri
below_of base path = record base { path = remove_dot_segments (base.path ++ path) }
