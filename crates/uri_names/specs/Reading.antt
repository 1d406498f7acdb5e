-- Reading a URI and the base URI of a source.
use Rattle.std.specs.Prelude.{◌≡◌, ℕ, ◌≤◌, ◌==◌, ◌&&◌, ◌||◌, Bool, not, nat_le, if◌then◌else◌, List, [], ◌∷◌, ◌++◌, length, codes, bytes_eq, Option, Some, None, is_some, ok_or, Result, Ok, Err}
use Rattle.std.specs.List.{list_all, list_any, before_first}
use Rattle.std.specs.Char.{is_ascii_graphic}
use Rattle.acq_base.specs.declared.uri.Uri.{Uri}
use Rattle.acq_base.specs.Uri.{uri_text}
use Rattle.url.specs.Input.{lowercase, trim_end}
use Rattle.url.specs.Parts.{Parts}
use Rattle.url.specs.Parser.{Parsed, parse_url}
use Rattle.uri_names.specs.declared.error.UriError.{UriError}
use Rattle.uri_names.specs.declared.error.UriError.TheVariants.{Scheme, BadUri}
use Rattle.uri_names.specs.Parts.{uri_of_parts, within}

abbrev pub is_colon : ℕ → Bool
is_colon c = c == 58

-- a name of a scheme of this profile, in either case (RFC 3986, section 3.1)
abbrev pub is_scheme_name : List ℕ → Bool
is_scheme_name name = bytes_eq (lowercase name) (codes "http") || bytes_eq (lowercase name) (codes "file")

-- what stands before the first `:` names a scheme of this profile
unfoldable pub has_scheme : List ℕ → Bool
has_scheme text = list_any is_colon text && is_scheme_name (before_first is_colon text)

-- what a URI text may be at all: at most 4,096 bytes of ASCII without blanks and control characters
unfoldable pub is_uri_text : List ℕ → Bool
is_uri_text text = nat_le (length text) 4096 && list_all is_ascii_graphic text

-- the URI that a parsed URL is: it has no fragment, and its text keeps the bound of every sound URI
unfoldable pub uri_of_url : Parts → Option Uri
uri_of_url url = if is_some url.fragment then None else within 16384 (uri_of_parts url)

abbrev pub judged : Parsed Parts → Result Uri UriError
judged (Ok url) = ok_or (uri_of_url url) BadUri
judged (Err error) = Err BadUri

-- the URI of a text: the scheme is judged first, then the text, then the URL that the URL Standard reads in it
unfoldable pub read_uri_of : List ℕ → Result Uri UriError
read_uri_of text =
    if not (has_scheme text) then Err Scheme
    else (if not (is_uri_text text) then Err BadUri
    else judged (parse_url None text))

-- the path with exactly one `/` at its end
unfoldable pub with_one_slash : List ℕ → List ℕ
with_one_slash path = trim_end (λ c. c == 47) path ++ 47 ∷ []

-- the URI with one `/` at its end, unless it has a query
unfoldable pub folder_of : Uri → Result Uri UriError
folder_of uri =
    if list_any (λ c. c == 63) uri.path then Err BadUri
    else ok_or (within 16384 (Some (record uri { path = with_one_slash uri.path }))) BadUri

abbrev pub folder_of_read : Result Uri UriError → Result Uri UriError
folder_of_read (Ok uri) = folder_of uri
folder_of_read (Err error) = Err error

-- the base URI of a source: a URI without query, whose path ends with exactly one `/`
unfoldable pub read_base_of : List ℕ → Result Uri UriError
read_base_of text = folder_of_read (read_uri_of text)

-- the text of the URI, where it isn't too long to be read, is read as that URI
abbrev pub ReadsBack : Uri → Type 0
ReadsBack uri = length (uri_text uri) ≤ 4096 → read_uri_of (uri_text uri) ≡ Ok uri
