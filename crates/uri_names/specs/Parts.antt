-- Which URLs are URIs of this profile, and what they are as such.
use Rattle.std.specs.Prelude.{ℕ, ◌&&◌, not, nat_le, if◌then◌else◌, List, [], ◌∷◌, ◌++◌, length, codes, bytes_eq, Option, Some, None, is_some, unwrap_or}
use Rattle.std.specs.List.{list_all}
use Rattle.url.specs.Host.{host_text}
use Rattle.url.specs.Parts.{Parts, has_host, has_credentials, host_or_empty}
use Rattle.acq_base.specs.declared.uri.Scheme.TheVariants.{Http, File}
use Rattle.acq_base.specs.declared.uri.Uri.{Uri}
use Rattle.acq_base.specs.Uri.{uri_text, is_uri_character}

-- `?` and the query, where there is one
abbrev pub query_text : Option (List ℕ) → List ℕ
query_text None = []
query_text (Some query) = 63 ∷ query

-- the path and the query, as an origin-form request sends them (RFC 9112, section 3.2.1)
abbrev pub target_of : Parts → List ℕ
target_of url = url.path ++ query_text url.query

-- an http URL with a host; its default port is 80 (RFC 9110, section 4.2.1)
unfoldable pub http_uri_of : Parts → Option Uri
http_uri_of url =
    if has_host url && list_all is_uri_character (target_of url)
    then Some (record { scheme = Http; host = host_text (host_or_empty url); port = unwrap_or url.port 80; path = target_of url })
    else None

-- a file URL without host and query (RFC 8089, section 2)
unfoldable pub file_uri_of : Parts → Option Uri
file_uri_of url =
    if not (has_host url) && not (is_some url.query) && list_all is_uri_character url.path
    then Some (record { scheme = File; host = []; port = 0; path = url.path })
    else None

-- the URI that a URL is, its fragment aside: no user name, no password, and the scheme `http` or `file`
unfoldable pub uri_of_parts : Parts → Option Uri
uri_of_parts url =
    if has_credentials url then None
    else (if bytes_eq url.scheme (codes "http") then http_uri_of url
    else (if bytes_eq url.scheme (codes "file") then file_uri_of url
    else None))

-- the URI, where its text has at most so many bytes
abbrev pub within : ℕ → Option Uri → Option Uri
within limit None = None
within limit (Some uri) = if nat_le (length (uri_text uri)) limit then Some uri else None
