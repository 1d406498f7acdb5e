-- URIs of this profile: their text, what makes one sound, and the list name that each has.
use Rattle.std.specs.Prelude.{◌≡◌, ◌≢◌, ℕ, ◌/◌, ◌%◌, ◌^◌, ◌<◌, ◌≤◌, ◌==◌, ◌||◌, ◌&&◌, nat_le, Bool, false, if◌then◌else◌, List, [], ◌∷◌, ◌++◌, length, codes, bytes_eq, slice_get, take, drop, All, Contains, Some, IsTrue}
use Rattle.std.specs.List.{list_any, flat_map}
use Rattle.std.specs.Fmt.{decimal, digit_glyph}
use Rattle.acq_base.specs.declared.uri.Scheme.{Scheme}
use Rattle.acq_base.specs.declared.uri.Scheme.TheVariants.{Http, File}
use Rattle.acq_base.specs.declared.uri.Uri.{Uri}

abbrev pub scheme_index : Scheme → ℕ
scheme_index Http = 0
scheme_index File = 1

-- whether two URIs are the same in each part
abbrev pub same_uri : Uri → Uri → Bool
same_uri a b = (scheme_index a.scheme == scheme_index b.scheme) && bytes_eq a.host b.host && (a.port == b.port) && bytes_eq a.path b.path

-- an ASCII letter or digit
abbrev pub is_alphanumeric : ℕ → Bool
is_alphanumeric c = (nat_le 48 c && nat_le c 57) || (nat_le 65 c && nat_le c 90) || (nat_le 97 c && nat_le c 122)

-- what stands for a port other than the scheme's own 80 (RFC 3986, section 3.2.3)
abbrev pub port_text : ℕ → List ℕ
port_text port = if port == 80 then [] else 58 ∷ decimal port

unfoldable pub text_of_parts : Scheme → List ℕ → ℕ → List ℕ → List ℕ
text_of_parts Http host port path = codes "http://" ++ host ++ port_text port ++ path
text_of_parts File host port path = codes "file://" ++ path

-- the text of a URI (RFC 3986, section 5.3)
abbrev pub uri_text : Uri → List ℕ
uri_text uri = text_of_parts uri.scheme uri.host uri.port uri.path

-- the characters of a path and query (RFC 3986, section 2)
abbrev pub is_uri_character : ℕ → Bool
is_uri_character c = is_alphanumeric c || list_any (λ d. c == d) (codes "-._~:/?[]@!$&'()*+,;=%")

-- an ASCII character that is no delimiter of another part, no blank and no control character
abbrev pub IsHostCharacter : ℕ → Type 0
IsHostCharacter c = (c ≢ 47) × (c ≢ 64) × (c ≢ 63) × (32 < c) × (c < 127)

-- a colon stands only between `[` and `]`, as in an IPv6 address (RFC 3986, section 3.2.2)
abbrev pub KeepsColonsInBrackets : List ℕ → Type 0
KeepsColonsInBrackets host = (k : ℕ) → slice_get host k ≡ Some 58 → Contains (take k host) 91 × Contains (drop k host) 93

pub record IsHttpHost (host : List ℕ) : Type 0 where
  pub nonempty : host ≢ []
  pub plain : All IsHostCharacter host
  pub colons : KeepsColonsInBrackets host

abbrev pub IsAuthority : Scheme → List ℕ → ℕ → Type 0
IsAuthority Http host port = IsHttpHost host
IsAuthority File host port = (host ≡ []) × (port ≡ 0)

-- what the readers give and every call that takes a URI may rely on
pub record IsSound (uri : Uri) : Type 0 where
  pub short : length (uri_text uri) ≤ 16384
  pub rooted : slice_get uri.path 0 ≡ Some 47
  pub path : All (λ c. IsTrue (is_uri_character c)) uri.path
  pub authority : IsAuthority uri.scheme uri.host uri.port
  pub port : uri.port < 2 ^ 16

-- a byte of a list name: `/` becomes `_`, letters, digits and `.-+:` stay, and any other becomes `%` and two
-- lower-case hexadecimal digits
abbrev pub name_byte : ℕ → List ℕ
name_byte c =
    if c == 47 then 95 ∷ []
    else if is_alphanumeric c || list_any (λ d. c == d) (codes ".-+:") then c ∷ []
    else 37 ∷ digit_glyph false (c / 16) ∷ digit_glyph false (c % 16) ∷ []

unfoldable pub name_of_parts : Scheme → List ℕ → ℕ → List ℕ → List ℕ
name_of_parts Http host port path = flat_map name_byte (host ++ port_text port ++ path)
name_of_parts File host port path = flat_map name_byte path

-- the name under which the file of a URI is installed: host, port where it isn't 80, and path, escaped
abbrev pub list_name : Uri → List ℕ
list_name uri = name_of_parts uri.scheme uri.host uri.port uri.path
