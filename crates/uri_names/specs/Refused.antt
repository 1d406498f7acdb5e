-- Why a text is refused as a URI, or as the base of a source.
use Rattle.std.specs.Prelude.{◌≡◌, ◌==◌, ◌⊎◌, ◌<◌, ℕ, true, false, List, length, None, Ok}
use Rattle.std.specs.List.{list_any}
use Rattle.acq_base.specs.declared.uri.Uri.{Uri}
use Rattle.acq_base.specs.Uri.{uri_text}
use Rattle.url.specs.Parts.{Parts}
use Rattle.url.specs.Parser.{parse_url}
use Rattle.uri_names.specs.declared.error.UriError.{UriError}
use Rattle.uri_names.specs.declared.error.UriError.TheVariants.{Scheme, BadUri, NoMemory}
use Rattle.uri_names.specs.Reading.{has_scheme, is_uri_text, uri_of_url, read_uri_of, with_one_slash}

-- it is too long, or not ASCII without blanks and control characters; or what the URL Standard reads in it, if anything,
-- is no URI of this profile
abbrev pub IsNoUri : List ℕ → Type 0
IsNoUri text = (is_uri_text text ≡ false) ⊎ ((url : Parts) → parse_url None text ≡ Ok url → uri_of_url url ≡ None)

-- want of memory is free
abbrev pub IsRefused : List ℕ → UriError → Type 0
IsRefused text Scheme = has_scheme text ≡ false
IsRefused text BadUri = (has_scheme text ≡ true) × IsNoUri text
IsRefused text NoMemory = Unit {0}

-- the URI can't be a folder: it has a query, or is too long with the one `/` at its end
abbrev pub IsNoFolder : Uri → Type 0
IsNoFolder uri = (list_any (λ c. c == 63) uri.path ≡ true) ⊎ (16384 < length (uri_text (record uri { path = with_one_slash uri.path })))

-- it is refused as a URI, or is one that can't be a folder
abbrev pub IsBaseRefused : List ℕ → UriError → Type 0
IsBaseRefused text error = IsRefused text error ⊎ ((error ≡ BadUri) × ((uri : Uri) × (read_uri_of text ≡ Ok uri) × IsNoFolder uri))
