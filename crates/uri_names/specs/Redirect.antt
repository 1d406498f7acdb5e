-- Where a redirect leads.
use Rattle.std.specs.Prelude.{not, ◌&&◌, if◌then◌else◌, ℕ, List, Option, Some, None, Ok, Err}
use Rattle.std.specs.List.{list_all}
use Rattle.std.specs.Char.{is_ascii}
use Rattle.acq_base.specs.declared.uri.Uri.{Uri}
use Rattle.acq_base.specs.Uri.{uri_text}
use Rattle.url.specs.Parts.{Parts}
use Rattle.url.specs.Parser.{Parsed, parse_url}
use Rattle.uri_names.specs.Parts.{uri_of_parts, within}
use Rattle.uri_names.specs.Reading.{is_uri_text}

-- the URI that the joined URL is, its fragment dropped, where its text has at most 4,096 bytes
abbrev pub place_of : Parsed Parts → Option Uri
place_of (Ok url) = within 4096 (uri_of_parts url)
place_of (Err error) = None

-- the place is read against the URL that the first URI's text reads as (URL Standard, section 4.4)
abbrev pub joined_with : Parsed Parts → List ℕ → Option Uri
joined_with (Ok base) place = place_of (parse_url (Some base) place)
joined_with (Err error) place = None

-- where a redirect from a URI to a place leads (RFC 9110, section 10.2.2): nowhere, where the place is no text of a URI
-- or the text of the first isn't ASCII
unfoldable pub resolve_of : Uri → List ℕ → Option Uri
resolve_of start place =
    if not (is_uri_text place && list_all is_ascii (uri_text start)) then None
    else joined_with (parse_url None (uri_text start)) place
