-- Which URIs are in the URL Standard's spelling.
use Rattle.std.proofs.Common.{◌≡◌, Option, Some, None, IfSome, refl, sym, ◌∙◌}
use Rattle.url.specs.Parts.{Parts, IsValid, IsValidHead}
use Rattle.acq_base.specs.declared.uri.Uri.{Uri}
use Rattle.uri_names.specs.Parts.{uri_of_parts, http_uri_of, file_uri_of}
use Rattle.uri_names.specs.Normal.{IsNormal}

-- the URL without its fragment
abbrev pub whole : Parts → Parts
whole url = record url { fragment = None }

valid_head : (url : Parts) → IsValidHead url → IsValidHead (whole url)
valid_head url head = record { scheme = head.scheme; username = head.username; password = head.password; host = head.host; port = head.port; bare = head.bare }

valid_whole : (url : Parts) → IsValid url → IsValid (whole url)
valid_whole url valid = record { head = valid_head url valid.head; path = valid.path; query = valid.query; fragment = tt }

same_whole : (url : Parts) → uri_of_parts (whole url) ≡ uri_of_parts url
unfolding uri_of_parts http_uri_of file_uri_of
same_whole url = refl

-- the fragment aside, the URI that a URL is is in its spelling
pub normal_from : (url : Parts) → IsValid url → (found : Option Uri) → found ≡ uri_of_parts url → IfSome found IsNormal
normal_from url valid None e = tt
normal_from url valid (Some uri) e = record { url = whole url; valid = valid_whole url valid; whole = refl; same = same_whole url ∙ sym e }
