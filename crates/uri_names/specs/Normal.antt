-- URIs in the spelling of the URL Standard.
use Rattle.std.specs.Prelude.{◌≡◌, ◌≢◌, ℕ, List, [], ◌∷◌, ◌++◌, All, Some, None}
use Rattle.acq_base.specs.declared.uri.Uri.{Uri}
use Rattle.url.specs.Parts.{Parts, IsValid}
use Rattle.uri_names.specs.Parts.{uri_of_parts}

-- the URI is a URL without fragment, as the URL Standard's parser leaves one: host in lower case, path without dot
-- segments, and each byte escaped that needs it
pub record IsNormal (uri : Uri) : Type 0 where
  pub url : Parts
  pub valid : IsValid url
  pub whole : url.fragment ≡ None
  pub same : uri_of_parts url ≡ Some uri

-- what `read_base` gives: no query, and a `/` at the end
pub record IsBase (uri : Uri) : Type 0 where
  pub normal : IsNormal uri
  pub plain : All (λ c. c ≢ 63) uri.path
  pub front : List ℕ
  pub ended : uri.path ≡ front ++ 47 ∷ []
