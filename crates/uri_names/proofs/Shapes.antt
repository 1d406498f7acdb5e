-- What a URL looks like that is a URI of this profile.
use Rattle.std.proofs.Common.{◌≡◌, ℕ, Bool, true, false, not, cond, ◌⊎◌, inl, inr, List, [], Option, Some, None, is_some, unwrap_or, codes, refl}
use Rattle.std.specs.Str.{bytes_eq}
use Rattle.std.specs.List.{list_all}
use Rattle.std.proofs.lemmas.Bool.{and_parts, not-true}
use Rattle.std.proofs.lemmas.Option.{none-some, cond_some}
use Rattle.std.proofs.lemmas.Slice.Eq.{bytes_eq-Decides}
use Rattle.url.specs.Host.{host_text}
use Rattle.url.specs.Parts.{Parts, has_host, has_credentials, host_or_empty}
use Rattle.acq_base.specs.declared.uri.Scheme.TheVariants.{Http, File}
use Rattle.acq_base.specs.declared.uri.Uri.{Uri}
use Rattle.acq_base.specs.Uri.{is_uri_character}
use Rattle.uri_names.specs.Parts.{target_of, http_uri_of, file_uri_of, uri_of_parts}

abbrev pub http_uri : Parts → Uri
http_uri url = record { scheme = Http; host = host_text (host_or_empty url); port = unwrap_or url.port 80; path = target_of url }

abbrev pub file_uri : Parts → Uri
file_uri url = record { scheme = File; host = []; port = 0; path = url.path }

-- an http URL, and the URI that it is
pub record IsHttp (url : Parts) (uri : Uri) : Type 0 where
  pub bare : has_credentials url ≡ false
  pub scheme : url.scheme ≡ codes "http"
  pub host : has_host url ≡ true
  pub characters : list_all is_uri_character (target_of url) ≡ true
  pub is : http_uri url ≡ uri

-- a file URL, and the URI that it is
pub record IsFile (url : Parts) (uri : Uri) : Type 0 where
  pub bare : has_credentials url ≡ false
  pub scheme : url.scheme ≡ codes "file"
  pub host : has_host url ≡ false
  pub query : url.query ≡ None
  pub characters : list_all is_uri_character url.path ≡ true
  pub is : file_uri url ≡ uri

chosen : {A : Type 0} (b : Bool) (x y z : A) → cond b x y ≡ z → ((b ≡ true) × (x ≡ z)) ⊎ ((b ≡ false) × (y ≡ z))
chosen true x y z e = inl (refl, e)
chosen false x y z e = inr (refl, e)

none_there : {A : Type 0} (o : Option A) → not (is_some o) ≡ true → o ≡ None
none_there None e = refl
none_there (Some x) e = cc

same_bytes : (xs ys : List ℕ) → bytes_eq xs ys ≡ true → xs ≡ ys
same_bytes xs ys e = (bytes_eq-Decides xs ys).0 e

http_shape : (url : Parts) (uri : Uri) → has_credentials url ≡ false → url.scheme ≡ codes "http" → http_uri_of url ≡ Some uri → IsHttp url uri
unfolding http_uri_of
http_shape url uri bare scheme e =
    let parts = cond_some _ _ _ e in
    let tests = and_parts _ _ parts.0 in
    record { bare = bare; scheme = scheme; host = tests.0; characters = tests.1; is = parts.1 }

file_shape : (url : Parts) (uri : Uri) → has_credentials url ≡ false → url.scheme ≡ codes "file" → file_uri_of url ≡ Some uri → IsFile url uri
unfolding file_uri_of
file_shape url uri bare scheme e =
    let parts = cond_some _ _ _ e in
    let tests = and_parts _ _ parts.0 in
    let firsts = and_parts _ _ tests.0 in
    record { bare = bare; scheme = scheme; host = not-true _ firsts.0; query = none_there url.query firsts.1; characters = tests.1; is = parts.1 }

pub shape : (url : Parts) (uri : Uri) → uri_of_parts url ≡ Some uri → IsHttp url uri ⊎ IsFile url uri
unfolding uri_of_parts
shape url uri e =
    elim (chosen (has_credentials url) _ _ _ e) [
      | inl refused ↦ absurd (none-some _ refused.1)
      | inr bare ↦ elim (chosen (bytes_eq url.scheme (codes "http")) _ _ _ bare.1) [
        | inl http ↦ inl (http_shape url uri bare.0 (same_bytes _ _ http.0) http.1)
        | inr other ↦ elim (chosen (bytes_eq url.scheme (codes "file")) _ _ _ other.1) [
          | inl file ↦ inr (file_shape url uri bare.0 (same_bytes _ _ file.0) file.1)
          | inr neither ↦ absurd (none-some _ neither.1)
        ]
      ]
    ]
