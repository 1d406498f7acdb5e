-- A URI keeps the URL Standard's spelling with another path, where that is a list of segments.
use Rattle.std.proofs.Common.{◌≡◌, ◌≢◌, ℕ, inl, inr, true, false, not, ◌&&◌, List, [], ◌∷◌, ◌++◌, All, Option, Some, None, is_some, codes, refl, sym, ap, ◌∙◌, subst, append-nil}
use Rattle.std.specs.Str.{bytes_eq}
use Rattle.std.specs.List.{list_all}
use Rattle.std.proofs.lemmas.Bool.{cond-true, cond-false, and_from, not_from_false}
use Rattle.std.proofs.lemmas.List.Elements.{All-head, All-tail}
use Rattle.std.proofs.lemmas.Slice.Eq.{bytes_eq-Decides}
use Rattle.url.specs.Scheme.{is_special}
use Rattle.url.specs.Parts.{Parts, kind_of, has_host, has_credentials, IsValid, IsValidHead, IsHierarchicalPath}
use Rattle.url.proofs.ValidLemmas.{hierarchical, special_has_authority, base_from_authority}
use Rattle.acq_base.specs.declared.uri.Uri.{Uri}
use Rattle.acq_base.specs.Uri.{is_uri_character}
use Rattle.uri_names.specs.Parts.{query_text, target_of, uri_of_parts, http_uri_of, file_uri_of}
use Rattle.uri_names.specs.Normal.{IsNormal}
use Rattle.uri_names.proofs.Shapes.{http_uri, file_uri, shape}
use Rattle.uri_names.proofs.SoundParts.{http_kind, file_kind}

same_bytes : (xs ys : List ℕ) → xs ≡ ys → bytes_eq xs ys ≡ true
same_bytes xs ys e = (bytes_eq-Decides xs ys).1 e

pub http_is : (url : Parts) → has_credentials url ≡ false → url.scheme ≡ codes "http" → has_host url ≡ true → list_all is_uri_character (target_of url) ≡ true → uri_of_parts url ≡ Some (http_uri url)
unfolding uri_of_parts http_uri_of
http_is url bare scheme host characters =
    cond-false (has_credentials url) _ _ bare
    ∙ cond-true (bytes_eq url.scheme (codes "http")) _ _ (same_bytes _ _ scheme)
    ∙ cond-true (has_host url && list_all is_uri_character (target_of url)) _ _ (and_from _ _ host characters)

pub file_is : (url : Parts) → has_credentials url ≡ false → url.scheme ≡ codes "file" → has_host url ≡ false → url.query ≡ None → list_all is_uri_character url.path ≡ true → uri_of_parts url ≡ Some (file_uri url)
unfolding uri_of_parts file_uri_of
file_is url bare scheme host query characters =
    cond-false (has_credentials url) _ _ bare
    ∙ cond-false (bytes_eq url.scheme (codes "http")) _ _ (ap (λ s. bytes_eq s (codes "http")) scheme)
    ∙ cond-true (bytes_eq url.scheme (codes "file")) _ _ (same_bytes _ _ scheme)
    ∙ cond-true (not (has_host url) && not (is_some url.query) && list_all is_uri_character url.path) _ _
    (and_from _ _ (and_from _ _ (not_from_false _ host) (ap (λ q. not (is_some q)) query)) characters)

-- the URL with another path, and no fragment
abbrev at_path : Parts → List ℕ → Parts
at_path url path = record url { path = path; fragment = None }

valid_head : (url : Parts) (path : List ℕ) → IsValidHead url → IsValidHead (at_path url path)
valid_head url path head = record { scheme = head.scheme; username = head.username; password = head.password; host = head.host; port = head.port; bare = head.bare }

valid_at : (url : Parts) (path : List ℕ) → IsValid url → IsHierarchicalPath (kind_of url) path → IsValid (at_path url path)
valid_at url path valid list = record { head = valid_head url path valid.head; path = inl list; query = valid.query; fragment = tt }

pub moved : (uri : Uri) (normal : IsNormal uri) (path : List ℕ) → normal.url.query ≡ None → IsHierarchicalPath (kind_of normal.url) path → list_all is_uri_character path ≡ true → IsNormal (record uri { path = path })
moved uri normal path none list characters =
    let url = normal.url in
    let bare : path ++ query_text url.query ≡ path = ap (λ q. path ++ query_text q) none ∙ append-nil path in
    elim (shape url uri normal.same) [
      | inl http ↦ record {
        url = at_path url path;
        valid = valid_at url path normal.valid list;
        whole = refl;
        same = http_is (at_path url path) http.bare http.scheme http.host (ap (list_all is_uri_character) bare ∙ characters)
            ∙ ap (λ (p : List ℕ). let u : Uri = record (http_uri url) { path = p } in Some u) bare ∙ ap (λ (u : Uri). let v : Uri = record u { path = path } in Some v) http.is;
      }
      | inr file ↦ record {
        url = at_path url path;
        valid = valid_at url path normal.valid list;
        whole = refl;
        same = file_is (at_path url path) file.bare file.scheme file.host file.query characters ∙ ap (λ (u : Uri). let v : Uri = record u { path = path } in Some v) file.is;
      }
    ]

-- ---- a URI without query

query_none : (xs : List ℕ) (query : Option (List ℕ)) → All (λ c. c ≢ 63) (xs ++ query_text query) → query ≡ None
query_none xs None plain = refl
query_none [] (Some query) plain = absurd (All-head (λ c. c ≢ 63) 63 query plain refl)
query_none (x ∷ xs) (Some query) plain = query_none xs (Some query) (All-tail (λ c. c ≢ 63) x (xs ++ 63 ∷ query) plain)

pub record IsPlain (uri : Uri) (url : Parts) : Type 0 where
  pub query : url.query ≡ None
  pub path : uri.path ≡ url.path
  pub list : IsHierarchicalPath (kind_of url) url.path
  pub characters : list_all is_uri_character url.path ≡ true

listed : (url : Parts) → IsValid url → is_special (kind_of url) ≡ true → IsHierarchicalPath (kind_of url) url.path
listed url valid special = hierarchical url valid.path (base_from_authority url (special_has_authority url valid.head special))

pub plain_parts : (uri : Uri) (normal : IsNormal uri) → All (λ c. c ≢ 63) uri.path → IsPlain uri normal.url
plain_parts uri normal plain =
    let url = normal.url in
    elim (shape url uri normal.same) [
      | inl http ↦ (let same : uri.path ≡ target_of url = ap (λ u. u.path) (sym http.is) in
          let none = query_none url.path url.query (subst (All (λ c. c ≢ 63)) same plain) in
          let bare : target_of url ≡ url.path = ap (λ q. url.path ++ query_text q) none ∙ append-nil url.path in
          record { query = none; path = same ∙ bare; list = listed url normal.valid (ap is_special (http_kind url http.scheme)); characters = ap (list_all is_uri_character) (sym bare) ∙ http.characters })
      | inr file ↦ record { query = file.query; path = ap (λ u. u.path) (sym file.is); list = listed url normal.valid (ap is_special (file_kind url file.scheme)); characters = file.characters }
    ]
