-- The text of a URI in the URL Standard's spelling is the URL's own text, and reads back.
use Rattle.std.proofs.Common.{◌≡◌, ℕ, Bool, true, false, not, ◌&&◌, ◌||◌, ◌==◌, cond, List, [], ◌∷◌, ◌++◌, length, get_or, Option, Some, None, is_some, unwrap_or, option_map, codes, decimal, refl, sym, ap, ◌∙◌, subst, append_assoc, append-nil, arith}
use Rattle.std.specs.List.{concat}
use Rattle.std.proofs.lemmas.Bool.{cond-false, not_from_false, or_parts, or_right, both_ways, ne_eqb}
use Rattle.url.specs.declared.host.Host.{Host}
use Rattle.url.specs.declared.host.Host.TheVariants.{Domain, Ipv4, Ipv6}
use Rattle.url.specs.Scheme.{default_port, is_special, is_file}
use Rattle.url.specs.Host.{host_text, is_empty_host}
use Rattle.url.specs.Input.{is_empty, when}
use Rattle.url.specs.Parts.{Parts, host_or_empty, has_authority, has_credentials, serialize, IsValid, IsPortOf}
use Rattle.url.proofs.ValidLemmas.{special_has_authority}
use Rattle.acq_base.specs.declared.uri.Uri.{Uri}
use Rattle.acq_base.specs.Uri.{uri_text, text_of_parts, port_text}
use Rattle.uri_names.specs.Parts.{query_text}
use Rattle.uri_names.proofs.Shapes.{IsHttp, IsFile, http_uri, file_uri}
use Rattle.uri_names.proofs.SoundParts.{http_kind, file_kind}

-- ---- the text

-- a URL without user name and password has neither
record IsBare (url : Parts) : Type 0 where
  username : url.username ≡ []
  password : url.password ≡ []

empty : (xs : List ℕ) → not (is_empty xs) ≡ false → xs ≡ []
empty [] e = refl
empty (x ∷ xs) e = absurd (both_ways _ e (not_from_false _ (ne_eqb (length (x ∷ xs)) 0 (λ same. omega arith))))

bare : (url : Parts) → has_credentials url ≡ false → IsBare url
bare url e = let parts = or_parts _ _ e in record { username = empty url.username parts.0; password = empty url.password parts.1 }

-- the pieces of the port, as a URI writes them
port_pieces : (scheme : List ℕ) (port : Option ℕ) (rest : List ℕ) → IsPortOf scheme port → default_port scheme ≡ Some 80 → when (is_some port) (codes ":") ++ (unwrap_or (option_map decimal port) [] ++ rest) ≡ port_text (unwrap_or port 80) ++ rest
port_pieces scheme None rest valid eighty = refl
port_pieces scheme (Some n) rest valid eighty = ap (λ t. t ++ rest) (sym (cond-false (n == 80) [] (58 ∷ decimal n) (ne_eqb n 80 (λ same. valid.1 (eighty ∙ ap Some (sym same))))))

query_pieces : (query : Option (List ℕ)) → when (is_some query) (codes "?") ++ (unwrap_or query [] ++ []) ≡ query_text query
query_pieces None = refl
query_pieces (Some q) = ap (λ l. 63 ∷ l) (append-nil q)

-- the text of a URL, from its parts
abbrev spell : List ℕ → Bool → List ℕ → List ℕ → List ℕ → Option ℕ → List ℕ → Option (List ℕ) → Option (List ℕ) → List ℕ
spell scheme authority username password host port path query fragment = concat (
    scheme
    ∷ (cond authority (codes "://") (codes ":"))
    ∷ username
    ∷ when (not (is_empty password)) (codes ":")
    ∷ password
    ∷ when (not (is_empty username) || not (is_empty password)) (codes "@")
    ∷ host
    ∷ when (is_some port) (codes ":")
    ∷ unwrap_or (option_map decimal port) []
    ∷ when (not authority && get_or path 0 0 == 47 && get_or path 1 0 == 47) (codes "/.")
    ∷ path
    ∷ when (is_some query) (codes "?")
    ∷ unwrap_or query []
    ∷ when (is_some fragment) (codes "#")
    ∷ unwrap_or fragment []
    ∷ []
    )

spelled : (url : Parts) → serialize url ≡ spell url.scheme (has_authority url) url.username url.password (host_text (host_or_empty url)) url.port url.path url.query url.fragment
spelled url = refl

pub regroup : (host port path : List ℕ) → codes "http://" ++ host ++ port ++ path ≡ codes "http://" ++ (host ++ (port ++ path))
regroup host port path = append_assoc (codes "http://" ++ host) port path ∙ append_assoc (codes "http://") host (port ++ path)

http_spelled : (host : List ℕ) (port : Option ℕ) (path : List ℕ) (query : Option (List ℕ)) → IsPortOf (codes "http") port → spell (codes "http") true [] [] host port path query None ≡ codes "http://" ++ host ++ port_text (unwrap_or port 80) ++ (path ++ query_text query)
unfolding default_port
http_spelled host port path query valid =
    ap (λ l. codes "http://" ++ (host ++ l)) (port_pieces (codes "http") port _ valid refl ∙ ap (λ l. port_text (unwrap_or port 80) ++ (path ++ l)) (query_pieces query))
    ∙ sym (regroup host (port_text (unwrap_or port 80)) (path ++ query_text query))

pub http_text : (url : Parts) → IsValid url → url.fragment ≡ None → (uri : Uri) → IsHttp url uri → serialize url ≡ uri_text (http_uri url)
unfolding text_of_parts
http_text url valid whole uri http =
    let none = bare url http.bare in
    let authority = special_has_authority url valid.head (ap is_special (http_kind url http.scheme)) in
    spelled url
    ∙ (λ i. spell (http.scheme i) (authority i) (none.username i) (none.password i) (host_text (host_or_empty url)) url.port url.path url.query (whole i))
    ∙ http_spelled (host_text (host_or_empty url)) url.port url.path url.query (subst (λ s. IsPortOf s url.port) http.scheme valid.head.port)

pub no_host : (host : Host (List ℕ)) → not (is_empty_host host) ≡ false → host_text host ≡ []
no_host (Domain domain) e = empty domain e
no_host (Ipv4 address) e = cc
no_host (Ipv6 address) e = cc

pub file_text : (url : Parts) → IsValid url → url.fragment ≡ None → (uri : Uri) → IsFile url uri → serialize url ≡ uri_text (file_uri url)
unfolding text_of_parts
file_text url valid whole uri file =
    let none = bare url file.bare in
    let authority = special_has_authority url valid.head (ap is_special (file_kind url file.scheme)) in
    let alone = valid.head.bare (or_right _ _ (ap is_file (file_kind url file.scheme))) in
    spelled url
    ∙ (λ i. spell (file.scheme i) (authority i) (none.username i) (none.password i) (no_host (host_or_empty url) file.host i) (alone.2 i) url.path (file.query i) (whole i))
    ∙ ap (λ l. codes "file://" ++ l) (append-nil url.path)
