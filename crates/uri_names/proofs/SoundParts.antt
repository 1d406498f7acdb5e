-- A URI in the URL Standard's spelling is sound, its length aside.
use Rattle.std.proofs.Common.{◌≡◌, ◌≢◌, ℕ, zero, suc, ◌^◌, ◌<◌, ◌≤◌, inl, inr, true, false, ◌==◌, List, [], ◌∷◌, ◌++◌, length, take, drop, Option, Some, None, unwrap_or, All, Contains, IsTrue, codes, refl, ap, ◌∙◌, subst, lit<, length-append, arith}
use Rattle.std.specs.List.{list_all, slice_get}
use Rattle.std.proofs.lemmas.Bool.{eqb-false}
use Rattle.std.proofs.lemmas.List.Elements.{All-weaker}
use Rattle.std.proofs.lemmas.List.Sums.{AllPass-from_list_all}
use Rattle.std.proofs.lemmas.Option.{same_Some, none-some, slice_get-get_or, get_or_from_slice_get, slice_get_within}
use Rattle.std.specs.Net.Addr.{ipv6_segments}
use Rattle.std.specs.Net.Text.{hex_groups_text}
use Rattle.std.proofs.NetLemmas.Alphabet.{IsDigitOrDot, All-ipv4_text}
use Rattle.std.proofs.lemmas.List.{get_or_push}
use Rattle.url.specs.declared.sets.TheConstants.{FORBIDDEN_DOMAIN}
use Rattle.url.specs.declared.host.Host.{Host}
use Rattle.url.specs.declared.host.Host.TheVariants.{Domain, Ipv4, Ipv6}
use Rattle.url.specs.declared.scheme.SchemeType.TheVariants as kind
use Rattle.url.specs.Scheme.{default_port, scheme_type, is_special}
use Rattle.url.specs.Host.{host_text, IsHostOf}
use Rattle.url.specs.Parts.{Parts, kind_of, host_or_empty, IsValid, IsPortOf}
use Rattle.url.proofs.HostRoundTrip.{IsHostByte, host_text_plain}
use Rattle.url.proofs.RoundTrip.{host_nonempty}
use Rattle.url.proofs.PathLemmas.{rooted}
use Rattle.url.proofs.SetLemmas.{kept_differs}
use Rattle.url.proofs.SetterLemmas.{own_host}
use Rattle.url.proofs.ValidLemmas.{hierarchical, special_has_authority, base_from_authority}
use Rattle.acq_base.specs.declared.uri.Uri.{Uri}
use Rattle.acq_base.specs.Uri.{uri_text, is_uri_character, IsHostCharacter, KeepsColonsInBrackets, IsHttpHost, IsAuthority, IsSound}
use Rattle.uri_names.specs.Normal.{IsNormal}
use Rattle.uri_names.proofs.Shapes.{IsHttp, IsFile, shape}

-- what is left of soundness beside the length
pub record IsSoundBut (uri : Uri) : Type 0 where
  pub rooted : slice_get uri.path 0 ≡ Some 47
  pub path : All (λ c. IsTrue (is_uri_character c)) uri.path
  pub authority : IsAuthority uri.scheme uri.host uri.port
  pub port : uri.port < 2 ^ 16

pub http_kind : (url : Parts) → url.scheme ≡ codes "http" → kind_of url ≡ kind.SpecialNotFile
unfolding scheme_type default_port
http_kind url e = ap scheme_type e

pub file_kind : (url : Parts) → url.scheme ≡ codes "file" → kind_of url ≡ kind.File
unfolding scheme_type default_port
file_kind url e = ap scheme_type e

-- the path of a special URL begins with a slash
pub special_rooted : (url : Parts) → IsValid url → is_special (kind_of url) ≡ true → slice_get url.path 0 ≡ Some 47
special_rooted url valid special =
    let list = hierarchical url valid.path (base_from_authority url (special_has_authority url valid.head special)) in
    let some : 0 < length url.path = list.1 special in
    elim (rooted (kind_of url) url.path list.0) [
      | inl none ↦ absurd (omega (arith, ap length none))
      | inr slash ↦ slice_get-get_or url.path 0 0 some ∙ ap Some slash
    ]

-- ---- the host

no_colon : (host : List ℕ) → All (λ c. c ≢ 58) host → KeepsColonsInBrackets host
no_colon host none = λ k found. absurd (none k 58 (slice_get_within host k 58 found) (get_or_from_slice_get host k 58 58 found))

differ : (a b : ℕ) → (a == b) ≡ false → a ≡ b → ⊥
differ a b e same = eqb-false a b e same

-- the last cell is there, behind each place at which another stands
last_there : (xs : List ℕ) (a : ℕ) → Contains (xs ++ a ∷ []) a
last_there xs a = (length xs, simp length-append (omega arith), get_or_push xs a a (length xs) refl)

last_behind : (xs : List ℕ) (k a b : ℕ) → (a ≡ b → ⊥) → slice_get (xs ++ a ∷ []) k ≡ Some b → Contains (drop k (xs ++ a ∷ [])) a
last_behind [] zero a b differ found = absurd (differ (same_Some a b found))
last_behind [] (suc k) a b differ found = absurd (none-some b found)
last_behind (c ∷ xs) zero a b differ found = last_there (c ∷ xs) a
last_behind (c ∷ xs) (suc k) a b differ found = last_behind xs k a b differ found

in_brackets : (text : List ℕ) (k : ℕ) → slice_get ((91 ∷ text) ++ 93 ∷ []) k ≡ Some 58 → Contains (take k ((91 ∷ text) ++ 93 ∷ [])) 91 × Contains (drop k ((91 ∷ text) ++ 93 ∷ [])) 93
in_brackets text zero found = absurd (differ 91 58 refl (same_Some 91 58 found))
in_brackets text (suc k) found = ((0, omega arith, refl), last_behind text k 93 58 (differ 93 58 refl) found)

colons : (host : Host (List ℕ)) → IsHostOf kind.SpecialNotFile host → KeepsColonsInBrackets (host_text host)
colons (Domain domain) valid = no_colon domain (All-weaker _ _ (kept_differs FORBIDDEN_DOMAIN 58 refl) domain valid.0.allowed)
colons (Ipv4 address) valid = no_colon _ (All-weaker IsDigitOrDot (λ c. c ≢ 58) (λ c digit e. grind arith) _ (All-ipv4_text _ valid.1))
colons (Ipv6 address) valid = in_brackets (hex_groups_text (ipv6_segments address))

sound_host : (host : Host (List ℕ)) → IsHostOf kind.SpecialNotFile host → IsHttpHost (host_text host)
sound_host host valid = record {
  nonempty = λ e. let some = host_nonempty host valid in omega (arith, ap length e);
  plain = All-weaker IsHostByte IsHostCharacter (λ c byte. (byte.no_slash, byte.no_at, byte.no_question, byte.above, byte.below)) (host_text host) (host_text_plain kind.SpecialNotFile host valid);
  colons = colons host valid;
}

sound_port : (scheme : List ℕ) (port : Option ℕ) → IsPortOf scheme port → unwrap_or port 80 < 2 ^ 16
sound_port scheme None valid = lit< tt
sound_port scheme (Some n) valid = valid.0

all_characters : (text : List ℕ) → list_all is_uri_character text ≡ true → All (λ c. IsTrue (is_uri_character c)) text
all_characters text e = AllPass-from_list_all is_uri_character text e

first_stays : (xs ys : List ℕ) → slice_get xs 0 ≡ Some 47 → slice_get (xs ++ ys) 0 ≡ Some 47
first_stays [] ys e = cc
first_stays (x ∷ xs) ys e = e

http_sound : (url : Parts) (uri : Uri) → IsValid url → IsHttp url uri → IsSoundBut uri
http_sound url uri valid http =
    let is_http = http_kind url http.scheme in
    let special : is_special (kind_of url) ≡ true = ap is_special is_http in
    let host = subst (λ k. IsHostOf k (host_or_empty url)) is_http (own_host url valid.head (special_has_authority url valid.head special)) in
    subst IsSoundBut http.is (record {
      rooted = first_stays url.path _ (special_rooted url valid special);
      path = all_characters _ http.characters;
      authority = sound_host (host_or_empty url) host;
      port = sound_port url.scheme url.port valid.head.port;
    })

file_sound : (url : Parts) (uri : Uri) → IsValid url → IsFile url uri → IsSoundBut uri
file_sound url uri valid file =
    subst IsSoundBut file.is (record {
      rooted = special_rooted url valid (ap is_special (file_kind url file.scheme));
      path = all_characters _ file.characters;
      authority = (refl, refl);
      port = lit< tt;
    })

pub sound_but : (uri : Uri) → IsNormal uri → IsSoundBut uri
sound_but uri normal =
    elim (shape normal.url uri normal.same) [
      | inl http ↦ http_sound normal.url uri normal.valid http
      | inr file ↦ file_sound normal.url uri normal.valid file
    ]

pub sound_if_short : (uri : Uri) → IsNormal uri → length (uri_text uri) ≤ 16384 → IsSound uri
sound_if_short uri normal short =
    let but = sound_but uri normal in
    record { short = short; rooted = but.rooted; path = but.path; authority = but.authority; port = but.port }
