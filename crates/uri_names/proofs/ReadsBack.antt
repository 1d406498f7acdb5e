-- The text of a URI in the URL Standard's spelling is read as that URI.
use Rattle.std.proofs.Common.{◌≡◌, ℕ, ◌^◌, ◌<◌, ◌≤◌, inl, inr, true, not, ◌==◌, nat_le, List, [], ◌∷◌, ◌++◌, length, get_or, drop, All, IsTrue, Some, None, is_some, unwrap_or, Ok, Err, ok_or, codes, decimal, refl, sym, ap, ◌∙◌, subst, arith}
use Rattle.std.specs.List.{list_all, list_any}
use Rattle.std.specs.Char.{is_ascii_graphic}
use Rattle.std.specs.Int.{IsInRange}
use Rattle.std.proofs.lemmas.Bool.{cond-true, cond-false, cond_both, and_parts, and_from, or_cases, not_from_true, eqb-true, le-leb, both_ways}
use Rattle.std.proofs.lemmas.Bool.Decides.{nat_tests}
use Rattle.std.proofs.lemmas.List.Elements.{All-nil, All-cons, All-append, All-weaker, All-take, All-drop}
use Rattle.std.proofs.lemmas.List.Sums.{list_all-from_AllPass, AllPass-from_list_all}
use Rattle.url.specs.declared.scheme.SchemeType.TheVariants as kind
use Rattle.url.specs.Scheme.{is_special}
use Rattle.url.specs.Host.{host_text, IsHostOf}
use Rattle.url.specs.Path.{is_windows_drive_letter}
use Rattle.url.specs.Parts.{Parts, host_or_empty, IsValid}
use Rattle.url.specs.Parser.{parse_url}
use Rattle.url.specs.Canonical.{first_segment, IsCanonicalFile, IsCanonicalAs, IsCanonical}
use Rattle.url.proofs.HostRoundTrip.{All-decimal, IsHostByte, host_text_plain}
use Rattle.url.proofs.SetterLemmas.{own_host}
use Rattle.url.proofs.Theorems.{parse_url-serialize}
use Rattle.url.proofs.ValidLemmas.{special_has_authority}
use Rattle.acq_base.specs.declared.uri.Scheme.TheVariants.{Http, File}
use Rattle.acq_base.specs.declared.uri.Uri.{Uri}
use Rattle.acq_base.specs.Uri.{uri_text, text_of_parts, port_text, is_alphanumeric, is_uri_character}
use Rattle.uri_names.specs.declared.error.UriError.TheVariants as errors
use Rattle.uri_names.specs.Parts.{target_of, uri_of_parts, within}
use Rattle.uri_names.specs.Reading.{has_scheme, is_uri_text, uri_of_url, judged, read_uri_of, ReadsBack}
use Rattle.uri_names.specs.Normal.{IsNormal}
use Rattle.uri_names.proofs.Shapes.{IsHttp, IsFile, http_uri, file_uri, shape}
use Rattle.uri_names.proofs.SoundParts.{IsSoundBut, http_kind, file_kind, sound_but}
use Rattle.uri_names.proofs.TextOf.{http_text, file_text, no_host, regroup}

-- ---- the URL is canonical

drive : (segment : List ℕ) → All (λ c. IsTrue (is_uri_character c)) segment → is_windows_drive_letter segment ≡ true → get_or segment 1 0 ≡ 58
unfolding is_windows_drive_letter
drive segment all letter =
    let parts = and_parts _ _ letter in
    let firsts = and_parts _ _ parts.0 in
    let two : length segment ≡ 2 = eqb-true (length segment) 2 firsts.0 in
    elim (or_cases (get_or segment 1 0 == 58) (get_or segment 1 0 == 124) parts.1) [
      | inl colon ↦ eqb-true (get_or segment 1 0) 58 colon
      | inr bar ↦ absurd (both_ways (is_uri_character 124) refl (subst (λ c. is_uri_character c ≡ true) (eqb-true (get_or segment 1 0) 124 bar) (all 1 0 (omega arith))))
    ]

http_canonical : (url : Parts) (uri : Uri) → IsHttp url uri → IsCanonical url
http_canonical url uri http = subst (λ k. IsCanonicalAs k url) (sym (http_kind url http.scheme)) tt

file_canonical : (url : Parts) (uri : Uri) → IsFile url uri → IsCanonical url
file_canonical url uri file =
    let all = AllPass-from_list_all is_uri_character url.path file.characters in
    let C : ℕ → Type 0 = λ c. IsTrue (is_uri_character c) in
    let canonical : IsCanonicalFile url = record {
      host = λ e. (let none = sym (no_host (host_or_empty url) file.host) ∙ e in cc);
      drive = drive (first_segment kind.File url.path) (All-take C _ (drop 1 url.path) (All-drop C 1 url.path all));
    } in
    subst (λ k. IsCanonicalAs k url) (sym (file_kind url file.scheme)) canonical

-- ---- the text may be read

abbrev Graphic : ℕ → Type 0
Graphic c = is_ascii_graphic c ≡ true

mark_graphic : (xs : List ℕ) → list_all is_ascii_graphic xs ≡ true → (c : ℕ) → list_any (λ d. c == d) xs ≡ true → Graphic c
mark_graphic [] each c e = cc
mark_graphic (x ∷ xs) each c e =
    let parts = and_parts _ _ each in
    elim (or_cases _ _ e) [
      | inl here ↦ rw (eqb-true c x here) parts.0
      | inr later ↦ mark_graphic xs parts.1 c later
    ]

letter_graphic : (c : ℕ) → is_alphanumeric c ≡ true → Graphic c
letter_graphic c e = grind (arith, nat_tests)

uri_graphic : (c : ℕ) → IsTrue (is_uri_character c) → Graphic c
uri_graphic c e =
    elim (or_cases _ _ e) [
      | inl letter ↦ letter_graphic c letter
      | inr mark ↦ mark_graphic (codes "-._~:/?[]@!$&'()*+,;=%") refl c mark
    ]

range_graphic : (c : ℕ) → 32 < c → c < 127 → Graphic c
range_graphic c above below = grind (arith, nat_tests)

port_graphic : (port : ℕ) → port < 2 ^ 16 → All Graphic (port_text port)
port_graphic port small =
    cond_both (port == 80) [] (58 ∷ decimal port) (All Graphic) (λ _. All-nil Graphic)
    (λ _. All-cons Graphic 58 (decimal port) refl (All-weaker (IsInRange 48 57) Graphic (λ c digit. range_graphic c (omega arith) (omega arith)) (decimal port) (All-decimal port (omega arith))))

fixed_graphic : (text : List ℕ) → list_all is_ascii_graphic text ≡ true → All Graphic text
fixed_graphic text e = AllPass-from_list_all is_ascii_graphic text e

http_graphic : (host : List ℕ) (port : ℕ) (path : List ℕ) → All Graphic host → port < 2 ^ 16 → All (λ c. IsTrue (is_uri_character c)) path → All Graphic (text_of_parts Http host port path)
unfolding text_of_parts
http_graphic host port path plain small characters =
    All-append Graphic (codes "http://" ++ host ++ port_text port) path
    (All-append Graphic (codes "http://" ++ host) (port_text port) (All-append Graphic (codes "http://") host (fixed_graphic (codes "http://") refl) plain) (port_graphic port small))
    (All-weaker (λ c. IsTrue (is_uri_character c)) Graphic uri_graphic path characters)

file_graphic : (host : List ℕ) (port : ℕ) (path : List ℕ) → All (λ c. IsTrue (is_uri_character c)) path → All Graphic (text_of_parts File host port path)
unfolding text_of_parts
file_graphic host port path characters =
    All-append Graphic (codes "file://") path (fixed_graphic (codes "file://") refl) (All-weaker (λ c. IsTrue (is_uri_character c)) Graphic uri_graphic path characters)

text_is : (text : List ℕ) → length text ≤ 4096 → All Graphic text → is_uri_text text ≡ true
unfolding is_uri_text
text_is text short graphic = and_from _ _ (le-leb (length text) 4096 short) (list_all-from_AllPass is_ascii_graphic text graphic)

http_begins : (rest : List ℕ) → has_scheme (codes "http://" ++ rest) ≡ true
unfolding has_scheme
http_begins rest = refl

file_begins : (rest : List ℕ) → has_scheme (codes "file://" ++ rest) ≡ true
unfolding has_scheme
file_begins rest = refl

-- ---- it is read as that URI

found : (url : Parts) (uri : Uri) → url.fragment ≡ None → uri_of_parts url ≡ Some uri → length (uri_text uri) ≤ 4096 → uri_of_url url ≡ Some uri
unfolding uri_of_url
found url uri whole same short =
    cond-false (is_some url.fragment) None (within 16384 (uri_of_parts url)) (ap is_some whole)
    ∙ ap (within 16384) same ∙ cond-true (nat_le (length (uri_text uri)) 16384) (Some uri) None (le-leb (length (uri_text uri)) 16384 (omega arith))

read : (text : List ℕ) (url : Parts) (uri : Uri) → has_scheme text ≡ true → is_uri_text text ≡ true → parse_url None text ≡ Ok url → uri_of_url url ≡ Some uri → read_uri_of text ≡ Ok uri
unfolding read_uri_of
read text url uri scheme plain parsed same =
    cond-false (not (has_scheme text)) (Err errors.Scheme) _ (not_from_true _ scheme)
    ∙ cond-false (not (is_uri_text text)) (Err errors.BadUri) _ (not_from_true _ plain)
    ∙ ap judged parsed ∙ ap (λ o. ok_or o errors.BadUri) same

http_scheme : (host : List ℕ) (port : ℕ) (path : List ℕ) → has_scheme (text_of_parts Http host port path) ≡ true
unfolding text_of_parts
http_scheme host port path = ap has_scheme (regroup host (port_text port) path) ∙ http_begins (host ++ (port_text port ++ path))

file_scheme : (host : List ℕ) (port : ℕ) (path : List ℕ) → has_scheme (text_of_parts File host port path) ≡ true
unfolding text_of_parts
file_scheme host port path = file_begins path

http_back : (url : Parts) (uri : Uri) → IsValid url → url.fragment ≡ None → IsHttp url uri → IsSoundBut (http_uri url) → uri_of_parts url ≡ Some (http_uri url) → ReadsBack (http_uri url)
http_back url uri valid whole http but same = λ short.
    let is_http = http_kind url http.scheme in
    let host = host_or_empty url in
    let is_host = subst (λ k. IsHostOf k host) is_http (own_host url valid.head (special_has_authority url valid.head (ap is_special is_http))) in
    let plain = All-weaker IsHostByte Graphic (λ c byte. range_graphic c byte.above byte.below) (host_text host) (host_text_plain kind.SpecialNotFile host is_host) in
    let port = unwrap_or url.port 80 in
    let text = uri_text (http_uri url) in
    read text url (http_uri url) (http_scheme (host_text host) port (target_of url))
    (text_is text short (http_graphic (host_text host) port (target_of url) plain but.port but.path))
    (ap (parse_url None) (sym (http_text url valid whole uri http)) ∙ parse_url-serialize url None valid (http_canonical url uri http))
    (found url (http_uri url) whole same short)

file_back : (url : Parts) (uri : Uri) → IsValid url → url.fragment ≡ None → IsFile url uri → IsSoundBut (file_uri url) → uri_of_parts url ≡ Some (file_uri url) → ReadsBack (file_uri url)
file_back url uri valid whole file but same = λ short.
    let text = uri_text (file_uri url) in
    read text url (file_uri url) (file_scheme [] 0 url.path)
    (text_is text short (file_graphic [] 0 url.path but.path))
    (ap (parse_url None) (sym (file_text url valid whole uri file)) ∙ parse_url-serialize url None valid (file_canonical url uri file))
    (found url (file_uri url) whole same short)

pub reads_back : (uri : Uri) → IsNormal uri → ReadsBack uri
reads_back uri normal =
    let but = sound_but uri normal in
    elim (shape normal.url uri normal.same) [
      | inl http ↦ subst ReadsBack http.is (http_back normal.url uri normal.valid normal.whole http (subst IsSoundBut (sym http.is) but) (normal.same ∙ ap Some (sym http.is)))
      | inr file ↦ subst ReadsBack file.is (file_back normal.url uri normal.valid normal.whole file (subst IsSoundBut (sym file.is) but) (normal.same ∙ ap Some (sym file.is)))
    ]
