-- A refusal of the definition has its reason in the text.
use Rattle.std.proofs.Common.{◌≡◌, ◌⊎◌, inl, inr, ℕ, Bool, true, false, not, cond, List, length, Option, Some, None, Result, Ok, Err, IfErr, refl, sym, ap, ◌∙◌, subst, nat_le}
use Rattle.std.specs.Prelude.{ok_or, ◌==◌}
use Rattle.std.specs.List.{list_any}
use Rattle.std.proofs.lemmas.Bool.{leb-false}
use Rattle.acq_base.specs.declared.uri.Uri.{Uri}
use Rattle.acq_base.specs.Uri.{uri_text}
use Rattle.url.specs.Parts.{Parts}
use Rattle.url.specs.Parser.{Parsed, parse_url}
use Rattle.uri_names.specs.declared.error.UriError.{UriError}
use Rattle.uri_names.specs.declared.error.UriError.TheVariants.{Scheme, BadUri, NoMemory}
use Rattle.uri_names.specs.Reading.{has_scheme, is_uri_text, uri_of_url, judged, read_uri_of, with_one_slash, folder_of, folder_of_read, read_base_of}
use Rattle.uri_names.specs.Refused.{IsRefused, IsBaseRefused}

one_url : (parsed : Parsed Parts) (url other : Parts) → parsed ≡ Ok url → parsed ≡ Ok other → url ≡ other
one_url parsed url other e f = cc

of_parsed : (text : List ℕ) (parsed : Parsed Parts) → has_scheme text ≡ true → parse_url None text ≡ parsed → IfErr (judged parsed) (IsRefused text)
of_parsed text (Err error) scheme e = (scheme, inr (λ url f. absurd cc))
of_parsed text (Ok url) scheme e = of_url (uri_of_url url) refl
  where
    of_url : (found : Option Uri) → uri_of_url url ≡ found → IfErr (ok_or found BadUri) (IsRefused text)
    of_url (Some uri) is = tt
    of_url None is = (scheme, inr (λ other f. ap uri_of_url (one_url (parse_url None text) other url f e) ∙ is))

uri_refused : (text : List ℕ) → IfErr (read_uri_of text) (IsRefused text)
unfolding read_uri_of
uri_refused text = by_tests (has_scheme text) refl (is_uri_text text) refl
  where
    by_tests : (a : Bool) → has_scheme text ≡ a → (b : Bool) → is_uri_text text ≡ b → IfErr (cond (not a) (Err Scheme) (cond (not b) (Err BadUri) (judged (parse_url None text)))) (IsRefused text)
    by_tests false scheme b characters = scheme
    by_tests true scheme false characters = (scheme, inl characters)
    by_tests true scheme true characters = of_parsed text (parse_url None text) scheme refl

folder_refused : (text : List ℕ) (uri : Uri) → read_uri_of text ≡ Ok uri → IfErr (folder_of uri) (IsBaseRefused text)
unfolding folder_of
folder_refused text uri e = by_query (list_any (λ c. c == 63) uri.path) refl (nat_le (length (uri_text longer)) 16384) refl
  where
    longer : Uri
    longer = record uri { path = with_one_slash uri.path }

    by_query : (a : Bool) → list_any (λ c. c == 63) uri.path ≡ a → (b : Bool) → nat_le (length (uri_text longer)) 16384 ≡ b → IfErr (cond a (Err BadUri) (ok_or (cond b (Some longer) None) BadUri)) (IsBaseRefused text)
    by_query true query b short = inr (refl, (uri, e, inl query))
    by_query false query false short = inr (refl, (uri, e, inr (leb-false (length (uri_text longer)) 16384 short)))
    by_query false query true short = tt

base_refused : (text : List ℕ) → IfErr (read_base_of text) (IsBaseRefused text)
unfolding read_base_of
base_refused text = by_uri (read_uri_of text) refl
  where
    by_uri : (r : Result Uri UriError) → read_uri_of text ≡ r → IfErr (folder_of_read r) (IsBaseRefused text)
    by_uri (Ok uri) e = folder_refused text uri e
    by_uri (Err error) e = inl (subst (λ (r : Result Uri UriError). IfErr r (IsRefused text)) e (uri_refused text))

-- what answers the definition or want of memory
answered : (P : UriError → Type 0) (read result : Result Uri UriError) → P NoMemory → IfErr read P → (result ≡ Err NoMemory) ⊎ (result ≡ read) → IfErr result P
answered P read result free refused (inl e) = subst (λ (r : Result Uri UriError). IfErr r P) (sym e) free
answered P read result free refused (inr e) = subst (λ (r : Result Uri UriError). IfErr r P) (sym e) refused

pub uri_answered : (text : List ℕ) (result : Result Uri UriError) → (result ≡ Err NoMemory) ⊎ (result ≡ read_uri_of text) → IfErr result (IsRefused text)
uri_answered text result value = answered (IsRefused text) (read_uri_of text) result tt (uri_refused text) value

pub base_answered : (text : List ℕ) (result : Result Uri UriError) → (result ≡ Err NoMemory) ⊎ (result ≡ read_base_of text) → IfErr result (IsBaseRefused text)
base_answered text result value = answered (IsBaseRefused text) (read_base_of text) result (inl tt) (base_refused text) value
