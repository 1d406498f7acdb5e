-- A name behind the front of an installed file's path makes a sound URI.
use Rattle.std.proofs.Common.{◌≡◌, ℕ, ◌≤◌, List, [], ◌∷◌, ◌++◌, length, Some, All, IsTrue, inl, inr, refl, sym, subst, ◌<◌, ◌/◌, ◌%◌, codes, slice_index, get_or, length-append, arith}
use Rattle.std.specs.List.{list_any, slice_get}
use Rattle.std.proofs.lemmas.Bool.{cases_Bool}
use Rattle.std.proofs.lemmas.List.Elements.{All-nil, All-cons, All-head, All-tail, All-append, All-from_get_or}
use Rattle.std.proofs.lemmas.List.Sums.{AllPass-from_list_all}
use Rattle.std.proofs.lemmas.Option.{same_Some}
use Rattle.hex.proofs.HexLemmas.{length-encode_with}
use Rattle.hex.specs.Hex.{encode_lower, encode_with, lower_digits}
use Rattle.acq_base.specs.declared.uri.Scheme.{Scheme}
use Rattle.acq_base.specs.declared.uri.Scheme.TheVariants.{Http, File}
use Rattle.acq_base.specs.declared.uri.Uri.{Uri}
use Rattle.acq_base.specs.Uri.{text_of_parts, list_name, name_of_parts, is_uri_character, IsSound, port_text}
use Rattle.acq_base.proofs.Uris.{length-name, digit_fits}
use Rattle.by_hash.specs.Beside.{is_slash, folder, beside, IsShortName}
use Rattle.by_hash.specs.Candidates.{by_hash_name}

length-folder : (path : List ℕ) → length (folder path) ≤ length path
length-folder [] = omega arith
length-folder (c ∷ path) =
    let shorter = length-folder path in
    elim (cases_Bool (list_any is_slash (c ∷ path))) [ inl is ↦ rw is (omega (arith, shorter)) | inr isnt ↦ rw isnt (omega arith) ]

All-folder : (P : ℕ → Type 0) (path : List ℕ) → All P path → All P (folder path)
All-folder P [] all = all
All-folder P (c ∷ path) all =
    elim (cases_Bool (list_any is_slash (c ∷ path))) [
      | inl is ↦ rw is (All-cons P c (folder path) (All-head P c path all) (All-folder P path (All-tail P c path all)))
      | inr isnt ↦ rw isnt (All-nil P)
    ]

short : (scheme : Scheme) (host : List ℕ) (port : ℕ) (path name : List ℕ) → length (name_of_parts scheme host port path) ≤ 240 → length name ≤ 240
    → length (text_of_parts scheme host port (folder path ++ name)) ≤ 16384
unfolding name_of_parts text_of_parts
short Http host port path name named few =
    let folder_is = length-folder path in
    let whole = length-name (host ++ port_text port ++ path) in
    let front = length-append host (port_text port) in
    let before = length-append (host ++ port_text port) path in
    let after = length-append (host ++ port_text port) (folder path ++ name) in
    let behind = length-append (folder path) name in
    omega (arith, folder_is, whole, front, before, after, behind, named, few)
short File host port path name named few =
    let folder_is = length-folder path in
    let whole = length-name path in
    let behind = length-append (folder path) name in
    omega (arith, folder_is, whole, behind, named, few)

rooted : (path name : List ℕ) → slice_get path 0 ≡ Some 47 → slice_get (folder path ++ name) 0 ≡ Some 47
rooted [] name is = absurd (cc)
rooted (c ∷ path) name is =
    let slash : c ≡ 47 = same_Some c 47 is in
    subst (λ d. slice_get (folder (d ∷ path) ++ name) 0 ≡ Some 47) (sym slash) refl

pub beside_sound : (uri : Uri) (name : List ℕ) → IsSound uri → length (list_name uri) ≤ 240 → IsShortName name → IsSound (beside uri name)
beside_sound uri name sound named is_short = record {
  short = short uri.scheme uri.host uri.port uri.path name named is_short.short;
  rooted = rooted uri.path name sound.rooted;
  path = All-append (λ c. IsTrue (is_uri_character c)) (folder uri.path) name (All-folder (λ c. IsTrue (is_uri_character c)) uri.path sound.path) is_short.characters;
  authority = sound.authority;
  port = sound.port;
}

abbrev IsUriCharacter : ℕ → Type 0
IsUriCharacter c = IsTrue (is_uri_character c)

digits : (bytes : List ℕ) → All (λ b. b < 256) bytes → All IsUriCharacter (encode_lower bytes)
unfolding encode_with
digits [] all = All-nil IsUriCharacter
digits (b ∷ bytes) all =
    let byte : b < 256 = All-head (λ b. b < 256) b bytes all in
    let high : b / 16 < 16 = omega (arith, byte) in
    let low : b % 16 < 16 = omega arith in
    All-cons IsUriCharacter (slice_index lower_digits (b / 16)) (slice_index lower_digits (b % 16) ∷ encode_lower bytes) (digit_fits (b / 16) high)
    (All-cons IsUriCharacter (slice_index lower_digits (b % 16)) (encode_lower bytes) (digit_fits (b % 16) low) (digits bytes (All-tail (λ b. b < 256) b bytes all)))

-- the name that a digest gives is short
pub short_name : (digest : List ℕ) → length digest ≡ 32 → ((i : ℕ) → get_or digest i 0 < 256) → IsShortName (by_hash_name digest)
short_name digest count bytes = record {
  characters = All-append IsUriCharacter (codes "by-hash/SHA256/") (encode_lower digest) (AllPass-from_list_all is_uri_character (codes "by-hash/SHA256/") refl) (digits digest (All-from_get_or (λ b. b < 256) digest 0 (λ i within. bytes i)));
  short = let twice = length-encode_with lower_digits digest in omega (arith, twice, count);
}
