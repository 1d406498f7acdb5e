-- The mirrors are sound: their URIs are, and are distinct, and so is the place that one has moved to.
use Rattle.std.proofs.Common.{◌≡◌, ◌≢◌, ℕ, ◌+◌, ◌*◌, ◌/◌, ◌%◌, ◌==◌, ◌<◌, ◌≤◌, ◌&&◌, not, nat_le, Bool, zero, suc, true, List, [], ◌∷◌, ◌++◌, length, codes, Some, All, IsTrue, slice_index, inl, inr, refl, ap, ◌∙◌, lit<, lit≤, arith, length-append}
use Rattle.std.specs.List.{AllByRecursion as Each, AllPairs, list_all, slice_get}
use Rattle.std.specs.Int.{byte_at, bytes_high_first, to_be_bytes, w32}
use Rattle.std.proofs.lemmas.Bool.{and_parts, cases_Bool, eqb-false}
use Rattle.std.proofs.lemmas.Bool.Decides.{nat_tests}
use Rattle.std.proofs.lemmas.List.Elements.{All-nil, All-cons, All-head, All-tail, All-append, All-weaker, All-from_recursion}
use Rattle.std.proofs.lemmas.List.Kept.{AllPairs-cons}
use Rattle.std.proofs.lemmas.List.Sums.{AllPass-from_list_all}
use Rattle.std.proofs.lemmas.Option.{same_Some}
use Rattle.hex.proofs.HexLemmas.{length-encode_with}
use Rattle.hex.specs.Hex.{encode_lower, encode_with, lower_digits}
use Rattle.sha2.proofs.Facts256.{length-sha256}
use Rattle.sha2.specs.Sha256.{digest_bytes, final_hash, initial_hash_256, sha256}
use Rattle.acq_base.specs.Fetch.{IsSoundAnswer, IsSoundMirror}
use Rattle.acq_base.specs.Mirror.{MirrorMap}
use Rattle.acq_base.specs.Uri.{IsHostCharacter, IsHttpHost, IsSound, is_uri_character, text_of_parts}
use Rattle.acq_base.specs.declared.fetch.Answer.{Answer}
use Rattle.acq_base.specs.declared.fetch.Answer.TheVariants.{Served, Moved}
use Rattle.acq_base.specs.declared.fetch.Mirror.{Mirror}
use Rattle.acq_base.specs.declared.uri.Uri.{Uri}
use Rattle.acq_base.proofs.Uris.{digit_fits}
use Rattle.mirror_maker.specs.Made.{first_before, first_mirror, lists_in, second_before, second_mirror}
use Rattle.mirror_maker.specs.Rows.{first_rows, hash_path, list_rows, patch_rows, release_rows, second_rows, uri_of}

-- ---- paths

abbrev IsUriCharacter : ℕ → Type 0
IsUriCharacter c = IsTrue (is_uri_character c)

record IsPath (path : List ℕ) : Type 0 where
  short : length path ≤ 200
  rooted : slice_get path 0 ≡ Some 47
  characters : All IsUriCharacter path

release_path : IsPath (codes "/g/dists/s/Release")
release_path = record { short = lit≤ tt; rooted = refl; characters = AllPass-from_list_all is_uri_character (codes "/g/dists/s/Release") refl }

moved_path : IsPath (codes "/r")
moved_path = record { short = lit≤ tt; rooted = refl; characters = AllPass-from_list_all is_uri_character (codes "/r") refl }

list_path : IsPath (codes "/g/dists/s/main/binary-amd64/Packages")
list_path = record { short = lit≤ tt; rooted = refl; characters = AllPass-from_list_all is_uri_character (codes "/g/dists/s/main/binary-amd64/Packages") refl }

index_path : IsPath (codes "/g/dists/s/main/binary-amd64/Packages.diff/Index")
index_path = record { short = lit≤ tt; rooted = refl; characters = AllPass-from_list_all is_uri_character (codes "/g/dists/s/main/binary-amd64/Packages.diff/Index") refl }

patch_path : IsPath (codes "/g/dists/s/main/binary-amd64/Packages.diff/p1")
patch_path = record { short = lit≤ tt; rooted = refl; characters = AllPass-from_list_all is_uri_character (codes "/g/dists/s/main/binary-amd64/Packages.diff/p1") refl }

-- ---- the path under a digest

abbrev IsByte : ℕ → Type 0
IsByte b = b < 256

byte_below : (place word : ℕ) → byte_at place word < 256
byte_below zero word = omega arith
byte_below (suc place) word = omega arith

word_bytes : (count word : ℕ) → All IsByte (bytes_high_first count word)
word_bytes zero word = All-nil IsByte
word_bytes (suc count) word = All-cons IsByte (byte_at count word) (bytes_high_first count word) (byte_below count word) (word_bytes count word)

digest_is_bytes : (words : List ℕ) (n : ℕ) → All IsByte (digest_bytes words n)
unfolding digest_bytes
digest_is_bytes words zero = All-nil IsByte
digest_is_bytes words (suc n) = All-append IsByte (digest_bytes words n) (to_be_bytes w32 (slice_index words n)) (digest_is_bytes words n) (word_bytes 4 (slice_index words n))

sha_bytes : (file : List ℕ) → All IsByte (sha256 file)
unfolding sha256
sha_bytes file = digest_is_bytes (final_hash initial_hash_256 file) 8

digits : (bytes : List ℕ) → All IsByte bytes → All IsUriCharacter (encode_lower bytes)
unfolding encode_with
digits [] all = All-nil IsUriCharacter
digits (b ∷ bytes) all =
    let byte : b < 256 = All-head IsByte b bytes all in
    let high : b / 16 < 16 = omega (arith, byte) in
    let low : b % 16 < 16 = omega arith in
    All-cons IsUriCharacter (slice_index lower_digits (b / 16)) (slice_index lower_digits (b % 16) ∷ encode_lower bytes) (digit_fits (b / 16) high)
    (All-cons IsUriCharacter (slice_index lower_digits (b % 16)) (encode_lower bytes) (digit_fits (b % 16) low) (digits bytes (All-tail IsByte b bytes all)))

length-hash : (list : List ℕ) → length (hash_path list) ≡ 108
unfolding hash_path
length-hash list =
    let twice = length-encode_with lower_digits (sha256 list) in
    let bytes = length-sha256 list in
    let both = length-append (codes "/g/dists/s/main/binary-amd64/by-hash/SHA256/") (encode_lower (sha256 list)) in
    omega (arith, twice, bytes, both)

hash_root : (list : List ℕ) → slice_get (hash_path list) 0 ≡ Some 47
unfolding hash_path
hash_root list = refl

hash_characters : (list : List ℕ) → All IsUriCharacter (hash_path list)
unfolding hash_path
hash_characters list =
    All-append IsUriCharacter (codes "/g/dists/s/main/binary-amd64/by-hash/SHA256/") (encode_lower (sha256 list))
    (AllPass-from_list_all is_uri_character (codes "/g/dists/s/main/binary-amd64/by-hash/SHA256/") refl) (digits (sha256 list) (sha_bytes list))

digest_path : (list : List ℕ) → IsPath (hash_path list)
digest_path list = record { short = let is = length-hash list in omega (arith, is); rooted = hash_root list; characters = hash_characters list }

-- ---- URIs

abbrev host : ℕ → List ℕ
host source = codes "h" ++ (48 + source) ∷ codes ".example"

abbrev is_letter : ℕ → Bool
is_letter c = nat_le 97 c && nat_le c 122

letter : (c : ℕ) → is_letter c ≡ true → IsHostCharacter c
letter c is =
    let low : 97 ≤ c = grind (arith, nat_tests) in
    let high : c ≤ 122 = grind (arith, nat_tests) in
    ((λ e. omega (arith, e, low)), (λ e. omega (arith, e, low)), (λ e. omega (arith, e, low)), omega (arith, low), omega (arith, high))

number : (source : ℕ) → source < 4 → IsHostCharacter (48 + source)
number source few = ((λ e. omega (arith, e, few)), (λ e. omega (arith, e, few)), (λ e. omega (arith, e, few)), omega (arith, few), omega (arith, few))

dot : IsHostCharacter 46
dot = (eqb-false 46 47 refl, eqb-false 46 64 refl, eqb-false 46 63 refl, lit< tt, lit< tt)

letters : (text : List ℕ) → list_all is_letter text ≡ true → All IsHostCharacter text
letters text is = All-weaker (λ c. is_letter c ≡ true) IsHostCharacter letter text (AllPass-from_list_all is_letter text is)

differs : (a b : ℕ) → not (a == b) ≡ true → a ≢ b
differs a b isnt e = elim (cases_Bool (a == b)) [ inl same ↦ (let off = rw same at isnt in absurd (cc)) | inr other ↦ eqb-false a b other e ]

abbrev IsOther : ℕ → Type 0
IsOther c = c ≢ 58

others : (text : List ℕ) → list_all (λ c. not (c == 58)) text ≡ true → Each IsOther text
others [] is = tt
others (c ∷ text) is = let p = and_parts (not (c == 58)) (list_all (λ c. not (c == 58)) text) is in (differs c 58 p.0, others text p.1)

no_colon : (text : List ℕ) (k : ℕ) → Each IsOther text → slice_get text k ≡ Some 58 → ⊥
no_colon [] k other e = absurd (cc)
no_colon (c ∷ text) zero other e = other.0 (same_Some c 58 e)
no_colon (c ∷ text) (suc k) other e = no_colon text k other.1 e

host_other : (source : ℕ) → source < 4 → Each IsOther (host source)
host_other source few = (eqb-false 104 58 refl, ((λ e. omega (arith, e, few)), others (codes ".example") refl))

sound_host : (source : ℕ) → source < 4 → IsHttpHost (host source)
sound_host source few = record {
  nonempty = λ e. eqb-false (length (host source)) 0 refl (ap (λ (l : List ℕ). length l) e);
  plain = All-cons IsHostCharacter 104 ((48 + source) ∷ codes ".example") (letter 104 refl)
      (All-cons IsHostCharacter (48 + source) (codes ".example") (number source few) (All-cons IsHostCharacter 46 (codes "example") dot (letters (codes "example") refl)));
  colons = λ k e. absurd (no_colon (host source) k (host_other source few) e);
}

sound_uri : (source : ℕ) (path : List ℕ) → source < 4 → IsPath path → IsSound (uri_of source path)
unfolding uri_of text_of_parts
sound_uri source path few is = record {
  short = let s = is.short in omega (arith, s);
  rooted = is.rooted;
  path = is.characters;
  authority = sound_host source few;
  port = lit< tt;
}

-- ---- each answer

record IsRow (row : Uri × Answer) : Type 0 where
  uri : IsSound row.0
  answer : IsSoundAnswer row.1

served : (source : ℕ) (path bytes : List ℕ) → source < 4 → IsPath path → IsRow (uri_of source path, Served bytes)
served source path bytes few is = record { uri = sound_uri source path few is; answer = tt }

moved : (source : ℕ) (path to : List ℕ) → source < 4 → IsPath path → IsPath to → IsRow (uri_of source path, Moved (Some (uri_of source to)))
moved source path to few is there = record { uri = sound_uri source path few is; answer = sound_uri source to few there }

first_each : (n : ℕ) → Each IsRow (first_mirror n)
unfolding first_before first_rows release_rows list_rows
first_each n = (
  served 0 _ _ (lit< tt) release_path,
  (
    served 0 _ _ (lit< tt) (digest_path _),
    (
      served 1 _ _ (lit< tt) release_path,
      (
        served 1 _ _ (lit< tt) list_path,
        (
          moved 2 _ _ (lit< tt) release_path moved_path,
          (
            served 2 _ _ (lit< tt) moved_path,
            (
              served 2 _ _ (lit< tt) list_path,
              (
                served 3 _ _ (lit< tt) release_path,
                (served 3 _ _ (lit< tt) list_path, tt),
              ),
            ),
          ),
        ),
      ),
    ),
  ),
)

second_each : (n : ℕ) → Each IsRow (second_mirror n)
unfolding second_before second_rows release_rows list_rows patch_rows
second_each n = (
  served 0 _ _ (lit< tt) release_path,
  (
    served 0 _ _ (lit< tt) (digest_path _),
    (
      served 1 _ _ (lit< tt) release_path,
      (
        served 1 _ _ (lit< tt) list_path,
        (
          served 1 _ _ (lit< tt) index_path,
          (
            served 1 _ _ (lit< tt) patch_path,
            (
              moved 2 _ _ (lit< tt) release_path moved_path,
              (
                served 2 _ _ (lit< tt) moved_path,
                (
                  served 2 _ _ (lit< tt) list_path,
                  (
                    served 3 _ _ (lit< tt) release_path,
                    (served 3 _ _ (lit< tt) list_path, (served 3 _ _ (lit< tt) index_path, (served 3 _ _ (lit< tt) patch_path, tt))),
                  ),
                ),
              ),
            ),
          ),
        ),
      ),
    ),
  ),
)

-- ---- distinct URIs: the second byte of the host and the length of the path tell them apart

abbrev key : Uri → ℕ
key uri = slice_index uri.host 1 * 1000 + length uri.path

abbrev keys : MirrorMap → List ℕ
keys [] = []
keys (row ∷ rows) = key row.0 ∷ keys rows

abbrev are_apart : List ℕ → Bool
are_apart [] = true
are_apart (k ∷ ks) = list_all (λ other. not (k == other)) ks && are_apart ks

abbrev Differ : Uri × Answer → Uri × Answer → Type 0
Differ a b = a.0 ≢ b.0

differ_from : (row : Uri × Answer) (rows : MirrorMap) → list_all (λ other. not (key row.0 == other)) (keys rows) ≡ true → Each (Differ row) rows
differ_from row [] is = tt
differ_from row (other ∷ rows) is =
    let p = and_parts (not (key row.0 == key other.0)) (list_all (λ other. not (key row.0 == other)) (keys rows)) is in
    ((λ e. differs (key row.0) (key other.0) p.0 (ap key e)), differ_from row rows p.1)

apart : (rows : MirrorMap) → are_apart (keys rows) ≡ true → AllPairs Differ rows
apart [] is = λ i j d before within. absurd (omega (arith, within))
apart (row ∷ rows) is =
    let p = and_parts (list_all (λ other. not (key row.0 == other)) (keys rows)) (are_apart (keys rows)) is in
    AllPairs-cons Differ row rows (All-from_recursion (Differ row) rows (differ_from row rows p.0)) (apart rows p.1)

first_keys : (n : ℕ) → keys (first_mirror n)
    ≡ 48018 ∷ (48000 + length (hash_path (lists_in n 0).first)) ∷ 49018 ∷ 49037 ∷ 50018 ∷ 50002 ∷ 50037 ∷ 51018 ∷ 51037 ∷ []
unfolding first_before first_rows release_rows list_rows uri_of
first_keys n = refl

second_keys : (n : ℕ) → keys (second_mirror n)
    ≡ 48018 ∷ (48000 + length (hash_path (lists_in n 0).second)) ∷ 49018 ∷ 49037 ∷ 49048 ∷ 49045 ∷ 50018 ∷ 50002 ∷ 50037 ∷ 51018 ∷ 51037 ∷ 51048 ∷ 51045 ∷ []
unfolding second_before second_rows release_rows list_rows patch_rows uri_of
second_keys n = refl

first_apart : (n : ℕ) → are_apart (keys (first_mirror n)) ≡ true
first_apart n =
    ap are_apart (first_keys n ∙ ap (λ (k : ℕ). 48018 ∷ (48000 + k) ∷ 49018 ∷ 49037 ∷ 50018 ∷ 50002 ∷ 50037 ∷ 51018 ∷ 51037 ∷ []) (length-hash (lists_in n 0).first))

second_apart : (n : ℕ) → are_apart (keys (second_mirror n)) ≡ true
second_apart n =
    ap are_apart (second_keys n ∙ ap (λ (k : ℕ). 48018 ∷ (48000 + k) ∷ 49018 ∷ 49037 ∷ 49048 ∷ 49045 ∷ 50018 ∷ 50002 ∷ 50037 ∷ 51018 ∷ 51037 ∷ 51048 ∷ 51045 ∷ []) (length-hash (lists_in n 0).second))

-- ---- both mirrors

abbrev pub mirror : MirrorMap → Mirror
mirror rows = record { rows = rows }

uris : (rows : MirrorMap) → Each IsRow rows → All (λ row. IsSound row.0) rows
uris rows each = All-weaker IsRow (λ row. IsSound row.0) (λ row is. is.uri) rows (All-from_recursion IsRow rows each)

answers : (rows : MirrorMap) → Each IsRow rows → All (λ row. IsSoundAnswer row.1) rows
answers rows each = All-weaker IsRow (λ row. IsSoundAnswer row.1) (λ row is. is.answer) rows (All-from_recursion IsRow rows each)

pub first_sound : (n : ℕ) → IsSoundMirror (mirror (first_mirror n))
first_sound n = record {
  distinct = apart (first_mirror n) (first_apart n);
  uris = uris (first_mirror n) (first_each n);
  answers = answers (first_mirror n) (first_each n);
}

pub second_sound : (n : ℕ) → IsSoundMirror (mirror (second_mirror n))
second_sound n = record {
  distinct = apart (second_mirror n) (second_apart n);
  uris = uris (second_mirror n) (second_each n);
  answers = answers (second_mirror n) (second_each n);
}
