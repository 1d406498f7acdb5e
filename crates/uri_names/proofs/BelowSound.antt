-- What lies below a sound base is sound, its length aside.
use Rattle.std.proofs.Common.{◌≡◌, ℕ, suc, ◌+◌, ◌≤◌, inl, inr, true, ◌==◌, List, [], ◌∷◌, ◌++◌, length, All, IsTrue, Some, codes, refl, ap, length-append, arith}
use Rattle.std.specs.Str.{bytes_eq}
use Rattle.std.specs.List.{slice_split, slice_get, list_all, list_any}
use Rattle.std.proofs.lemmas.Bool.{cond_both, and_parts, or_cases, or_left, or_right, eqb-true}
use Rattle.std.proofs.lemmas.List.Elements.{All-nil, All-tail, All-append, All-weaker}
use Rattle.std.proofs.lemmas.Option.{same_Some}
use Rattle.acq_base.specs.declared.uri.Uri.{Uri}
use Rattle.acq_base.specs.declared.uri.Scheme.{Scheme}
use Rattle.acq_base.specs.declared.uri.Scheme.TheVariants.{Http, File}
use Rattle.acq_base.specs.Uri.{uri_text, text_of_parts, is_uri_character, IsSound}
use Rattle.uri_names.specs.Folder.{is_slash, resolved, joined, remove_dot_segments, below_of, is_below_character, AreBelowCharacters}
use Rattle.uri_names.proofs.Segments.{AllOf, split_all, joined_all, resolved_all, UnlessDots}
use Rattle.uri_names.proofs.Lengths.{weight-resolved, resolved_rooted, weight-split}

abbrev pub IsUriCharacter : ℕ → Type 0
IsUriCharacter c = IsTrue (is_uri_character c)

-- a list of parts isn't empty
record Starts (parts : List (List ℕ)) : Type 0 where
  head : List ℕ
  rest : List (List ℕ)
  is : parts ≡ head ∷ rest

starts : (text : List ℕ) → Starts (slice_split is_slash text)
starts text = first (slice_split is_slash text) (weight-split text)
  where
    first : (parts : List (List ℕ)) → length (joined parts) ≡ suc (length text) → Starts parts
    first [] e = absurd (omega (arith, e))
    first (p ∷ parts) e = record { head = p; rest = parts; is = refl }

-- the path without dot segments, where the path begins with a slash
pub removed : (text : List ℕ) → remove_dot_segments (47 ∷ text) ≡ joined (resolved (slice_split is_slash text))
unfolding remove_dot_segments
removed text = refl

pub removed_rooted : (text : List ℕ) → slice_get (remove_dot_segments (47 ∷ text)) 0 ≡ Some 47
removed_rooted text =
    let parts = starts text in
    rw (removed text, parts.is) (resolved_rooted parts.head parts.rest)

short_parts : (parts : List (List ℕ)) → Starts parts → length (joined (resolved parts)) ≤ length (joined parts)
short_parts parts some = rw some.is (weight-resolved some.head some.rest)

pub removed_all : (C : ℕ → Type 0) → C 47 → (text : List ℕ) → All C text → All C (remove_dot_segments (47 ∷ text))
removed_all C slash text all =
    let parts = split_all C text all in
    rw (removed text) (joined_all C slash _ (resolved_all (AllOf C) (slice_split is_slash text) (All-nil C) (All-weaker (AllOf C) (UnlessDots (AllOf C)) (λ s holds none. holds) _ parts)))

-- a path that begins with a slash
pub record IsRooted (path : List ℕ) : Type 0 where
  pub rest : List ℕ
  pub is : path ≡ 47 ∷ rest

pub root : (path : List ℕ) → slice_get path 0 ≡ Some 47 → IsRooted path
root [] e = cc
root (c ∷ path) e = record { rest = path; is = ap (λ x. x ∷ path) (same_Some c 47 e) }

removed_length : (path : List ℕ) → length (remove_dot_segments path) ≤ length path
unfolding remove_dot_segments
removed_length [] = omega arith
removed_length (c ∷ path) =
    let parts = slice_split is_slash path in
    cond_both (bytes_eq (c ∷ []) (codes "/")) (joined (resolved parts)) (c ∷ path) (λ r. length r ≤ suc (length path))
    (λ _. omega (arith, short_parts parts (starts path), weight-split path)) (λ _. omega arith)

longer : (scheme : Scheme) (host : List ℕ) (port : ℕ) (front path : List ℕ) → length (text_of_parts scheme host port (remove_dot_segments (front ++ path))) ≤ length (text_of_parts scheme host port front) + length path
unfolding text_of_parts
longer Http host port front path =
    let short = removed_length (front ++ path) in
    simp length-append (omega (arith, length-append front path))
longer File host port front path =
    let short = removed_length (front ++ path) in
    simp length-append (omega (arith, length-append front path))

-- each of the first characters is one of the second, so a test for the first passes that for the second
among : (xs ys : List ℕ) → list_all (λ d. list_any (λ e. d == e) ys) xs ≡ true → (c : ℕ) → list_any (λ d. c == d) xs ≡ true → list_any (λ e. c == e) ys ≡ true
among [] ys each c e = cc
among (x ∷ xs) ys each c e =
    let parts = and_parts _ _ each in
    elim (or_cases _ _ e) [
      | inl here ↦ rw (eqb-true c x here) parts.0
      | inr later ↦ among xs ys parts.1 c later
    ]

pub below_is_uri : (c : ℕ) → IsTrue (is_below_character c) → IsTrue (is_uri_character c)
below_is_uri c e =
    elim (or_cases _ _ e) [
      | inl letter ↦ or_left _ _ letter
      | inr mark ↦ or_right _ _ (among (codes "._-+~:/") (codes "-._~:/?[]@!$&'()*+,;=%") refl c mark)
    ]

pub below_short : (base : Uri) (path : List ℕ) → length (uri_text (below_of base path)) ≤ length (uri_text base) + length path
unfolding below_of
below_short base path = longer base.scheme base.host base.port base.path path

pub below_rooted : (front path : List ℕ) → slice_get front 0 ≡ Some 47 → slice_get (remove_dot_segments (front ++ path)) 0 ≡ Some 47
below_rooted front path rooted =
    let slash = root front rooted in
    rw (ap (λ p. p ++ path) slash.is) (removed_rooted (slash.rest ++ path))

pub below_characters : (front path : List ℕ) → slice_get front 0 ≡ Some 47 → All IsUriCharacter front → AreBelowCharacters path → All IsUriCharacter (remove_dot_segments (front ++ path))
below_characters front path rooted all characters =
    let slash = root front rooted in
    let whole : front ++ path ≡ 47 ∷ (slash.rest ++ path) = ap (λ p. p ++ path) slash.is in
    let both = All-append IsUriCharacter front path all (All-weaker (λ c. IsTrue (is_below_character c)) IsUriCharacter below_is_uri path characters) in
    rw whole (removed_all IsUriCharacter refl (slash.rest ++ path) (All-tail IsUriCharacter 47 (slash.rest ++ path) (rw whole at both)))

pub below_sound : (base : Uri) (path : List ℕ) → IsSound base → AreBelowCharacters path → length (uri_text (below_of base path)) ≤ 16384 → IsSound (below_of base path)
unfolding below_of
below_sound base path sound characters short = record {
  short = short;
  rooted = below_rooted base.path path sound.rooted;
  path = below_characters base.path path sound.rooted sound.path characters;
  authority = sound.authority;
  port = sound.port;
}
