-- Patches lie at sound URIs.
use Rattle.std.proofs.Common.{◌≡◌, ℕ, ◌≤◌, ◌==◌, ◌&&◌, inl, inr, Bool, true, false, not, nat_le, List, [], ◌∷◌, ◌++◌, length, IsTrue, Some, codes, refl, sym, subst, length-append, arith}
use Rattle.std.specs.List.{list_all, list_any, slice_get}
use Rattle.std.proofs.lemmas.Bool.{and_parts, eqb-true, or_cases, or_left}
use Rattle.std.proofs.lemmas.List.Elements.{All-append}
use Rattle.std.proofs.lemmas.List.Sums.{AllPass-from_list_all}
use Rattle.acq_base.specs.declared.uri.Scheme.{Scheme}
use Rattle.acq_base.specs.declared.uri.Scheme.TheVariants.{Http, File}
use Rattle.acq_base.specs.Uri.{text_of_parts, name_of_parts, is_alphanumeric, is_uri_character, port_text}
use Rattle.acq_base.proofs.Uris.{length-name}
use Rattle.pdiff_index.specs.Index.{are_dots, is_name, is_name_character}
use Rattle.update_model.specs.Laws.{PatchUrisAreSound, PatchUrisAreShort}

-- ---- the characters of a patch's name

is-uri-character : (c d : ℕ) → (c == d) ≡ true → is_uri_character d ≡ true → is_uri_character c ≡ true
is-uri-character c d same is = subst (λ x. is_uri_character x ≡ true) (sym (eqb-true c d same)) is

name-character : (c : ℕ) → is_name_character c ≡ true → is_uri_character c ≡ true
name-character c h = elim (or_cases (is_alphanumeric c) (list_any (λ d. c == d) (codes "._-+")) h) [
  | inl plain ↦ or_left (is_alphanumeric c) (list_any (λ d. c == d) (codes "-._~:/?[]@!$&'()*+,;=%")) plain
  | inr one ↦ elim (or_cases (c == 46) (list_any (λ d. c == d) (codes "_-+")) one) [
    | inl dot ↦ is-uri-character c 46 dot refl
    | inr two ↦ elim (or_cases (c == 95) (list_any (λ d. c == d) (codes "-+")) two) [
      | inl low ↦ is-uri-character c 95 low refl
      | inr three ↦ elim (or_cases (c == 45) (list_any (λ d. c == d) (codes "+")) three) [
        | inl dash ↦ is-uri-character c 45 dash refl
        | inr four ↦ elim (or_cases (c == 43) false four) [ inl plus ↦ is-uri-character c 43 plus refl | inr none ↦ absurd (cc) ]
      ]
    ]
  ]
]

name-characters : (name : List ℕ) → list_all is_name_character name ≡ true → list_all is_uri_character name ≡ true
name-characters [] h = refl
name-characters (c ∷ name) h =
    let parts = and_parts (is_name_character c) (list_all is_name_character name) h in
    rw (name-character c parts.0) (name-characters name parts.1)

-- ---- sound

rooted : (path more : List ℕ) → slice_get path 0 ≡ Some 47 → slice_get (path ++ more) 0 ≡ Some 47
rooted [] more is = absurd (cc)
rooted (c ∷ path) more is = is

middle : (a b c d : Bool) → (a && b && c && d) ≡ true → (b ≡ true) × (c ≡ true)
middle true true true d h = (refl, refl)
middle true true false d h = absurd (cc)
middle true false c d h = absurd (cc)
middle false b c d h = absurd (cc)

-- a name is short, and each of its characters is a name's
named-so : (name : List ℕ) → is_name name ≡ true → (nat_le (length name) 240 ≡ true) × (list_all is_name_character name ≡ true)
named-so name h = middle (nat_le 1 (length name)) (nat_le (length name) 240) (list_all is_name_character name) (not (are_dots name)) h

pub patches-sound : PatchUrisAreSound
patches-sound w name sound named short = record {
  short = short;
  rooted = rooted (w.uri.path ++ codes ".diff/") name (rooted w.uri.path (codes ".diff/") sound.rooted);
  path = All-append (λ c. IsTrue (is_uri_character c)) (w.uri.path ++ codes ".diff/") name
      (All-append (λ c. IsTrue (is_uri_character c)) w.uri.path (codes ".diff/") sound.path (AllPass-from_list_all is_uri_character (codes ".diff/") refl))
      (AllPass-from_list_all is_uri_character name (name-characters name (named-so name named).1));
  authority = sound.authority;
  port = sound.port;
}

-- ---- short

at_most : (name : List ℕ) → nat_le (length name) 240 ≡ true → length name ≤ 240
at_most name h = grind (arith, h)

text-short : (scheme : Scheme) (host : List ℕ) (port : ℕ) (path name : List ℕ) → length (name_of_parts scheme host port path) ≤ 240 → length name ≤ 240
    → length (text_of_parts scheme host port (path ++ codes ".diff/" ++ name)) ≤ 16384
unfolding name_of_parts text_of_parts
text-short Http host port path name named few =
    let whole = length-name (host ++ port_text port ++ path) in
    let front = length-append host (port_text port) in
    let before = length-append (host ++ port_text port) path in
    let after = length-append (host ++ port_text port) (path ++ codes ".diff/" ++ name) in
    let behind = length-append (path ++ codes ".diff/") name in
    let middle = length-append path (codes ".diff/") in
    omega (arith, whole, front, before, after, behind, middle, named, few)
text-short File host port path name named few =
    let whole = length-name path in
    let behind = length-append (path ++ codes ".diff/") name in
    let middle = length-append path (codes ".diff/") in
    omega (arith, whole, behind, middle, named, few)

pub patches-short : PatchUrisAreShort
patches-short w name named is = text-short w.uri.scheme w.uri.host w.uri.port w.uri.path name named (at_most name (named-so name is).0)
