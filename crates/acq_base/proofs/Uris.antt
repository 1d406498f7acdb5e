-- What URIs and list names are made of: schemes, characters, and what stands for a byte.
use Rattle.std.proofs.Common.{◌≡◌, ℕ, ◌≤◌, ◌<◌, ◌==◌, ◌||◌, true, List, [], ◌∷◌, length, IsTrue, inl, inr, codes, slice_index, refl, length-append, arith}
use Rattle.std.specs.List.{flat_map, list_any}
use Rattle.std.proofs.lemmas.Bool.{cases_Bool}
use Rattle.std.proofs.lemmas.Bool.Decides.{nat_tests}
use Rattle.std.proofs.lemmas.List.Elements.{All-get_or}
use Rattle.std.proofs.lemmas.List.Sums.{AllPass-from_list_all}
use Rattle.hex.specs.Hex.{lower_digits}
use Rattle.acq_base.specs.declared.uri.Scheme.{Scheme}
use Rattle.acq_base.specs.declared.uri.Scheme.TheVariants.{Http, File}
use Rattle.acq_base.specs.Uri.{scheme_index, is_alphanumeric, is_uri_character, name_byte}

pub scheme_is : (a b : Scheme) → (scheme_index a == scheme_index b) ≡ true → a ≡ b
scheme_is Http Http same = refl
scheme_is Http File same = absurd cc
scheme_is File Http same = absurd cc
scheme_is File File same = refl

pub alphanumeric_small : (c : ℕ) → is_alphanumeric c ≡ true → c < 128
alphanumeric_small c is = grind (arith, nat_tests)

-- a hexadecimal digit is a character of a URI
pub digit_fits : (k : ℕ) → k < 16 → IsTrue (is_uri_character (slice_index lower_digits k))
digit_fits k below = All-get_or (λ c. IsTrue (is_uri_character c)) lower_digits k 0 below (AllPass-from_list_all is_uri_character lower_digits refl)

-- a byte of a path takes at least one byte of its list name
pub length-name_byte : (c : ℕ) → 1 ≤ length (name_byte c)
length-name_byte c =
    elim (cases_Bool (c == 47)) [
      | inl is ↦ rw is (omega arith)
      | inr isnt ↦
          elim (cases_Bool (is_alphanumeric c || list_any (λ d. c == d) (codes ".-+:"))) [
            | inl plain ↦ rw (isnt, plain) (omega arith)
            | inr escaped ↦ rw (isnt, escaped) (omega arith)
          ]
    ]

pub length-name : (xs : List ℕ) → length xs ≤ length (flat_map name_byte xs)
length-name [] = omega arith
length-name (c ∷ xs) =
    let one = length-name_byte c in
    let more = length-name xs in
    let both = length-append (name_byte c) (flat_map name_byte xs) in omega (arith, one, more, both)
