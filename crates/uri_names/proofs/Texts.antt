-- Texts of ASCII are UTF-8, and where a `:` stands.
use Rattle.std.proofs.Common.{◌≡◌, ℕ, ◌<◌, nat_le, nat_lt, true, Bool, List, [], ◌∷◌, length, get_or, refl, inl, inr, lit<, arith, rules, tests}
use Rattle.std.specs.Char.{is_ascii, is_ascii_graphic}
use Rattle.std.specs.List.{list_all, list_any, position_or_len}
use Rattle.std.specs.Str.{IsUtf8, IsAscii}
use Rattle.std.proofs.lemmas.Bool.{cases_lt, and_parts}
use Rattle.std.proofs.lemmas.List.Sums.{AllPass-from_list_all}
use Rattle.std.proofs.lemmas.List.{get_or_past}
use Rattle.std.proofs.lemmas.Str.{IsUtf8-from_ascii}
use Rattle.uri_names.specs.Reading.{is_uri_text, is_colon}

-- bytes that are each below 128 are ASCII
all_below : (p : ℕ → Bool) → ((c : ℕ) → p c ≡ true → c < 128) → (text : List ℕ) → list_all p text ≡ true → IsAscii text
all_below p low text h =
    λ i. elim (cases_lt i (length text)) [
      | inl inside ↦ low (get_or text i 0) (AllPass-from_list_all p text h i 0 inside)
      | inr past ↦ rw (get_or_past text i 0 past) (lit< tt)
    ]

pub utf8_if_ascii : (text : List ℕ) → list_all is_ascii text ≡ true → IsUtf8 text
utf8_if_ascii text h = IsUtf8-from_ascii text (all_below is_ascii (λ c e. search (rules, tests)) text h)

pub utf8_if_visible : (text : List ℕ) → is_uri_text text ≡ true → IsUtf8 text
unfolding is_uri_text
utf8_if_visible text h = IsUtf8-from_ascii text (all_below is_ascii_graphic (λ c e. grind (arith, tests)) text (and_parts (nat_le (length text) 4096) (list_all is_ascii_graphic text) h).1)

-- a `:` is there exactly where its place is one of the text
pub colon_is_there : (text : List ℕ) → list_any is_colon text ≡ nat_lt (position_or_len is_colon text) (length text)
colon_is_there [] = refl
colon_is_there (c ∷ text) = let later = colon_is_there text in grind (arith, tests)
