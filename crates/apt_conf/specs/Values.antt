-- What the values of settings read as, each on its own.
use Rattle.std.specs.Prelude.{ℕ, ◌==◌, ◌&&◌, ◌||◌, not, nat_le, Bool, true, false, if◌then◌else◌, List, [], ◌∷◌, length, Option, Some, None, codes, bytes_eq}
use Rattle.std.specs.List.{list_any, list_all}
use Rattle.acq_base.specs.Digits.{number_of_digits}
use Rattle.acq_base.specs.Settings.{is_architecture, is_language}
use Rattle.acq_base.specs.Words.{is_blank_or_comma, words}
use Rattle.acq_base.specs.declared.plan.ByHash.{ByHash}
use Rattle.acq_base.specs.declared.plan.ByHash.TheVariants.{No, Yes, Force}
use Rattle.acq_base.specs.declared.settings.Pick.{Pick}
use Rattle.apt_conf.specs.declared.values.Words.{Words}
use Rattle.apt_conf.specs.declared.values.Words.TheVariants.{Architectures, Languages, Kinds}
use Rattle.apt_conf.specs.Keys.{same_key}

unfoldable pub is_picked_kind : List ℕ → Bool
is_picked_kind text = bytes_eq text (codes "Packages") || bytes_eq text (codes "Sources") || bytes_eq text (codes "Translations")

-- which words may stand in a list
abbrev pub is_allowed : Words → List ℕ → Bool
is_allowed Architectures = is_architecture
is_allowed Languages = is_language
is_allowed Kinds = is_picked_kind

-- one architecture
abbrev pub architecture_of : List ℕ → Option (List ℕ)
architecture_of text = if is_architecture text then Some text else None

-- the words of a list, if there is one and each is allowed
abbrev pub checked : Words → List (List ℕ) → Option (List (List ℕ))
checked kind found = if not (length found == 0) && list_all (is_allowed kind) found then Some found else None

abbrev pub listed : Words → List ℕ → Option (List (List ℕ))
listed kind text = checked kind (words is_blank_or_comma text)

-- the word `none` alone stands for no language
abbrev pub but_none : List (List ℕ) → List (List ℕ)
but_none [] = []
but_none (first ∷ []) = if bytes_eq first (codes "none") then [] else first ∷ []
but_none (first ∷ second ∷ others) = first ∷ second ∷ others

-- the kinds that words name
abbrev pub picked : List (List ℕ) → Pick
picked names = record {
  packages = list_any (λ name. bytes_eq name (codes "Packages")) names;
  sources = list_any (λ name. bytes_eq name (codes "Sources")) names;
  translations = list_any (λ name. bytes_eq name (codes "Translations")) names;
}

abbrev pub up_to : ℕ → Option ℕ → Option ℕ
up_to most None = None
up_to most (Some number) = if nat_le number most then Some number else None

-- 1 to 10 decimal digits, of a number up to this one
unfoldable pub number_of : ℕ → List ℕ → Option ℕ
number_of most text = if nat_le (length text) 10 then up_to most (number_of_digits text) else None

unfoldable pub by_hash_of : List ℕ → Option ByHash
by_hash_of text =
    if bytes_eq text (codes "yes") then Some Yes
    else if bytes_eq text (codes "no") then Some No
    else if bytes_eq text (codes "force") then Some Force
    else None

-- the words of yes and of no, ASCII case aside
unfoldable pub means_yes : List ℕ → Bool
means_yes text = same_key text (codes "yes") || same_key text (codes "true") || same_key text (codes "with") || same_key text (codes "on") || same_key text (codes "enable") || same_key text (codes "1")

unfoldable pub means_no : List ℕ → Bool
means_no text = same_key text (codes "no") || same_key text (codes "false") || same_key text (codes "without") || same_key text (codes "off") || same_key text (codes "disable") || same_key text (codes "0")

unfoldable pub boolean_of : List ℕ → Option Bool
boolean_of text = if means_yes text then Some true else (if means_no text then Some false else None)
