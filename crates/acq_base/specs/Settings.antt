-- What the texts of settings are like: architectures and languages become parts of paths (apt.conf(5), sources.list(5)).
use Rattle.std.specs.Prelude.{◌≡◌, ◌≢◌, ℕ, ◌==◌, ◌&&◌, ◌||◌, not, Bool, true, List, [], length, codes, bytes_eq, All}
use Rattle.std.specs.List.{list_all, list_any}
use Rattle.std.specs.Char.{is_ascii_alphanumeric}
use Rattle.acq_base.specs.declared.settings.Settings.{Settings}

-- letters, digits and `._-+~:`
abbrev pub is_architecture_character : ℕ → Bool
is_architecture_character c = is_ascii_alphanumeric c || list_any (λ d. c == d) (codes "._-+~:")

-- such characters, at least one, and not the segment `..`
unfoldable pub is_architecture : List ℕ → Bool
is_architecture text = not (length text == 0) && list_all is_architecture_character text && not (bytes_eq text (codes ".."))

-- letters, digits, `_` and `-`
abbrev pub is_language_character : ℕ → Bool
is_language_character c = is_ascii_alphanumeric c || c == 95 || c == 45

-- such characters, at least one
unfoldable pub is_language : List ℕ → Bool
is_language text = not (length text == 0) && list_all is_language_character text

abbrev pub IsArchitecture : List ℕ → Type 0
IsArchitecture text = is_architecture text ≡ true

abbrev pub IsLanguage : List ℕ → Type 0
IsLanguage text = is_language text ≡ true

-- what the reader of settings gives and a plan may rely on
pub record IsSound (settings : Settings) : Type 0 where
  pub arch : IsArchitecture settings.arch
  pub some : settings.archs ≢ []
  pub archs : All IsArchitecture settings.archs
  pub langs : All IsLanguage settings.langs
