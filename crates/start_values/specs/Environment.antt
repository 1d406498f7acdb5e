-- What a process was started with, and what it means to read it.
use Rattle.std.specs.Prelude.{◌≡◌, ℕ, List, map, All, Option, option_map, IsSomeAnd, Result, Ok, Err, String, string_bytes, IsUtf8}
use Rattle.std.specs.Global.{Vec, Global}
use Rattle.start_values.specs.declared.environment.Unread.{Unread}
use Rattle.start_values.specs.declared.environment.Unread.TheVariants.{NotText, NoMemory}

-- all words, the program's own name first, and the value of each variable that is set
pub record Known : Type 0 where
  pub words : List (List ℕ)
  pub value : List ℕ → Option (List ℕ)

-- the words were read as they are, or one of them is no text, or memory ran out
abbrev pub IsWords : List (List ℕ) → Result (Vec (String Global)) Unread → Type 0
IsWords words (Ok read) = (map string_bytes read.items ≡ words) × All IsUtf8 words
IsWords words (Err NotText) = ¬ (All IsUtf8 words)
IsWords words (Err NoMemory) = Unit {0}

-- the value was read as it is, or it is no text, or memory ran out
abbrev pub IsValue : Option (List ℕ) → Result (Option (String Global)) Unread → Type 0
IsValue value (Ok found) = option_map string_bytes found ≡ value
IsValue value (Err NotText) = IsSomeAnd value (λ bytes. ¬ (IsUtf8 bytes))
IsValue value (Err NoMemory) = Unit {0}
