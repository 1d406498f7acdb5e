-- What words and variables in memory are.
use Rattle.std.specs.Prelude.{◌≡◌, ℕ, nat_eq, if◌then◌else◌, List, [], ◌∷◌, Option, Some, None, Result, Ok, Err, String, string_bytes, IsUtf8}
use Rattle.std.specs.Global.{Global}
use Rattle.std.specs.Cmp.Lexicographic.{pointwise}
use Rattle.start_values.specs.Environment.{Known}
use Rattle.start_values.specs.declared.environment.Unread.{Unread}
use Rattle.start_values.specs.declared.environment.Unread.TheVariants.{NotText, NoMemory}
use Rattle.start_values.specs.declared.mem_environment.MemEnvironment.{MemEnvironment}

-- the value of the first variable of this name
abbrev pub value_in : List (List ℕ × List ℕ) → List ℕ → Option (List ℕ)
value_in [] name = None
value_in (variable ∷ variables) name = if pointwise nat_eq variable.0 name then Some variable.1 else value_in variables name

abbrev pub known_by : MemEnvironment → Known
known_by environment = record { words = environment.words; value = value_in environment.variables }

-- bytes were read as they are, or they are no text, or memory ran out
abbrev pub IsText : List ℕ → Result (String Global) Unread → Type 0
IsText bytes (Ok text) = string_bytes text ≡ bytes
IsText bytes (Err NotText) = ¬ (IsUtf8 bytes)
IsText bytes (Err NoMemory) = Unit {0}
