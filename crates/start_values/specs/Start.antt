-- What a program makes of the words and variables that it was started with.
use Rattle.std.specs.Prelude.{◌≡◌, ◌≢◌, ◌⊎◌, ℕ, ◌-◌, ◌&&◌, nat_le, if◌then◌else◌, List, [], ◌∷◌, codes, All, Option, Some, None, IsSomeAnd, IfSome, IfOk, Result, String, IsUtf8}
use Rattle.start_values.specs.Environment.{Known, IsValue}
use Rattle.std.specs.Global.{Global}
use Rattle.start_values.specs.declared.environment.Unread.{Unread}
use Rattle.start_values.specs.declared.start.Start.{Start}
use Rattle.start_values.specs.declared.refused.Refused.{Refused}
use Rattle.start_values.specs.declared.refused.Refused.TheVariants.{Words, Environment, NoMemory}

-- a folder is the variable's value, or the usual one where it isn't set
abbrev pub folder_of : List ℕ → Option (List ℕ) → List ℕ
folder_of usual None = usual
folder_of usual (Some path) = path

-- a path is text, and not empty
abbrev pub IsPath : List ℕ → Type 0
IsPath bytes = IsUtf8 bytes × (bytes ≢ [])

-- a variable isn't set, so that the usual folder stands, or it is a path
abbrev pub NamesFolder : Option (List ℕ) → Type 0
NamesFolder value = IfSome value IsPath

-- it is set, and is no path
abbrev pub NamesNoFolder : Option (List ℕ) → Type 0
NamesNoFolder value = IsSomeAnd value (λ bytes. ¬ (IsPath bytes))

-- one digit from 0 to 8 is that number, and anything else counts as 4
abbrev pub lanes_of_byte : ℕ → ℕ
lanes_of_byte digit = if nat_le 48 digit && nat_le digit 56 then digit - 48 else 4

abbrev pub lanes_of : List ℕ → ℕ
lanes_of (digit ∷ []) = lanes_of_byte digit
lanes_of _ = 4

abbrev pub lanes_of_value : Option (List ℕ) → ℕ
lanes_of_value (Some text) = lanes_of text
lanes_of_value None = 4

-- whatever value was read with this answer says this many lanes
abbrev pub SaysLanes : Result (Option (String Global)) Unread → ℕ → Type 0
SaysLanes found lanes = (value : Option (List ℕ)) → IsValue value found → lanes ≡ lanes_of_value value

-- why reading the words gives no answer
abbrev pub IsWordsRefusal : Known → Refused → Type 0
IsWordsRefusal known Words = ¬ (All IsUtf8 known.words)
IsWordsRefusal known Environment = ⊥
IsWordsRefusal known NoMemory = Unit {0}

-- why reading a folder's variable of this value gives none
abbrev pub IsFolderRefusal : Option (List ℕ) → Refused → Type 0
IsFolderRefusal value Words = ⊥
IsFolderRefusal value Environment = NamesNoFolder value
IsFolderRefusal value NoMemory = Unit {0}

-- the two folders' variables, each unset or a path
abbrev pub NamesFolders : Known → Type 0
NamesFolders known = NamesFolder (known.value (codes "ACQUIRE_ETC")) × NamesFolder (known.value (codes "ACQUIRE_LISTS"))

-- a word is no text; or all are, and a folder's variable is no path; or memory ran out
abbrev pub IsRefusal : Known → Refused → Type 0
IsRefusal known Words = ¬ (All IsUtf8 known.words)
IsRefusal known Environment = All IsUtf8 known.words × (NamesNoFolder (known.value (codes "ACQUIRE_ETC")) ⊎ NamesNoFolder (known.value (codes "ACQUIRE_LISTS")))
IsRefusal known NoMemory = Unit {0}

-- P of what was started with and of what was made of it, where the one is told and the other was made
abbrev pub ForStart : {T : Type 0} → Option Known → Result Start T → (Known → Start → Type 0) → Type 0
ForStart told result P = IfSome told (λ known. IfOk result (P known))

-- the folders and the lanes that an environment says
abbrev pub etc_of : Known → List ℕ
etc_of known = folder_of (codes "/etc/apt") (known.value (codes "ACQUIRE_ETC"))

abbrev pub lists_of : Known → List ℕ
lists_of known = folder_of (codes "/var/lib/apt/lists") (known.value (codes "ACQUIRE_LISTS"))

abbrev pub place_of : Known → List ℕ
place_of known = folder_of (codes ".") (known.value (codes "ACQUIRE_PLACE"))

abbrev pub known_lanes : Known → ℕ
known_lanes known = lanes_of_value (known.value (codes "ACQUIRE_LANES"))
