-- The statements of apt.conf(5): which tokens they are, and the pairs that they give.
use Rattle.std.specs.Prelude.{ℕ, ◌-◌, ◌==◌, ◌&&◌, nat_lt, Bool, true, false, if◌then◌else◌, List, [], ◌∷◌, ◌++◌, length, take, Option, Some, None, Result, Ok, Err, codes}
use Rattle.std.specs.List.{flat_map}
use Rattle.apt_conf.specs.declared.error.ConfError.{ConfError}
use Rattle.apt_conf.specs.declared.error.ConfError.TheVariants.{BadConf}
use Rattle.apt_conf.specs.declared.token.Token.{Token}
use Rattle.apt_conf.specs.declared.token.Token.TheVariants.{Word, Quoted, Semicolon, Open, Close, Torn}
use Rattle.apt_conf.specs.declared.statement.Part.{Part}
use Rattle.apt_conf.specs.declared.statement.Part.TheVariants.{Start, Listed, Named, Valued}
use Rattle.apt_conf.specs.declared.statement.Step.{Step}
use Rattle.apt_conf.specs.declared.statement.Step.TheVariants.{Goes, Sets, Enters, SetsAndEnters, Leaves, Stops}
use Rattle.apt_conf.specs.Keys.{Pair, is_key, has_empty_part}
use Rattle.apt_conf.specs.Tokens.{Placed}

infixl 10 ◌>>=◌
abbrev pub ◌>>=◌ : {A B : Type 0} → Result A ConfError → (A → Result B ConfError) → Result B ConfError
(Ok x) >>= f = f x
(Err e) >>= f = Err e

-- Where a token leads within one statement, which is one of
--   `;`   VALUE `;`   KEY `;`   KEY VALUE `;`   KEY `{`   KEY VALUE `{`   `}`
-- with a quoted VALUE where it stands alone.
unfoldable pub step_at_start : Token → Step
step_at_start (Word text) = if is_key text then Goes (Named text) else Stops
step_at_start (Quoted text) = Goes Listed
step_at_start Semicolon = Goes Start
step_at_start Open = Stops
step_at_start Close = Leaves
step_at_start Torn = Stops

unfoldable pub step_when_listed : Token → Step
step_when_listed (Word text) = Stops
step_when_listed (Quoted text) = Stops
step_when_listed Semicolon = Goes Start
step_when_listed Open = Stops
step_when_listed Close = Stops
step_when_listed Torn = Stops

unfoldable pub step_when_named : List ℕ → Token → Step
step_when_named key (Word text) = Goes (Valued key text)
step_when_named key (Quoted text) = Goes (Valued key text)
step_when_named key Semicolon = Goes Start
step_when_named key Open = Enters key
step_when_named key Close = Stops
step_when_named key Torn = Stops

unfoldable pub step_when_valued : List ℕ → List ℕ → Token → Step
step_when_valued key value (Word text) = Stops
step_when_valued key value (Quoted text) = Stops
step_when_valued key value Semicolon = Sets key value
step_when_valued key value Open = SetsAndEnters key value
step_when_valued key value Close = Stops
step_when_valued key value Torn = Stops

abbrev pub step_of : Part → Token → Step
step_of Start token = step_at_start token
step_of Listed token = step_when_listed token
step_of (Named key) token = step_when_named key token
step_of (Valued key value) token = step_when_valued key value token

-- a place in the text: the keys of the blocks that are open, outermost first, and the part of a statement
pub record Place : Type 0 where
  pub blocks : List (List ℕ)
  pub part : Part

abbrev pub start : Place
start = record { blocks = []; part = Start }

-- what stands before each key inside these blocks
abbrev pub prefix_of : List (List ℕ) → List ℕ
prefix_of blocks = flat_map (λ key. key ++ codes "::") blocks

-- a key with an empty part is read and gives nothing
abbrev pub given : List ℕ → List ℕ → List Pair
given key value = if has_empty_part key then [] else (key, value) ∷ []

-- the pairs that a token completes, and the place behind it
pub record Moved : Type 0 where
  pub pairs : List Pair
  pub place : Place

abbrev pub moved_to : List Pair → List (List ℕ) → Part → Option Moved
moved_to pairs blocks part = Some (record { pairs = pairs; place = record { blocks = blocks; part = part } })

-- blocks nest at most 16 deep
abbrev pub entered : List (List ℕ) → List ℕ → List Pair → Option Moved
entered blocks key pairs = if nat_lt (length blocks) 16 then moved_to pairs (blocks ++ key ∷ []) Start else None

abbrev pub left : List (List ℕ) → Option Moved
left blocks = if length blocks == 0 then None else moved_to [] (take (length blocks - 1) blocks) Start

abbrev pub moved_by : List (List ℕ) → Step → Option Moved
moved_by blocks (Goes part) = moved_to [] blocks part
moved_by blocks (Sets key value) = moved_to (given (prefix_of blocks ++ key) value) blocks Start
moved_by blocks (Enters key) = entered blocks key []
moved_by blocks (SetsAndEnters key value) = entered blocks key (given (prefix_of blocks ++ key) value)
moved_by blocks Leaves = left blocks
moved_by blocks Stops = None

abbrev pub moved : Place → Token → Option Moved
moved place token = moved_by place.blocks (step_of place.part token)

-- reading stops on this line where a token leads nowhere
abbrev pub on_line : ℕ → Option Moved → Result Moved ConfError
on_line line (Some m) = Ok m
on_line line None = Err (BadConf line)

-- nothing is left unclosed
abbrev pub is_start : Part → Bool
is_start Start = true
is_start Listed = false
is_start (Named key) = false
is_start (Valued key value) = false

abbrev pub is_closed : Place → Bool
is_closed place = length place.blocks == 0 && is_start place.part

-- the pairs of a list of tokens, read from a place; what the end leaves unclosed is refused on the last line
unfoldable pub pairs_from : ℕ → Place → List Placed → Result (List Pair) ConfError
pairs_from last place [] = if is_closed place then Ok [] else Err (BadConf last)
pairs_from last place (t ∷ rest) =
    on_line t.line (moved place t.token) >>= λ m. pairs_from last m.place rest >>= λ pairs. Ok (m.pairs ++ pairs)
