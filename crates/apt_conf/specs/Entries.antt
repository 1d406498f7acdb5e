-- How pairs are kept: each entry takes over the front of the key before it, so that the key of a block stands once.
use Rattle.std.specs.Prelude.{◌≡◌, ℕ, List, [], ◌∷◌, ◌++◌, take, Option, Some, None}
use Rattle.apt_conf.specs.declared.entry.Entry.{Entry}
use Rattle.apt_conf.specs.Keys.{Pair}
use Rattle.apt_conf.specs.Statements.{given}

-- the key of an entry behind the one with the key `before`
abbrev pub key_of : List ℕ → Entry → List ℕ
key_of before entry = take entry.shared before ++ entry.rest

-- the key of the last of these entries
unfoldable pub last_key : List ℕ → List Entry → List ℕ
last_key before [] = before
last_key before (entry ∷ entries) = last_key (key_of before entry) entries

-- an entry without a value only moves the key
abbrev pub given_if : List ℕ → Option (List ℕ) → List Pair
given_if key (Some value) = given key value
given_if key None = []

-- the pairs that entries stand for
unfoldable pub pairs_in : List ℕ → List Entry → List Pair
pairs_in before [] = []
pairs_in before (entry ∷ entries) = given_if (key_of before entry) entry.value ++ pairs_in (key_of before entry) entries

-- the first of the entries takes over nothing
abbrev pub IsFresh : List Entry → Type 0
IsFresh [] = Unit {0}
IsFresh (entry ∷ entries) = entry.shared ≡ 0
