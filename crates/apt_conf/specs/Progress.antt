-- What one step of reading does.
use Rattle.std.specs.Prelude.{◌≡◌, ℕ, ◌≤◌, true, List, [], ◌++◌, length, take, Option, Some, None, Result, Ok, Err}
use Rattle.apt_conf.specs.declared.error.ConfError.{ConfError}
use Rattle.apt_conf.specs.declared.entry.Entry.{Entry}
use Rattle.apt_conf.specs.declared.statement.Part.{Part}
use Rattle.apt_conf.specs.declared.token.Token.{Token}
use Rattle.apt_conf.specs.Answers.{Fails}
use Rattle.apt_conf.specs.Keys.{Pair}
use Rattle.apt_conf.specs.Entries.{last_key, pairs_in, IsFresh}
use Rattle.apt_conf.specs.Statements.{Place, Moved, start, prefix_of, moved, is_closed}

-- a lexeme takes a byte at least, and no more than there are
pub record IsExtent (extent len : ℕ) : Type 0 where
  pub some : 1 ≤ extent
  pub within : extent ≤ len

-- the pairs that were read, and the place that was come to
pub record State : Type 0 where
  pub pairs : List Pair
  pub place : Place

abbrev pub nothing_read : State
nothing_read = record { pairs = []; place = start }

abbrev pub state_of : List Entry → List (List ℕ) → Part → State
state_of entries blocks part = record { pairs = pairs_in [] entries; place = record { blocks = blocks; part = part } }

-- the entries end in a key that begins with what stands before the keys in these blocks
pub record IsAt (entries : List Entry) (blocks : List (List ℕ)) (prefix : ℕ) : Type 0 where
  pub measured : prefix ≡ length (prefix_of blocks)
  pub kept : take prefix (last_key [] entries) ≡ prefix_of blocks
  pub fresh : IsFresh entries

-- a step added its pairs and led to its place, or was refused
abbrev pub Steps : {T : Type 0} → State → State → Result T ConfError → Result Moved ConfError → Type 0
Steps old new (Ok x) (Ok m) = new ≡ record { pairs = old.pairs ++ m.pairs; place = m.place }
Steps old new (Ok x) (Err e) = ⊥
Steps old new (Err e) read = Fails e read

-- white space and comments lead nowhere
abbrev pub taken : Place → Option Token → Option Moved
taken place (Some token) = moved place token
taken place None = Some (record { pairs = []; place = place })

-- nothing is left open, and these entries have the pairs
pub record Ends (state : State) (entries : List Entry) : Type 0 where
  pub closed : is_closed state.place ≡ true
  pub pairs : pairs_in [] entries ≡ state.pairs
  pub fresh : IsFresh entries

-- entries are what a text reads as
pub record AreRead (entries : List Entry) (read : Result (List Pair) ConfError) : Type 0 where
  pub pairs : read ≡ Ok (pairs_in [] entries)
  pub fresh : IsFresh entries

-- a reading added its pairs, or was refused
abbrev pub Reads : List Entry → List Entry → Result (Unit {0}) ConfError → Result (List Pair) ConfError → Type 0
Reads old new (Ok x) (Ok pairs) = pairs_in [] new ≡ pairs_in [] old ++ pairs
Reads old new (Ok x) (Err e) = ⊥
Reads old new (Err e) read = Fails e read
