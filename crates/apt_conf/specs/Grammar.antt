-- Nested statements of apt.conf(5) as a tree: how they are spelled, and which keys they set.
use Rattle.std.specs.Prelude.{◌≡◌, ℕ, ◌-◌, ◌<◌, Bool, true, false, List, [], ◌∷◌, ◌++◌, map}
use Rattle.apt_conf.specs.declared.token.Token.{Token}
use Rattle.apt_conf.specs.declared.token.Token.TheVariants.{Word, Quoted, Semicolon, Open, Close}
use Rattle.apt_conf.specs.Keys.{Pair, is_key}
use Rattle.apt_conf.specs.Tokens.{tokens_of}
use Rattle.apt_conf.specs.Statements.{given, prefix_of}

-- statements, each with those behind it
pub data Items : Type 0 where
  nothing : Items
  empty : Items → Items
  listed : List ℕ → Items → Items
  named : List ℕ → Items → Items
  sets : List ℕ → Bool → List ℕ → Items → Items
  block : List ℕ → Items → Items → Items
  sets_block : List ℕ → Bool → List ℕ → Items → Items → Items

-- a value is quoted or a word
abbrev pub value_token : Bool → List ℕ → Token
value_token true value = Quoted value
value_token false value = Word value

-- `;`   "VALUE";   KEY;   KEY VALUE;   KEY { items }   KEY VALUE { items }
unfoldable pub spelled : Items → List Token
spelled nothing = []
spelled (empty rest) = Semicolon ∷ spelled rest
spelled (listed value rest) = Quoted value ∷ Semicolon ∷ spelled rest
spelled (named key rest) = Word key ∷ Semicolon ∷ spelled rest
spelled (sets key quoted value rest) = Word key ∷ value_token quoted value ∷ Semicolon ∷ spelled rest
spelled (block key inside rest) = Word key ∷ Open ∷ spelled inside ++ Close ∷ spelled rest
spelled (sets_block key quoted value inside rest) = Word key ∷ value_token quoted value ∷ Open ∷ spelled inside ++ Close ∷ spelled rest

-- the pairs that they give inside of these blocks: a block puts its key and `::` before the keys in it alone
unfoldable pub given_by : List (List ℕ) → Items → List Pair
given_by blocks nothing = []
given_by blocks (empty rest) = given_by blocks rest
given_by blocks (listed value rest) = given_by blocks rest
given_by blocks (named key rest) = given_by blocks rest
given_by blocks (sets key quoted value rest) = given (prefix_of blocks ++ key) value ++ given_by blocks rest
given_by blocks (block key inside rest) = given_by (blocks ++ key ∷ []) inside ++ given_by blocks rest
given_by blocks (sets_block key quoted value inside rest) =
    given (prefix_of blocks ++ key) value ++ (given_by (blocks ++ key ∷ []) inside ++ given_by blocks rest)

-- keys are keys, and so many blocks may stand in one another
unfoldable pub AreItems : ℕ → Items → Type 0
AreItems room nothing = Unit {0}
AreItems room (empty rest) = AreItems room rest
AreItems room (listed value rest) = AreItems room rest
AreItems room (named key rest) = (is_key key ≡ true) × AreItems room rest
AreItems room (sets key quoted value rest) = (is_key key ≡ true) × AreItems room rest
AreItems room (block key inside rest) = (is_key key ≡ true) × (0 < room) × AreItems (room - 1) inside × AreItems room rest
AreItems room (sets_block key quoted value inside rest) = (is_key key ≡ true) × (0 < room) × AreItems (room - 1) inside × AreItems room rest

-- a text spells statements where its tokens do, whatever white space and comments stand between them
abbrev pub Spells : List ℕ → Items → Type 0
Spells text items = map (λ t. t.token) (tokens_of text) ≡ spelled items

-- what was added to pairs: those of statements that the text spells, blocks at most 16 deep
pub record Adds (old : List Pair) (text : List ℕ) (new : List Pair) : Type 0 where
  pub items : Items
  pub are_items : AreItems 16 items
  pub spells : Spells text items
  pub added : new ≡ old ++ given_by [] items
