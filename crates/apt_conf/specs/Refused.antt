-- On which line a text of apt.conf(5) is refused, in terms of the statements that its tokens could begin.
use Rattle.std.specs.Prelude.{◌≡◌, ◌⊎◌, ◌<◌, ℕ, List, [], ◌∷◌, ◌++◌, length, map}
use Rattle.apt_conf.specs.declared.error.ConfError.{ConfError}
use Rattle.apt_conf.specs.declared.error.ConfError.TheVariants.{LongFile, BadConf, BadValue, NoMemory}
use Rattle.apt_conf.specs.declared.token.Token.{Token}
use Rattle.apt_conf.specs.Tokens.{Placed, last_line, tokens_of}
use Rattle.apt_conf.specs.Grammar.{Items, spelled, AreItems}

abbrev pub unplaced : List Placed → List Token
unplaced tokens = map (λ t. t.token) tokens

-- the tokens spell nested statements, blocks at most 16 deep
abbrev pub AreStatements : List Token → Type 0
AreStatements tokens = (items : Items) × AreItems 16 items × (tokens ≡ spelled items)

-- with some tokens behind them, or none, they do
abbrev pub CanGoOn : List Token → Type 0
CanGoOn tokens = (more : List Token) × AreStatements (tokens ++ more)

-- the token on this line is the first with which they can't
pub record IsFirstWrong (tokens : List Placed) (line : ℕ) : Type 0 where
  pub before : List Placed
  pub wrong : Placed
  pub behind : List Placed
  pub split : tokens ≡ before ++ wrong ∷ behind
  pub allowed : CanGoOn (unplaced before)
  pub refused : CanGoOn (unplaced (before ++ wrong ∷ [])) → ⊥
  pub placed : line ≡ wrong.line

-- they can go on, and have to
abbrev pub IsLeftOpen : List Token → Type 0
IsLeftOpen tokens = CanGoOn tokens × (AreStatements tokens → ⊥)

-- the line of the first token that no statements allow behind those before it, or the last line, where all are allowed and
-- the text leaves a statement or a block open
abbrev pub IsRefusedOn : List ℕ → ℕ → Type 0
IsRefusedOn text line = IsFirstWrong (tokens_of text) line ⊎ (IsLeftOpen (unplaced (tokens_of text)) × (line ≡ last_line text))

-- want of memory is free
abbrev pub IsRefused : List ℕ → ConfError → Type 0
IsRefused text LongFile = 1048576 < length text
IsRefused text (BadConf line) = IsRefusedOn text line
IsRefused text (BadValue key) = ⊥
IsRefused text NoMemory = Unit {0}
