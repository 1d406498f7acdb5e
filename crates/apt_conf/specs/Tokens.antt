-- The tokens of a text of apt.conf(5), each with its line.
use Rattle.std.specs.Prelude.{ℕ, zero, suc, ◌+◌, ◌-◌, ◌==◌, if◌then◌else◌, List, [], ◌∷◌, ◌++◌, take, drop, Option, Some, None}
use Rattle.apt_conf.specs.declared.lexeme.Lexeme.{Lexeme}
use Rattle.apt_conf.specs.declared.lexeme.Lexeme.TheVariants as lexemes
use Rattle.apt_conf.specs.declared.token.Token.{Token}
use Rattle.apt_conf.specs.declared.token.Token.TheVariants as tokens
use Rattle.apt_conf.specs.Lexemes.{lexeme_at, extent}

-- a token, and the line on which it begins
pub record Placed : Type 0 where
  pub line : ℕ
  pub token : Token

abbrev pub next_line : ℕ → ℕ → ℕ
next_line line c = if c == 10 then line + 1 else line

-- how many lines a text has: a final line feed opens no further line
unfoldable pub last_line : List ℕ → ℕ
last_line [] = 0
last_line (c ∷ []) = 1
last_line (c ∷ d ∷ rest) = next_line (last_line (d ∷ rest)) c

-- the line behind some bytes that begin on a line
unfoldable pub line_behind : ℕ → List ℕ → ℕ
line_behind line [] = line
line_behind line (c ∷ rest) = line_behind (next_line line c) rest

-- the token that stands at the front, if one does
abbrev pub front_token : Lexeme → List ℕ → Option Token
front_token (lexemes.Gap n) text = None
front_token (lexemes.Word n m) text = Some (tokens.Word (take n text))
front_token (lexemes.Quoted n) text = Some (tokens.Quoted (take n (drop 1 text)))
front_token lexemes.Semicolon text = Some tokens.Semicolon
front_token lexemes.Open text = Some tokens.Open
front_token lexemes.Close text = Some tokens.Close
front_token lexemes.Torn text = Some tokens.Torn
front_token lexemes.Unclosed text = Some tokens.Torn

-- a comment that nothing closes is refused on the last line
abbrev pub token_line : ℕ → ℕ → Lexeme → ℕ
token_line last line (lexemes.Gap n) = line
token_line last line (lexemes.Word n m) = line
token_line last line (lexemes.Quoted n) = line
token_line last line lexemes.Semicolon = line
token_line last line lexemes.Open = line
token_line last line lexemes.Close = line
token_line last line lexemes.Torn = line
token_line last line lexemes.Unclosed = last

abbrev pub placed : ℕ → Option Token → List Placed
placed line (Some token) = record { line = line; token = token } ∷ []
placed line None = []

abbrev pub token_of : ℕ → ℕ → Lexeme → List ℕ → List Placed
token_of last line lexeme text = placed (token_line last line lexeme) (front_token lexeme text)

-- the tokens of a rest of a text that begins on this line, its first bytes passed over
unfoldable pub tokens_from : ℕ → ℕ → ℕ → List ℕ → List Placed
tokens_from last line passed [] = []
tokens_from last line (suc passed) (c ∷ rest) = tokens_from last (next_line line c) passed rest
tokens_from last line zero (c ∷ rest) =
    token_of last line (lexeme_at (c ∷ rest)) (c ∷ rest) ++ tokens_from last (next_line line c) (extent (lexeme_at (c ∷ rest)) - 1) rest

abbrev pub tokens_of : List ℕ → List Placed
tokens_of text = tokens_from (last_line text) 1 0 text
