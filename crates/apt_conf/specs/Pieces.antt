-- Texts of apt.conf(5) that are written piece by piece: white space, comments and tokens, one behind the other.
use Rattle.std.specs.Prelude.{◌≡◌, ◌≢◌, ◌⊎◌, ℕ, Bool, true, false, List, [], ◌∷◌, ◌++◌, take, slice_index, Option, Some, None, All}
use Rattle.apt_conf.specs.declared.token.Token.{Token}
use Rattle.apt_conf.specs.declared.token.Token.TheVariants.{Word, Quoted, Semicolon, Open, Close, Torn}
use Rattle.apt_conf.specs.Lexemes.{is_command}
use Rattle.apt_conf.specs.Tokens.{Placed, line_behind, placed}

-- a byte of white space; a carriage return and a line feed; a comment to the line's end behind `#` or `//`, a comment
-- between `/*` and `*/`, each with the bytes in it; or a token
pub data Piece : Type 0 where
  space : ℕ → Piece
  line_end : Piece
  hash_comment : List ℕ → Piece
  slash_comment : List ℕ → Piece
  closed_comment : List ℕ → Piece
  token : Token → Piece

-- ---- how pieces are spelled

unfoldable pub token_text : Token → List ℕ
token_text (Word text) = text
token_text (Quoted text) = 34 ∷ text ++ 34 ∷ []
token_text Semicolon = 59 ∷ []
token_text Open = 123 ∷ []
token_text Close = 125 ∷ []
token_text Torn = []

unfoldable pub piece_text : Piece → List ℕ
piece_text (space c) = c ∷ []
piece_text line_end = 13 ∷ 10 ∷ []
piece_text (hash_comment text) = 35 ∷ text
piece_text (slash_comment text) = 47 ∷ 47 ∷ text
piece_text (closed_comment text) = 47 ∷ 42 ∷ text ++ 42 ∷ 47 ∷ []
piece_text (token t) = token_text t

unfoldable pub text_of : List Piece → List ℕ
text_of [] = []
text_of (piece ∷ behind) = piece_text piece ++ text_of behind

-- ---- which pieces may stand where

-- this holds of any two bytes side by side
unfoldable pub EachPair : (ℕ → ℕ → Type 0) → List ℕ → Type 0
EachPair P [] = Unit {0}
EachPair P (c ∷ []) = Unit {0}
EachPair P (c ∷ d ∷ rest) = P c d × EachPair P (d ∷ rest)

-- a byte of a word: no white space, none of `"`, `;`, `{`, `}`, and no `#`
abbrev pub IsWordByte : ℕ → Type 0
IsWordByte c = (c ≢ 32) × (c ≢ 9) × (c ≢ 10) × (c ≢ 34) × (c ≢ 59) × (c ≢ 123) × (c ≢ 125) × (c ≢ 35)

-- no `//`, no `/*`, and no carriage return before a line feed
abbrev pub NothingBegins : ℕ → ℕ → Type 0
NothingBegins c d = (c ≡ 47 → (d ≢ 47) × (d ≢ 42)) × (c ≡ 13 → d ≢ 10)

-- a word, before this text: it isn't empty, and no comment or line's end begins in it
abbrev pub IsWord : List ℕ → List ℕ → Type 0
IsWord word behind = (word ≢ []) × All IsWordByte word × EachPair NothingBegins (word ++ take 1 behind)

-- what can stand in quotes: no line feed, a `"` only behind a `\`, and no `\` at the end
abbrev pub IsQuotable : List ℕ → Type 0
IsQuotable text = All (λ c. c ≢ 10) text × EachPair (λ c d. d ≡ 34 → c ≡ 92) (34 ∷ text) × ((front : List ℕ) → text ≢ front ++ 92 ∷ [])

-- the text ends here, or the line does
abbrev pub EndsLine : List ℕ → Type 0
EndsLine behind = (behind ≡ []) ⊎ (slice_index behind 0 ≡ 10)

-- a token that may stand here, directly behind a word or not: no word stands directly behind a word
unfoldable pub IsToken : Bool → Token → List ℕ → Type 0
IsToken behind_word (Word text) behind = (behind_word ≡ false) × IsWord text behind
IsToken behind_word (Quoted text) behind = IsQuotable text
IsToken behind_word Semicolon behind = Unit {0}
IsToken behind_word Open behind = Unit {0}
IsToken behind_word Close behind = Unit {0}
IsToken behind_word Torn behind = ⊥

-- a piece that may stand here, before this text: a comment to the line's end has no line feed in it and one or the text's
-- end behind it, a `#` begins no command but directly behind a word, and no `*/` stands in a comment between `/*` and `*/`
unfoldable pub IsPiece : Bool → Piece → List ℕ → Type 0
IsPiece behind_word (space c) behind = (c ≡ 32) ⊎ ((c ≡ 9) ⊎ (c ≡ 10))
IsPiece behind_word line_end behind = Unit {0}
IsPiece behind_word (hash_comment text) behind =
    All (λ c. c ≢ 10) text × EndsLine behind × (behind_word ≡ false → is_command (35 ∷ text ++ behind) ≡ false)
IsPiece behind_word (slash_comment text) behind = All (λ c. c ≢ 10) text × EndsLine behind
IsPiece behind_word (closed_comment text) behind = EachPair (λ c d. c ≡ 42 → d ≢ 47) text
IsPiece behind_word (token t) behind = IsToken behind_word t behind

abbrev pub is_word_token : Token → Bool
is_word_token (Word text) = true
is_word_token (Quoted text) = false
is_word_token Semicolon = false
is_word_token Open = false
is_word_token Close = false
is_word_token Torn = false

abbrev pub is_word_piece : Piece → Bool
is_word_piece (space c) = false
is_word_piece line_end = false
is_word_piece (hash_comment text) = false
is_word_piece (slash_comment text) = false
is_word_piece (closed_comment text) = false
is_word_piece (token t) = is_word_token t

unfoldable pub ArePieces : Bool → List Piece → Type 0
ArePieces behind_word [] = Unit {0}
ArePieces behind_word (piece ∷ behind) = IsPiece behind_word piece (text_of behind) × ArePieces (is_word_piece piece) behind

-- ---- their tokens, each on the line on which it begins

abbrev pub token_in : Piece → Option Token
token_in (space c) = None
token_in line_end = None
token_in (hash_comment text) = None
token_in (slash_comment text) = None
token_in (closed_comment text) = None
token_in (token t) = Some t

unfoldable pub tokens_in : ℕ → List Piece → List Placed
tokens_in line [] = []
tokens_in line (piece ∷ behind) = placed line (token_in piece) ++ tokens_in (line_behind line (piece_text piece)) behind

-- a text that is written in these pieces, from its beginning to its end
abbrev pub IsWritten : List ℕ → List Piece → Type 0
IsWritten text pieces = (text ≡ text_of pieces) × ArePieces false pieces

-- a text that is written in some pieces
abbrev pub IsInPieces : List ℕ → Type 0
IsInPieces text = (pieces : List Piece) × IsWritten text pieces
