-- What stands at the front of a text of apt.conf(5): white space, a comment, or a word, a quoted value or a mark.
use Rattle.std.specs.Prelude.{ℕ, ◌+◌, ◌==◌, ◌&&◌, ◌||◌, not, nat_le, nat_eq, Bool, if◌then◌else◌, List, [], ◌∷◌, length, slice_index, drop, codes}
use Rattle.std.specs.List.{starts_with}
use Rattle.apt_conf.specs.declared.run.Stop.{Stop}
use Rattle.apt_conf.specs.declared.run.Stop.TheVariants.{LineFeed, EqualsSign, CommentEnd, WordEnd, LastQuoted}
use Rattle.apt_conf.specs.declared.lexeme.Lexeme.{Lexeme}
use Rattle.apt_conf.specs.declared.lexeme.Lexeme.TheVariants.{Gap, Word, Quoted, Semicolon, Open, Close, Torn, Unclosed}

-- how many bytes stand before the first place whose rest of the text passes a test, or all of them
unfoldable pub length_until : (List ℕ → Bool) → List ℕ → ℕ
length_until stops [] = 0
length_until stops (c ∷ rest) = if stops (c ∷ rest) then 0 else length_until stops rest + 1

-- The tests below look at the front of a text. Past its end `slice_index` reads the byte 0, which no rule names.

-- a blank or a line feed
abbrev pub is_space : List ℕ → Bool
is_space text = slice_index text 0 == 32 || slice_index text 0 == 9 || slice_index text 0 == 10

-- a carriage return just before a line feed belongs to the line's end
abbrev pub is_line_end : List ℕ → Bool
is_line_end text = slice_index text 0 == 13 && slice_index text 1 == 10

abbrev pub is_feed : List ℕ → Bool
is_feed text = slice_index text 0 == 10

abbrev pub is_equals_sign : List ℕ → Bool
is_equals_sign text = slice_index text 0 == 61

-- one of `"`, `;`, `{`, `}`
abbrev pub is_delimiter : List ℕ → Bool
is_delimiter text = slice_index text 0 == 34 || slice_index text 0 == 59 || slice_index text 0 == 123 || slice_index text 0 == 125

-- `#`, `//` or `/*`
abbrev pub opens_comment : List ℕ → Bool
opens_comment text = slice_index text 0 == 35 || (slice_index text 0 == 47 && (slice_index text 1 == 47 || slice_index text 1 == 42))

-- white space, a delimiter or the end
unfoldable pub is_boundary : List ℕ → Bool
is_boundary text = length text == 0 || is_space text || is_line_end text || is_delimiter text

-- a word goes on to the next boundary or comment
unfoldable pub ends_word : List ℕ → Bool
ends_word text = is_boundary text || opens_comment text

-- this word, which ends there
unfoldable pub is_word : List ℕ → List ℕ → Bool
is_word word text = starts_with nat_eq text word && is_boundary (drop (length word) text)

-- `#include` or `#clear`, alone in its word
unfoldable pub is_command : List ℕ → Bool
is_command text = is_word (codes "#include") text || is_word (codes "#clear") text

-- `*/`
unfoldable pub closes_comment : List ℕ → Bool
closes_comment text = slice_index text 0 == 42 && slice_index text 1 == 47

-- whether a quoted value stops behind this byte: at a line feed, or at a `"` that no `\` stands before
unfoldable pub closes_quote : List ℕ → Bool
closes_quote text = slice_index text 1 == 10 || (slice_index text 1 == 34 && not (slice_index text 0 == 92))

-- what a run of bytes stands before
abbrev pub stops_at : Stop → List ℕ → Bool
stops_at LineFeed = is_feed
stops_at EqualsSign = is_equals_sign
stops_at CommentEnd = closes_comment
stops_at WordEnd = ends_word
stops_at LastQuoted = closes_quote

-- the comment to the line's end
unfoldable pub line_comment : List ℕ → Lexeme
line_comment text = Gap (length_until is_feed (drop 1 text) + 1)

-- what begins with `/*`
unfoldable pub block_comment : List ℕ → Lexeme
block_comment text =
    let inside = length_until closes_comment (drop 2 text) in
    if nat_le (inside + 4) (length text) then Gap (inside + 4) else Unclosed

-- what begins with `#`, `//` or `/*`
unfoldable pub comment_at : List ℕ → Lexeme
comment_at text =
    if slice_index text 0 == 35 then (if is_command text then Torn else line_comment text)
    else (if slice_index text 1 == 47 then line_comment text else block_comment text)

-- what begins with `"`
unfoldable pub quoted_at : List ℕ → Lexeme
quoted_at text =
    let inside = length_until closes_quote text in
    if slice_index text (inside + 1) == 34 then Quoted inside else Torn

-- a word, and the comment that ends it where a `#` does: there no word begins, so it is no command
unfoldable pub word_at : List ℕ → Lexeme
word_at text =
    let n = length_until ends_word (drop 1 text) + 1 in
    Word n (if slice_index text n == 35 then length_until is_feed (drop n text) else 0)

-- what begins neither with white space nor with a comment
unfoldable pub token_at : List ℕ → Lexeme
token_at text =
    if slice_index text 0 == 34 then quoted_at text
    else if slice_index text 0 == 59 then Semicolon
    else if slice_index text 0 == 123 then Open
    else if slice_index text 0 == 125 then Close
    else word_at text

-- what stands at the front of a text that isn't empty
unfoldable pub lexeme_at : List ℕ → Lexeme
lexeme_at text =
    if is_space text then Gap 1
    else if is_line_end text then Gap 2
    else if opens_comment text then comment_at text
    else token_at text

-- how many bytes it takes
abbrev pub extent : Lexeme → ℕ
extent (Gap n) = n
extent (Word n m) = n + m
extent (Quoted n) = n + 2
extent Semicolon = 1
extent Open = 1
extent Close = 1
extent Torn = 1
extent Unclosed = 1
