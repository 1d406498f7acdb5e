-- What a text of apt.conf(5) or the word of an option gives.
use Rattle.std.specs.Prelude.{ℕ, ◌+◌, ◌==◌, nat_lt, if◌then◌else◌, List, length, take, drop, Result, Ok, Err}
use Rattle.apt_conf.specs.declared.error.ConfError.{ConfError}
use Rattle.apt_conf.specs.declared.error.ConfError.TheVariants.{LongFile, BadConf}
use Rattle.apt_conf.specs.Keys.{Pair, is_key}
use Rattle.apt_conf.specs.Lexemes.{length_until, is_equals_sign}
use Rattle.apt_conf.specs.Tokens.{last_line, tokens_of}
use Rattle.apt_conf.specs.Statements.{start, given, pairs_from}

-- the pairs of a file, which has at most 1,048,576 bytes
unfoldable pub pairs_of : List ℕ → Result (List Pair) ConfError
pairs_of text = if nat_lt 1048576 (length text) then Err LongFile else pairs_from (last_line text) start (tokens_of text)

-- the pair of a word KEY=VALUE, split at its first `=`
unfoldable pub pair_of : List ℕ → Result (List Pair) ConfError
pair_of word =
    let n = length_until is_equals_sign word in
    if n == length word then Err (BadConf 1)
    else (if is_key (take n word) then Ok (given (take n word) (drop (n + 1) word)) else Err (BadConf 1))

-- a refusal, or that all went well
abbrev pub answer : {A : Type 0} → Result A ConfError → Result (Unit {0}) ConfError
answer (Ok x) = Ok tt
answer (Err e) = Err e
