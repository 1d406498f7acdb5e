-- The tokens of a text, one lexeme after the other.
use Rattle.std.proofs.Common.{◌≡◌, ◌≢◌, ℕ, zero, suc, ◌-◌, ◌≤◌, List, [], ◌∷◌, ◌++◌, take, drop, refl, ap, ◌∙◌, arith}
use Rattle.apt_conf.specs.Lexemes.{lexeme_at, extent}
use Rattle.apt_conf.specs.Tokens.{Placed, next_line, line_behind, token_of, tokens_from}

-- passing over bytes counts their lines
tokens_from-passed : (last line k : ℕ) (text : List ℕ) → tokens_from last line k text ≡ tokens_from last (line_behind line (take k text)) 0 (drop k text)
unfolding tokens_from line_behind
tokens_from-passed last line zero [] = refl
tokens_from-passed last line (suc k) [] = refl
tokens_from-passed last line zero (c ∷ rest) = refl
tokens_from-passed last line (suc k) (c ∷ rest) = tokens_from-passed last (next_line line c) k rest

-- the lexeme at the front, and then the tokens behind it
pub tokens_from-front : (last line n : ℕ) (text : List ℕ) → text ≢ [] → n ≡ extent (lexeme_at text) → 1 ≤ n
    → tokens_from last line 0 text ≡ token_of last line (lexeme_at text) text ++ tokens_from last (line_behind line (take n text)) 0 (drop n text)
unfolding tokens_from line_behind
tokens_from-front last line zero text some e positive = absurd (omega arith)
tokens_from-front last line (suc m) [] some e positive = absurd (some refl)
tokens_from-front last line (suc m) (c ∷ rest) some e positive =
    let k : extent (lexeme_at (c ∷ rest)) - 1 ≡ m = omega (arith, e) in
    ap (λ (n : ℕ). token_of last line (lexeme_at (c ∷ rest)) (c ∷ rest) ++ tokens_from last (next_line line c) n rest) k
    ∙ ap (λ (ts : List Placed). token_of last line (lexeme_at (c ∷ rest)) (c ∷ rest) ++ ts) (tokens_from-passed last (next_line line c) m rest)
