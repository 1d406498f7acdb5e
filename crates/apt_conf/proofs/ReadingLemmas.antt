-- What is read so far, and then the reading of the rest, is the reading of all.
use Rattle.std.proofs.Common.{◌≡◌, ◌≢◌, ℕ, ◌≤◌, Bool, false, List, [], ◌∷◌, ◌++◌, length, take, drop, Option, Some, None, Result, Ok, Err, IfErr, refl, sym, ap, subst, ◌∙◌, append_assoc, arith}
use Rattle.std.specs.Prelude.{if◌then◌else◌}
use Rattle.std.proofs.lemmas.List.{append-nil}
use Rattle.apt_conf.specs.declared.error.ConfError.{ConfError}
use Rattle.apt_conf.specs.declared.error.ConfError.TheVariants.{LongFile, BadConf, BadValue, NoMemory}
use Rattle.apt_conf.specs.declared.entry.Entry.{Entry}
use Rattle.apt_conf.specs.declared.token.Token.{Token}
use Rattle.apt_conf.specs.Answers.{Fails}
use Rattle.apt_conf.specs.Keys.{Pair}
use Rattle.apt_conf.specs.Lexemes.{lexeme_at, extent}
use Rattle.apt_conf.specs.Tokens.{Placed, line_behind, front_token, token_line, placed, tokens_from}
use Rattle.apt_conf.specs.Entries.{pairs_in}
use Rattle.apt_conf.specs.Statements.{◌>>=◌, Place, Moved, on_line, is_closed, pairs_from}
use Rattle.apt_conf.specs.Progress.{State, Steps, Ends, AreRead, Reads, taken}
use Rattle.apt_conf.proofs.EntryLemmas.{appended}
use Rattle.apt_conf.proofs.TokenLemmas.{tokens_from-front}

-- what was read before, and what is still read
abbrev pub with_front : List Pair → Result (List Pair) ConfError → Result (List Pair) ConfError
with_front front read = read >>= λ pairs. Ok (front ++ pairs)

-- reading goes on behind a step
abbrev behind : ℕ → List Placed → Result Moved ConfError → Result (List Pair) ConfError
behind last tokens read = read >>= λ m. pairs_from last m.place tokens >>= λ pairs. Ok (m.pairs ++ pairs)

regroup : (front pairs : List Pair) (read : Result (List Pair) ConfError) → with_front front (read >>= λ more. Ok (pairs ++ more)) ≡ with_front (front ++ pairs) read
regroup front pairs (Ok more) = ap (λ (ps : List Pair). Ok ps) (sym (append_assoc front pairs more))
regroup front pairs (Err e) = refl

none_read : (read : Result (List Pair) ConfError) → read ≡ (read >>= λ more. Ok ([] ++ more))
none_read (Ok more) = refl
none_read (Err e) = refl

-- the tokens of the rest, led by what stands at its front
pairs_from-front : (last line : ℕ) (place : Place) (token : Option Token) (tokens : List Placed) → pairs_from last place (placed line token ++ tokens) ≡ behind last tokens (on_line line (taken place token))
unfolding pairs_from
pairs_from-front last line place (Some token) tokens = refl
pairs_from-front last line place None tokens = none_read (pairs_from last place tokens)

-- what was read, and what the rest reads as
abbrev pub so_far : ℕ → ℕ → State → List ℕ → Result (List Pair) ConfError
so_far last line state rest = with_front state.pairs (pairs_from last state.place (tokens_from last line 0 rest))

-- the step that a lexeme at the front is
abbrev front_step : ℕ → ℕ → Place → List ℕ → Result Moved ConfError
front_step last line place rest = on_line (token_line last line (lexeme_at rest)) (taken place (front_token (lexeme_at rest) rest))

so_far-front : (last line n : ℕ) (state : State) (rest : List ℕ) → rest ≢ [] → n ≡ extent (lexeme_at rest) → 1 ≤ n
    → so_far last line state rest ≡ with_front state.pairs (behind last (tokens_from last (line_behind line (take n rest)) 0 (drop n rest)) (front_step last line state.place rest))
so_far-front last line n state rest some e positive =
    ap (λ (ts : List Placed). with_front state.pairs (pairs_from last state.place ts)) (tokens_from-front last line n rest some e positive)
    ∙ ap (with_front state.pairs) (pairs_from-front last (token_line last line (lexeme_at rest)) state.place (front_token (lexeme_at rest) rest) (tokens_from last (line_behind line (take n rest)) 0 (drop n rest)))

stepped : {T : Type 0} (x : T) (last : ℕ) (old new : State) (tokens : List Placed) (step : Result Moved ConfError) (total : Result (List Pair) ConfError)
    → Steps old new (Ok x) step → with_front old.pairs (behind last tokens step) ≡ total → with_front new.pairs (pairs_from last new.place tokens) ≡ total
stepped x last old new tokens (Ok m) total e before =
    ap (λ (s : State). with_front s.pairs (pairs_from last s.place tokens)) e ∙ sym (regroup old.pairs m.pairs (pairs_from last m.place tokens)) ∙ before
stepped x last old new tokens (Err e) total a before = absurd a

-- a lexeme that was taken, with what the code calls its line and rest
pub goes_on : {T : Type 0} (x : T) (last line behind n : ℕ) (old new : State) (rest front left : List ℕ) (total : Result (List Pair) ConfError) → rest ≢ [] → n ≡ extent (lexeme_at rest) → 1 ≤ n
    → Steps old new (Ok x) (front_step last line old.place rest) → behind ≡ line_behind line front → front ≡ take n rest → left ≡ drop n rest
    → so_far last line old rest ≡ total → so_far last behind new left ≡ total
goes_on x last line behind n old new rest front left total some e positive a b f l before =
    ap (λ (k : ℕ). so_far last k new left) (b ∙ ap (line_behind line) f)
    ∙ ap (λ (r : List ℕ). so_far last (line_behind line (take n rest)) new r) l
    ∙ stepped x last old new (tokens_from last (line_behind line (take n rest)) 0 (drop n rest)) (front_step last line old.place rest) total a (sym (so_far-front last line n old rest some e positive) ∙ before)

-- an error that a step is refused with
fails_behind : (e : ConfError) (last : ℕ) (front : List Pair) (tokens : List Placed) (step : Result Moved ConfError) (total : Result (List Pair) ConfError) → Fails e step → with_front front (behind last tokens step) ≡ total → Fails e total
fails_behind LongFile last front tokens step total h before = sym before ∙ ap (λ (s : Result Moved ConfError). with_front front (behind last tokens s)) h
fails_behind (BadConf line) last front tokens step total h before = sym before ∙ ap (λ (s : Result Moved ConfError). with_front front (behind last tokens s)) h
fails_behind (BadValue key) last front tokens step total h before = sym before ∙ ap (λ (s : Result Moved ConfError). with_front front (behind last tokens s)) h
fails_behind NoMemory last front tokens step total h before = tt

pub stops : (e : ConfError) (last line n : ℕ) (old : State) (rest : List ℕ) (read : Result (List Pair) ConfError) → rest ≢ [] → n ≡ extent (lexeme_at rest) → 1 ≤ n
    → Fails e (front_step last line old.place rest) → so_far last line old rest ≡ read → Fails e read
stops e last line n old rest read some x positive h before =
    fails_behind e last old.pairs (tokens_from last (line_behind line (take n rest)) 0 (drop n rest)) (front_step last line old.place rest) read h (sym (so_far-front last line n old rest some x positive) ∙ before)

-- ---- the beginning and the end of a text

pub from_nothing : (read : Result (List Pair) ConfError) → with_front [] read ≡ read
from_nothing (Ok pairs) = refl
from_nothing (Err e) = refl

pub ends_closed : (last line : ℕ) (state : State) (entries : List Entry) (rest : List ℕ) (read : Result (List Pair) ConfError) → length rest ≡ 0 → so_far last line state rest ≡ read → Ends state entries → AreRead entries read
unfolding pairs_from tokens_from
ends_closed last line state entries [] read none before end = record {
  pairs = sym before ∙ ap (λ (b : Bool). with_front state.pairs (if b then Ok [] else Err (BadConf last))) end.closed ∙ ap (λ (ps : List Pair). Ok ps) (append-nil state.pairs ∙ sym end.pairs);
  fresh = end.fresh;
}
ends_closed last line state entries (c ∷ rest) read none before end = absurd (omega arith)

pub ends_open : {T : Type 0} (last line : ℕ) (state : State) (result : Result T ConfError) (rest : List ℕ) (read : Result (List Pair) ConfError) → length rest ≡ 0 → so_far last line state rest ≡ read
    → IfErr result (λ error. (is_closed state.place ≡ false) × (error ≡ BadConf last)) → IfErr result (λ error. Fails error read)
unfolding pairs_from tokens_from
ends_open last line state (Ok x) rest read none before end = tt
ends_open last line state (Err error) [] read none before end =
    subst (λ (e : ConfError). Fails e read) (sym end.1) (sym before ∙ ap (λ (b : Bool). with_front state.pairs (if b then Ok [] else Err (BadConf last))) end.0)
ends_open last line state (Err error) (c ∷ rest) read none before end = absurd (omega arith)

-- a text's entries behind those before
pub adds_read : (old read new : List Entry) (found : Result (List Pair) ConfError) → AreRead read found → new ≡ old ++ read → Reads old new (Ok tt) found
adds_read old read new (Ok pairs) r e = appended old read new r.fresh e ∙ ap (λ (ps : List Pair). pairs_in [] old ++ ps) (let same : pairs ≡ pairs_in [] read = cc in sym same)
adds_read old read new (Err d) r e = absurd (let both = r.pairs in cc)
