-- Statements that a text spells are read.
use Rattle.std.proofs.Common.{◌≡◌, ℕ, ◌+◌, ◌-◌, ◌<◌, ◌≤◌, Bool, true, false, List, [], ◌∷◌, ◌++◌, length, map, take, Option, Some, None, Result, Ok, Err, refl, sym, ap, ◌∙◌, append_assoc, length-append, arith}
use Rattle.std.specs.Prelude.{if◌then◌else◌, nat_lt, nat_eq, option_map}
use Rattle.std.specs.Result.{result_ok}
use Rattle.std.proofs.lemmas.Bool.Decides.{nat_tests}
use Rattle.std.proofs.lemmas.List.{append-nil, take_at}
use Rattle.apt_conf.specs.declared.error.ConfError.{ConfError}
use Rattle.apt_conf.specs.declared.error.ConfError.TheVariants.{BadConf}
use Rattle.apt_conf.specs.declared.statement.Part.{Part}
use Rattle.apt_conf.specs.declared.statement.Part.TheVariants.{Start, Named, Valued}
use Rattle.apt_conf.specs.declared.token.Token.{Token}
use Rattle.apt_conf.specs.declared.token.Token.TheVariants.{Word, Quoted, Semicolon, Open, Close}
use Rattle.apt_conf.specs.Keys.{Pair, is_key}
use Rattle.apt_conf.specs.Tokens.{Placed, last_line, tokens_of}
use Rattle.apt_conf.specs.Statements.{◌>>=◌, Place, Moved, start, moved, on_line, is_closed, given, prefix_of, step_at_start, step_when_listed, step_when_named, step_when_valued, pairs_from}
use Rattle.apt_conf.specs.Reading.{pairs_of}
use Rattle.apt_conf.specs.Grammar.{Items, nothing, empty, listed, named, sets, block, sets_block, value_token, spelled, given_by, AreItems, Spells}

-- ---- the pairs of tokens, wherever they stand

abbrev pub front : List Pair → Option (List Pair) → Option (List Pair)
front pairs read = option_map (λ more. pairs ++ more) read

front-front : (a b : List Pair) (read : Option (List Pair)) → front a (front b read) ≡ front (a ++ b) read
front-front a b (Some pairs) = ap (λ (ps : List Pair). Some ps) (sym (append_assoc a b pairs))
front-front a b None = refl

pub front-nil : (read : Option (List Pair)) → front [] read ≡ read
front-nil (Some pairs) = refl
front-nil None = refl

abbrev pub after : Option Moved → (Place → Option (List Pair)) → Option (List Pair)
after (Some m) read = front m.pairs (read m.place)
after None read = None

unfoldable pub bare : Place → List Token → Option (List Pair)
bare place [] = if is_closed place then Some [] else None
bare place (t ∷ ts) = after (moved place t) (λ p. bare p ts)

closed_ok : (last : ℕ) (closed : Bool) → result_ok {T = List Pair} {E = ConfError} (if closed then Ok [] else Err (BadConf last)) ≡ (if closed then Some [] else None)
closed_ok last true = refl
closed_ok last false = refl

step_ok : (line : ℕ) (step : Option Moved) (read : Place → Result (List Pair) ConfError) (same : Place → Option (List Pair)) → ((p : Place) → result_ok (read p) ≡ same p)
    → result_ok (on_line line step >>= λ m. read m.place >>= λ pairs. Ok (m.pairs ++ pairs)) ≡ after step same
step_ok line None read same h = refl
step_ok line (Some m) read same h = inner (read m.place) ∙ ap (front m.pairs) (h m.place)
  where
    inner : (r : Result (List Pair) ConfError) → result_ok (r >>= λ pairs. Ok (m.pairs ++ pairs)) ≡ front m.pairs (result_ok r)
    inner (Ok pairs) = refl
    inner (Err e) = refl

pub pairs_from-bare : (last : ℕ) (place : Place) (ts : List Placed) → result_ok (pairs_from last place ts) ≡ bare place (map (λ t. t.token) ts)
unfolding pairs_from bare
pairs_from-bare last place [] = closed_ok last (is_closed place)
pairs_from-bare last place (t ∷ ts) = step_ok t.line (moved place t.token) (λ p. pairs_from last p ts) (λ p. bare p (map (λ s. s.token) ts)) (λ p. pairs_from-bare last p ts)

-- ---- statements are read

abbrev pub begin : List (List ℕ) → Place
begin blocks = record { blocks = blocks; part = Start }

abbrev pub at : List (List ℕ) → Part → Place
at blocks part = record { blocks = blocks; part = part }

-- a key begins a statement
pub key_step : (blocks : List (List ℕ)) (key : List ℕ) (ts : List Token) → is_key key ≡ true → bare (begin blocks) (Word key ∷ ts) ≡ bare (at blocks (Named key)) ts
unfolding bare step_at_start
key_step blocks key ts k = rw k (front-nil (bare (at blocks (Named key)) ts))

pub value_step : (blocks : List (List ℕ)) (key : List ℕ) (quoted : Bool) (value : List ℕ) (ts : List Token) → bare (at blocks (Named key)) (value_token quoted value ∷ ts) ≡ bare (at blocks (Valued key value)) ts
unfolding bare step_when_named
value_step blocks key true value ts = front-nil (bare (at blocks (Valued key value)) ts)
value_step blocks key false value ts = front-nil (bare (at blocks (Valued key value)) ts)

-- a block that is entered and left
pub enter_step : (blocks : List (List ℕ)) (key : List ℕ) (ts : List Token) → length blocks < 16 → bare (at blocks (Named key)) (Open ∷ ts) ≡ bare (begin (blocks ++ key ∷ [])) ts
unfolding bare step_when_named
enter_step blocks key ts lt =
    let t : nat_lt (length blocks) 16 ≡ true = grind (arith, nat_tests) in
    rw t (front-nil (bare (begin (blocks ++ key ∷ [])) ts))

pub set_and_enter_step : (blocks : List (List ℕ)) (key value : List ℕ) (ts : List Token) → length blocks < 16 → bare (at blocks (Valued key value)) (Open ∷ ts) ≡ front (given (prefix_of blocks ++ key) value) (bare (begin (blocks ++ key ∷ [])) ts)
unfolding bare step_when_valued
set_and_enter_step blocks key value ts lt =
    let t : nat_lt (length blocks) 16 ≡ true = grind (arith, nat_tests) in
    rw t refl

pub leave_step : (blocks : List (List ℕ)) (key : List ℕ) (ts : List Token) → bare (begin (blocks ++ key ∷ [])) (Close ∷ ts) ≡ bare (begin blocks) ts
unfolding bare step_at_start
leave_step blocks key ts =
    let n : length (blocks ++ key ∷ []) ≡ length blocks + 1 = length-append blocks (key ∷ []) in
    let t : nat_eq (length (blocks ++ key ∷ [])) 0 ≡ false = grind (arith, nat_tests) in
    let less : length blocks ≡ length (blocks ++ key ∷ []) - 1 = omega arith in
    let b : take (length (blocks ++ key ∷ []) - 1) (blocks ++ key ∷ []) ≡ blocks = take_at blocks (key ∷ []) (length (blocks ++ key ∷ []) - 1) less in
    rw (t, b) (front-nil (bare (begin blocks) ts))

-- behind a key: an end, a value and an end
pub end_step : (blocks : List (List ℕ)) (key : List ℕ) (ts : List Token) → bare (at blocks (Named key)) (Semicolon ∷ ts) ≡ bare (begin blocks) ts
unfolding bare step_when_named
end_step blocks key ts = front-nil (bare (begin blocks) ts)

pub set_step : (blocks : List (List ℕ)) (key value : List ℕ) (ts : List Token) → bare (at blocks (Valued key value)) (Semicolon ∷ ts) ≡ front (given (prefix_of blocks ++ key) value) (bare (begin blocks) ts)
unfolding bare step_when_valued
set_step blocks key value ts = refl

pub empty_step : (blocks : List (List ℕ)) (ts : List Token) → bare (begin blocks) (Semicolon ∷ ts) ≡ bare (begin blocks) ts
unfolding bare step_at_start
empty_step blocks ts = front-nil (bare (begin blocks) ts)

pub listed_step : (blocks : List (List ℕ)) (value : List ℕ) (ts : List Token) → bare (begin blocks) (Quoted value ∷ Semicolon ∷ ts) ≡ bare (begin blocks) ts
unfolding bare step_at_start step_when_listed
listed_step blocks value ts = front-nil (front [] (bare (begin blocks) ts)) ∙ front-nil (bare (begin blocks) ts)

pub deeper : (blocks : List (List ℕ)) (key : List ℕ) (room : ℕ) → room + length blocks ≡ 16 → 0 < room → (room - 1) + length (blocks ++ key ∷ []) ≡ 16
deeper blocks key room r some = omega (arith, length-append blocks (key ∷ []))

pub items_read : (items : Items) (room : ℕ) (blocks : List (List ℕ)) (more : List Token) → room + length blocks ≡ 16 → AreItems room items → bare (begin blocks) (spelled items ++ more) ≡ front (given_by blocks items) (bare (begin blocks) more)
unfolding spelled given_by AreItems
items_read nothing room blocks more r h = sym (front-nil (bare (begin blocks) more))
items_read (empty rest) room blocks more r h = empty_step blocks (spelled rest ++ more) ∙ items_read rest room blocks more r h
items_read (listed value rest) room blocks more r h = listed_step blocks value (spelled rest ++ more) ∙ items_read rest room blocks more r h
items_read (named key rest) room blocks more r h =
    key_step blocks key (Semicolon ∷ spelled rest ++ more) h.0 ∙ end_step blocks key (spelled rest ++ more) ∙ items_read rest room blocks more r h.1
items_read (sets key quoted value rest) room blocks more r h =
    key_step blocks key (value_token quoted value ∷ Semicolon ∷ spelled rest ++ more) h.0
    ∙ value_step blocks key quoted value (Semicolon ∷ spelled rest ++ more)
    ∙ set_step blocks key value (spelled rest ++ more)
    ∙ ap (front (given (prefix_of blocks ++ key) value)) (items_read rest room blocks more r h.1)
    ∙ front-front (given (prefix_of blocks ++ key) value) (given_by blocks rest) (bare (begin blocks) more)
items_read (block key inside rest) room blocks more r h =
    let behind = spelled rest ++ more in
    let inner = blocks ++ key ∷ [] in
    ap (λ (ts : List Token). bare (begin blocks) (Word key ∷ Open ∷ ts)) (append_assoc (spelled inside) (Close ∷ spelled rest) more)
    ∙ key_step blocks key (Open ∷ spelled inside ++ (Close ∷ behind)) h.0
    ∙ enter_step blocks key (spelled inside ++ (Close ∷ behind)) (omega (arith, h.1))
    ∙ items_read inside (room - 1) inner (Close ∷ behind) (deeper blocks key room r h.1) h.2
    ∙ ap (front (given_by inner inside)) (leave_step blocks key behind ∙ items_read rest room blocks more r h.3)
    ∙ front-front (given_by inner inside) (given_by blocks rest) (bare (begin blocks) more)
items_read (sets_block key quoted value inside rest) room blocks more r h =
    let behind = spelled rest ++ more in
    let inner = blocks ++ key ∷ [] in
    let set = given (prefix_of blocks ++ key) value in
    ap (λ (ts : List Token). bare (begin blocks) (Word key ∷ value_token quoted value ∷ Open ∷ ts)) (append_assoc (spelled inside) (Close ∷ spelled rest) more)
    ∙ key_step blocks key (value_token quoted value ∷ Open ∷ spelled inside ++ (Close ∷ behind)) h.0
    ∙ value_step blocks key quoted value (Open ∷ spelled inside ++ (Close ∷ behind))
    ∙ set_and_enter_step blocks key value (spelled inside ++ (Close ∷ behind)) (omega (arith, h.1))
    ∙ ap (front set) (items_read inside (room - 1) inner (Close ∷ behind) (deeper blocks key room r h.1) h.2
    ∙ ap (front (given_by inner inside)) (leave_step blocks key behind ∙ items_read rest room blocks more r h.3)
    ∙ front-front (given_by inner inside) (given_by blocks rest) (bare (begin blocks) more))
    ∙ front-front set (given_by inner inside ++ given_by blocks rest) (bare (begin blocks) more)

ok_from : (r : Result (List Pair) ConfError) (pairs : List Pair) → result_ok r ≡ Some pairs → r ≡ Ok pairs
ok_from (Ok found) pairs h = cc
ok_from (Err e) pairs h = absurd cc

-- a text that spells statements gives their pairs
pub spelled_read : (text : List ℕ) (items : Items) → length text ≤ 1048576 → AreItems 16 items → Spells text items → pairs_of text ≡ Ok (given_by [] items)
unfolding pairs_of bare
spelled_read text items short h s =
    let t : nat_lt 1048576 (length text) ≡ false = grind (arith, nat_tests) in
    let last = last_line text in
    let read : result_ok (pairs_from last start (tokens_of text)) ≡ Some (given_by [] items) =
    pairs_from-bare last start (tokens_of text)
    ∙ ap (bare start) (s ∙ sym (append-nil (spelled items)))
    ∙ items_read items 16 [] [] refl h
    ∙ ap (λ (ps : List Pair). Some ps) (append-nil (given_by [] items)) in
    rw t (ok_from (pairs_from last start (tokens_of text)) (given_by [] items) read)
