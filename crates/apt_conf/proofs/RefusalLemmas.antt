-- A refusal is that of the first token that no statements allow.
use Rattle.std.proofs.Common.{◌≡◌, ◌⊎◌, ◌-◌, inl, inr, ℕ, zero, suc, Bool, true, false, cond, List, [], ◌∷◌, ◌++◌, length, take, Option, Some, None, Result, Ok, Err, IfErr, refl, sym, ap, subst, ◌∙◌, arith}
use Rattle.std.specs.Prelude.{nat_lt, nat_eq}
use Rattle.std.proofs.lemmas.Bool.{ltb-true}
use Rattle.std.proofs.lemmas.Bool.Decides.{nat_tests}
use Rattle.std.proofs.lemmas.List.{append-nil, append_assoc, length-take, map_push}
use Rattle.std.proofs.lemmas.Option.{same_Some}
use Rattle.apt_conf.specs.declared.entry.Entry.{Entry}
use Rattle.apt_conf.specs.declared.error.ConfError.{ConfError}
use Rattle.apt_conf.specs.declared.error.ConfError.TheVariants.{LongFile, BadConf, BadValue, NoMemory}
use Rattle.apt_conf.specs.declared.statement.Part.{Part}
use Rattle.apt_conf.specs.declared.statement.Part.TheVariants.{Start, Listed, Named, Valued}
use Rattle.apt_conf.specs.declared.token.Token.{Token}
use Rattle.apt_conf.specs.declared.token.Token.TheVariants.{Semicolon, Close}
use Rattle.apt_conf.specs.Answers.{Fails}
use Rattle.apt_conf.specs.Keys.{Pair}
use Rattle.apt_conf.specs.Tokens.{Placed, last_line, tokens_of}
use Rattle.apt_conf.specs.Statements.{◌>>=◌, Place, Moved, start, moved, on_line, is_closed, given, prefix_of, step_at_start, step_when_listed, step_when_named, step_when_valued, pairs_from}
use Rattle.apt_conf.specs.Progress.{Reads}
use Rattle.apt_conf.specs.Reading.{pairs_of}
use Rattle.apt_conf.specs.Grammar.{spelled, given_by}
use Rattle.apt_conf.specs.Refused.{unplaced, AreStatements, CanGoOn, IsRefused}
use Rattle.apt_conf.proofs.GrammarLemmas.{front, bare, begin, at, after, items_read}
use Rattle.apt_conf.proofs.TreeLemmas.{statements_from}

-- ---- where tokens lead

abbrev through : Option Moved → (Place → Option Place) → Option Place
through (Some m) next = next m.place
through None next = None

-- the place behind tokens, if each leads somewhere
unfoldable reached : Place → List Token → Option Place
reached place [] = Some place
reached place (t ∷ ts) = through (moved place t) (λ p. reached p ts)

abbrev IsRead : Place → List Token → Type 0
IsRead place ts = (pairs : List Pair) × (bare place ts ≡ Some pairs)

front-read : (pairs : List Pair) (place : Place) (ts : List Token) → IsRead place ts → (all : List Pair) × (front pairs (bare place ts) ≡ Some all)
front-read pairs place ts h = (pairs ++ h.0, ap (front pairs) h.1)

through_read : (step : Option Moved) (ts behind : List Token) (p : Place) → ((m : Moved) → reached m.place ts ≡ Some p → IsRead m.place (ts ++ behind)) → through step (λ q. reached q ts) ≡ Some p
    → (pairs : List Pair) × (after step (λ q. bare q (ts ++ behind)) ≡ Some pairs)
through_read (Some m) ts behind p each e = front-read m.pairs m.place (ts ++ behind) (each m e)
through_read None ts behind p each e = absurd cc

read_behind : (place p : Place) (ts behind : List Token) → reached place ts ≡ Some p → IsRead p behind → IsRead place (ts ++ behind)
unfolding reached bare
read_behind place p [] behind e h = subst (λ (q : Place). IsRead q behind) (sym (same_Some place p e)) h
read_behind place p (t ∷ ts) behind e h = through_read (moved place t) ts behind p (λ m f. read_behind m.place p ts behind f h) e

through_fails : (step : Option Moved) (ts behind : List Token) (p : Place) → ((m : Moved) → reached m.place ts ≡ Some p → bare m.place (ts ++ behind) ≡ None) → through step (λ q. reached q ts) ≡ Some p
    → after step (λ q. bare q (ts ++ behind)) ≡ None
through_fails (Some m) ts behind p each e = ap (front m.pairs) (each m e)
through_fails None ts behind p each e = refl

fails_behind : (place p : Place) (ts behind : List Token) → reached place ts ≡ Some p → bare p behind ≡ None → bare place (ts ++ behind) ≡ None
unfolding reached bare
fails_behind place p [] behind e h = ap (λ (q : Place). bare q behind) (same_Some place p e) ∙ h
fails_behind place p (t ∷ ts) behind e h = through_fails (moved place t) ts behind p (λ m f. fails_behind m.place p ts behind f h) e

-- ---- each place can be completed

abbrev closes : ℕ → List Token
closes zero = []
closes (suc n) = Close ∷ closes n

closed_by : (n : ℕ) (blocks : List (List ℕ)) → length blocks ≡ n → IsRead (begin blocks) (closes n)
unfolding bare step_at_start
closed_by zero blocks e =
    let t : nat_eq (length blocks) 0 ≡ true = grind (arith, nat_tests) in
    ([], rw t refl)
closed_by (suc n) blocks e =
    let t : nat_eq (length blocks) 0 ≡ false = grind (arith, nat_tests) in
    let outer = take (length blocks - 1) blocks in
    let behind = closed_by n outer (omega (arith, length-take (length blocks - 1) blocks, e)) in
    rw t (front-read [] (begin outer) (closes n) behind)

ended_by : (blocks : List (List ℕ)) (part : Part) → (more : List Token) × IsRead (at blocks part) more
unfolding bare step_when_listed step_when_named step_when_valued
ended_by blocks Start = (closes (length blocks), closed_by (length blocks) blocks refl)
ended_by blocks Listed = (Semicolon ∷ closes (length blocks), front-read [] (begin blocks) (closes (length blocks)) (closed_by (length blocks) blocks refl))
ended_by blocks (Named key) = (Semicolon ∷ closes (length blocks), front-read [] (begin blocks) (closes (length blocks)) (closed_by (length blocks) blocks refl))
ended_by blocks (Valued key value) =
    (Semicolon ∷ closes (length blocks), front-read (given (prefix_of blocks ++ key) value) (begin blocks) (closes (length blocks)) (closed_by (length blocks) blocks refl))

can_go_on : (ts : List Token) (p : Place) → reached start ts ≡ Some p → CanGoOn ts
can_go_on ts p e =
    let done = ended_by p.blocks p.part in
    let read = read_behind start p ts done.0 e done.1 in
    let s = statements_from (ts ++ done.0) read.0 read.1 in
    (done.0, (s.items, s.are_items, s.is))

-- ---- what is not read spells no statements

statements_read : (ts : List Token) → AreStatements ts → IsRead start ts
unfolding bare
statements_read ts s = (
  given_by [] s.0 ++ [],
  ap (bare start) (s.2 ∙ sym (append-nil (spelled s.0))) ∙ items_read s.0 16 [] [] refl s.1,
)

unread : (ts : List Token) → bare start ts ≡ None → AreStatements ts → ⊥
unread ts none s = let read = statements_read ts s in absurd (let both = sym none ∙ read.1 in cc)

cannot_go_on : (ts : List Token) (t : Token) (p : Place) → reached start ts ≡ Some p → moved p t ≡ None → CanGoOn (ts ++ t ∷ []) → ⊥
unfolding bare
cannot_go_on ts t p e none h =
    unread ((ts ++ t ∷ []) ++ h.0)
    (ap (bare start) (append_assoc ts (t ∷ []) h.0) ∙ fails_behind start p ts (t ∷ h.0) e (ap (λ (step : Option Moved). after step (λ q. bare q h.0)) none)) h.1

not_closed : (ts : List Token) (p : Place) → reached start ts ≡ Some p → is_closed p ≡ false → AreStatements ts → ⊥
unfolding bare
not_closed ts p e isnt s =
    unread ts (ap (bare start) (sym (append-nil ts)) ∙ fails_behind start p ts [] e (ap (λ (b : Bool). cond b (Some []) None) isnt)) s

-- ---- where reading stops

record Wrong (place : Place) (ts : List Placed) (e : ConfError) : Type 0 where
  before : List Placed
  wrong : Placed
  behind : List Placed
  split : ts ≡ before ++ wrong ∷ behind
  there : Place
  reaches : reached place (unplaced before) ≡ Some there
  stops : moved there wrong.token ≡ None
  is : e ≡ BadConf wrong.line

record LeftOpen (last : ℕ) (place : Place) (ts : List Placed) (e : ConfError) : Type 0 where
  there : Place
  reaches : reached place (unplaced ts) ≡ Some there
  isnt : is_closed there ≡ false
  is : e ≡ BadConf last

abbrev Fault : ℕ → Place → List Placed → ConfError → Type 0
Fault last place ts e = Wrong place ts e ⊎ LeftOpen last place ts e

at_token : (last : ℕ) (place : Place) (t : Placed) (ts : List Placed) (step : Option Moved) → moved place t.token ≡ step → ((p : Place) → IfErr (pairs_from last p ts) (Fault last p ts))
    → IfErr (on_line t.line step >>= λ m. pairs_from last m.place ts >>= λ pairs. Ok (m.pairs ++ pairs)) (Fault last place (t ∷ ts))
unfolding reached
at_token last place t ts None e each = inl (record { before = []; wrong = t; behind = ts; split = refl; there = place; reaches = refl; stops = e; is = refl })
at_token last place t ts (Some m) e each = onward (pairs_from last m.place ts) (each m.place)
  where
    onward : (r : Result (List Pair) ConfError) → IfErr r (Fault last m.place ts) → IfErr (r >>= λ pairs. Ok (m.pairs ++ pairs)) (Fault last place (t ∷ ts))
    onward (Ok pairs) h = tt
    onward (Err d) (inl w) = inl (record {
      before = t ∷ w.before;
      wrong = w.wrong;
      behind = w.behind;
      split = ap (λ (xs : List Placed). t ∷ xs) w.split;
      there = w.there;
      reaches = ap (λ (s : Option Moved). through s (λ p. reached p (unplaced w.before))) e ∙ w.reaches;
      stops = w.stops;
      is = w.is;
    })
    onward (Err d) (inr o) = inr (record {
      there = o.there;
      reaches = ap (λ (s : Option Moved). through s (λ p. reached p (unplaced ts))) e ∙ o.reaches;
      isnt = o.isnt;
      is = o.is;
    })

faults : (last : ℕ) (place : Place) (ts : List Placed) → IfErr (pairs_from last place ts) (Fault last place ts)
unfolding pairs_from reached
faults last place [] = at_end (is_closed place) refl
  where
    at_end : (b : Bool) → is_closed place ≡ b → IfErr {T = List Pair} (cond b (Ok []) (Err (BadConf last))) (Fault last place [])
    at_end true e = tt
    at_end false e = inr (record { there = place; reaches = refl; isnt = e; is = refl })
faults last place (t ∷ ts) = at_token last place t ts (moved place t.token) refl (λ p. faults last p ts)

refused_on : (text : List ℕ) (e : ConfError) → Fault (last_line text) start (tokens_of text) e → IsRefused text e
refused_on text e (inl w) = subst (IsRefused text) (sym w.is) (inl (record {
  before = w.before;
  wrong = w.wrong;
  behind = w.behind;
  split = w.split;
  allowed = can_go_on (unplaced w.before) w.there w.reaches;
  refused = λ h. cannot_go_on (unplaced w.before) w.wrong.token w.there w.reaches w.stops (subst CanGoOn (map_push (λ (t : Placed). t.token) w.before w.wrong) h);
  placed = refl;
}))
refused_on text e (inr o) = subst (IsRefused text) (sym o.is) (inr ((can_go_on (unplaced (tokens_of text)) o.there o.reaches, not_closed (unplaced (tokens_of text)) o.there o.reaches o.isnt), refl))

pairs_refused : (text : List ℕ) → IfErr (pairs_of text) (IsRefused text)
unfolding pairs_of
pairs_refused text = by_length (nat_lt 1048576 (length text)) refl
  where
    weaker : (r : Result (List Pair) ConfError) → IfErr r (Fault (last_line text) start (tokens_of text)) → IfErr r (IsRefused text)
    weaker (Ok pairs) h = tt
    weaker (Err e) h = refused_on text e h

    by_length : (b : Bool) → nat_lt 1048576 (length text) ≡ b → IfErr {T = List Pair} (cond b (Err LongFile) (pairs_from (last_line text) start (tokens_of text))) (IsRefused text)
    by_length true e = ltb-true 1048576 (length text) e
    by_length false e = weaker (pairs_from (last_line text) start (tokens_of text)) (faults (last_line text) start (tokens_of text))

-- an error of a reading, want of memory aside, is that of its text
fails_so : (text : List ℕ) (e : ConfError) (read : Result (List Pair) ConfError) → IfErr read (IsRefused text) → Fails e read → IsRefused text e
fails_so text LongFile read h f = subst (λ (r : Result (List Pair) ConfError). IfErr r (IsRefused text)) f h
fails_so text (BadConf line) read h f = subst (λ (r : Result (List Pair) ConfError). IfErr r (IsRefused text)) f h
fails_so text (BadValue key) read h f = subst (λ (r : Result (List Pair) ConfError). IfErr r (IsRefused text)) f h
fails_so text NoMemory read h f = tt

pub reads_refused : (old new : List Entry) (result : Result (Unit {0}) ConfError) (text : List ℕ) → Reads old new result (pairs_of text) → IfErr result (IsRefused text)
reads_refused old new (Ok x) text r = tt
reads_refused old new (Err e) text r = fails_so text e (pairs_of text) (pairs_refused text) r
