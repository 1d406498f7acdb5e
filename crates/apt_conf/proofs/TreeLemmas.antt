-- A text that is read spells statements: they are found in its tokens, from the left.
use Rattle.std.proofs.Common.{◌≡◌, ℕ, zero, suc, ◌+◌, ◌-◌, ◌<◌, ◌≤◌, inl, inr, Bool, true, false, List, [], ◌∷◌, ◌++◌, length, map, Option, Some, None, Result, Ok, Err, refl, sym, ap, ◌∙◌, subst, append_assoc, length-append, arith}
use Rattle.std.specs.Prelude.{if◌then◌else◌, ◌==◌, ◌&&◌, nat_lt, OnOk}
use Rattle.std.specs.Result.{result_ok}
use Rattle.std.proofs.lemmas.Bool.{cases_Bool}
use Rattle.std.proofs.lemmas.Bool.Decides.{nat_tests}
use Rattle.std.proofs.lemmas.List.{append-nil}
use Rattle.apt_conf.specs.declared.entry.Entry.{Entry}
use Rattle.apt_conf.specs.declared.error.ConfError.{ConfError}
use Rattle.apt_conf.specs.declared.statement.Part.{Part}
use Rattle.apt_conf.specs.declared.statement.Part.TheVariants.{Listed, Named, Valued}
use Rattle.apt_conf.specs.declared.token.Token.{Token}
use Rattle.apt_conf.specs.declared.token.Token.TheVariants.{Word, Quoted, Semicolon, Open, Close, Torn}
use Rattle.apt_conf.specs.Keys.{Pair, is_key}
use Rattle.apt_conf.specs.Entries.{pairs_in}
use Rattle.apt_conf.specs.Tokens.{Placed, last_line, tokens_of}
use Rattle.apt_conf.specs.Statements.{start, given, prefix_of, is_start, is_closed, step_at_start, step_when_listed, step_when_named, step_when_valued, pairs_from}
use Rattle.apt_conf.specs.Progress.{Reads}
use Rattle.apt_conf.specs.Reading.{pairs_of}
use Rattle.apt_conf.specs.Grammar.{Items, nothing, empty, listed, named, sets, block, sets_block, value_token, spelled, given_by, AreItems, Adds}
use Rattle.apt_conf.proofs.GrammarLemmas.{front, front-nil, bare, pairs_from-bare, begin, at, key_step, value_step, enter_step, set_and_enter_step, leave_step, end_step, set_step, empty_step, listed_step, deeper}

-- ---- what an answer says of its parts

front-some : (pairs : List Pair) (read : Option (List Pair)) (all : List Pair) → front pairs read ≡ Some all → (more : List Pair) × (read ≡ Some more) × (all ≡ pairs ++ more)
front-some pairs (Some more) all h = (more, refl, cc)
front-some pairs None all h = absurd cc

some_if : (closed : Bool) (pairs : List Pair) → Some pairs ≡ (if closed then Some [] else None) → (closed ≡ true) × (pairs ≡ [])
some_if true pairs h = (refl, cc)
some_if false pairs h = absurd cc

none_some : (all : List Pair) → None ≡ Some all → ⊥
none_some all h = cc

and_false : (b : Bool) → (b && false) ≡ false
and_false true = refl
and_false false = refl

-- no statement is left open at the end
unfinished : (blocks : List (List ℕ)) (part : Part) (pairs : List Pair) → is_start part ≡ false → bare (at blocks part) [] ≡ Some pairs → ⊥
unfolding bare
unfinished blocks part pairs isnt h =
    let closed : is_closed (at blocks part) ≡ true = (some_if (is_closed (at blocks part)) pairs (sym h)).0 in
    let not_closed : is_closed (at blocks part) ≡ false = ap (λ (b : Bool). (length blocks == 0) && b) isnt ∙ and_false (length blocks == 0) in
    cc

-- ---- statements, and what is left behind them

-- nothing is left, or what is left begins with a `}`
abbrev IsEnd : List Token → Type 0
IsEnd [] = Unit {0}
IsEnd (t ∷ ts) = t ≡ Close

record Parsed (room : ℕ) (blocks : List (List ℕ)) (ts : List Token) (pairs : List Pair) : Type 0 where
  items : Items
  are_items : AreItems room items
  left : List Token
  spells : ts ≡ spelled items ++ left
  more : List Pair
  goes_on : bare (begin blocks) left ≡ Some more
  gives : pairs ≡ given_by blocks items ++ more
  ends : IsEnd left

-- every list of at most so many tokens
abbrev Parses : ℕ → Type 0
Parses n = (room : ℕ) (blocks : List (List ℕ)) (ts : List Token) (pairs : List Pair) → length ts ≤ n → room + length blocks ≡ 16 → bare (begin blocks) ts ≡ Some pairs → Parsed room blocks ts pairs

-- behind a `{`: the statements inside, `}`, and those behind it
record Block (room : ℕ) (blocks : List (List ℕ)) (key : List ℕ) (ts : List Token) (pairs : List Pair) : Type 0 where
  inside : Items
  are_inside : AreItems (room - 1) inside
  behind : Items
  are_behind : AreItems room behind
  left : List Token
  spells : ts ≡ (spelled inside ++ (Close ∷ spelled behind)) ++ left
  more : List Pair
  goes_on : bare (begin blocks) left ≡ Some more
  gives : pairs ≡ (given_by (blocks ++ key ∷ []) inside ++ given_by blocks behind) ++ more
  ends : IsEnd left

closing : (blocks : List (List ℕ)) (key : List ℕ) (left : List Token) (more : List Pair) → IsEnd left → bare (begin (blocks ++ key ∷ [])) left ≡ Some more
    → (rest : List Token) × (left ≡ Close ∷ rest) × (bare (begin blocks) rest ≡ Some more)
unfolding bare
closing blocks key [] more e h =
    let n : length (blocks ++ key ∷ []) ≡ length blocks + 1 = length-append blocks (key ∷ []) in
    let some : (length (blocks ++ key ∷ []) == 0) ≡ false = grind (arith, nat_tests) in
    let f : is_closed (begin (blocks ++ key ∷ [])) ≡ false = ap (λ (b : Bool). b && true) some in
    let t : is_closed (begin (blocks ++ key ∷ [])) ≡ true = (some_if (is_closed (begin (blocks ++ key ∷ []))) more (sym h)).0 in
    absurd cc
closing blocks key (t ∷ rest) more e h =
    (rest, ap (λ (u : Token). u ∷ rest) e, sym (leave_step blocks key rest) ∙ subst (λ (u : Token). bare (begin (blocks ++ key ∷ [])) (u ∷ rest) ≡ Some more) e h)

block_tokens : (a b ts left rest behind : List Token) → ts ≡ a ++ left → left ≡ Close ∷ rest → rest ≡ b ++ behind → ts ≡ (a ++ (Close ∷ b)) ++ behind
block_tokens a b ts left rest behind p q r = p ∙ ap (λ (l : List Token). a ++ l) (q ∙ ap (λ (l : List Token). Close ∷ l) r) ∙ sym (append_assoc a (Close ∷ b) behind)

three : (a b c all more : List Pair) → all ≡ a ++ more → more ≡ b ++ c → all ≡ (a ++ b) ++ c
three a b c all more p q = p ∙ ap (λ (l : List Pair). a ++ l) q ∙ sym (append_assoc a b c)

shorter : (a ts left rest : List Token) (n : ℕ) → ts ≡ a ++ left → left ≡ Close ∷ rest → length ts ≤ n → length rest ≤ n
shorter a ts left rest n p q short =
    let one : length ts ≡ length a + length left = ap length p ∙ length-append a left in
    let two : length left ≡ suc (length rest) = ap length q in
    omega arith

block_from : (n : ℕ) → Parses n → (room : ℕ) (blocks : List (List ℕ)) (key : List ℕ) (ts : List Token) (pairs : List Pair) → length ts ≤ n → room + length blocks ≡ 16 → 0 < room
    → bare (begin (blocks ++ key ∷ [])) ts ≡ Some pairs → Block room blocks key ts pairs
block_from n parses room blocks key ts pairs short r some h =
    let inner = parses (room - 1) (blocks ++ key ∷ []) ts pairs short (deeper blocks key room r some) h in
    let close = closing blocks key inner.left inner.more inner.ends inner.goes_on in
    let outer = parses room blocks close.0 inner.more (shorter (spelled inner.items) ts inner.left close.0 n inner.spells close.1 short) r close.2 in
    record {
      inside = inner.items;
      are_inside = inner.are_items;
      behind = outer.items;
      are_behind = outer.are_items;
      left = outer.left;
      spells = block_tokens (spelled inner.items) (spelled outer.items) ts inner.left close.0 outer.left inner.spells close.1 outer.spells;
      more = outer.more;
      goes_on = outer.goes_on;
      gives = three (given_by (blocks ++ key ∷ []) inner.items) (given_by blocks outer.items) outer.more pairs inner.more inner.gives outer.gives;
      ends = outer.ends;
    }

-- ---- a block is entered only where there is room

room_named : (blocks : List (List ℕ)) (key : List ℕ) (ts : List Token) (pairs : List Pair) → bare (at blocks (Named key)) (Open ∷ ts) ≡ Some pairs → length blocks < 16
unfolding bare step_when_named
room_named blocks key ts pairs h =
    elim (cases_Bool (nat_lt (length blocks) 16)) [
      | inl t ↦ grind (arith, nat_tests)
      | inr f ↦ absurd (none_some pairs (rw f at h))
    ]

room_valued : (blocks : List (List ℕ)) (key value : List ℕ) (ts : List Token) (pairs : List Pair) → bare (at blocks (Valued key value)) (Open ∷ ts) ≡ Some pairs → length blocks < 16
unfolding bare step_when_valued
room_valued blocks key value ts pairs h =
    elim (cases_Bool (nat_lt (length blocks) 16)) [
      | inl t ↦ grind (arith, nat_tests)
      | inr f ↦ absurd (none_some pairs (rw f at h))
    ]

-- ---- a statement at the front

sets_from : (n : ℕ) → Parses n → (room : ℕ) (blocks : List (List ℕ)) (key : List ℕ) (quoted : Bool) (value : List ℕ) (ts : List Token) (pairs : List Pair) → is_key key ≡ true → length ts ≤ n → room + length blocks ≡ 16
    → bare (at blocks (Valued key value)) (Semicolon ∷ ts) ≡ Some pairs → Parsed room blocks (Word key ∷ value_token quoted value ∷ Semicolon ∷ ts) pairs
unfolding spelled given_by AreItems
sets_from n parses room blocks key quoted value ts pairs k short r h =
    let set = given (prefix_of blocks ++ key) value in
    let read = front-some set (bare (begin blocks) ts) pairs (sym (set_step blocks key value ts) ∙ h) in
    let rest = parses room blocks ts read.0 short r read.1 in
    record {
      items = sets key quoted value rest.items;
      are_items = (k, rest.are_items);
      left = rest.left;
      spells = ap (λ (l : List Token). Word key ∷ value_token quoted value ∷ Semicolon ∷ l) rest.spells;
      more = rest.more;
      goes_on = rest.goes_on;
      gives = three set (given_by blocks rest.items) rest.more pairs read.0 read.2 rest.gives;
      ends = rest.ends;
    }

sets_block_from : (n : ℕ) → Parses n → (room : ℕ) (blocks : List (List ℕ)) (key : List ℕ) (quoted : Bool) (value : List ℕ) (ts : List Token) (pairs : List Pair) → is_key key ≡ true → length ts ≤ n → room + length blocks ≡ 16
    → bare (at blocks (Valued key value)) (Open ∷ ts) ≡ Some pairs → Parsed room blocks (Word key ∷ value_token quoted value ∷ Open ∷ ts) pairs
unfolding spelled given_by AreItems
sets_block_from n parses room blocks key quoted value ts pairs k short r h =
    let set = given (prefix_of blocks ++ key) value in
    let lt = room_valued blocks key value ts pairs h in
    let some : 0 < room = omega arith in
    let read = front-some set (bare (begin (blocks ++ key ∷ [])) ts) pairs (sym (set_and_enter_step blocks key value ts lt) ∙ h) in
    let inner = block_from n parses room blocks key ts read.0 short r some read.1 in
    record {
      items = sets_block key quoted value inner.inside inner.behind;
      are_items = (k, some, inner.are_inside, inner.are_behind);
      left = inner.left;
      spells = ap (λ (l : List Token). Word key ∷ value_token quoted value ∷ Open ∷ l) {y = (spelled inner.inside ++ (Close ∷ spelled inner.behind)) ++ inner.left} inner.spells;
      more = inner.more;
      goes_on = inner.goes_on;
      gives = three set (given_by (blocks ++ key ∷ []) inner.inside ++ given_by blocks inner.behind) inner.more pairs read.0 read.2 inner.gives;
      ends = inner.ends;
    }

behind_value : (n : ℕ) → Parses n → (room : ℕ) (blocks : List (List ℕ)) (key : List ℕ) (quoted : Bool) (value : List ℕ) (ts : List Token) (pairs : List Pair) → is_key key ≡ true → length ts ≤ n → room + length blocks ≡ 16
    → bare (at blocks (Valued key value)) ts ≡ Some pairs → Parsed room blocks (Word key ∷ value_token quoted value ∷ ts) pairs
unfolding bare step_when_valued
behind_value n parses room blocks key quoted value [] pairs k short r h = absurd (unfinished blocks (Valued key value) pairs refl h)
behind_value n parses room blocks key quoted value (Semicolon ∷ ts) pairs k short r h = sets_from n parses room blocks key quoted value ts pairs k (omega arith) r h
behind_value n parses room blocks key quoted value (Open ∷ ts) pairs k short r h = sets_block_from n parses room blocks key quoted value ts pairs k (omega arith) r h
behind_value n parses room blocks key quoted value (Word text ∷ ts) pairs k short r h = absurd (none_some pairs h)
behind_value n parses room blocks key quoted value (Quoted text ∷ ts) pairs k short r h = absurd (none_some pairs h)
behind_value n parses room blocks key quoted value (Close ∷ ts) pairs k short r h = absurd (none_some pairs h)
behind_value n parses room blocks key quoted value (Torn ∷ ts) pairs k short r h = absurd (none_some pairs h)

named_from : (n : ℕ) → Parses n → (room : ℕ) (blocks : List (List ℕ)) (key : List ℕ) (ts : List Token) (pairs : List Pair) → is_key key ≡ true → length ts ≤ n → room + length blocks ≡ 16
    → bare (at blocks (Named key)) (Semicolon ∷ ts) ≡ Some pairs → Parsed room blocks (Word key ∷ Semicolon ∷ ts) pairs
unfolding spelled given_by AreItems
named_from n parses room blocks key ts pairs k short r h =
    let rest = parses room blocks ts pairs short r (sym (end_step blocks key ts) ∙ h) in
    record {
      items = named key rest.items;
      are_items = (k, rest.are_items);
      left = rest.left;
      spells = ap (λ (l : List Token). Word key ∷ Semicolon ∷ l) rest.spells;
      more = rest.more;
      goes_on = rest.goes_on;
      gives = rest.gives;
      ends = rest.ends;
    }

block_named : (n : ℕ) → Parses n → (room : ℕ) (blocks : List (List ℕ)) (key : List ℕ) (ts : List Token) (pairs : List Pair) → is_key key ≡ true → length ts ≤ n → room + length blocks ≡ 16
    → bare (at blocks (Named key)) (Open ∷ ts) ≡ Some pairs → Parsed room blocks (Word key ∷ Open ∷ ts) pairs
unfolding spelled given_by AreItems
block_named n parses room blocks key ts pairs k short r h =
    let lt = room_named blocks key ts pairs h in
    let some : 0 < room = omega arith in
    let inner = block_from n parses room blocks key ts pairs short r some (sym (enter_step blocks key ts lt) ∙ h) in
    record {
      items = block key inner.inside inner.behind;
      are_items = (k, some, inner.are_inside, inner.are_behind);
      left = inner.left;
      spells = ap (λ (l : List Token). Word key ∷ Open ∷ l) {y = (spelled inner.inside ++ (Close ∷ spelled inner.behind)) ++ inner.left} inner.spells;
      more = inner.more;
      goes_on = inner.goes_on;
      gives = inner.gives;
      ends = inner.ends;
    }

behind_key : (n : ℕ) → Parses n → (room : ℕ) (blocks : List (List ℕ)) (key : List ℕ) (ts : List Token) (pairs : List Pair) → is_key key ≡ true → length ts ≤ n → room + length blocks ≡ 16
    → bare (at blocks (Named key)) ts ≡ Some pairs → Parsed room blocks (Word key ∷ ts) pairs
unfolding bare step_when_named
behind_key n parses room blocks key [] pairs k short r h = absurd (unfinished blocks (Named key) pairs refl h)
behind_key n parses room blocks key (Word value ∷ ts) pairs k short r h =
    behind_value n parses room blocks key false value ts pairs k (omega arith) r (sym (value_step blocks key false value ts) ∙ h)
behind_key n parses room blocks key (Quoted value ∷ ts) pairs k short r h =
    behind_value n parses room blocks key true value ts pairs k (omega arith) r (sym (value_step blocks key true value ts) ∙ h)
behind_key n parses room blocks key (Semicolon ∷ ts) pairs k short r h = named_from n parses room blocks key ts pairs k (omega arith) r h
behind_key n parses room blocks key (Open ∷ ts) pairs k short r h = block_named n parses room blocks key ts pairs k (omega arith) r h
behind_key n parses room blocks key (Close ∷ ts) pairs k short r h = absurd (none_some pairs h)
behind_key n parses room blocks key (Torn ∷ ts) pairs k short r h = absurd (none_some pairs h)

-- a statement begins with a word only where that is a key
key_from : (blocks : List (List ℕ)) (key : List ℕ) (ts : List Token) (pairs : List Pair) → bare (begin blocks) (Word key ∷ ts) ≡ Some pairs → is_key key ≡ true
unfolding bare step_at_start
key_from blocks key ts pairs h =
    elim (cases_Bool (is_key key)) [
      | inl t ↦ t
      | inr f ↦ absurd (none_some pairs (rw f at h))
    ]

empty_from : (n : ℕ) → Parses n → (room : ℕ) (blocks : List (List ℕ)) (ts : List Token) (pairs : List Pair) → length ts ≤ n → room + length blocks ≡ 16
    → bare (begin blocks) (Semicolon ∷ ts) ≡ Some pairs → Parsed room blocks (Semicolon ∷ ts) pairs
unfolding spelled given_by AreItems
empty_from n parses room blocks ts pairs short r h =
    let rest = parses room blocks ts pairs short r (sym (empty_step blocks ts) ∙ h) in
    record {
      items = empty rest.items;
      are_items = rest.are_items;
      left = rest.left;
      spells = ap (λ (l : List Token). Semicolon ∷ l) rest.spells;
      more = rest.more;
      goes_on = rest.goes_on;
      gives = rest.gives;
      ends = rest.ends;
    }

listed_from : (n : ℕ) → Parses n → (room : ℕ) (blocks : List (List ℕ)) (value : List ℕ) (ts : List Token) (pairs : List Pair) → length ts ≤ n → room + length blocks ≡ 16
    → bare (begin blocks) (Quoted value ∷ Semicolon ∷ ts) ≡ Some pairs → Parsed room blocks (Quoted value ∷ Semicolon ∷ ts) pairs
unfolding spelled given_by AreItems
listed_from n parses room blocks value ts pairs short r h =
    let rest = parses room blocks ts pairs short r (sym (listed_step blocks value ts) ∙ h) in
    record {
      items = listed value rest.items;
      are_items = rest.are_items;
      left = rest.left;
      spells = ap (λ (l : List Token). Quoted value ∷ Semicolon ∷ l) rest.spells;
      more = rest.more;
      goes_on = rest.goes_on;
      gives = rest.gives;
      ends = rest.ends;
    }

quoted_step : (blocks : List (List ℕ)) (value : List ℕ) (ts : List Token) → bare (begin blocks) (Quoted value ∷ ts) ≡ bare (at blocks Listed) ts
unfolding bare step_at_start
quoted_step blocks value ts = front-nil (bare (at blocks Listed) ts)

behind_quoted : (n : ℕ) → Parses n → (room : ℕ) (blocks : List (List ℕ)) (value : List ℕ) (ts : List Token) (pairs : List Pair) → length ts ≤ n → room + length blocks ≡ 16
    → bare (begin blocks) (Quoted value ∷ ts) ≡ Some pairs → bare (at blocks Listed) ts ≡ Some pairs → Parsed room blocks (Quoted value ∷ ts) pairs
unfolding bare step_when_listed
behind_quoted n parses room blocks value [] pairs short r h g = absurd (unfinished blocks Listed pairs refl g)
behind_quoted n parses room blocks value (Semicolon ∷ ts) pairs short r h g = listed_from n parses room blocks value ts pairs (omega arith) r h
behind_quoted n parses room blocks value (Word text ∷ ts) pairs short r h g = absurd (none_some pairs g)
behind_quoted n parses room blocks value (Quoted text ∷ ts) pairs short r h g = absurd (none_some pairs g)
behind_quoted n parses room blocks value (Open ∷ ts) pairs short r h g = absurd (none_some pairs g)
behind_quoted n parses room blocks value (Close ∷ ts) pairs short r h g = absurd (none_some pairs g)
behind_quoted n parses room blocks value (Torn ∷ ts) pairs short r h g = absurd (none_some pairs g)

-- no statement, and all is left
nothing_from : (room : ℕ) (blocks : List (List ℕ)) (ts : List Token) (pairs : List Pair) → IsEnd ts → bare (begin blocks) ts ≡ Some pairs → Parsed room blocks ts pairs
unfolding spelled given_by AreItems
nothing_from room blocks ts pairs e h = record { items = nothing; are_items = tt; left = ts; spells = refl; more = pairs; goes_on = h; gives = refl; ends = e }

statement : (n : ℕ) → Parses n → Parses (suc n)
unfolding bare step_at_start
statement n parses room blocks [] pairs short r h = nothing_from room blocks [] pairs tt h
statement n parses room blocks (Close ∷ ts) pairs short r h = nothing_from room blocks (Close ∷ ts) pairs refl h
statement n parses room blocks (Semicolon ∷ ts) pairs short r h = empty_from n parses room blocks ts pairs (omega arith) r h
statement n parses room blocks (Quoted value ∷ ts) pairs short r h =
    behind_quoted n parses room blocks value ts pairs (omega arith) r h (sym (quoted_step blocks value ts) ∙ h)
statement n parses room blocks (Word key ∷ ts) pairs short r h =
    let k = key_from blocks key ts pairs h in
    behind_key n parses room blocks key ts pairs k (omega arith) r (sym (key_step blocks key ts k) ∙ h)
statement n parses room blocks (Open ∷ ts) pairs short r h = absurd (none_some pairs h)
statement n parses room blocks (Torn ∷ ts) pairs short r h = absurd (none_some pairs h)

no_tokens : Parses 0
no_tokens room blocks [] pairs short r h = nothing_from room blocks [] pairs tt h
no_tokens room blocks (t ∷ ts) pairs short r h = absurd (omega arith)

parses : (n : ℕ) → Parses n
parses zero = no_tokens
parses (suc n) = statement n (parses n)

-- ---- a text that is read

-- outside of blocks nothing is left
all_parsed : (left : List Token) (more : List Pair) → IsEnd left → bare start left ≡ Some more → (left ≡ []) × (more ≡ [])
unfolding bare step_at_start
all_parsed [] more e h = (refl, cc)
all_parsed (t ∷ ts) more e h =
    absurd (none_some more (subst (λ (u : Token). bare start (u ∷ ts) ≡ Some more) e h))

pub record Stated (ts : List Token) (pairs : List Pair) : Type 0 where
  pub items : Items
  pub are_items : AreItems 16 items
  pub is : ts ≡ spelled items
  pub gives : pairs ≡ given_by [] items

pub statements_from : (ts : List Token) (pairs : List Pair) → bare start ts ≡ Some pairs → Stated ts pairs
statements_from ts pairs h =
    let p = parses (length ts) 16 [] ts pairs (omega arith) refl h in
    let all = all_parsed p.left p.more p.ends p.goes_on in
    record {
      items = p.items;
      are_items = p.are_items;
      is = p.spells ∙ ap (λ (l : List Token). spelled p.items ++ l) all.0 ∙ append-nil (spelled p.items);
      gives = p.gives ∙ ap (λ (l : List Pair). given_by [] p.items ++ l) all.1 ∙ append-nil (given_by [] p.items);
    }

pub tokens_read : (text : List ℕ) (pairs : List Pair) → pairs_of text ≡ Ok pairs → pairs_from (last_line text) start (tokens_of text) ≡ Ok pairs
unfolding pairs_of
tokens_read text pairs h =
    elim (cases_Bool (nat_lt 1048576 (length text))) [
      | inl t ↦ let g = rw t at h in absurd cc
      | inr f ↦ rw f at h
    ]

read_spelled : (text : List ℕ) (pairs : List Pair) → pairs_of text ≡ Ok pairs → Stated (map (λ (t : Placed). t.token) (tokens_of text)) pairs
read_spelled text pairs h =
    statements_from (map (λ (t : Placed). t.token) (tokens_of text)) pairs (sym (pairs_from-bare (last_line text) start (tokens_of text)) ∙ ap (λ (r : Result (List Pair) ConfError). result_ok r) (tokens_read text pairs h))

adds_from : (old new : List Entry) (result : Result (Unit {0}) ConfError) (read : Result (List Pair) ConfError) (text : List ℕ) → pairs_of text ≡ read → Reads old new result read
    → OnOk result (Adds (pairs_in [] old) text (pairs_in [] new))
adds_from old new (Ok x) (Ok pairs) text e r =
    let s = read_spelled text pairs e in
    record { items = s.items; are_items = s.are_items; spells = s.is; added = r ∙ ap (λ (l : List Pair). pairs_in [] old ++ l) s.gives }
adds_from old new (Ok x) (Err d) text e r = absurd r
adds_from old new (Err d) read text e r = tt

-- what a reading added
pub reads_adds : (old new : List Entry) (result : Result (Unit {0}) ConfError) (text : List ℕ) → Reads old new result (pairs_of text) → OnOk result (Adds (pairs_in [] old) text (pairs_in [] new))
reads_adds old new result text r = adds_from old new result (pairs_of text) text refl r
