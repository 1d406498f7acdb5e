-- Entries that are added give pairs, and each step of reading adds what it says.
use Rattle.std.proofs.Common.{◌≡◌, ℕ, ◌+◌, ◌-◌, ◌<◌, ◌≤◌, List, [], ◌∷◌, ◌++◌, Bool, length, take, Option, Some, None, Result, Ok, Err, refl, sym, ap, subst, ◌∙◌, append_assoc, length-append, arith}
use Rattle.std.specs.Prelude.{codes, if◌then◌else◌, nat_lt, nat_eq, true, false}
use Rattle.std.proofs.lemmas.List.{append-nil, length-take, take_at, take_all, take-take}
use Rattle.std.proofs.lemmas.Bool.Decides.{nat_tests}
use Rattle.std.proofs.lemmas.Grind.{flat_map-append}
use Rattle.apt_conf.specs.declared.entry.Entry.{Entry}
use Rattle.apt_conf.specs.declared.error.ConfError.{ConfError}
use Rattle.apt_conf.specs.declared.error.ConfError.TheVariants.{LongFile, BadConf, BadValue, NoMemory}
use Rattle.apt_conf.specs.declared.statement.Part.{Part}
use Rattle.apt_conf.specs.declared.statement.Part.TheVariants.{Start}
use Rattle.apt_conf.specs.Keys.{Pair}
use Rattle.apt_conf.specs.Entries.{key_of, last_key, given_if, pairs_in, IsFresh}
use Rattle.apt_conf.specs.declared.statement.Step.TheVariants.{Sets, SetsAndEnters}
use Rattle.apt_conf.specs.Statements.{given, prefix_of, moved_to, entered, left, moved_by, on_line}
use Rattle.apt_conf.specs.Progress.{State, state_of, IsAt, Steps}

pairs_in-append : (before : List ℕ) (xs ys : List Entry) → pairs_in before (xs ++ ys) ≡ pairs_in before xs ++ pairs_in (last_key before xs) ys
unfolding pairs_in last_key
pairs_in-append before [] ys = refl
pairs_in-append before (x ∷ xs) ys =
    ap (λ (ps : List Pair). given_if (key_of before x) x.value ++ ps) (pairs_in-append (key_of before x) xs ys)
    ∙ sym (append_assoc (given_if (key_of before x) x.value) (pairs_in (key_of before x) xs) (pairs_in (last_key (key_of before x) xs) ys))

-- an entry more gives its pair
pub pairs_in-push : (before : List ℕ) (xs : List Entry) (x : Entry) → pairs_in before (xs ++ x ∷ []) ≡ pairs_in before xs ++ given_if (key_of (last_key before xs) x) x.value
unfolding pairs_in
pairs_in-push before xs x =
    pairs_in-append before xs (x ∷ [])
    ∙ ap (λ (ps : List Pair). pairs_in before xs ++ ps) (append-nil (given_if (key_of (last_key before xs) x) x.value))

pub last_key-push : (before : List ℕ) (xs : List Entry) (x : Entry) → last_key before (xs ++ x ∷ []) ≡ key_of (last_key before xs) x
unfolding last_key
last_key-push before [] x = refl
last_key-push before (y ∷ xs) x = last_key-push (key_of before y) xs x

prefix_of-push : (blocks : List (List ℕ)) (key : List ℕ) → prefix_of (blocks ++ key ∷ []) ≡ prefix_of blocks ++ (key ++ codes "::")
prefix_of-push blocks key =
    flat_map-append (λ (k : List ℕ). k ++ codes "::") blocks (key ∷ [])
    ∙ ap (λ (end : List ℕ). prefix_of blocks ++ end) (append-nil (key ++ codes "::"))

abbrev pub entry_of : ℕ → List ℕ → Option (List ℕ) → Entry
entry_of shared rest value = record { shared = shared; rest = rest; value = value }

-- an entry that shares what stands before each key has the key in these blocks
key_in_blocks : (old : List Entry) (blocks : List (List ℕ)) (prefix : ℕ) (rest : List ℕ) (value : Option (List ℕ)) → IsAt old blocks prefix → key_of (last_key [] old) (entry_of prefix rest value) ≡ prefix_of blocks ++ rest
key_in_blocks old blocks prefix rest value h = ap (λ (front : List ℕ). front ++ rest) h.kept

last_key_in_blocks : (old new : List Entry) (blocks : List (List ℕ)) (prefix : ℕ) (rest : List ℕ) (value : Option (List ℕ)) → IsAt old blocks prefix → new ≡ old ++ entry_of prefix rest value ∷ [] → last_key [] new ≡ prefix_of blocks ++ rest
last_key_in_blocks old new blocks prefix rest value h e =
    ap (last_key []) e ∙ last_key-push [] old (entry_of prefix rest value) ∙ key_in_blocks old blocks prefix rest value h

pairs_in_blocks : (old new : List Entry) (blocks : List (List ℕ)) (prefix : ℕ) (rest : List ℕ) (value : Option (List ℕ)) → IsAt old blocks prefix → new ≡ old ++ entry_of prefix rest value ∷ [] → pairs_in [] new ≡ pairs_in [] old ++ given_if (prefix_of blocks ++ rest) value
pairs_in_blocks old new blocks prefix rest value h e =
    ap (pairs_in []) e ∙ pairs_in-push [] old (entry_of prefix rest value)
    ∙ ap (λ (key : List ℕ). pairs_in [] old ++ given_if key value) (key_in_blocks old blocks prefix rest value h)

-- ---- what stays true of the entries, the blocks and the prefix

pushed_fresh : (old : List Entry) (blocks : List (List ℕ)) (prefix : ℕ) (rest : List ℕ) (value : Option (List ℕ)) → IsAt old blocks prefix → IsFresh (old ++ entry_of prefix rest value ∷ [])
unfolding last_key
pushed_fresh [] blocks prefix rest value h = omega (arith, h.measured, ap length h.kept, length-take {A = ℕ} prefix [])
pushed_fresh (entry ∷ old) blocks prefix rest value h = h.fresh

fresh_so : (old new : List Entry) (blocks : List (List ℕ)) (prefix : ℕ) (rest : List ℕ) (value : Option (List ℕ)) → IsAt old blocks prefix → new ≡ old ++ entry_of prefix rest value ∷ [] → IsFresh new
fresh_so old new blocks prefix rest value h e = subst IsFresh (sym e) (pushed_fresh old blocks prefix rest value h)

-- an entry more, which shares what stands before each key
pub at_pushed : (old new : List Entry) (blocks : List (List ℕ)) (prefix : ℕ) (rest : List ℕ) (value : Option (List ℕ)) → IsAt old blocks prefix → new ≡ old ++ entry_of prefix rest value ∷ [] → IsAt new blocks prefix
at_pushed old new blocks prefix rest value h e = record {
  measured = h.measured;
  kept = ap (take prefix) (last_key_in_blocks old new blocks prefix rest value h e) ∙ take_at (prefix_of blocks) rest prefix (sym h.measured);
  fresh = fresh_so old new blocks prefix rest value h e;
}

-- the key of a block more, in an entry and among the blocks
pub at_entered : (old new : List Entry) (blocks entered : List (List ℕ)) (prefix longer : ℕ) (key : List ℕ) → IsAt old blocks prefix → new ≡ old ++ entry_of prefix (key ++ codes "::") None ∷ [] → entered ≡ blocks ++ key ∷ [] → longer ≡ prefix + length (key ++ codes "::")
    → IsAt new entered longer
at_entered old new blocks entered prefix longer key h e b l =
    let prefix_is : prefix_of entered ≡ prefix_of blocks ++ (key ++ codes "::") = ap prefix_of b ∙ prefix_of-push blocks key in
    let longer_is : longer ≡ length (prefix_of entered) = l ∙ ap (λ (n : ℕ). n + length (key ++ codes "::")) h.measured ∙ sym (length-append (prefix_of blocks) (key ++ codes "::")) ∙ ap length (sym prefix_is) in
    let key_is : last_key [] new ≡ prefix_of entered = last_key_in_blocks old new blocks prefix (key ++ codes "::") None h e ∙ sym prefix_is in
    record {
      measured = longer_is;
      kept = ap (take longer) key_is ∙ take_all longer (prefix_of entered) (omega arith);
      fresh = fresh_so old new blocks prefix (key ++ codes "::") None h e;
    }

-- a block less
pub at_left : (entries : List Entry) (blocks left : List (List ℕ)) (prefix shorter : ℕ) (key : List ℕ) → IsAt entries blocks prefix → blocks ≡ left ++ key ∷ [] → shorter ≡ prefix - (length key + 2) → IsAt entries left shorter
at_left entries blocks left prefix shorter key h b s =
    let prefix_is : prefix_of blocks ≡ prefix_of left ++ (key ++ codes "::") = ap prefix_of b ∙ prefix_of-push left key in
    let shorter_is : shorter ≡ length (prefix_of left) = omega (arith, s, h.measured, ap length prefix_is, length-append (prefix_of left) (key ++ codes "::"), length-append key (codes "::")) in
    let within : shorter ≤ prefix = omega (arith, s) in
    record {
      measured = shorter_is;
      kept =
          sym (take-take shorter prefix (last_key [] entries) within)
          ∙ ap (take shorter) (h.kept ∙ prefix_is)
          ∙ take_at (prefix_of left) (key ++ codes "::") shorter (sym shorter_is);
      fresh = h.fresh;
    }

-- ---- what each step adds

pub set_steps : (old new : List Entry) (blocks : List (List ℕ)) (prefix : ℕ) (part : Part) (key value : List ℕ) (before : State) → state_of old blocks part ≡ before → IsAt old blocks prefix → new ≡ old ++ entry_of prefix key (Some value) ∷ []
    → Steps {T = Unit {0}} before (state_of new blocks Start) (Ok tt) (on_line 0 (moved_by before.place.blocks (Sets key value)))
set_steps old new blocks prefix part key value before is h e =
    subst (λ (s : State). Steps {T = Unit {0}} s (state_of new blocks Start) (Ok tt) (on_line 0 (moved_by s.place.blocks (Sets key value)))) is
    (ap (λ (pairs : List Pair). record { pairs = pairs; place = record { blocks = blocks; part = Start } }) (pairs_in_blocks old new blocks prefix key (Some value) h e))

-- within the depth that blocks may have
pub enter_steps : (old new : List Entry) (blocks inner : List (List ℕ)) (prefix line : ℕ) (part : Part) (key : List ℕ) (before : State) → state_of old blocks part ≡ before → length blocks < 16 → IsAt old blocks prefix
    → new ≡ old ++ entry_of prefix (key ++ codes "::") None ∷ [] → inner ≡ blocks ++ key ∷ [] → Steps {T = Unit {0}} before (state_of new inner Start) (Ok tt) (on_line line (entered before.place.blocks key []))
enter_steps old new blocks inner prefix line part key before is lt h e b =
    let t : nat_lt (length blocks) 16 ≡ true = grind (arith, nat_tests) in
    subst (λ (s : State). Steps {T = Unit {0}} s (state_of new inner Start) (Ok tt) (on_line line (entered s.place.blocks key []))) is
    (rw t (λ i. record { pairs = pairs_in_blocks old new blocks prefix (key ++ codes "::") None h e i; place = record { blocks = b i; part = Start } }))

-- where a block is open
pub leave_steps : (entries : List Entry) (blocks outer : List (List ℕ)) (line : ℕ) (part : Part) (key : List ℕ) (before : State) → state_of entries blocks part ≡ before → blocks ≡ outer ++ key ∷ []
    → Steps {T = Unit {0}} before (state_of entries outer Start) (Ok tt) (on_line line (left before.place.blocks))
leave_steps entries blocks outer line part key before is b =
    let n : length blocks ≡ length outer + 1 = ap length b ∙ length-append outer (key ∷ []) in
    let t : nat_eq (length blocks) 0 ≡ false = grind (arith, nat_tests) in
    let fewer : length outer ≡ length blocks - 1 = omega (arith, n) in
    let o : outer ≡ take (length blocks - 1) blocks = sym (ap (take (length blocks - 1)) b ∙ take_at outer (key ∷ []) (length blocks - 1) fewer) in
    let p : pairs_in [] entries ≡ pairs_in [] entries ++ [] = sym (append-nil (pairs_in [] entries)) in
    subst (λ (s : State). Steps {T = Unit {0}} s (state_of entries outer Start) (Ok tt) (on_line line (left s.place.blocks))) is
    (rw t (λ i. record { pairs = p i; place = record { blocks = o i; part = Start } }))

with_pairs : {U : Type 0} (deep : Bool) (old new : State) (line : ℕ) (inner : List (List ℕ)) (pairs : List Pair) (result : Result U ConfError)
    → Steps (record { pairs = old.pairs ++ pairs; place = record { blocks = old.place.blocks; part = Start } }) new result (on_line line (if deep then moved_to [] inner Start else None))
    → Steps old new result (on_line line (if deep then moved_to pairs inner Start else None))
with_pairs true old new line inner pairs (Ok x) h = h ∙ λ i. record { pairs = append-nil (old.pairs ++ pairs) i; place = record { blocks = inner; part = Start } }
with_pairs true old new line inner pairs (Err LongFile) h = absurd cc
with_pairs true old new line inner pairs (Err (BadConf on)) h = absurd cc
with_pairs true old new line inner pairs (Err (BadValue of)) h = absurd cc
with_pairs true old new line inner pairs (Err NoMemory) h = tt
with_pairs false old new line inner pairs (Ok x) h = absurd h
with_pairs false old new line inner pairs (Err e) h = h

-- a key that is set and whose block is entered
pub both_steps : {T U : Type 0} (x : T) (old between new : State) (line : ℕ) (same key value : List ℕ) (result : Result U ConfError) → same ≡ key → Steps old between (Ok x) (on_line 0 (moved_by old.place.blocks (Sets same value)))
    → Steps between new result (on_line line (entered between.place.blocks key [])) → Steps old new result (on_line line (moved_by old.place.blocks (SetsAndEnters key value)))
both_steps x old between new line same key value result k first second =
    let blocks = old.place.blocks in
    let set : between ≡ record { pairs = old.pairs ++ given (prefix_of blocks ++ key) value; place = record { blocks = blocks; part = Start } } =
    first ∙ ap (λ (name : List ℕ). record { pairs = old.pairs ++ given (prefix_of blocks ++ name) value; place = record { blocks = blocks; part = Start } }) k in
    with_pairs (nat_lt (length blocks) 16) old new line (blocks ++ key ∷ []) (given (prefix_of blocks ++ key) value) result
    (subst (λ (s : State). Steps s new result (on_line line (entered s.place.blocks key []))) set second)

-- ---- entries of their own

pub fresh_behind : (before : List ℕ) (entries : List Entry) → IsFresh entries → pairs_in before entries ≡ pairs_in [] entries
unfolding pairs_in
fresh_behind before [] h = refl
fresh_behind before (entry ∷ entries) h =
    let key_is : key_of before entry ≡ key_of [] entry = ap (λ (n : ℕ). take n before ++ entry.rest) h ∙ sym (ap (λ (n : ℕ). take n [] ++ entry.rest) h) in
    ap (λ (key : List ℕ). given_if key entry.value ++ pairs_in key entries) key_is

pub appended : (old read new : List Entry) → IsFresh read → new ≡ old ++ read → pairs_in [] new ≡ pairs_in [] old ++ pairs_in [] read
appended old read new h e = ap (pairs_in []) e ∙ pairs_in-append [] old read ∙ ap (λ (pairs : List Pair). pairs_in [] old ++ pairs) (fresh_behind (last_key [] old) read h)

-- a pair of its own
pub pushed_pair : (old new : List Entry) (key value rest text : List ℕ) → rest ≡ key → text ≡ value → new ≡ old ++ entry_of 0 rest (Some text) ∷ [] → pairs_in [] new ≡ pairs_in [] old ++ given key value
pushed_pair old new key value rest text r t e =
    ap (pairs_in []) e ∙ pairs_in-push [] old (entry_of 0 rest (Some text))
    ∙ ap (λ (k : List ℕ). pairs_in [] old ++ given k text) r
    ∙ ap (λ (v : List ℕ). pairs_in [] old ++ given key v) t
