-- How often a number is in the lanes and out, when it is put there, taken and freed.
use Rattle.std.proofs.Common.{◌≡◌, ◌≤◌, ◌<◌, ◌∙◌, ℕ, zero, suc, ◌+◌, ◌%◌, nat_eq, Bool, true, false, List, [], ◌∷◌, ◌++◌, length, Option, Some, None, refl, sym, ap, subst, arith}
use Rattle.std.specs.Prelude.{if◌then◌else◌, is_some, option_map, option_and_then, replicate, slice_get}
use Rattle.std.proofs.lemmas.Bool.Decides.{nat_tests}
use Rattle.std.proofs.lemmas.Nat.{mod_below}
use Rattle.host_queues.specs.Lanes.{Queue, Lanes, changed_at, first, freed, place_for, put_for, sent, with_last, without_first, empty_queue}
use Rattle.uri_names.specs.Names.{host_key_of}
use Rattle.update_model.specs.declared.ask.Ask.{Ask}
use Rattle.board_model.specs.Boards.{is_out_as, lane_with, put_ask, put_items}
use Rattle.board_model.specs.Jobs.{one_if, times_in, times_waiting, times_out}
use Rattle.board_model.specs.Slots.{Standing, ask_of, joined}

-- ---- a lane

pub in-last : (number m : ℕ) (waiting : List ℕ) → times_in number (waiting ++ m ∷ []) ≡ times_in number waiting + one_if (nat_eq m number)
in-last number m [] = omega arith
in-last number m (other ∷ others) = let rest = in-last number m others in omega (arith, rest)

pub put-last : (number m : ℕ) (queues : List Queue) (lane : ℕ) → lane < length queues
    → times_waiting number (changed_at lane (with_last m) queues) ≡ times_waiting number queues + one_if (nat_eq m number)
put-last number m [] lane there = absurd (omega (arith, there))
put-last number m (queue ∷ queues) zero there = let one = in-last number m queue.waiting in omega (arith, one)
put-last number m (queue ∷ queues) (suc lane) there = let rest = put-last number m queues lane (omega (arith, there)) in omega (arith, rest)

-- what goes out of a lane
one-taken : (number : ℕ) (queue : Queue) → times_in number (without_first queue).waiting + one_if (is_out_as number (first queue)) ≡ times_in number queue.waiting
one-taken number queue = one queue.is_out queue.waiting
  where
    one : (is_out : Bool) (waiting : List ℕ)
        → times_in number (if is_out then record { waiting = waiting; is_out = is_out } else sent waiting).waiting + one_if (is_out_as number (if is_out then None else slice_get waiting 0)) ≡ times_in number waiting
    one true waiting = omega arith
    one false [] = refl
    one false (m ∷ more) = omega arith

pub taken-count : (number lane : ℕ) (queues : List Queue)
    → times_waiting number (changed_at lane without_first queues) + one_if (is_out_as number (option_and_then first (slice_get queues lane))) ≡ times_waiting number queues
taken-count number lane [] = refl
taken-count number zero (queue ∷ queues) = let one = one-taken number queue in omega (arith, one)
taken-count number (suc lane) (queue ∷ queues) = let rest = taken-count number lane queues in omega (arith, rest)

pub freed-count : (number lane : ℕ) (queues : List Queue) → times_waiting number (changed_at lane freed queues) ≡ times_waiting number queues
freed-count number lane [] = refl
freed-count number zero (queue ∷ queues) = refl
freed-count number (suc lane) (queue ∷ queues) = ap (λ k. times_in number queue.waiting + k) (freed-count number lane queues)

-- a number that waits in a lane waits
pub waits-there : (number lane : ℕ) (queues : List Queue) (queue : Queue) → slice_get queues lane ≡ Some queue → 1 ≤ times_in number queue.waiting → 1 ≤ times_waiting number queues
waits-there number lane [] queue e h = absurd (cc)
waits-there number zero (q ∷ queues) queue e h =
    let same : q ≡ queue = cc in
    let here : times_in number q.waiting ≡ times_in number queue.waiting = ap (λ (x : Queue). times_in number x.waiting) same in
    omega (arith, here, h)
waits-there number (suc lane) (q ∷ queues) queue e h = let rest = waits-there number lane queues queue e h in omega (arith, rest)

-- ---- what is out

out-as : (number m : ℕ) → is_out_as number (Some m) ≡ nat_eq m number
out-as number m = refl

pub out-put : (number m lane : ℕ) (outs : List (Option ℕ)) → slice_get outs lane ≡ Some None
    → times_out number (changed_at lane (λ o. Some m) outs) ≡ times_out number outs + one_if (nat_eq m number)
out-put number m lane [] e = absurd (cc)
out-put number m zero (out ∷ outs) e =
    let none : out ≡ None = cc in
    let here : one_if (is_out_as number out) ≡ 0 = ap (λ (o : Option ℕ). one_if (is_out_as number o)) none in
    omega (arith, here)
out-put number m (suc lane) (out ∷ outs) e = let rest = out-put number m lane outs e in omega (arith, rest)

pub out-cleared : (number m lane : ℕ) (outs : List (Option ℕ)) → slice_get outs lane ≡ Some (Some m)
    → times_out number (changed_at lane (λ o. None) outs) + one_if (nat_eq m number) ≡ times_out number outs
out-cleared number m lane [] e = absurd (cc)
out-cleared number m zero (out ∷ outs) e =
    let is : out ≡ Some m = cc in
    let here : one_if (is_out_as number out) ≡ one_if (nat_eq m number) = ap (λ (o : Option ℕ). one_if (is_out_as number o)) is in
    omega (arith, here)
out-cleared number m (suc lane) (out ∷ outs) e = let rest = out-cleared number m lane outs e in omega (arith, rest)

pub out-there : (number lane : ℕ) (outs : List (Option ℕ)) → slice_get outs lane ≡ Some (Some number) → 1 ≤ times_out number outs
out-there number lane outs e =
    let same : one_if (nat_eq number number) ≡ 1 = grind (arith, nat_tests) in
    let one = out-cleared number number lane outs e in
    omega (arith, one, same)

-- where nothing is out, no number is
pub none-out : (number lanes : ℕ) → times_out number (replicate lanes None) ≡ 0
none-out number zero = refl
none-out number (suc lanes) = let rest = none-out number lanes in omega (arith, rest)

pub none-waits : (number lanes : ℕ) → times_waiting number (replicate lanes empty_queue) ≡ 0
none-waits number zero = refl
none-waits number (suc lanes) = let rest = none-waits number lanes in omega (arith, rest)

-- a number that is out has a lane
pub out-lane : (number : ℕ) (outs : List (Option ℕ)) → 1 ≤ times_out number outs → (lane : ℕ) × (lane_with outs number ≡ Some lane)
out-lane number [] h = absurd (omega (arith, h))
out-lane number (out ∷ outs) h = one (out-lane number outs) (is_out_as number out) refl
  where
    one : (1 ≤ times_out number outs → (lane : ℕ) × (lane_with outs number ≡ Some lane)) → (b : Bool) → is_out_as number out ≡ b → (lane : ℕ) × ((if b then Some 0 else option_map (λ lane. lane + 1) (lane_with outs number)) ≡ Some lane)
    one find true is = (0, refl)
    one find false is =
        let none : one_if (is_out_as number out) ≡ 0 = ap one_if is in
        let rest = find (omega (arith, none, h)) in
        (rest.0 + 1, ap (option_map (λ lane. lane + 1)) rest.1)

-- ---- hosts

pub length-changed : {A : Type 0} (f : A → A) (n : ℕ) (xs : List A) → length (changed_at n f xs) ≡ length xs
length-changed f n [] = refl
length-changed f zero (x ∷ xs) = refl
length-changed f (suc n) (x ∷ xs) = ap suc (length-changed f n xs)

pub put-count : (number m : ℕ) (host : List ℕ) (lanes : Lanes) → 1 ≤ length lanes.queues
    → times_waiting number (put_for host m lanes).queues ≡ times_waiting number lanes.queues + one_if (nat_eq m number)
put-count number m host lanes some = put-last number m lanes.queues (place_for lanes host % length lanes.queues) (mod_below (place_for lanes host) (length lanes.queues) some)

-- an item that asks is put into a lane once
abbrev pub asks_as : ℕ → ℕ → Option Ask → ℕ
asks_as number m None = 0
asks_as number m (Some ask) = one_if (nat_eq m number)

pub ask-count : (number m : ℕ) (ask : Option Ask) (lanes : Lanes) → 1 ≤ length lanes.queues
    → times_waiting number (put_ask m ask lanes).queues ≡ times_waiting number lanes.queues + asks_as number m ask
ask-count number m None lanes some = omega arith
ask-count number m (Some ask) lanes some = put-count number m (host_key_of ask.uri) lanes some

pub ask-length : (m : ℕ) (ask : Option Ask) (lanes : Lanes) → length (put_ask m ask lanes).queues ≡ length lanes.queues
ask-length m None lanes = refl
ask-length m (Some ask) lanes = length-changed (with_last m) (place_for lanes (host_key_of ask.uri) % length lanes.queues) lanes.queues

abbrev pub asks_among : ℕ → ℕ → List (Option Standing) → ℕ
asks_among number m [] = 0
asks_among number m (item ∷ items) = asks_as number m (ask_of item) + asks_among number (suc m) items

pub items-count : (number m : ℕ) (items : List (Option Standing)) (lanes : Lanes) → 1 ≤ length lanes.queues
    → times_waiting number (put_items m items lanes).queues ≡ times_waiting number lanes.queues + asks_among number m items
items-count number m [] lanes some = omega arith
items-count number m (item ∷ items) lanes some =
    let here = ask-count number m (ask_of item) lanes some in
    let rest = items-count number (suc m) items (put_ask m (ask_of item) lanes) (subst (λ (k : ℕ). 1 ≤ k) (sym (ask-length m (ask_of item) lanes)) some) in
    omega (arith, here, rest)

pub items-length : (m : ℕ) (items : List (Option Standing)) (lanes : Lanes) → length (put_items m items lanes).queues ≡ length lanes.queues
items-length m [] lanes = refl
items-length m (item ∷ items) lanes = items-length (suc m) items (put_ask m (ask_of item) lanes) ∙ ask-length m (ask_of item) lanes

pub as-self : (number : ℕ) (ask : Option Ask) → asks_as number number ask ≡ one_if (is_some ask)
as-self number None = refl
as-self number (Some ask) = let same : one_if (nat_eq number number) ≡ 1 = grind (arith, nat_tests) in same

pub as-other : (number m : ℕ) (ask : Option Ask) → nat_eq m number ≡ false → asks_as number m ask ≡ 0
as-other number m None apart = refl
as-other number m (Some ask) apart = ap one_if apart

-- no item has a number below the first
pub asks-below : (number m : ℕ) (items : List (Option Standing)) → number < m → asks_among number m items ≡ 0
asks-below number m [] below = refl
asks-below number m (item ∷ items) below =
    let here = as-other number m (ask_of item) (grind (arith, nat_tests, below)) in
    let rest = asks-below number (suc m) items (omega (arith, below)) in
    omega (arith, here, rest)

-- each has its place behind it
pub asks-here : (m p : ℕ) (items : List (Option Standing)) → asks_among (m + p) m items ≡ one_if (is_some (ask_of (joined (slice_get items p))))
asks-here m p [] = refl
asks-here m zero (item ∷ items) =
    let here : asks_as (m + 0) m (ask_of item) ≡ one_if (is_some (ask_of item)) = subst (λ (k : ℕ). asks_as k m (ask_of item) ≡ one_if (is_some (ask_of item))) (omega arith) (as-self m (ask_of item)) in
    let rest = asks-below (m + 0) (suc m) items (omega arith) in
    omega (arith, here, rest)
asks-here m (suc p) (item ∷ items) =
    let here = as-other (m + suc p) m (ask_of item) (grind (arith, nat_tests)) in
    let rest : asks_among (m + suc p) (suc m) items ≡ one_if (is_some (ask_of (joined (slice_get items p)))) =
    subst (λ (k : ℕ). asks_among k (suc m) items ≡ one_if (is_some (ask_of (joined (slice_get items p))))) (omega arith) (asks-here (suc m) p items) in
    omega (arith, here, rest)
