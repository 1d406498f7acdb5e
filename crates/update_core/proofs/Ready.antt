-- Which sources are ready.
use Rattle.std.proofs.Common.{◌≡◌, ◌∙◌, ℕ, zero, suc, ◌+◌, ◌<◌, ◌≤◌, nat_eq, nat_lt, Bool, false, true, cond, inl, inr, List, [], ◌∷◌, length, get_or, Option, Some, None, refl, sym, ap, subst, arith}
use Rattle.std.specs.Prelude.{option_map, option_and_then, slice_get, if◌then◌else◌}
use Rattle.std.specs.BTreeMap.{is_at}
use Rattle.std.specs.BTreeSet.{BTreeSet, contains}
use Rattle.std.specs.List.{list_all, list_any}
use Rattle.std.specs.Option.{IsSome}
use Rattle.std.specs.Ordering.{nat_cmp}
use Rattle.std.proofs.Math.ListN.{set}
use Rattle.std.proofs.lemmas.List.{length-map, set-set}
use Rattle.std.proofs.lemmas.Bool.{cases_Bool}
use Rattle.std.proofs.lemmas.Bool.Decides.{nat_tests}
use Rattle.host_queues.specs.Lanes.{changed_at}
use Rattle.host_queues.proofs.Changes.{get-some}
use Rattle.acq_base.specs.declared.installed.Old.{Old}
use Rattle.acq_base.specs.declared.plan.Source.{Source}
use Rattle.update_model.specs.declared.ask.Ask.{Ask}
use Rattle.board_model.specs.Boards.{Board, first_ready, first_slots, settled_of}
use Rattle.board_model.specs.Slots.{Setup, Slot, Standing, Asking, Listing, Refused, SettledSlot, ask_of, has_ended, is_ready, item_at, item_in, joined}
use Rattle.board_model.specs.declared.key.Key.{Key}
use Rattle.std.proofs.lemmas.Option.{slice_get-get_or, slice_get-map, slice_get_within}
use Rattle.update_core.specs.Refinement.{AreReady, ready_at, ready_in, slots_of}
use Rattle.board_model.specs.Settling.{settled_in}
use Rattle.update_model.specs.declared.settled.Settled.{Settled}
use Rattle.update_core.proofs.Changed.{set-constant}
use Rattle.board_slot.specs.Refinement.{slot_of}
use Rattle.board_slot.specs.declared.slot.Slot.{Slot as CodeSlot}

some-same : (m n : ℕ) → Some m ≡ Some n → m ≡ n
some-same m n e = cc

next-same : (m n : ℕ) → Some (m + 1) ≡ Some n → suc m ≡ n
next-same m n e = let same = some-same (m + 1) n e in omega (arith, same)

-- the least place of a source that is ready
pub first-is : (slots : List Slot) (n : ℕ) → ready_at slots n ≡ true → ((m : ℕ) → ready_at slots m ≡ true → n ≤ m) → first_ready slots ≡ Some n
first-is [] n is least = absurd (cc)
first-is (slot ∷ slots) zero is least = rw is refl
first-is (slot ∷ slots) (suc n) is least = elim (cases_Bool (is_ready slot)) [
  | inl now ↦ absurd (let zero_first : suc n ≤ 0 = least 0 now in omega (arith, zero_first))
  | inr isnt ↦ rw isnt (rw (first-is slots n is (λ m is_m. let above : suc n ≤ suc m = least (suc m) is_m in omega (arith, above))) (ap (λ (k : ℕ). Some k) (omega arith)))
]

pub none-is : (slots : List Slot) → ((m : ℕ) → ready_at slots m ≡ false) → first_ready slots ≡ None
none-is [] none = refl
none-is (slot ∷ slots) none = rw (none 0) (rw (none-is slots (λ m. none (suc m))) refl)

-- and the other way round
pub ready-first : (slots : List Slot) (n : ℕ) → first_ready slots ≡ Some n → ready_at slots n ≡ true
ready-first [] n e = absurd (cc)
ready-first (slot ∷ slots) n e = elim (cases_Bool (is_ready slot)) [
  | inl now ↦ subst (λ (k : ℕ). ready_at (slot ∷ slots) k ≡ true) (some-same 0 n (rw now at e)) now
  | inr isnt ↦ more (first_ready slots) refl (rw isnt at e) (λ m is. ready-first slots m is)
]
  where
    more : (o : Option ℕ) → first_ready slots ≡ o → option_map (λ n. n + 1) o ≡ Some n → ((m : ℕ) → first_ready slots ≡ Some m → ready_at slots m ≡ true) → ready_at (slot ∷ slots) n ≡ true
    more None is same rest = absurd (cc)
    more (Some m) is same rest = subst (λ (k : ℕ). ready_at (slot ∷ slots) k ≡ true) (next-same m n same) (rest m is)

-- a source with an item that asks isn't ready
pub asks-unready : (slot : Slot) (place : ℕ) (ask : Ask) → ask_of (item_in slot place) ≡ Some ask → is_ready slot ≡ false
asks-unready (Asking old release) place ask e = refl
asks-unready (Listing set there lists) zero ask e = absurd (cc)
asks-unready (Listing set there lists) (suc place) ask e = some lists place e
  where
    some : (lists : List (Option Standing)) (place : ℕ) → ask_of (joined (slice_get lists place)) ≡ Some ask → list_all has_ended lists ≡ false
    some [] place e = absurd (cc)
    some (list ∷ lists) zero e = rw e refl
    some (list ∷ lists) (suc place) e = elim (cases_Bool (has_ended list)) [
      | inl is ↦ rw is (some lists place e)
      | inr isnt ↦ rw isnt refl
    ]
asks-unready (Refused why) place ask e = absurd (cc)
asks-unready SettledSlot place ask e = absurd (cc)

-- where an item asks, its source is there, and isn't ready
pub record IsBusy (slots : List Slot) (place : ℕ) : Type 0 where
  pub there : place < length slots
  pub unready : ready_at slots place ≡ false

pub asks-busy : (slots : List Slot) (key : Key) (ask : Ask) → ask_of (item_at slots key) ≡ Some ask → IsBusy slots key.source
asks-busy slots key ask e = one (slice_get slots key.source) refl e
  where
    one : (o : Option Slot) → slice_get slots key.source ≡ o → ask_of (option_and_then (λ slot. item_in slot key.place) o) ≡ Some ask → IsBusy slots key.source
    one None is e = absurd (cc)
    one (Some slot) is e = record {
      there = slice_get_within slots key.source slot is;
      unready = ap ready_in is ∙ asks-unready slot key.place ask e;
    }

pub ready-there : (slots : List Slot) (n : ℕ) → ready_at slots n ≡ true → n < length slots
ready-there [] n e = absurd (cc)
ready-there (slot ∷ slots) zero e = omega arith
ready-there (slot ∷ slots) (suc n) e = let rest = ready-there slots n e in omega (arith, rest)

same-next : (n m : ℕ) → nat_eq (suc n) (suc m) ≡ nat_eq n m
same-next n m = elim (cases_Bool (nat_eq n m)) [
  | inl is ↦ let same : nat_eq (suc n) (suc m) ≡ true = grind (arith, nat_tests, is) in same ∙ sym is
  | inr isnt ↦ let apart : nat_eq (suc n) (suc m) ≡ false = grind (arith, nat_tests, isnt) in apart ∙ sym isnt
]

-- whether a source is ready once one of them stands otherwise
pub ready-changed : (slots : List Slot) (n m : ℕ) (slot : Slot) → n < length slots
    → ready_at (changed_at n (λ old. slot) slots) m ≡ (if nat_eq n m then is_ready slot else ready_at slots m)
ready-changed [] n m slot within = absurd (grind (arith, within))
ready-changed (x ∷ xs) zero zero slot within = refl
ready-changed (x ∷ xs) zero (suc m) slot within = let apart : nat_eq 0 (suc m) ≡ false = grind (arith, nat_tests) in rw apart refl
ready-changed (x ∷ xs) (suc n) zero slot within = let apart : nat_eq (suc n) 0 ≡ false = grind (arith, nat_tests) in rw apart refl
ready-changed (x ∷ xs) (suc n) (suc m) slot within =
    ready-changed xs n m slot (omega (arith, within)) ∙ ap (λ (b : Bool). if b then is_ready slot else ready_at xs m) (sym (same-next n m))

-- where it was as ready as it is now, nothing changes
pub ready-kept : (slots : List Slot) (n m : ℕ) (b : Bool) → ready_at slots n ≡ b → (if nat_eq n m then b else ready_at slots m) ≡ ready_at slots m
ready-kept slots n m b e = elim (cases_Bool (nat_eq n m)) [
  | inl is ↦ rw is (let same : n ≡ m = grind (arith, nat_tests, is) in sym e ∙ ap (ready_at slots) same)
  | inr isnt ↦ rw isnt refl
]

pub same-order : (n m : ℕ) → is_at (nat_cmp n) m ≡ nat_eq n m
same-order n m = elim (cases_Bool (nat_lt n m)) [
  | inl less ↦ rw less (let apart : nat_eq n m ≡ false = grind (arith, nat_tests, less) in sym apart)
  | inr more ↦ rw more (elim (cases_Bool (nat_eq n m)) [
    | inl is ↦ rw is refl
    | inr isnt ↦ rw isnt refl
  ])
]

-- ---- the places that are kept

-- a source that wasn't ready is taken out
pub ready-taken : (slots : List CodeSlot) (places : BTreeSet ℕ) (n : ℕ) (hole : CodeSlot) → n < length slots → ready_at (slots_of slots) n ≡ false → slot_of hole ≡ SettledSlot
    → AreReady slots places → AreReady (set slots n hole) places
ready-taken slots places n hole within unready closed are = λ m.
    let within-model : n < length (slots_of slots) = subst (λ k. n < k) (sym (length-map slots slot_of)) within in
    are m
    ∙ sym (ready-kept (slots_of slots) n m false unready)
    ∙ sym (ready-changed (slots_of slots) n m SettledSlot within-model)
    ∙ ap (λ (s : List Slot). ready_at s m) (sym (set-constant slot_of slots n hole SettledSlot closed))

-- it is put back, and its place is marked where it is ready
pub ready-put : (slots : List CodeSlot) (before places : BTreeSet ℕ) (n : ℕ) (hole new : CodeSlot) (b : Bool) → n < length slots → b ≡ is_ready (slot_of new)
    → ((m : ℕ) → contains nat_cmp places m ≡ (if nat_eq n m then b else contains nat_cmp before m)) → AreReady slots before
    → AreReady (set (set slots n hole) n new) places
ready-put slots before places n hole new b within is marked are = λ m.
    let within-model : n < length (slots_of slots) = subst (λ k. n < k) (sym (length-map slots slot_of)) within in
    marked m
    ∙ ap (λ (x : Bool). if nat_eq n m then x else contains nat_cmp before m) is
    ∙ ap (λ (x : Bool). if nat_eq n m then is_ready (slot_of new) else x) (are m)
    ∙ sym (ready-changed (slots_of slots) n m (slot_of new) within-model)
    ∙ ap (λ (s : List Slot). ready_at s m) (sym (set-constant slot_of slots n new (slot_of new) refl))
    ∙ ap (λ (s : List CodeSlot). ready_at (slots_of s) m) (sym (set-set slots n hole new))

-- a source is settled, and its place goes
pub ready-settled : (slots : List CodeSlot) (before places : BTreeSet ℕ) (n : ℕ) (hole : CodeSlot) → n < length slots → slot_of hole ≡ SettledSlot
    → ((m : ℕ) → contains nat_cmp places m ≡ cond (is_at (nat_cmp n) m) false (contains nat_cmp before m)) → AreReady slots before
    → AreReady (set slots n hole) places
ready-settled slots before places n hole within closed gone are = λ m.
    let within-model : n < length (slots_of slots) = subst (λ k. n < k) (sym (length-map slots slot_of)) within in
    gone m
    ∙ ap (λ (x : Bool). cond x false (contains nat_cmp before m)) (same-order n m)
    ∙ ap (λ (x : Bool). cond (nat_eq n m) false x) (are m)
    ∙ sym (ready-changed (slots_of slots) n m SettledSlot within-model)
    ∙ ap (λ (s : List Slot). ready_at s m) (sym (set-constant slot_of slots n hole SettledSlot closed))

-- no key, no member
pub empty-contains : (places : BTreeSet ℕ) → (0 < length places.keys → ⊥) → (m : ℕ) → contains nat_cmp places m ≡ false
empty-contains places none m = one places.keys refl
  where
    one : (ks : List ℕ) → places.keys ≡ ks → contains nat_cmp places m ≡ false
    one [] e = ap (λ (ks : List ℕ). list_any (is_at (nat_cmp m)) ks) e
    one (k ∷ ks) e = absurd (none (subst (λ (xs : List ℕ). 0 < length xs) (sym e) (omega arith)))

pub get-of : (slots : List CodeSlot) (n : ℕ) (d : CodeSlot) → n < length slots → d ≡ get_or slots n d → slice_get (slots_of slots) n ≡ Some (slot_of d)
get-of slots n d within is = slice_get-map slot_of slots n ∙ ap (option_map slot_of) (slice_get-get_or slots n d within ∙ ap (λ (s : CodeSlot). Some s) (sym is))

-- the slot that is ready
pub ready-slot : (slots : List CodeSlot) (n : ℕ) (d : CodeSlot) → n < length slots → d ≡ get_or slots n d → ready_at (slots_of slots) n ≡ true → is_ready (slot_of d) ≡ true
ready-slot slots n d within is e = sym (ap ready_in (get-of slots n d within is)) ∙ e

pub busy-by : (slots : List Slot) (key : Key) → IsSome (ask_of (item_at slots key)) → IsBusy slots key.source
busy-by slots key some = one (ask_of (item_at slots key)) refl some
  where
    one : (o : Option Ask) → ask_of (item_at slots key) ≡ o → IsSome o → IsBusy slots key.source
    one None e s = absurd (cc)
    one (Some ask) e s = asks-busy slots key ask e

-- at the beginning none is
pub first-unready : (config : Setup) (sources : List Source) (olds : List Old) (m : ℕ) → ready_at (first_slots config sources olds) m ≡ false
first-unready config [] olds m = refl
first-unready config (source ∷ sources) [] m = refl
first-unready config (source ∷ sources) (old ∷ olds) zero = refl
first-unready config (source ∷ sources) (old ∷ olds) (suc m) = first-unready config sources olds m

pub empty-ready : (config : Setup) (sources : List Source) (olds : List Old) (slots : List CodeSlot) (places : BTreeSet ℕ)
    → slots_of slots ≡ first_slots config sources olds → places.keys ≡ [] → AreReady slots places
empty-ready config sources olds slots places e none = λ m.
    ap (λ (ks : List ℕ). list_any (is_at (nat_cmp m)) ks) none
    ∙ sym (ap (λ (s : List Slot). ready_at s m) e ∙ first-unready config sources olds m)

pub there-is : {A : Type 0} (xs : List A) (n : ℕ) (x : A) → n < length xs → x ≡ get_or xs n x → slice_get xs n ≡ Some x
there-is xs n x within is = slice_get-get_or xs n x within ∙ ap (λ (y : _). Some y) (sym is)

pub same-there : {A : Type 0} (o : Option A) (x y : A) → o ≡ Some x → o ≡ Some y → x ≡ y
same-there o x y a b = cc

-- what is there at a place is there
pub settled-same : (sources : List Source) (slots : List Slot) (n : ℕ) (source found : Source) (slot kept : Slot) (settled : Settled)
    → slice_get sources n ≡ Some found → slice_get slots n ≡ Some kept → settled_in found kept ≡ Some settled
    → slice_get sources n ≡ Some source → slice_get slots n ≡ Some slot → settled_in source slot ≡ Some settled
settled-same sources slots n source found slot kept settled f k e s l =
    let same : found ≡ source = same-there (slice_get sources n) found source f s in
    let alike : kept ≡ slot = same-there (slice_get slots n) kept slot k l in
    sym (ap (λ (x : Source). settled_in x kept) same ∙ ap (λ (x : Slot). settled_in source x) alike) ∙ e

pub settled-by : (b : Board) (n : ℕ) (settled : Settled) → n < length b.config.sources → n < length b.slots
    → ((source : Source) (slot : Slot) → slice_get b.config.sources n ≡ Some source → slice_get b.slots n ≡ Some slot → settled_in source slot ≡ Some settled)
    → settled_of b n ≡ Some settled
settled-by b n settled within placed each =
    let source = get-some b.config.sources n within in
    let slot = get-some b.slots n placed in
    rw source.1 (rw slot.1 (each source.0 slot.0 source.1 slot.1))
