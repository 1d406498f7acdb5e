-- Which items ask after one has heard an answer, and which are put into lanes.
use Rattle.std.proofs.Common.{◌≡◌, ◌≢◌, ◌≤◌, ◌<◌, ◌∙◌, ◌⊎◌, inl, inr, ℕ, zero, suc, ◌+◌, ◌-◌, nat_eq, nat_lt, true, false, List, [], ◌∷◌, length, map, Option, Some, None, refl, sym, ap, subst, arith}
use Rattle.std.specs.Prelude.{is_some, option_map, option_and_then, slice_get, Result, Ok, Err}
use Rattle.std.proofs.lemmas.Bool.{cases_Bool}
use Rattle.std.proofs.lemmas.Bool.Decides.{nat_tests}
use Rattle.acq_base.specs.declared.installed.Old.{Old}
use Rattle.acq_base.specs.declared.plan.Source.{Source}
use Rattle.host_queues.specs.Lanes.{Lanes}
use Rattle.host_queues.proofs.Changes.{get-changed, get-other}
use Rattle.update_model.specs.Obtained.{◌>>=◌}
use Rattle.update_model.specs.Outcomes.{AdmittedRelease, Staying, admitted}
use Rattle.update_model.specs.Points.{Point, Over, At}
use Rattle.update_model.specs.Trails.{LaneAnswer}
use Rattle.update_model.specs.declared.ask.Ask.{Ask}
use Rattle.board_model.specs.Boards.{Asker, Board, asker_of, heard_by, put_heard, took}
use Rattle.board_model.specs.Jobs.{one_if, times_waiting}
use Rattle.board_model.specs.Keys.{key_at, named}
use Rattle.board_model.specs.Slots.{Setup, Standing, Slot, Asking, Listing, Refused, SettledSlot, after_release, ask_of, first_list, heard_at, item_at, item_in, items_in, joined, listed, item_after}
use Rattle.board_model.specs.declared.key.Key.{Key}
use Rattle.board_model.proofs.Counting.{as-other, as-self, ask-count, asks-below, asks-here, asks_among, asks_as, items-count}
use Rattle.board_model.proofs.Numbers.{base, key-there, numbered}
use Rattle.board_model.proofs.Places.{bound}

-- ---- one number

pub asker-none : (b : Board) (number : ℕ) → key_at b.config.sources number ≡ None → asker_of b number ≡ None
asker-none b number none = rw none refl

pub asker-by : (b : Board) (number : ℕ) (key : Key) (source : Source) → key_at b.config.sources number ≡ Some key → slice_get b.config.sources key.source ≡ Some source
    → asker_of b number ≡ option_map (λ ask. record { key = key; source = source; ask = ask }) (ask_of (item_at b.slots key))
asker-by b number key source k s = rw k (rw s (one (ask_of (item_at b.slots key))))
  where
    one : (o : Option Ask) → (◌>>=◌ {A = Ask} {B = Asker} o (λ ask. Some (record { key = key; source = source; ask = ask }))) ≡ option_map (λ ask. record { key = key; source = source; ask = ask }) o
    one None = refl
    one (Some ask) = refl

-- what is known of an item that asks
pub record Asks (b : Board) (number : ℕ) (a : Asker) : Type 0 where
  pub key_is : key_at b.config.sources number ≡ Some a.key
  pub source_is : slice_get b.config.sources a.key.source ≡ Some a.source
  pub slot : Slot
  pub slot_is : slice_get b.slots a.key.source ≡ Some slot
  pub asks : ask_of (item_in slot a.key.place) ≡ Some a.ask

slot-asks : (slots : List Slot) (key : Key) (ask : Ask) → ask_of (item_at slots key) ≡ Some ask → (slot : Slot) × (slice_get slots key.source ≡ Some slot) × (ask_of (item_in slot key.place) ≡ Some ask)
slot-asks slots key ask e = one (slice_get slots key.source) refl e
  where
    one : (o : Option Slot) → slice_get slots key.source ≡ o → ask_of (option_and_then (λ slot. item_in slot key.place) o) ≡ Some ask
        → (slot : Slot) × (slice_get slots key.source ≡ Some slot) × (ask_of (item_in slot key.place) ≡ Some ask)
    one None is e = absurd (cc)
    one (Some slot) is e = (slot, is, e)

pub asker-asks : (b : Board) (number : ℕ) (a : Asker) → asker_of b number ≡ Some a → Asks b number a
asker-asks b number a e =
    let k = bound (key_at b.config.sources number) _ a e in
    let s = bound (slice_get b.config.sources k.0.source) _ a k.2 in
    let q = bound (ask_of (item_at b.slots k.0)) _ a s.2 in
    let same : (record { key = k.0; source = s.0; ask = q.0 }) ≡ a = cc in
    let there = slot-asks b.slots k.0 q.0 q.1 in
    subst (λ (x : Asker). Asks b number x) same (record { key_is = k.1; source_is = s.1; slot = there.0; slot_is = there.1; asks = there.2 })

-- ---- a slot that hears

-- a Release that asks is the only item
pub only-release : (slot : Slot) (ask : Ask) → ask_of (item_in slot 0) ≡ Some ask → (old : Old) × (release : Standing) × (slot ≡ Asking old release)
only-release (Asking old release) ask e = (old, release, refl)
only-release (Listing set there lists) ask e = absurd (cc)
only-release (Refused why) ask e = absurd (cc)
only-release SettledSlot ask e = absurd (cc)

listed-few : (config : Setup) (source : Source) (old : Old) (came : Result AdmittedRelease Staying) → length (items_in (listed config source old came)) ≤ suc (length source.targets)
listed-few config source old (Ok set) = let same = length-map (first_list config source set.release (named old.lists)) source.targets in omega (arith, same)
  where
    length-map : {A B : Type 0} (f : A → B) (xs : List A) → length (map f xs) ≡ length xs
    length-map f [] = refl
    length-map f (x ∷ xs) = ap suc (length-map f xs)
listed-few config source old (Err why) = omega arith

released-few : (config : Setup) (source : Source) (old : Old) (item : Standing) (point : Point) → length (items_in (after_release config source old item point)) ≤ suc (length source.targets)
released-few config source old item (Over end) = listed-few config source old (admitted end old.release config.settings config.change config.now)
released-few config source old item (At ask left faults next) = omega arith

heard-few : (config : Setup) (source : Source) (told : LaneAnswer) (slot : Slot) (ask : Ask) → ask_of (item_in slot 0) ≡ Some ask
    → length (items_in (heard_at config source 0 told slot)) ≤ suc (length source.targets)
heard-few config source told (Asking old release) ask e = released-few config source old (item_after told release) (item_after told release).point
heard-few config source told (Listing set there lists) ask e = absurd (cc)
heard-few config source told (Refused why) ask e = absurd (cc)
heard-few config source told SettledSlot ask e = absurd (cc)

-- a list that hears leaves the other items alone
pub others-stay : (config : Setup) (source : Source) (place p : ℕ) (told : LaneAnswer) (slot : Slot) (ask : Ask) → ask_of (item_in slot (suc place)) ≡ Some ask → nat_eq p (suc place) ≡ false
    → item_in (heard_at config source (suc place) told slot) p ≡ item_in slot p
others-stay config source place p told (Asking old release) ask e apart = absurd (cc)
others-stay config source place zero told (Listing set there lists) ask e apart = refl
others-stay config source place (suc p) told (Listing set there lists) ask e apart =
    ap joined (get-other (option_map (item_after told)) lists place p (grind (arith, nat_tests, apart)))
others-stay config source place p told (Refused why) ask e apart = absurd (cc)
others-stay config source place p told SettledSlot ask e apart = absurd (cc)

-- ---- what is put into lanes

-- how often a number is put there for the items that ask now
abbrev pub added : ℕ → ℕ → ℕ → Slot → ℕ
added m number zero slot = asks_among m number (items_in slot)
added m number (suc place) slot = asks_as m number (ask_of (item_in slot (suc place)))

pub heard-count : (m number place : ℕ) (slot : Slot) (lanes : Lanes) → 1 ≤ length lanes.queues
    → times_waiting m (put_heard number place (Some slot) lanes).queues ≡ times_waiting m lanes.queues + added m number place slot
heard-count m number zero slot lanes some = items-count m number (items_in slot) lanes some
heard-count m number (suc place) slot lanes some = ask-count m number (ask_of (item_in slot (suc place))) lanes some

-- nothing is put behind the items
asks-past : (m number : ℕ) (items : List (Option Standing)) → number + length items ≤ m → asks_among m number items ≡ 0
asks-past m number [] past = refl
asks-past m number (item ∷ items) past =
    let here = as-other m number (ask_of item) (grind (arith, nat_tests, past)) in
    let rest = asks-past m (suc number) items (omega (arith, past)) in
    omega (arith, here, rest)

-- what was put is added
pub put-added : (m number place item : ℕ) (slot : Slot) (ask : Ask) → m + place ≡ number + item → ask_of (item_in slot item) ≡ Some ask
    → (place ≡ 0) ⊎ (m ≡ number) → nat_eq number m ≡ false → added m number place slot ≡ 0 → ⊥
put-added m number zero item slot ask at is own apart none =
    let at_item : m ≡ number + item = omega (arith, at) in
    let here : asks_among m number (items_in slot) ≡ 1 =
    ap (λ (k : ℕ). asks_among k number (items_in slot)) at_item ∙ asks-here number item (items_in slot) ∙ ap (λ (o : Option Ask). one_if (is_some o)) is in
    omega (arith, here, none)
put-added m number (suc place) item slot ask at is (inl first) apart none = omega (arith, first)
put-added m number (suc place) item slot ask at is (inr own) apart none = grind (arith, nat_tests, own, apart)

-- ---- after an answer

-- A number asks the same as before, and is put nowhere; or it is one of the items of the source that heard, and is put into a
-- lane exactly where it asks.
pub record IsAsBefore (b b' : Board) (a : Asker) (number m : ℕ) (slot : Slot) : Type 0 where
  pub other : nat_eq number m ≡ false
  pub asks : asker_of b' m ≡ asker_of b m
  pub none_added : added m number a.key.place slot ≡ 0

pub record IsOfSource (b b' : Board) (a : Asker) (number m : ℕ) (slot : Slot) : Type 0 where
  pub key : Key
  pub place_is : m + a.key.place ≡ number + key.place
  pub was : (nat_eq number m ≡ true) ⊎ (asker_of b m ≡ None)
  pub asks : asker_of b' m ≡ option_map (λ ask. record { key = key; source = a.source; ask = ask }) (ask_of (item_in slot key.place))
  pub one_added : added m number a.key.place slot ≡ one_if (is_some (ask_of (item_in slot key.place)))

-- the numbers of two items of a source lie as far apart as their places
same-base : (sources : List Source) (m number : ℕ) (k key : Key) → key_at sources m ≡ Some k → key_at sources number ≡ Some key → nat_eq k.source key.source ≡ true
    → (m + key.place ≡ number + k.place)
same-base sources m number k key mk nk same =
    let a = numbered sources 0 m k mk in
    let c = numbered sources 0 number key nk in
    let sources_same : k.source ≡ key.source = grind (arith, nat_tests, same) in
    let x = a.source_is in
    let y = c.source_is in
    let n_same : a.n ≡ c.n = omega (arith, x, y, sources_same) in
    let bases : base sources a.n ≡ base sources c.n = ap (base sources) n_same in
    let p = a.number_is in
    let q = c.number_is in
    omega (arith, p, q, bases)

place-cases : (p : ℕ) → (p ≡ 0) ⊎ ((q : ℕ) × (p ≡ suc q))
place-cases zero = inl refl
place-cases (suc q) = inr (q, refl)

-- the slot that the item's answer leaves
abbrev pub slot_after : (b : Board) (number : ℕ) (a : Asker) → LaneAnswer → Asks b number a → Slot
slot_after b number a told asks = heard_at b.config a.source a.key.place told asks.slot

-- no number of another source is put into a lane
none-added : (b : Board) (number m : ℕ) (a : Asker) (told : LaneAnswer) (asks : Asks b number a) → nat_eq number m ≡ false
    → (a.key.place ≡ 0 → (p : ℕ) → p ≤ length a.source.targets → m ≡ number + p → ⊥)
    → added m number a.key.place (slot_after b number a told asks) ≡ 0
none-added b number m a told asks apart outside = elim (place-cases a.key.place) [
  | inl first ↦ ap (λ (p : ℕ). added m number p (heard_at b.config a.source p told asks.slot)) first ∙ release first (cases_Bool (nat_lt m number))
  | inr (q, list) ↦ ap (λ (p : ℕ). added m number p (heard_at b.config a.source p told asks.slot)) list
      ∙ as-other m number (ask_of (item_in (heard_at b.config a.source (suc q) told asks.slot) (suc q))) apart
]
  where
    release : a.key.place ≡ 0 → (nat_lt m number ≡ true) ⊎ (nat_lt m number ≡ false)
        → asks_among m number (items_in (heard_at b.config a.source 0 told asks.slot)) ≡ 0
    release first (inl below) = asks-below m number (items_in (heard_at b.config a.source 0 told asks.slot)) (grind (arith, nat_tests, below))
    release first (inr behind) =
        let few = heard-few b.config a.source told asks.slot a.ask (subst (λ (p : ℕ). ask_of (item_in asks.slot p) ≡ Some a.ask) first asks.asks) in
        let from : number ≤ m = grind (arith, nat_tests, behind) in
        let at : m ≡ number + (m - number) = omega (arith, from) in
        elim (cases_Bool (nat_lt (length a.source.targets) (m - number))) [
          | inl past ↦
              let far : length a.source.targets < m - number = grind (arith, nat_tests, past) in
              asks-past m number (items_in (heard_at b.config a.source 0 told asks.slot)) (omega (arith, few, far, at))
          | inr within ↦ absurd (outside first (m - number) (grind (arith, nat_tests, within)) at)
        ]

-- the key of a number behind a Release's
behind-release : (b : Board) (number p : ℕ) (a : Asker) → Asks b number a → a.key.place ≡ 0 → p ≤ length a.source.targets
    → key_at b.config.sources (number + p) ≡ Some (record { source = a.key.source; place = p })
behind-release b number p a asks first few =
    let n = numbered b.config.sources 0 number a.key asks.key_is in
    let source_at : a.key.source ≡ n.n = n.source_is ∙ omega arith in
    let there : slice_get b.config.sources n.n ≡ Some a.source = subst (λ (k : ℕ). slice_get b.config.sources k ≡ Some a.source) source_at asks.source_is in
    let is = n.number_is in
    let at : number + p ≡ base b.config.sources n.n + p = omega (arith, is, first) in
    ap (key_at b.config.sources) at ∙ key-there b.config.sources 0 n.n p a.source there few
    ∙ ap (λ (k : ℕ). Some (record { source = k; place = p })) (omega arith ∙ sym source_at)

apart-numbers : (b : Board) (number m : ℕ) (a : Asker) → Asks b number a → key_at b.config.sources m ≢ Some a.key → nat_eq number m ≡ false
apart-numbers b number m a asks differs = elim (cases_Bool (nat_eq number m)) [
  | inl is ↦
      let same : number ≡ m = grind (arith, nat_tests, is) in
      absurd (differs (ap (key_at b.config.sources) (sym same) ∙ asks.key_is))
  | inr isnt ↦ isnt
]

-- a number of no item
unplanned : (b : Board) (number from m : ℕ) (a : Asker) (told : LaneAnswer) (asks : Asks b number a) → key_at b.config.sources m ≡ None
    → IsAsBefore b (took b number a from told) a number m (slot_after b number a told asks)
unplanned b number from m a told asks none =
    let apart = apart-numbers b number m a asks (λ some. cc) in
    record {
      other = apart;
      asks = asker-none (took b number a from told) m none ∙ sym (asker-none b m none);
      none_added = none-added b number m a told asks apart
          (λ first p few at. let there = behind-release b number p a asks first few in
          let both : None ≡ Some (record { source = a.key.source; place = p }) = sym none ∙ ap (key_at b.config.sources) at ∙ there in
          cc);
    }

-- an item of another source
elsewhere : (b : Board) (number from m : ℕ) (a : Asker) (told : LaneAnswer) (asks : Asks b number a) (key : Key) → key_at b.config.sources m ≡ Some key → nat_eq key.source a.key.source ≡ false
    → IsAsBefore b (took b number a from told) a number m (slot_after b number a told asks)
elsewhere b number from m a told asks key is other =
    let n = numbered b.config.sources 0 m key is in
    let source_at : key.source ≡ n.n = n.source_is ∙ omega arith in
    let there : slice_get b.config.sources key.source ≡ Some n.source = ap (slice_get b.config.sources) source_at ∙ n.there in
    let apart = apart-numbers b number m a asks (λ same. let q : Some key ≡ Some a.key = sym is ∙ same in
    let k : key ≡ a.key = cc in
    let s : key.source ≡ a.key.source = ap (λ (x : Key). x.source) k in
    grind (arith, nat_tests, other, s)) in
    let item : item_at (heard_by b a told) key ≡ item_at b.slots key =
    ap (option_and_then (λ slot. item_in slot key.place)) (get-other (heard_at b.config a.source a.key.place told) b.slots a.key.source key.source other) in
    record {
      other = apart;
      asks = asker-by (took b number a from told) m key n.source is there
          ∙ ap (λ (item : Option Standing). option_map (λ ask. record { key = key; source = n.source; ask = ask }) (ask_of item)) item
          ∙ sym (asker-by b m key n.source is there);
      none_added = none-added b number m a told asks apart
          (λ first p few at. let back = behind-release b number p a asks first few in
          let both : Some key ≡ Some (record { source = a.key.source; place = p }) = sym is ∙ ap (key_at b.config.sources) at ∙ back in
          let k : key ≡ record { source = a.key.source; place = p } = cc in
          let s : key.source ≡ a.key.source = ap (λ (x : Key). x.source) k in
          grind (arith, nat_tests, other, s));
    }

-- an item of the source that heard
pub here-asks : (b : Board) (number from m : ℕ) (a : Asker) (told : LaneAnswer) (asks : Asks b number a) (key : Key) → key_at b.config.sources m ≡ Some key → nat_eq key.source a.key.source ≡ true
    → asker_of (took b number a from told) m ≡ option_map (λ ask. record { key = key; source = a.source; ask = ask }) (ask_of (item_in (slot_after b number a told asks) key.place))
here-asks b number from m a told asks key is same =
    let source_same : key.source ≡ a.key.source = grind (arith, nat_tests, same) in
    let there : slice_get b.config.sources key.source ≡ Some a.source = ap (slice_get b.config.sources) source_same ∙ asks.source_is in
    let slot : slice_get (heard_by b a told) key.source ≡ Some (slot_after b number a told asks) =
    ap (slice_get (heard_by b a told)) source_same ∙ get-changed (heard_at b.config a.source a.key.place told) b.slots a.key.source
    ∙ ap (option_map (heard_at b.config a.source a.key.place told)) asks.slot_is in
    asker-by (took b number a from told) m key a.source is there
    ∙ ap (λ (s : Option Slot). option_map (λ ask. record { key = key; source = a.source; ask = ask }) (ask_of (option_and_then (λ slot. item_in slot key.place) s))) slot

before-asks : (b : Board) (number m : ℕ) (a : Asker) (asks : Asks b number a) (key : Key) → key_at b.config.sources m ≡ Some key → nat_eq key.source a.key.source ≡ true
    → asker_of b m ≡ option_map (λ ask. record { key = key; source = a.source; ask = ask }) (ask_of (item_in asks.slot key.place))
before-asks b number m a asks key is same =
    let source_same : key.source ≡ a.key.source = grind (arith, nat_tests, same) in
    let there : slice_get b.config.sources key.source ≡ Some a.source = ap (slice_get b.config.sources) source_same ∙ asks.source_is in
    let slot : slice_get b.slots key.source ≡ Some asks.slot = ap (slice_get b.slots) source_same ∙ asks.slot_is in
    asker-by b m key a.source is there
    ∙ ap (λ (s : Option Slot). option_map (λ ask. record { key = key; source = a.source; ask = ask }) (ask_of (option_and_then (λ slot. item_in slot key.place) s))) slot

-- where a Release heard
of-release : (b : Board) (number from m : ℕ) (a : Asker) (told : LaneAnswer) (asks : Asks b number a) (key : Key) → key_at b.config.sources m ≡ Some key → nat_eq key.source a.key.source ≡ true
    → a.key.place ≡ 0 → IsOfSource b (took b number a from told) a number m (slot_after b number a told asks)
of-release b number from m a told asks key is same first =
    let places = same-base b.config.sources m number key a.key is asks.key_is same in
    let at : m ≡ number + key.place = omega (arith, places, first) in
    let released_slot : Slot = heard_at b.config a.source 0 told asks.slot in
    let only = only-release asks.slot a.ask (subst (λ (p : ℕ). ask_of (item_in asks.slot p) ≡ Some a.ask) first asks.asks) in
    record {
      key = key;
      place_is = places;
      was = one (place-cases key.place) at only.2;
      asks = here-asks b number from m a told asks key is same;
      one_added = ap (λ (p : ℕ). added m number p (heard_at b.config a.source p told asks.slot)) first
          ∙ ap (λ (k : ℕ). asks_among k number (items_in released_slot)) at
          ∙ asks-here number key.place (items_in released_slot)
          ∙ sym (ap (λ (p : ℕ). one_if (is_some (ask_of (item_in (heard_at b.config a.source p told asks.slot) key.place)))) first);
    }
  where
    one : (key.place ≡ 0) ⊎ ((q : ℕ) × (key.place ≡ suc q)) → m ≡ number + key.place → {old : Old} {release : Standing} → asks.slot ≡ Asking old release
        → (nat_eq number m ≡ true) ⊎ (asker_of b m ≡ None)
    one (inl zero_is) at slot = inl (grind (arith, nat_tests, at, zero_is))
    one (inr (q, later)) at {old} {release} slot = inr (
        before-asks b number m a asks key is same
        ∙ ap (λ (p : ℕ). option_map (λ ask. record { key = key; source = a.source; ask = ask }) (ask_of (item_in asks.slot p))) later
        ∙ ap (λ (s : Slot). option_map (λ ask. record { key = key; source = a.source; ask = ask }) (ask_of (item_in s (suc q)))) slot)

-- where a list heard
of-list : (b : Board) (number from m : ℕ) (a : Asker) (told : LaneAnswer) (asks : Asks b number a) (key : Key) (q : ℕ) → key_at b.config.sources m ≡ Some key → nat_eq key.source a.key.source ≡ true
    → a.key.place ≡ suc q → (nat_eq number m ≡ true) ⊎ (nat_eq number m ≡ false)
    → IsAsBefore b (took b number a from told) a number m (slot_after b number a told asks) ⊎ IsOfSource b (took b number a from told) a number m (slot_after b number a told asks)
of-list b number from m a told asks key q is same list (inl itself) =
    let places = same-base b.config.sources m number key a.key is asks.key_is same in
    let number_same : number ≡ m = grind (arith, nat_tests, itself) in
    let place_same : key.place ≡ a.key.place = omega (arith, places, number_same) in
    let slot = slot_after b number a told asks in
    inr (record {
      key = key;
      place_is = places;
      was = inl itself;
      asks = here-asks b number from m a told asks key is same;
      one_added = ap (λ (p : ℕ). added m number p slot) list
          ∙ ap (λ (k : ℕ). asks_as m k (ask_of (item_in slot (suc q)))) number_same
          ∙ as-self m (ask_of (item_in slot (suc q)))
          ∙ ap (λ (p : ℕ). one_if (is_some (ask_of (item_in slot p)))) (sym list ∙ sym place_same);
    })
of-list b number from m a told asks key q is same list (inr apart) =
    let places = same-base b.config.sources m number key a.key is asks.key_is same in
    let slot = slot_after b number a told asks in
    let other_place : nat_eq key.place (suc q) ≡ false = grind (arith, nat_tests, places, list, apart) in
    let stays : item_in slot key.place ≡ item_in asks.slot key.place =
    ap (λ (p : ℕ). item_in (heard_at b.config a.source p told asks.slot) key.place) list
    ∙ others-stay b.config a.source q key.place told asks.slot a.ask (subst (λ (p : ℕ). ask_of (item_in asks.slot p) ≡ Some a.ask) list asks.asks) other_place in
    inl (record {
      other = apart;
      asks = here-asks b number from m a told asks key is same
          ∙ ap (λ (item : Option Standing). option_map (λ ask. record { key = key; source = a.source; ask = ask }) (ask_of item)) stays
          ∙ sym (before-asks b number m a asks key is same);
      none_added = ap (λ (p : ℕ). added m number p slot) list ∙ as-other m number (ask_of (item_in slot (suc q))) apart;
    })

-- each number
pub after-answer : (b : Board) (number from m : ℕ) (a : Asker) (told : LaneAnswer) (asks : Asks b number a)
    → IsAsBefore b (took b number a from told) a number m (slot_after b number a told asks) ⊎ IsOfSource b (took b number a from told) a number m (slot_after b number a told asks)
after-answer b number from m a told asks = one (key_at b.config.sources m) refl
  where
    two : (key : Key) → key_at b.config.sources m ≡ Some key → (nat_eq key.source a.key.source ≡ true) ⊎ (nat_eq key.source a.key.source ≡ false)
        → IsAsBefore b (took b number a from told) a number m (slot_after b number a told asks) ⊎ IsOfSource b (took b number a from told) a number m (slot_after b number a told asks)
    two key is (inr other) = inl (elsewhere b number from m a told asks key is other)
    two key is (inl same) = elim (place-cases a.key.place) [
      | inl first ↦ inr (of-release b number from m a told asks key is same first)
      | inr (q, list) ↦ of-list b number from m a told asks key q is same list (cases_Bool (nat_eq number m))
    ]

    one : (key : Option Key) → key_at b.config.sources m ≡ key
        → IsAsBefore b (took b number a from told) a number m (slot_after b number a told asks) ⊎ IsOfSource b (took b number a from told) a number m (slot_after b number a told asks)
    one None none = inl (unplanned b number from m a told asks none)
    one (Some key) is = two key is (cases_Bool (nat_eq key.source a.key.source))
