-- Each event leaves the jobs standing.
use Rattle.std.proofs.Common.{◌≡◌, ◌≤◌, ◌∙◌, ◌⊎◌, inl, inr, ℕ, zero, suc, ◌+◌, nat_eq, Bool, true, false, List, [], ◌∷◌, length, map, Option, Some, None, refl, sym, ap, subst, arith}
use Rattle.std.specs.Prelude.{if◌then◌else◌, is_some, option_map, option_and_then, slice_get}
use Rattle.std.proofs.lemmas.Bool.{cases_Bool}
use Rattle.std.proofs.lemmas.Bool.Decides.{nat_tests}
use Rattle.host_queues.specs.Lanes.{Queue, Lanes, changed_at, first, first_of, freed, freed_at, lane_of, sent, taken_from, with_last, without_first}
use Rattle.host_queues.specs.Laws.{HostsKeepLanes, Done, Next}
use Rattle.host_queues.proofs.Changes.{get-changed, get-other}
use Rattle.uri_names.specs.Names.{host_key_of}
use Rattle.update_model.specs.Trails.{LaneAnswer}
use Rattle.update_model.specs.declared.ask.Ask.{Ask}
use Rattle.board_model.specs.Boards.{Asker, Board, asker_of, is_out_as, issued, job_for, put_ask, put_heard, put_items, put_out, took}
use Rattle.board_model.specs.Jobs.{IsInLane, one_if, times_in, times_out, times_waiting}
use Rattle.board_model.specs.Slots.{Slot, Standing, ask_of, item_in, items_in}
use Rattle.board_model.proofs.Askers.{Asks, IsAsBefore, IsOfSource, added, after-answer, asker-asks, heard-count, put-added, slot_after}
use Rattle.board_model.proofs.Counting.{freed-count, items-length, ask-length, length-changed, out-cleared, out-put, out-there, taken-count, waits-there}
use Rattle.board_model.proofs.Lanes.{IsPutFor, WaitsIn, heard-keeps, heard-waits}

-- each item that asks waits or is out, once, in the lane of its host
pub record LanesStand (b : Board) : Type 0 where
  pub some : 1 ≤ length b.lanes.queues
  pub once : (number : ℕ) → times_waiting number b.lanes.queues + times_out number b.out ≡ one_if (is_some (asker_of b number))
  pub hosts : (number lane : ℕ) (a : Asker) → asker_of b number ≡ Some a → IsInLane b number lane → lane_of b.lanes (host_key_of a.ask.uri) ≡ Some lane
  pub busy : map (λ (q : Queue). q.is_out) b.lanes.queues ≡ map is_some b.out

-- ---- counts

at-most-one : (c : Bool) → one_if c ≤ 1
at-most-one true = omega arith
at-most-one false = omega arith

some-asks : (o : Option Asker) → 1 ≤ one_if (is_some o) → (a : Asker) × (o ≡ Some a)
some-asks None h = absurd (omega (arith, h))
some-asks (Some a) h = (a, refl)

-- what is there asks
pub there-asks : (b : Board) (number : ℕ) → LanesStand b → 1 ≤ times_waiting number b.lanes.queues + times_out number b.out → (a : Asker) × (asker_of b number ≡ Some a)
there-asks b number h there = let once = h.once number in some-asks (asker_of b number) (omega (arith, once, there))

-- what is out waits nowhere, and is out once
pub out-alone : (b : Board) (number lane : ℕ) → LanesStand b → slice_get b.out lane ≡ Some (Some number) → (times_waiting number b.lanes.queues ≡ 0) × (times_out number b.out ≡ 1)
out-alone b number lane h out =
    let once = h.once number in
    let few = at-most-one (is_some (asker_of b number)) in
    let there = out-there number lane b.out out in
    (omega (arith, once, few, there), omega (arith, once, few, there))

-- what waits isn't out
pub waits-alone : (b : Board) (number lane : ℕ) → LanesStand b → WaitsIn b.lanes number lane → (times_out number b.out ≡ 0) × ((a : Asker) × (asker_of b number ≡ Some a))
waits-alone b number lane h waits =
    let once = h.once number in
    let few = at-most-one (is_some (asker_of b number)) in
    let there = waits-there number lane b.lanes.queues waits.0 waits.1 waits.2 in
    (omega (arith, once, few, there), there-asks b number h (omega (arith, there)))

-- ---- flags of lanes

map-changed : {A B : Type 0} (f : A → B) (g : A → A) (h : B → B) (n : ℕ) (xs : List A) → ((x : A) → f (g x) ≡ h (f x)) → map f (changed_at n g xs) ≡ changed_at n h (map f xs)
map-changed f g h n [] same = refl
map-changed f g h zero (x ∷ xs) same = ap (λ y. y ∷ map f xs) (same x)
map-changed f g h (suc n) (x ∷ xs) same = ap (λ ys. f x ∷ ys) (map-changed f g h n xs same)

map-kept : {A B : Type 0} (f : A → B) (g : A → A) (n : ℕ) (xs : List A) → ((x : A) → f (g x) ≡ f x) → map f (changed_at n g xs) ≡ map f xs
map-kept f g n [] same = refl
map-kept f g zero (x ∷ xs) same = ap (λ y. y ∷ map f xs) (same x)
map-kept f g (suc n) (x ∷ xs) same = ap (λ ys. f x ∷ ys) (map-kept f g n xs same)

abbrev pub flags : List Queue → List Bool
flags queues = map (λ (q : Queue). q.is_out) queues

pub ask-flags : (number : ℕ) (ask : Option Ask) (lanes : Lanes) → flags (put_ask number ask lanes).queues ≡ flags lanes.queues
ask-flags number None lanes = refl
ask-flags number (Some ask) lanes = map-kept (λ (q : Queue). q.is_out) (with_last number) _ lanes.queues (λ q. refl)

items-flags : (number : ℕ) (items : List (Option Standing)) (lanes : Lanes) → flags (put_items number items lanes).queues ≡ flags lanes.queues
items-flags number [] lanes = refl
items-flags number (item ∷ items) lanes = items-flags (suc number) items (put_ask number (ask_of item) lanes) ∙ ask-flags number (ask_of item) lanes

heard-flags : (number place : ℕ) (slot : Slot) (lanes : Lanes) → flags (put_heard number place (Some slot) lanes).queues ≡ flags lanes.queues
heard-flags number zero slot lanes = items-flags number (items_in slot) lanes
heard-flags number (suc place) slot lanes = ask-flags number (ask_of (item_in slot (suc place))) lanes

heard-length : (number place : ℕ) (slot : Slot) (lanes : Lanes) → length (put_heard number place (Some slot) lanes).queues ≡ length lanes.queues
heard-length number zero slot lanes = items-length number (items_in slot) lanes
heard-length number (suc place) slot lanes = ask-length number (ask_of (item_in slot (suc place))) lanes

-- ---- an answer

mapped-some : {A B : Type 0} (f : A → B) (o : Option A) → is_some (option_map f o) ≡ is_some o
mapped-some f None = refl
mapped-some f (Some x) = refl

took-once : (b : Board) (number from m : ℕ) (a : Asker) (told : LaneAnswer) (asks : Asks b number a) → LanesStand b → slice_get b.out from ≡ Some (Some number)
    → times_waiting m b.lanes.queues + added m number a.key.place (slot_after b number a told asks) + times_out m (changed_at from (λ o. None) b.out)
    ≡ one_if (is_some (asker_of (took b number a from told) m))
took-once b number from m a told asks h out = one (after-answer b number from m a told asks)
  where
    slot : Slot
    slot = slot_after b number a told asks

    one : IsAsBefore b (took b number a from told) a number m (slot_after b number a told asks) ⊎ IsOfSource b (took b number a from told) a number m (slot_after b number a told asks)
        → times_waiting m b.lanes.queues + added m number a.key.place (slot_after b number a told asks) + times_out m (changed_at from (λ o. None) b.out)
        ≡ one_if (is_some (asker_of (took b number a from told) m))
    one (inl same) =
        let once = h.once m in
        let cleared = out-cleared m number from b.out out in
        let other : one_if (nat_eq number m) ≡ 0 = ap one_if same.other in
        let asked : one_if (is_some (asker_of (took b number a from told) m)) ≡ one_if (is_some (asker_of b m)) = ap (λ (o : Option Asker). one_if (is_some o)) same.asks in
        let none = same.none_added in
        omega (arith, once, cleared, other, asked, none)
    one (inr here) =
        let once = h.once m in
        let cleared = out-cleared m number from b.out out in
        let few = at-most-one (is_some (asker_of b m)) in
        let asked : one_if (is_some (asker_of (took b number a from told) m)) ≡ added m number a.key.place (slot_after b number a told asks) =
        ap (λ (o : Option Asker). one_if (is_some o)) here.asks
        ∙ ap one_if (mapped-some (λ ask. record { key = here.key; source = a.source; ask = ask }) (ask_of (item_in (slot_after b number a told asks) here.key.place)))
        ∙ sym here.one_added in
        let none : times_waiting m b.lanes.queues + times_out m (changed_at from (λ o. None) b.out) ≡ 0 = elim here.was [
          | inl itself ↦ let own : one_if (nat_eq number m) ≡ 1 = ap one_if itself in omega (arith, once, cleared, few, own)
          | inr silent ↦ let zero_is : one_if (is_some (asker_of b m)) ≡ 0 = ap (λ (o : Option Asker). one_if (is_some o)) silent in omega (arith, once, cleared, zero_is)
        ] in
        omega (arith, asked, none)

-- an item that waited asks the same as before
pub took-same : (b : Board) (number from m : ℕ) (a : Asker) (told : LaneAnswer) (asks : Asks b number a) (other : Asker) → asker_of b m ≡ Some other → nat_eq number m ≡ false
    → asker_of (took b number a from told) m ≡ Some other
took-same b number from m a told asks other is apart = one (after-answer b number from m a told asks)
  where
    one : IsAsBefore b (took b number a from told) a number m (slot_after b number a told asks) ⊎ IsOfSource b (took b number a from told) a number m (slot_after b number a told asks)
        → asker_of (took b number a from told) m ≡ Some other
    one (inl same) = same.asks ∙ is
    one (inr here) = elim here.was [
      | inl itself ↦ let both : true ≡ false = sym itself ∙ apart in absurd (cc)
      | inr silent ↦ let both : None ≡ Some other = sym silent ∙ is in absurd (cc)
    ]

-- the lanes behind an answer
lanes-after : (b : Board) (number from : ℕ) (a : Asker) (told : LaneAnswer) (asks : Asks b number a)
    → (took b number a from told).lanes ≡ put_heard number a.key.place (Some (slot_after b number a told asks)) (freed_at from b.lanes)
lanes-after b number from a told asks =
    ap (λ (s : Option Slot). put_heard number a.key.place s (freed_at from b.lanes))
    (get-changed _ b.slots a.key.source ∙ ap (option_map _) asks.slot_is)

freed-waits : (b : Board) (from m lane : ℕ) → WaitsIn (freed_at from b.lanes) m lane → WaitsIn b.lanes m lane
freed-waits b from m lane (queue, there, some) = elim (cases_Bool (nat_eq lane from)) [
  | inr other ↦ (queue, sym (get-other freed b.lanes.queues from lane other) ∙ there, some)
  | inl is ↦
      let same : lane ≡ from = grind (arith, nat_tests, is) in
      one (slice_get b.lanes.queues lane) refl (sym (get-changed freed b.lanes.queues lane) ∙ ap (λ (k : ℕ). slice_get (changed_at k freed b.lanes.queues) lane) same ∙ there)
]
  where
    one : (o : Option Queue) → slice_get b.lanes.queues lane ≡ o → option_map freed o ≡ Some queue → WaitsIn b.lanes m lane
    one None is e = absurd (cc)
    one (Some q) is e =
        let same : freed q ≡ queue = cc in
        (q, is, subst (λ (n : ℕ). 1 ≤ n) (sym (ap (λ (x : Queue). times_in m x.waiting) same)) some)

-- what asks as before was put nowhere
not-put : (b : Board) (number from m : ℕ) (a : Asker) (told : LaneAnswer) (asks : Asks b number a) → IsAsBefore b (took b number a from told) a number m (slot_after b number a told asks)
    → (item : ℕ) (ask : Ask) → m + a.key.place ≡ number + item → ask_of (item_in (slot_after b number a told asks) item) ≡ Some ask → (a.key.place ≡ 0) ⊎ (m ≡ number) → ⊥
not-put b number from m a told asks same item ask at is own = put-added m number a.key.place item (slot_after b number a told asks) ask at is own same.other same.none_added

took-hosts : HostsKeepLanes → (b : Board) (number from m lane : ℕ) (a : Asker) (told : LaneAnswer) (asks : Asks b number a) (other : Asker) → LanesStand b → slice_get b.out from ≡ Some (Some number)
    → asker_of (took b number a from told) m ≡ Some other → IsInLane (took b number a from told) m lane
    → lane_of (put_heard number a.key.place (Some (slot_after b number a told asks)) (freed_at from b.lanes)) (host_key_of other.ask.uri) ≡ Some lane
took-hosts kept b number from m lane a told asks other h out is (inl waits) =
    one (heard-waits kept number a.key.place m lane slot (freed_at from b.lanes) (subst (λ (l : Lanes). WaitsIn l m lane) (lanes-after b number from a told asks) waits))
  where
    slot : Slot
    slot = slot_after b number a told asks

    lanes : Lanes
    lanes = put_heard number a.key.place (Some (slot_after b number a told asks)) (freed_at from b.lanes)

    one : WaitsIn (freed_at from b.lanes) m lane ⊎ IsPutFor (put_heard number a.key.place (Some (slot_after b number a told asks)) (freed_at from b.lanes)) number a.key.place m lane (slot_after b number a told asks)
        → lane_of (put_heard number a.key.place (Some (slot_after b number a told asks)) (freed_at from b.lanes)) (host_key_of other.ask.uri) ≡ Some lane
    one (inl old) = waited (freed-waits b from m lane old)
      where
        waited : WaitsIn b.lanes m lane → lane_of (put_heard number a.key.place (Some (slot_after b number a told asks)) (freed_at from b.lanes)) (host_key_of other.ask.uri) ≡ Some lane
        waited waits =
            let alone = waits-alone b m lane h waits in
            let apart : nat_eq number m ≡ false = elim (cases_Bool (nat_eq number m)) [
              | inr isnt ↦ isnt
              | inl itself ↦
                  let same : number ≡ m = grind (arith, nat_tests, itself) in
                  let once = (out-alone b number from h out).1 in
                  let none : times_out number b.out ≡ 0 = ap (λ (k : ℕ). times_out k b.out) same ∙ alone.0 in
                  absurd (omega (arith, once, none))
            ] in
            let before = alone.1 in
            let same_asker : Some before.0 ≡ Some other = sym (took-same b number from m a told asks before.0 before.1 apart) ∙ is in
            let asker : before.0 ≡ other = cc in
            let host : lane_of b.lanes (host_key_of (before.0).ask.uri) ≡ Some lane = h.hosts m lane before.0 before.1 (inl waits) in
            subst (λ (x : Asker). lane_of (put_heard number a.key.place (Some (slot_after b number a told asks)) (freed_at from b.lanes)) (host_key_of x.ask.uri) ≡ Some lane) asker
            (heard-keeps kept number a.key.place (slot_after b number a told asks) (freed_at from b.lanes) (host_key_of (before.0).ask.uri) lane
            (kept b.lanes (Done from ∷ []) (host_key_of (before.0).ask.uri) lane host))
    one (inr put) = two (after-answer b number from m a told asks)
      where
        two : IsAsBefore b (took b number a from told) a number m (slot_after b number a told asks) ⊎ IsOfSource b (took b number a from told) a number m (slot_after b number a told asks)
            → lane_of (put_heard number a.key.place (Some (slot_after b number a told asks)) (freed_at from b.lanes)) (host_key_of other.ask.uri) ≡ Some lane
        two (inl same) = absurd (not-put b number from m a told asks same put.item put.ask put.at put.asks put.own)
        two (inr here) =
            let at = put.at in
            let place = here.place_is in
            let item : put.item ≡ here.key.place = omega (arith, at, place) in
            let asked : option_map (λ ask. record { key = here.key; source = a.source; ask = ask }) (ask_of (item_in (slot_after b number a told asks) here.key.place)) ≡ Some (record { key = here.key; source = a.source; ask = put.ask }) =
            ap (λ (p : ℕ). option_map (λ ask. record { key = here.key; source = a.source; ask = ask }) (ask_of (item_in (slot_after b number a told asks) p))) (sym item)
            ∙ ap (option_map (λ ask. record { key = here.key; source = a.source; ask = ask })) put.asks in
            let both : Some (record { key = here.key; source = a.source; ask = put.ask }) ≡ Some other = sym asked ∙ sym here.asks ∙ is in
            let same : record { key = here.key; source = a.source; ask = put.ask } ≡ other = cc in
            let ask : put.ask ≡ other.ask = ap (λ (x : Asker). x.ask) same in
            subst (λ (x : Ask). lane_of (put_heard number a.key.place (Some (slot_after b number a told asks)) (freed_at from b.lanes)) (host_key_of x.uri) ≡ Some lane) ask put.lane_is
took-hosts kept b number from m lane a told asks other h out is (inr sent_out) =
    let differs : nat_eq lane from ≡ false = elim (cases_Bool (nat_eq lane from)) [
      | inr isnt ↦ isnt
      | inl itself ↦
          let same : lane ≡ from = grind (arith, nat_tests, itself) in
          let cleared : slice_get (changed_at from (λ o. None) b.out) from ≡ Some None = get-changed (λ (o : Option ℕ). None) b.out from ∙ ap (option_map (λ (o : Option ℕ). None)) out in
          let both : Some None ≡ Some (Some m) = sym cleared ∙ ap (slice_get (changed_at from (λ o. None) b.out)) (sym same) ∙ sent_out in
          absurd (cc)
    ] in
    let before : slice_get b.out lane ≡ Some (Some m) = sym (get-other (λ (o : Option ℕ). None) b.out from lane differs) ∙ sent_out in
    let apart : nat_eq number m ≡ false = elim (cases_Bool (nat_eq number m)) [
      | inr isnt ↦ isnt
      | inl itself ↦
          let alone = (out-alone b m lane h before).1 in
          let own : one_if (nat_eq number m) ≡ 1 = ap one_if itself in
          let cleared = out-cleared m number from b.out out in
          let there = out-there m lane (changed_at from (λ o. None) b.out) sent_out in
          absurd (omega (arith, alone, own, cleared, there))
    ] in
    let there = out-there m lane b.out before in
    let asker = there-asks b m h (omega (arith, there)) in
    let same_asker : Some asker.0 ≡ Some other = sym (took-same b number from m a told asks asker.0 asker.1 apart) ∙ is in
    let same : asker.0 ≡ other = cc in
    let host : lane_of b.lanes (host_key_of (asker.0).ask.uri) ≡ Some lane = h.hosts m lane asker.0 asker.1 (inr before) in
    subst (λ (x : Asker). lane_of (put_heard number a.key.place (Some (slot_after b number a told asks)) (freed_at from b.lanes)) (host_key_of x.ask.uri) ≡ Some lane) same
    (heard-keeps kept number a.key.place (slot_after b number a told asks) (freed_at from b.lanes) (host_key_of (asker.0).ask.uri) lane
    (kept b.lanes (Done from ∷ []) (host_key_of (asker.0).ask.uri) lane host))

pub took-stands : HostsKeepLanes → (b : Board) (number from : ℕ) (a : Asker) (told : LaneAnswer) → asker_of b number ≡ Some a → LanesStand b → slice_get b.out from ≡ Some (Some number)
    → LanesStand (took b number a from told)
took-stands kept b number from a told is h out =
    let asks = asker-asks b number a is in
    let slot = slot_after b number a told asks in
    let lanes = lanes-after b number from a told asks in
    let queues : (took b number a from told).lanes.queues ≡ (put_heard number a.key.place (Some slot) (freed_at from b.lanes)).queues = ap (λ (l : Lanes). l.queues) lanes in
    let many : 1 ≤ length (freed_at from b.lanes).queues = subst (λ (n : ℕ). 1 ≤ n) (sym (length-changed freed from b.lanes.queues)) h.some in
    record {
      some = subst (λ (n : ℕ). 1 ≤ n) (sym (ap length queues ∙ heard-length number a.key.place slot (freed_at from b.lanes))) many;
      once = λ m.
          ap (λ (n : ℕ). n + times_out m (changed_at from (λ o. None) b.out))
          (ap (times_waiting m) queues ∙ heard-count m number a.key.place slot (freed_at from b.lanes) many ∙ ap (λ (n : ℕ). n + added m number a.key.place slot) (freed-count m from b.lanes.queues))
          ∙ took-once b number from m a told asks h out;
      hosts = λ m lane other asker there.
          subst (λ (l : Lanes). lane_of l (host_key_of other.ask.uri) ≡ Some lane) (sym lanes)
          (took-hosts kept b number from m lane a told asks other h out asker there);
      busy = ap flags queues ∙ heard-flags number a.key.place slot (freed_at from b.lanes)
          ∙ map-changed (λ (q : Queue). q.is_out) freed (λ busy. false) from b.lanes.queues (λ q. refl)
          ∙ ap (changed_at from (λ busy. false)) h.busy
          ∙ sym (map-changed is_some (λ (o : Option ℕ). None) (λ busy. false) from b.out (λ o. refl));
    }

-- ---- a job goes out

-- a lane from which nothing goes out stays
none-flags : (lane : ℕ) (queues : List Queue) → option_and_then first (slice_get queues lane) ≡ None → flags (changed_at lane without_first queues) ≡ flags queues
none-flags lane [] e = refl
none-flags zero (queue ∷ queues) e = ap (λ f. f ∷ flags queues) (one queue.is_out queue.waiting e)
  where
    one : (is_out : Bool) (waiting : List ℕ) → (if is_out then None else slice_get waiting 0) ≡ None
        → (if is_out then record { waiting = waiting; is_out = is_out } else sent waiting).is_out ≡ is_out
    one true waiting e = refl
    one false [] e = refl
    one false (m ∷ more) e = absurd (cc)
none-flags (suc lane) (queue ∷ queues) e = ap (λ fs. queue.is_out ∷ fs) (none-flags lane queues e)

some-flags : (lane m : ℕ) (queues : List Queue) → option_and_then first (slice_get queues lane) ≡ Some m
    → (flags (changed_at lane without_first queues) ≡ changed_at lane (λ busy. true) (flags queues)) × (slice_get (flags queues) lane ≡ Some false)
some-flags lane m [] e = absurd (cc)
some-flags zero m (queue ∷ queues) e = let here = one queue.is_out queue.waiting e in (ap (λ f. f ∷ flags queues) here.0, ap Some here.1)
  where
    one : (is_out : Bool) (waiting : List ℕ) → (if is_out then None else slice_get waiting 0) ≡ Some m
        → ((if is_out then record { waiting = waiting; is_out = is_out } else sent waiting).is_out ≡ true) × (is_out ≡ false)
    one true waiting e = absurd (cc)
    one false [] e = absurd (cc)
    one false (n ∷ more) e = (refl, refl)
some-flags (suc lane) m (queue ∷ queues) e = let rest = some-flags lane m queues e in (ap (λ fs. queue.is_out ∷ fs) rest.0, rest.1)

-- a lane with no job out has none
no-job : (outs : List (Option ℕ)) (lane : ℕ) → slice_get (map is_some outs) lane ≡ Some false → slice_get outs lane ≡ Some None
no-job [] lane e = absurd (cc)
no-job (None ∷ outs) zero e = refl
no-job (Some m ∷ outs) zero e = absurd (cc)
no-job (out ∷ outs) (suc lane) e = no-job outs lane e

-- what is left in a lane was there
taken-waits : (lanes : Lanes) (from m lane : ℕ) → WaitsIn (taken_from from lanes) m lane → WaitsIn lanes m lane
taken-waits lanes from m lane (queue, there, some) = elim (cases_Bool (nat_eq lane from)) [
  | inr other ↦ (queue, sym (get-other without_first lanes.queues from lane other) ∙ there, some)
  | inl is ↦
      let same : lane ≡ from = grind (arith, nat_tests, is) in
      one (slice_get lanes.queues lane) refl (sym (get-changed without_first lanes.queues lane) ∙ ap (λ (k : ℕ). slice_get (changed_at k without_first lanes.queues) lane) same ∙ there)
]
  where
    fewer : (q : Queue) → times_in m (without_first q).waiting ≤ times_in m q.waiting
    fewer q = two q.is_out q.waiting
      where
        two : (is_out : Bool) (waiting : List ℕ) → times_in m (if is_out then record { waiting = waiting; is_out = is_out } else sent waiting).waiting ≤ times_in m waiting
        two true waiting = omega arith
        two false [] = omega arith
        two false (n ∷ more) = omega arith

    one : (o : Option Queue) → slice_get lanes.queues lane ≡ o → option_map without_first o ≡ Some queue → WaitsIn lanes m lane
    one None is e = absurd (cc)
    one (Some q) is e =
        let same : without_first q ≡ queue = cc in
        let few = fewer q in
        let count : times_in m (without_first q).waiting ≡ times_in m queue.waiting = ap (λ (x : Queue). times_in m x.waiting) same in
        (q, is, omega (arith, some, few, count))

-- nothing goes out of a lane
stays-in : HostsKeepLanes → (b : Board) (lane : ℕ) → LanesStand b → first_of b.lanes lane ≡ None → LanesStand (record b { lanes = taken_from lane b.lanes })
stays-in kept b lane h none = record {
  some = subst (λ (n : ℕ). 1 ≤ n) (sym (length-changed without_first lane b.lanes.queues)) h.some;
  once = λ m.
      let count = taken-count m lane b.lanes.queues in
      let nothing : one_if (is_out_as m (option_and_then first (slice_get b.lanes.queues lane))) ≡ 0 = ap (λ (o : Option ℕ). one_if (is_out_as m o)) none in
      let once = h.once m in
      omega (arith, count, nothing, once);
  hosts = λ m l a asks there. kept b.lanes (Next lane ∷ []) (host_key_of a.ask.uri) l (h.hosts m l a asks (before m l there));
  busy = none-flags lane b.lanes.queues none ∙ h.busy;
}
  where
    before : (m l : ℕ) → IsInLane (record b { lanes = taken_from lane b.lanes }) m l → IsInLane b m l
    before m l (inl waits) = inl (taken-waits b.lanes lane m l waits)
    before m l (inr out) = inr out

-- the oldest number goes out of a lane
goes-out : HostsKeepLanes → (b : Board) (lane number : ℕ) → LanesStand b → first_of b.lanes lane ≡ Some number
    → LanesStand (record b { lanes = taken_from lane b.lanes; out = changed_at lane (λ o. Some number) b.out })
goes-out kept b lane number h is = record {
  some = subst (λ (n : ℕ). 1 ≤ n) (sym (length-changed without_first lane b.lanes.queues)) h.some;
  once = λ m.
      let count = taken-count m lane b.lanes.queues in
      let one : one_if (is_out_as m (option_and_then first (slice_get b.lanes.queues lane))) ≡ one_if (nat_eq number m) = ap (λ (o : Option ℕ). one_if (is_out_as m o)) is in
      let put = out-put m number lane b.out free in
      let once = h.once m in
      omega (arith, count, one, put, once);
  hosts = λ m l a asks there. kept b.lanes (Next lane ∷ []) (host_key_of a.ask.uri) l (h.hosts m l a asks (before m l there));
  busy = flagged.0 ∙ ap (changed_at lane (λ busy. true)) h.busy ∙ sym (map-changed is_some (λ (o : Option ℕ). Some number) (λ busy. true) lane b.out (λ o. refl));
}
  where
    flagged : (flags (changed_at lane without_first b.lanes.queues) ≡ changed_at lane (λ busy. true) (flags b.lanes.queues)) × (slice_get (flags b.lanes.queues) lane ≡ Some false)
    flagged = some-flags lane number b.lanes.queues is

    free : slice_get b.out lane ≡ Some None
    free = no-job b.out lane (ap (λ (fs : List Bool). slice_get fs lane) (sym h.busy) ∙ flagged.1)

    waited : (q : Queue) → first q ≡ Some number → 1 ≤ times_in number q.waiting
    waited q e = two q.is_out q.waiting e
      where
        two : (is_out : Bool) (waiting : List ℕ) → (if is_out then None else slice_get waiting 0) ≡ Some number → 1 ≤ times_in number waiting
        two true waiting e = absurd (cc)
        two false [] e = absurd (cc)
        two false (n ∷ more) e =
            let same : n ≡ number = cc in
            let own : one_if (nat_eq n number) ≡ 1 = grind (arith, nat_tests, same) in
            omega (arith, own)

    was-waiting : (o : Option Queue) → slice_get b.lanes.queues lane ≡ o → option_and_then first o ≡ Some number → WaitsIn b.lanes number lane
    was-waiting None there e = absurd (cc)
    was-waiting (Some q) there e = (q, there, waited q e)

    before : (m l : ℕ) → IsInLane (record b { lanes = taken_from lane b.lanes; out = changed_at lane (λ o. Some number) b.out }) m l → IsInLane b m l
    before m l (inl waits) = inl (taken-waits b.lanes lane m l waits)
    before m l (inr out) = elim (cases_Bool (nat_eq l lane)) [
      | inr other ↦ inr (sym (get-other (λ (o : Option ℕ). Some number) b.out lane l other) ∙ out)
      | inl itself ↦
          let same : l ≡ lane = grind (arith, nat_tests, itself) in
          let now : slice_get (changed_at lane (λ (o : Option ℕ). Some number) b.out) lane ≡ Some (Some number) = get-changed (λ (o : Option ℕ). Some number) b.out lane ∙ ap (option_map (λ (o : Option ℕ). Some number)) free in
          let both : Some (Some number) ≡ Some (Some m) = sym now ∙ ap (slice_get (changed_at lane (λ (o : Option ℕ). Some number) b.out)) (sym same) ∙ out in
          let number_is : number ≡ m = cc in
          inl (subst (λ (k : ℕ). WaitsIn b.lanes k l) number_is (subst (λ (k : ℕ). WaitsIn b.lanes number k) (sym same) (was-waiting (slice_get b.lanes.queues lane) refl is)))
    ]

-- the lane from which a number goes out is free
pub free-lane : (b : Board) (lane number : ℕ) → LanesStand b → first_of b.lanes lane ≡ Some number → slice_get b.out lane ≡ Some None
free-lane b lane number h is =
    no-job b.out lane (ap (λ (fs : List Bool). slice_get fs lane) (sym h.busy) ∙ (some-flags lane number b.lanes.queues is).1)

-- what goes out asks
pub first-asks : (b : Board) (lane number : ℕ) → LanesStand b → first_of b.lanes lane ≡ Some number → (a : Asker) × (asker_of b number ≡ Some a)
first-asks b lane number h is =
    let count = taken-count number lane b.lanes.queues in
    let one : one_if (is_out_as number (option_and_then first (slice_get b.lanes.queues lane))) ≡ one_if (nat_eq number number) = ap (λ (o : Option ℕ). one_if (is_out_as number o)) is in
    let own : one_if (nat_eq number number) ≡ 1 = grind (arith, nat_tests) in
    there-asks b number h (omega (arith, count, one, own))

pub issued-stands : HostsKeepLanes → (b : Board) (lane : ℕ) → LanesStand b → LanesStand (issued b lane)
issued-stands kept b lane h = one (first_of b.lanes lane) refl
  where
    one : (o : Option ℕ) → first_of b.lanes lane ≡ o
        → LanesStand (record b { lanes = taken_from lane b.lanes; out = put_out lane (option_and_then (λ number. option_map (λ (a : Asker). job_for number a.ask) (asker_of b number)) o) b.out })
    one None is = stays-in kept b lane h is
    one (Some number) is =
        let asker = first-asks b lane number h is in
        subst (λ (o : Option Asker). LanesStand (record b { lanes = taken_from lane b.lanes; out = put_out lane (option_map (λ (a : Asker). job_for number a.ask) o) b.out })) (sym asker.1)
        (goes-out kept b lane number h is)
