-- In which lane a number waits.
use Rattle.std.proofs.Common.{◌≡◌, ◌≤◌, ◌∙◌, ◌⊎◌, inl, inr, ℕ, zero, suc, ◌+◌, ◌%◌, nat_eq, List, [], ◌∷◌, length, Option, Some, None, refl, sym, ap, arith}
use Rattle.std.specs.Prelude.{option_map, slice_get}
use Rattle.std.proofs.lemmas.Bool.{cases_Bool}
use Rattle.std.proofs.lemmas.Bool.Decides.{nat_tests}
use Rattle.host_queues.specs.Lanes.{Queue, Lanes, changed_at, lane_of, place_for, put_for, with_last}
use Rattle.host_queues.specs.Laws.{HostsKeepLanes, Put}
use Rattle.host_queues.proofs.Changes.{get-changed, get-other}
use Rattle.host_queues.proofs.Orders.{lane-put}
use Rattle.uri_names.specs.Names.{host_key_of}
use Rattle.update_model.specs.declared.ask.Ask.{Ask}
use Rattle.board_model.specs.Boards.{put_ask, put_heard, put_items}
use Rattle.board_model.specs.Jobs.{one_if, times_in}
use Rattle.board_model.specs.Slots.{Slot, Standing, ask_of, item_in, items_in, joined}
use Rattle.board_model.proofs.Counting.{in-last}

-- a number waits in a lane
abbrev pub WaitsIn : Lanes → ℕ → ℕ → Type 0
WaitsIn lanes number lane = (queue : Queue) × (slice_get lanes.queues lane ≡ Some queue) × (1 ≤ times_in number queue.waiting)

-- ---- one number is put

queue-there : (o : Option Queue) (f : Queue → Queue) (queue : Queue) → option_map f o ≡ Some queue → (q : Queue) × (o ≡ Some q) × (f q ≡ queue)
queue-there None f queue e = absurd (cc)
queue-there (Some q) f queue e = (q, refl, cc)

put-waits : (lanes : Lanes) (host : List ℕ) (number m lane : ℕ) → WaitsIn (put_for host number lanes) m lane
    → WaitsIn lanes m lane ⊎ ((m ≡ number) × (lane_of (put_for host number lanes) host ≡ Some lane))
put-waits lanes host number m lane (queue, there, some) = elim (cases_Bool (nat_eq lane (place_for lanes host % length lanes.queues))) [
  | inr other ↦ inl (queue, sym (get-other (with_last number) lanes.queues (place_for lanes host % length lanes.queues) lane other) ∙ there, some)
  | inl is ↦ here (grind (arith, nat_tests, is))
]
  where
    here : lane ≡ place_for lanes host % length lanes.queues → WaitsIn lanes m lane ⊎ ((m ≡ number) × (lane_of (put_for host number lanes) host ≡ Some lane))
    here is =
        let at = place_for lanes host % length lanes.queues in
        let changed : option_map (with_last number) (slice_get lanes.queues lane) ≡ Some queue =
        sym (get-changed (with_last number) lanes.queues lane) ∙ ap (λ (k : ℕ). slice_get (changed_at k (with_last number) lanes.queues) lane) is ∙ there in
        let old = queue-there (slice_get lanes.queues lane) (with_last number) queue changed in
        let count : times_in m queue.waiting ≡ times_in m (old.0).waiting + one_if (nat_eq number m) =
        sym (ap (λ (q : Queue). times_in m q.waiting) old.2) ∙ in-last m number (old.0).waiting in
        elim (cases_Bool (nat_eq number m)) [
          | inl same ↦ inr (grind (arith, nat_tests, same), lane-put lanes host number ∙ ap Some (sym is))
          | inr apart ↦
              let none : one_if (nat_eq number m) ≡ 0 = ap one_if apart in
              inl (old.0, old.1, omega (arith, count, none, some))
        ]

put-keeps : HostsKeepLanes → (lanes : Lanes) (host other : List ℕ) (number lane : ℕ) → lane_of lanes other ≡ Some lane → lane_of (put_for host number lanes) other ≡ Some lane
put-keeps kept lanes host other number lane is = kept lanes (Put host number ∷ []) other lane is

-- ---- what asks is put

pub ask-keeps : HostsKeepLanes → (number : ℕ) (ask : Option Ask) (lanes : Lanes) (host : List ℕ) (lane : ℕ) → lane_of lanes host ≡ Some lane → lane_of (put_ask number ask lanes) host ≡ Some lane
ask-keeps kept number None lanes host lane is = is
ask-keeps kept number (Some ask) lanes host lane is = put-keeps kept lanes (host_key_of ask.uri) host number lane is

items-keep : HostsKeepLanes → (number : ℕ) (items : List (Option Standing)) (lanes : Lanes) (host : List ℕ) (lane : ℕ) → lane_of lanes host ≡ Some lane
    → lane_of (put_items number items lanes) host ≡ Some lane
items-keep kept number [] lanes host lane is = is
items-keep kept number (item ∷ items) lanes host lane is =
    items-keep kept (suc number) items (put_ask number (ask_of item) lanes) host lane (ask-keeps kept number (ask_of item) lanes host lane is)

-- an item that was put, into the lane of its host
pub record IsPut (lanes : Lanes) (number m lane : ℕ) (item : ℕ → Option Standing) : Type 0 where
  pub place : ℕ
  pub ask : Ask
  pub at : m ≡ number + place
  pub asks : ask_of (item place) ≡ Some ask
  pub lane_is : lane_of lanes (host_key_of ask.uri) ≡ Some lane

pub ask-waits : HostsKeepLanes → (number m lane : ℕ) (ask : Option Ask) (lanes : Lanes) → WaitsIn (put_ask number ask lanes) m lane
    → WaitsIn lanes m lane ⊎ ((m ≡ number) × ((a : Ask) × (ask ≡ Some a) × (lane_of (put_ask number ask lanes) (host_key_of a.uri) ≡ Some lane)))
ask-waits kept number m lane None lanes waits = inl waits
ask-waits kept number m lane (Some ask) lanes waits = one (put-waits lanes (host_key_of ask.uri) number m lane waits)
  where
    one : WaitsIn lanes m lane ⊎ ((m ≡ number) × (lane_of (put_for (host_key_of ask.uri) number lanes) (host_key_of ask.uri) ≡ Some lane))
        → WaitsIn lanes m lane ⊎ ((m ≡ number) × ((a : Ask) × (Some ask ≡ Some a) × (lane_of (put_for (host_key_of ask.uri) number lanes) (host_key_of a.uri) ≡ Some lane)))
    one (inl old) = inl old
    one (inr (same, at)) = inr (same, (ask, refl, at))

items-wait : HostsKeepLanes → (number m lane : ℕ) (items : List (Option Standing)) (lanes : Lanes) → WaitsIn (put_items number items lanes) m lane
    → WaitsIn lanes m lane ⊎ IsPut (put_items number items lanes) number m lane (λ p. joined (slice_get items p))
items-wait kept number m lane [] lanes waits = inl waits
items-wait kept number m lane (item ∷ items) lanes waits = one (items-wait kept (suc number) m lane items (put_ask number (ask_of item) lanes) waits)
  where
    after : Lanes
    after = put_ask number (ask_of item) lanes

    two : WaitsIn lanes m lane ⊎ ((m ≡ number) × ((a : Ask) × (ask_of item ≡ Some a) × (lane_of (put_ask number (ask_of item) lanes) (host_key_of a.uri) ≡ Some lane)))
        → WaitsIn lanes m lane ⊎ IsPut (put_items (suc number) items (put_ask number (ask_of item) lanes)) number m lane (λ p. joined (slice_get (item ∷ items) p))
    two (inl old) = inl old
    two (inr (same, (a, asks, at))) = inr (record {
      place = 0;
      ask = a;
      at = same ∙ omega arith;
      asks = asks;
      lane_is = items-keep kept (suc number) items (put_ask number (ask_of item) lanes) (host_key_of a.uri) lane at;
    })

    one : WaitsIn (put_ask number (ask_of item) lanes) m lane ⊎ IsPut (put_items (suc number) items (put_ask number (ask_of item) lanes)) (suc number) m lane (λ p. joined (slice_get items p))
        → WaitsIn lanes m lane ⊎ IsPut (put_items (suc number) items (put_ask number (ask_of item) lanes)) number m lane (λ p. joined (slice_get (item ∷ items) p))
    one (inl waits) = two (ask-waits kept number m lane (ask_of item) lanes waits)
    one (inr put) = let at = put.at in inr (record { place = suc put.place; ask = put.ask; at = omega (arith, at); asks = put.asks; lane_is = put.lane_is })

-- ---- after an answer

pub heard-keeps : HostsKeepLanes → (number place : ℕ) (slot : Slot) (lanes : Lanes) (host : List ℕ) (lane : ℕ) → lane_of lanes host ≡ Some lane
    → lane_of (put_heard number place (Some slot) lanes) host ≡ Some lane
heard-keeps kept number zero slot lanes host lane is = items-keep kept number (items_in slot) lanes host lane is
heard-keeps kept number (suc place) slot lanes host lane is = ask-keeps kept number (ask_of (item_in slot (suc place))) lanes host lane is

-- an item of the source that heard was put
pub record IsPutFor (lanes : Lanes) (number place m lane : ℕ) (slot : Slot) : Type 0 where
  pub item : ℕ
  pub ask : Ask
  pub at : m + place ≡ number + item
  pub own : (place ≡ 0) ⊎ (m ≡ number)
  pub asks : ask_of (item_in slot item) ≡ Some ask
  pub lane_is : lane_of lanes (host_key_of ask.uri) ≡ Some lane

pub heard-waits : HostsKeepLanes → (number place m lane : ℕ) (slot : Slot) (lanes : Lanes) → WaitsIn (put_heard number place (Some slot) lanes) m lane
    → WaitsIn lanes m lane ⊎ IsPutFor (put_heard number place (Some slot) lanes) number place m lane slot
heard-waits kept number zero m lane slot lanes waits = one (items-wait kept number m lane (items_in slot) lanes waits)
  where
    one : WaitsIn lanes m lane ⊎ IsPut (put_items number (items_in slot) lanes) number m lane (λ p. joined (slice_get (items_in slot) p))
        → WaitsIn lanes m lane ⊎ IsPutFor (put_items number (items_in slot) lanes) number 0 m lane slot
    one (inl old) = inl old
    one (inr put) = let at = put.at in inr (record { item = put.place; ask = put.ask; at = omega (arith, at); own = inl refl; asks = put.asks; lane_is = put.lane_is })
heard-waits kept number (suc place) m lane slot lanes waits = one (ask-waits kept number m lane (ask_of (item_in slot (suc place))) lanes waits)
  where
    one : WaitsIn lanes m lane ⊎ ((m ≡ number) × ((a : Ask) × (ask_of (item_in slot (suc place)) ≡ Some a) × (lane_of (put_ask number (ask_of (item_in slot (suc place))) lanes) (host_key_of a.uri) ≡ Some lane)))
        → WaitsIn lanes m lane ⊎ IsPutFor (put_ask number (ask_of (item_in slot (suc place))) lanes) number (suc place) m lane slot
    one (inl old) = inl old
    one (inr (same, (a, asks, at))) = inr (record { item = suc place; ask = a; at = ap (λ (k : ℕ). k + suc place) same; own = inr same; asks = asks; lane_is = at })
