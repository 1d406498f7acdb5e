-- The jobs of a new board stand, and settling leaves them.
use Rattle.std.proofs.Common.{◌≡◌, ◌≤◌, ◌<◌, ◌∙◌, ◌⊎◌, inl, inr, ℕ, zero, suc, ◌+◌, ◌-◌, nat_eq, nat_lt, Bool, true, false, List, [], ◌∷◌, length, map, Option, Some, None, refl, sym, ap, subst, arith}
use Rattle.std.specs.Prelude.{is_none, is_some, option_map, option_and_then, replicate, slice_get}
use Rattle.std.specs.List.{list_all}
use Rattle.std.proofs.lemmas.Bool.{cases_Bool, and_parts}
use Rattle.std.proofs.lemmas.Bool.Decides.{nat_tests}
use Rattle.std.proofs.Math.ListN.{length-replicate}
use Rattle.acq_base.specs.declared.installed.Old.{Old}
use Rattle.acq_base.specs.declared.plan.Source.{Source}
use Rattle.host_queues.specs.Lanes.{Queue, Lanes, changed_at, empty_queue, lane_of, no_hosts}
use Rattle.host_queues.specs.Laws.{HostsKeepLanes}
use Rattle.host_queues.proofs.Changes.{get-changed, get-other}
use Rattle.uri_names.specs.Names.{host_key_of}
use Rattle.update_model.specs.Releases.{in_release_uri, release_limit}
use Rattle.update_model.specs.Walks.{whole_ask}
use Rattle.update_model.specs.declared.ask.Ask.{Ask}
use Rattle.update_model.specs.declared.settled.Verdict2.{Verdict2}
use Rattle.board_model.specs.Boards.{Asker, Board, asker_of, first_board, first_ready, first_release, first_slots, put_ask, put_releases, settled_as}
use Rattle.board_model.specs.Jobs.{IsInLane, one_if, times_in, times_waiting}
use Rattle.board_model.specs.Keys.{key_at, keys_from, keys_in}
use Rattle.board_model.specs.Slots.{Setup, Standing, Slot, Asking, Listing, Refused, SettledSlot, ask_of, has_ended, is_ready, item_at, item_in, joined}
use Rattle.board_model.specs.declared.key.Key.{Key}
use Rattle.board_model.proofs.Askers.{asker-by, asker-none}
use Rattle.board_model.proofs.Counting.{ask-count, ask-length, none-out, none-waits}
use Rattle.board_model.proofs.Events.{first-slot, ready-slot}
use Rattle.board_model.proofs.JobRuns.{LanesStand, ask-flags, flags}
use Rattle.board_model.proofs.Lanes.{WaitsIn, ask-keeps, ask-waits}
use Rattle.board_model.proofs.Numbers.{base, get-behind, get-front, key-in, key-there, length-places, numbered}

-- ---- which Releases are put

-- what each Release asks first
abbrev first_ask : Source → Ask
first_ask source = whole_ask (in_release_uri source) release_limit

abbrev releases_among : ℕ → ℕ → List Source → ℕ
releases_among m number [] = 0
releases_among m number (source ∷ sources) = one_if (nat_eq number m) + releases_among m (number + length source.targets + 1) sources

releases-length : (config : Setup) (number : ℕ) (sources : List Source) (lanes : Lanes) → length (put_releases config number sources lanes).queues ≡ length lanes.queues
releases-length config number [] lanes = refl
releases-length config number (source ∷ sources) lanes =
    releases-length config (number + length source.targets + 1) sources (put_ask number (Some (first_ask source)) lanes) ∙ ask-length number (Some (first_ask source)) lanes

releases-count : (config : Setup) (m number : ℕ) (sources : List Source) (lanes : Lanes) → 1 ≤ length lanes.queues
    → times_waiting m (put_releases config number sources lanes).queues ≡ times_waiting m lanes.queues + releases_among m number sources
releases-count config m number [] lanes some = omega arith
releases-count config m number (source ∷ sources) lanes some =
    let here = ask-count m number (Some (first_ask source)) lanes some in
    let rest = releases-count config m (number + length source.targets + 1) sources (put_ask number (Some (first_ask source)) lanes)
    (subst (λ (k : ℕ). 1 ≤ k) (sym (ask-length number (Some (first_ask source)) lanes)) some) in
    omega (arith, here, rest)

releases-flags : (config : Setup) (number : ℕ) (sources : List Source) (lanes : Lanes) → flags (put_releases config number sources lanes).queues ≡ flags lanes.queues
releases-flags config number [] lanes = refl
releases-flags config number (source ∷ sources) lanes =
    releases-flags config (number + length source.targets + 1) sources (put_ask number (Some (first_ask source)) lanes) ∙ ask-flags number (Some (first_ask source)) lanes

releases-below : (m number : ℕ) (sources : List Source) → m < number → releases_among m number sources ≡ 0
releases-below m number [] below = refl
releases-below m number (source ∷ sources) below =
    let rest = releases-below m (number + length source.targets + 1) sources (omega (arith, below)) in
    let here : one_if (nat_eq number m) ≡ 0 = grind (arith, nat_tests, below) in
    omega (arith, here, rest)

-- a Release's place
abbrev is_first : Option Key → Bool
is_first None = false
is_first (Some key) = nat_eq key.place 0

releases-first : (sources : List Source) (first number m : ℕ) → releases_among (number + m) number sources ≡ one_if (is_first (slice_get (keys_from first sources) m))
releases-first [] first number m = refl
releases-first (source ∷ sources) first number zero =
    let rest = releases-below (number + 0) (number + length source.targets + 1) sources (omega arith) in
    let here : one_if (nat_eq number (number + 0)) ≡ 1 = grind (arith, nat_tests) in
    omega (arith, here, rest)
releases-first (source ∷ sources) first number (suc m) =
    let here : one_if (nat_eq number (number + suc m)) ≡ 0 = grind (arith, nat_tests) in
    elim (cases_Bool (nat_lt m (length source.targets))) [
      | inl within ↦
          let below : m < length source.targets = grind (arith, nat_tests, within) in
          let rest = releases-below (number + suc m) (number + length source.targets + 1) sources (omega (arith, below)) in
          let key : slice_get (keys_in first source) (suc m) ≡ Some (record { source = first; place = suc m }) = key-in first source (suc m) (omega (arith, below)) in
          let at : slice_get (keys_from first (source ∷ sources)) (suc m) ≡ Some (record { source = first; place = suc m }) =
          get-front (keys_in first source) (keys_from (suc first) sources) (suc m) (record { source = first; place = suc m }) key in
          let none : one_if (is_first (slice_get (keys_from first (source ∷ sources)) (suc m))) ≡ 0 = ap (λ (k : Option Key). one_if (is_first k)) at ∙ grind (arith, nat_tests) in
          omega (arith, here, rest, none)
      | inr past ↦
          let far : length source.targets ≤ m = grind (arith, nat_tests, past) in
          let k : ℕ = m - length source.targets in
          let m_is : m ≡ length source.targets + k = omega (arith, far) in
          let places : length (keys_in first source) ≡ suc (length source.targets) = ap suc (length-places first 1 source.targets) in
          let at : suc m ≡ length (keys_in first source) + k = omega (arith, places, m_is) in
          let behind : slice_get (keys_from first (source ∷ sources)) (suc m) ≡ slice_get (keys_from (suc first) sources) k =
          ap (slice_get (keys_from first (source ∷ sources))) at ∙ get-behind (keys_in first source) (keys_from (suc first) sources) k in
          let number_is : number + suc m ≡ (number + length source.targets + 1) + k = omega (arith, m_is) in
          let rest : releases_among (number + suc m) (number + length source.targets + 1) sources ≡ one_if (is_first (slice_get (keys_from (suc first) sources) k)) =
          ap (λ (n : ℕ). releases_among n (number + length source.targets + 1) sources) number_is ∙ releases-first sources (suc first) (number + length source.targets + 1) k in
          let key : one_if (is_first (slice_get (keys_from first (source ∷ sources)) (suc m))) ≡ one_if (is_first (slice_get (keys_from (suc first) sources) k)) = ap (λ (key : Option Key). one_if (is_first key)) behind in
          omega (arith, here, rest, key)
    ]

-- ---- which lanes they are put into

record IsPutRelease (lanes : Lanes) (number m lane : ℕ) (sources : List Source) : Type 0 where
  n : ℕ
  source : Source
  there : slice_get sources n ≡ Some source
  at : m ≡ number + base sources n
  lane_is : lane_of lanes (host_key_of (in_release_uri source)) ≡ Some lane

releases-keep : HostsKeepLanes → (config : Setup) (number : ℕ) (sources : List Source) (lanes : Lanes) (host : List ℕ) (lane : ℕ) → lane_of lanes host ≡ Some lane
    → lane_of (put_releases config number sources lanes) host ≡ Some lane
releases-keep kept config number [] lanes host lane is = is
releases-keep kept config number (source ∷ sources) lanes host lane is =
    releases-keep kept config (number + length source.targets + 1) sources (put_ask number (Some (first_ask source)) lanes) host lane
    (ask-keeps kept number (Some (first_ask source)) lanes host lane is)

releases-wait : HostsKeepLanes → (config : Setup) (number m lane : ℕ) (sources : List Source) (lanes : Lanes) → WaitsIn (put_releases config number sources lanes) m lane
    → WaitsIn lanes m lane ⊎ IsPutRelease (put_releases config number sources lanes) number m lane sources
releases-wait kept config number m lane [] lanes waits = inl waits
releases-wait kept config number m lane (source ∷ sources) lanes waits =
    one (releases-wait kept config (number + length source.targets + 1) m lane sources (put_ask number (Some (first_ask source)) lanes) waits)
  where
    two : WaitsIn lanes m lane ⊎ ((m ≡ number) × ((a : Ask) × (Some (first_ask source) ≡ Some a) × (lane_of (put_ask number (Some (first_ask source)) lanes) (host_key_of a.uri) ≡ Some lane)))
        → WaitsIn lanes m lane ⊎ IsPutRelease (put_releases config (number + length source.targets + 1) sources (put_ask number (Some (first_ask source)) lanes)) number m lane (source ∷ sources)
    two (inl old) = inl old
    two (inr (same, (a, asks, at))) =
        let ask : first_ask source ≡ a = cc in
        inr (record {
          n = 0;
          source = source;
          there = refl;
          at = same ∙ omega arith;
          lane_is = releases-keep kept config (number + length source.targets + 1) sources (put_ask number (Some (first_ask source)) lanes) (host_key_of (in_release_uri source)) lane
              (subst (λ (x : Ask). lane_of (put_ask number (Some (first_ask source)) lanes) (host_key_of x.uri) ≡ Some lane) (sym ask) at);
        })

    one : WaitsIn (put_ask number (Some (first_ask source)) lanes) m lane
        ⊎ IsPutRelease (put_releases config (number + length source.targets + 1) sources (put_ask number (Some (first_ask source)) lanes)) (number + length source.targets + 1) m lane sources
        → WaitsIn lanes m lane ⊎ IsPutRelease (put_releases config (number + length source.targets + 1) sources (put_ask number (Some (first_ask source)) lanes)) number m lane (source ∷ sources)
    one (inl waits) = two (ask-waits kept number m lane (Some (first_ask source)) lanes waits)
    one (inr put) = let at = put.at in inr (record { n = suc put.n; source = put.source; there = put.there; at = omega (arith, at); lane_is = put.lane_is })

-- ---- a new board

old-there : (sources : List Source) (olds : List Old) (n : ℕ) (source : Source) → length olds ≡ length sources → slice_get sources n ≡ Some source → (old : Old) × (slice_get olds n ≡ Some old)
old-there [] olds n source each there = absurd (cc)
old-there (x ∷ sources) [] n source each there = absurd (omega (arith, each))
old-there (x ∷ sources) (old ∷ olds) zero source each there = (old, refl)
old-there (x ∷ sources) (old ∷ olds) (suc n) source each there = old-there sources olds n source (omega (arith, each)) there

-- what asks on a new board
first-asker : (config : Setup) (olds : List Old) (lanes m : ℕ) (key : Key) → length olds ≡ length config.sources → key_at config.sources m ≡ Some key
    → (source : Source) × (slice_get config.sources key.source ≡ Some source)
    × ((key.place ≡ 0 → asker_of (first_board config olds lanes) m ≡ Some (record { key = key; source = source; ask = first_ask source }))
    × ((p : ℕ) → key.place ≡ suc p → asker_of (first_board config olds lanes) m ≡ None))
first-asker config olds lanes m key each is =
    let n = numbered config.sources 0 m key is in
    let at : key.source ≡ n.n = n.source_is ∙ omega arith in
    let there : slice_get config.sources key.source ≡ Some n.source = ap (slice_get config.sources) at ∙ n.there in
    let old = old-there config.sources olds key.source n.source each there in
    let slot : slice_get (first_slots config config.sources olds) key.source ≡ Some (Asking old.0 (first_release config n.source)) = first-slot config config.sources olds key.source n.source old.0 there old.1 in
    let by = asker-by (first_board config olds lanes) m key n.source is there
    ∙ ap (λ (s : Option Slot). option_map (λ ask. record { key = key; source = n.source; ask = ask }) (ask_of (option_and_then (λ slot. item_in slot key.place) s))) slot in (
      n.source,
      there,
      (
        (λ first. by ∙ ap (λ (p : ℕ). option_map (λ ask. record { key = key; source = n.source; ask = ask }) (ask_of (item_in (Asking old.0 (first_release config n.source)) p))) first),
        λ p later. by ∙ ap (λ (q : ℕ). option_map (λ ask. record { key = key; source = n.source; ask = ask }) (ask_of (item_in (Asking old.0 (first_release config n.source)) q))) later,
      ),
    )

first-once : (config : Setup) (olds : List Old) (lanes m : ℕ) → length olds ≡ length config.sources
    → one_if (is_first (key_at config.sources m)) ≡ one_if (is_some (asker_of (first_board config olds lanes) m))
first-once config olds lanes m each = one (key_at config.sources m) refl
  where
    two : (key : Key) → key_at config.sources m ≡ Some key → (p : ℕ) → key.place ≡ p → one_if (is_first (Some key)) ≡ one_if (is_some (asker_of (first_board config olds lanes) m))
    two key is zero place =
        let here : one_if (nat_eq key.place 0) ≡ 1 = grind (arith, nat_tests, place) in
        let asks : one_if (is_some (asker_of (first_board config olds lanes) m)) ≡ 1 = ap (λ (o : Option Asker). one_if (is_some o)) ((first-asker config olds lanes m key each is).2.0 place) in
        here ∙ sym asks
    two key is (suc p) place =
        let here : one_if (nat_eq key.place 0) ≡ 0 = grind (arith, nat_tests, place) in
        let asks : one_if (is_some (asker_of (first_board config olds lanes) m)) ≡ 0 = ap (λ (o : Option Asker). one_if (is_some o)) ((first-asker config olds lanes m key each is).2.1 p place) in
        here ∙ sym asks

    one : (key : Option Key) → key_at config.sources m ≡ key → one_if (is_first key) ≡ one_if (is_some (asker_of (first_board config olds lanes) m))
    one None none = sym (ap (λ (o : Option Asker). one_if (is_some o)) (asker-none (first_board config olds lanes) m none))
    one (Some key) is = two key is key.place refl

no-waits : (lanes m lane : ℕ) → WaitsIn (no_hosts lanes) m lane → ⊥
no-waits zero m lane (queue, there, some) = absurd (cc)
no-waits (suc lanes) m zero (queue, there, some) =
    let same : empty_queue ≡ queue = cc in
    let none : times_in m queue.waiting ≡ 0 = ap (λ (q : Queue). times_in m q.waiting) (sym same) in
    omega (arith, none, some)
no-waits (suc lanes) m (suc lane) (queue, there, some) = no-waits lanes m lane (queue, there, some)

none-busy : (lanes : ℕ) → flags (replicate lanes empty_queue) ≡ map is_some (replicate {A = Option ℕ} lanes None)
none-busy zero = refl
none-busy (suc lanes) = ap (λ fs. false ∷ fs) (none-busy lanes)

none-out-there : (lanes lane number : ℕ) → slice_get (replicate lanes None) lane ≡ Some (Some number) → ⊥
none-out-there zero lane number e = absurd (cc)
none-out-there (suc lanes) zero number e = absurd (cc)
none-out-there (suc lanes) (suc lane) number e = none-out-there lanes lane number e

pub first-stands : HostsKeepLanes → (config : Setup) (olds : List Old) (lanes : ℕ) → length olds ≡ length config.sources → 1 ≤ lanes → LanesStand (first_board config olds lanes)
first-stands kept config olds lanes each some = record {
  some = subst (λ (n : ℕ). 1 ≤ n) (sym (releases-length config 0 config.sources (no_hosts lanes) ∙ length-replicate lanes empty_queue)) some;
  once = λ m.
      let count = releases-count config m 0 config.sources (no_hosts lanes) (subst (λ (n : ℕ). 1 ≤ n) (sym (length-replicate lanes empty_queue)) some) in
      let none = none-waits m lanes in
      let out = none-out m lanes in
      let firsts : releases_among m 0 config.sources ≡ one_if (is_first (key_at config.sources m)) =
      subst (λ (k : ℕ). releases_among k 0 config.sources ≡ one_if (is_first (key_at config.sources m))) (omega arith) (releases-first config.sources 0 0 m) in
      let asks = first-once config olds lanes m each in
      omega (arith, count, none, out, firsts, asks);
  hosts = λ m lane a asks there. waited m lane a asks there;
  busy = releases-flags config 0 config.sources (no_hosts lanes) ∙ none-busy lanes;
}
  where
    put : (m lane : ℕ) (a : Asker) → asker_of (first_board config olds lanes) m ≡ Some a → IsPutRelease (put_releases config 0 config.sources (no_hosts lanes)) 0 m lane config.sources
        → lane_of (put_releases config 0 config.sources (no_hosts lanes)) (host_key_of a.ask.uri) ≡ Some lane
    put m lane a asks p =
        let at = p.at in
        let number : m ≡ base config.sources p.n + 0 = omega (arith, at) in
        let key : key_at config.sources m ≡ Some (record { source = p.n; place = 0 }) =
        ap (key_at config.sources) number ∙ key-there config.sources 0 p.n 0 p.source p.there (omega arith) ∙ ap (λ (k : ℕ). Some (record { source = k; place = 0 })) (omega arith) in
        let first = first-asker config olds lanes m (record { source = p.n; place = 0 }) each key in
        let source_same : Some first.0 ≡ Some p.source = sym first.1 ∙ p.there in
        let source : first.0 ≡ p.source = cc in
        let both : Some (record { key = record { source = p.n; place = 0 }; source = first.0; ask = first_ask first.0 }) ≡ Some a = sym (first.2.0 refl) ∙ asks in
        let asker : record { key = record { source = p.n; place = 0 }; source = first.0; ask = first_ask first.0 } ≡ a = cc in
        subst (λ (x : Asker). lane_of (put_releases config 0 config.sources (no_hosts lanes)) (host_key_of x.ask.uri) ≡ Some lane) asker
        (subst (λ (s : Source). lane_of (put_releases config 0 config.sources (no_hosts lanes)) (host_key_of (in_release_uri s)) ≡ Some lane) (sym source) p.lane_is)

    waited : (m lane : ℕ) (a : Asker) → asker_of (first_board config olds lanes) m ≡ Some a → IsInLane (first_board config olds lanes) m lane
        → lane_of (put_releases config 0 config.sources (no_hosts lanes)) (host_key_of a.ask.uri) ≡ Some lane
    waited m lane a asks (inr out) = absurd (none-out-there lanes lane m out)
    waited m lane a asks (inl waits) = elim (releases-wait kept config 0 m lane config.sources (no_hosts lanes) waits) [
      | inl old ↦ absurd (no-waits lanes m lane old)
      | inr new ↦ put m lane a asks new
    ]

-- ---- a source is settled

ended-none : (o : Option Ask) → is_none o ≡ true → o ≡ None
ended-none None e = refl
ended-none (Some ask) e = absurd (cc)

all-ended : (lists : List (Option Standing)) (p : ℕ) → list_all has_ended lists ≡ true → ask_of (joined (slice_get lists p)) ≡ None
all-ended [] p e = refl
all-ended (list ∷ lists) zero e = ended-none (ask_of list) (and_parts (has_ended list) (list_all has_ended lists) e).0
all-ended (list ∷ lists) (suc p) e = all-ended lists p (and_parts (has_ended list) (list_all has_ended lists) e).1

-- no item of a source that is ready asks
pub ready-asks : (slot : Slot) (place : ℕ) → is_ready slot ≡ true → ask_of (item_in slot place) ≡ None
ready-asks (Asking old release) place e = absurd (cc)
ready-asks (Listing set there lists) zero e = refl
ready-asks (Listing set there lists) (suc place) e = all-ended lists place e
ready-asks (Refused why) place e = refl
ready-asks SettledSlot place e = absurd (cc)

-- settling changes no ask
pub settled-asks : (b : Board) (n m : ℕ) (verdict : Verdict2) → first_ready b.slots ≡ Some n → asker_of (settled_as b n verdict) m ≡ asker_of b m
settled-asks b n m verdict ready = one (key_at b.config.sources m) refl
  where
    found : (slot : Slot) × (slice_get b.slots n ≡ Some slot) × (is_ready slot ≡ true)
    found = ready-slot b.slots n ready

    item : (key : Key) → (nat_eq key.source n ≡ true) ⊎ (nat_eq key.source n ≡ false) → ask_of (item_at (changed_at n (λ slot. SettledSlot) b.slots) key) ≡ ask_of (item_at b.slots key)
    item key (inr other) = ap (λ (s : Option Slot). ask_of (option_and_then (λ slot. item_in slot key.place) s)) (get-other (λ (slot : Slot). SettledSlot) b.slots n key.source other)
    item key (inl is) =
        let same : key.source ≡ n = grind (arith, nat_tests, is) in
        let before : slice_get b.slots key.source ≡ Some found.0 = ap (slice_get b.slots) same ∙ found.1 in
        let after : slice_get (changed_at n (λ slot. SettledSlot) b.slots) key.source ≡ Some SettledSlot =
        ap (slice_get (changed_at n (λ slot. SettledSlot) b.slots)) same ∙ get-changed (λ (slot : Slot). SettledSlot) b.slots n ∙ ap (option_map (λ (slot : Slot). SettledSlot)) found.1 in
        ap (λ (s : Option Slot). ask_of (option_and_then (λ slot. item_in slot key.place) s)) after
        ∙ sym (ap (λ (s : Option Slot). ask_of (option_and_then (λ slot. item_in slot key.place) s)) before ∙ ready-asks found.0 key.place found.2)

    one : (key : Option Key) → key_at b.config.sources m ≡ key → asker_of (settled_as b n verdict) m ≡ asker_of b m
    one None none = asker-none (settled_as b n verdict) m none ∙ sym (asker-none b m none)
    one (Some key) is =
        let k = numbered b.config.sources 0 m key is in
        let there : slice_get b.config.sources key.source ≡ Some k.source = ap (slice_get b.config.sources) (k.source_is ∙ omega arith) ∙ k.there in
        asker-by (settled_as b n verdict) m key k.source is there
        ∙ ap (option_map (λ ask. record { key = key; source = k.source; ask = ask })) (item key (cases_Bool (nat_eq key.source n)))
        ∙ sym (asker-by b m key k.source is there)

pub settled-stands : (b : Board) (n : ℕ) (verdict : Verdict2) → first_ready b.slots ≡ Some n → LanesStand b → LanesStand (settled_as b n verdict)
settled-stands b n verdict ready h = record {
  some = h.some;
  once = λ m. h.once m ∙ sym (ap (λ (o : Option Asker). one_if (is_some o)) (settled-asks b n m verdict ready));
  hosts = λ m lane a asks there. h.hosts m lane a (sym (settled-asks b n m verdict ready) ∙ asks) there;
  busy = h.busy;
}
