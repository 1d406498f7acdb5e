-- Hosts get the lanes in turn and keep them.
use Rattle.std.proofs.Common.{◌≡◌, ◌∙◌, ℕ, ◌+◌, ◌%◌, Bool, true, false, List, [], ◌∷◌, ◌++◌, length, Option, Some, None, refl, sym, ap, inl, inr, arith, length-append}
use Rattle.std.specs.Prelude.{bytes_eq, if◌then◌else◌, unwrap_or, option_map}
use Rattle.std.specs.List.{list_any}
use Rattle.std.proofs.Math.ListN.{length-replicate}
use Rattle.std.proofs.lemmas.Slice.Eq.{bytes_eq-Decides}
use Rattle.std.proofs.lemmas.Bool.{cases_Bool}
use Rattle.host_queues.specs.Lanes.{Lanes, empty_queue, no_hosts, place_for, seen_with, put_for, with_last, without_first, freed, taken_from, freed_at}
use Rattle.host_queues.specs.Laws.{Call, Put, Next, Done, after, hosts_after, place_among, HostsTakeTurns, HostsKeepLanes}
use Rattle.host_queues.proofs.Changes.{length-changed}

-- ---- a host among hosts

-- the place of a host that may come last
abbrev last_or : Option ℕ → Bool → ℕ → Option ℕ
last_or (Some place) is count = Some place
last_or None true count = Some count
last_or None false count = None

last-more : (p : Option ℕ) (is : Bool) (count : ℕ) → option_map (λ (n : ℕ). n + 1) (last_or p is count) ≡ last_or (option_map (λ n. n + 1) p) is (count + 1)
last-more (Some place) is count = refl
last-more None true count = refl
last-more None false count = refl

among-append : (hosts : List (List ℕ)) (host other : List ℕ) → place_among (hosts ++ host ∷ []) other ≡ last_or (place_among hosts other) (bytes_eq host other) (length hosts)
among-append [] host other = one (bytes_eq host other)
  where
    one : (b : Bool) → (if b then Some 0 else option_map (λ (n : ℕ). n + 1) None) ≡ last_or None b 0
    one true = refl
    one false = refl
among-append (first ∷ hosts) host other =
    elim (cases_Bool (bytes_eq first other)) [
      | inl is ↦ rw is refl
      | inr isnt ↦ rw isnt (ap (option_map (λ (n : ℕ). n + 1)) (among-append hosts host other) ∙ last-more (place_among hosts other) (bytes_eq host other) (length hosts) ∙ ap (last_or (option_map (λ n. n + 1) (place_among hosts other)) (bytes_eq host other)) (omega arith))
    ]

among-there : (hosts : List (List ℕ)) (host : List ℕ) → list_any (λ other. bytes_eq other host) hosts ≡ true → (place : ℕ) × (place_among hosts host ≡ Some place)
among-there [] host there = absurd (cc)
among-there (first ∷ hosts) host there =
    elim (cases_Bool (bytes_eq first host)) [
      | inl is ↦ (0, rw is refl)
      | inr isnt ↦ let rest = among-there hosts host (rw isnt at there) in (rest.0 + 1, rw isnt (ap (option_map (λ (n : ℕ). n + 1)) rest.1))
    ]

among-absent : (hosts : List (List ℕ)) (host : List ℕ) → list_any (λ other. bytes_eq other host) hosts ≡ false → place_among hosts host ≡ None
among-absent [] host absent = refl
among-absent (first ∷ hosts) host absent =
    elim (cases_Bool (bytes_eq first host)) [
      | inl is ↦ let no_way = rw is at absent in absurd (cc)
      | inr isnt ↦ rw isnt (ap (option_map (λ (n : ℕ). n + 1)) (among-absent hosts host (rw isnt at absent)))
    ]

-- ---- lanes beside the hosts that were seen

record Knows (lanes : Lanes) (hosts : List (List ℕ)) (count : ℕ) : Type 0 where
  places : (host : List ℕ) → lanes.places host ≡ place_among hosts host
  seen : lanes.seen ≡ length hosts
  count_is : length lanes.queues ≡ count

knows-old : (lanes : Lanes) (hosts : List (List ℕ)) (count : ℕ) (host : List ℕ) (number place : ℕ) → Knows lanes hosts count → place_among hosts host ≡ Some place → Knows (put_for host number lanes) hosts count
knows-old lanes hosts count host number place k there =
    let had : lanes.places host ≡ Some place = k.places host ∙ there in
    record {
      places = λ other. elim (cases_Bool (bytes_eq host other)) [
        | inl is ↦ rw is (ap (λ (p : Option ℕ). Some (unwrap_or p lanes.seen)) had ∙ sym there ∙ ap (place_among hosts) ((bytes_eq-Decides host other).0 is))
        | inr isnt ↦ rw isnt (k.places other)
      ];
      seen = ap (λ (p : Option ℕ). seen_with p lanes.seen) had ∙ k.seen;
      count_is = length-changed (with_last number) lanes.queues (place_for lanes host % length lanes.queues) ∙ k.count_is;
    }

knows-new : (lanes : Lanes) (hosts : List (List ℕ)) (count : ℕ) (host : List ℕ) (number : ℕ) → Knows lanes hosts count → place_among hosts host ≡ None → Knows (put_for host number lanes) (hosts ++ host ∷ []) count
knows-new lanes hosts count host number k absent =
    let hadnt : lanes.places host ≡ None = k.places host ∙ absent in
    record {
      places = λ other. elim (cases_Bool (bytes_eq host other)) [
        | inl is ↦
            let among : place_among hosts other ≡ None = ap (place_among hosts) (sym ((bytes_eq-Decides host other).0 is)) ∙ absent in
            rw is (ap (λ (p : Option ℕ). Some (unwrap_or p lanes.seen)) hadnt ∙ ap (λ (n : ℕ). Some n) k.seen)
            ∙ sym (among-append hosts host other ∙ ap (λ (p : Option ℕ). last_or p (bytes_eq host other) (length hosts)) among ∙ ap (λ b. last_or None b (length hosts)) is)
        | inr isnt ↦
            rw isnt (k.places other)
            ∙ sym (among-append hosts host other ∙ ap (λ b. last_or (place_among hosts other) b (length hosts)) isnt ∙ no-last (place_among hosts other) (length hosts))
      ];
      seen = ap (λ (p : Option ℕ). seen_with p lanes.seen) hadnt ∙ ap (λ (n : ℕ). n + 1) k.seen ∙ sym (length-append hosts (host ∷ []));
      count_is = length-changed (with_last number) lanes.queues (place_for lanes host % length lanes.queues) ∙ k.count_is;
    }
  where
    no-last : (p : Option ℕ) (n : ℕ) → last_or p false n ≡ p
    no-last None n = refl
    no-last (Some place) n = refl

knows-all : (lanes : Lanes) (hosts : List (List ℕ)) (count : ℕ) (calls : List Call) → Knows lanes hosts count → Knows (after calls lanes) (hosts_after hosts calls) count
knows-all lanes hosts count [] k = k
knows-all lanes hosts count (Put host number ∷ calls) k =
    elim (cases_Bool (list_any (λ other. bytes_eq other host) hosts)) [
      | inl is ↦ let there = among-there hosts host is in rw is (knows-all (put_for host number lanes) hosts count calls (knows-old lanes hosts count host number there.0 k there.1))
      | inr isnt ↦ rw isnt (knows-all (put_for host number lanes) (hosts ++ host ∷ []) count calls (knows-new lanes hosts count host number k (among-absent hosts host isnt)))
    ]
knows-all lanes hosts count (Next lane ∷ calls) k =
    knows-all (taken_from lane lanes) hosts count calls (record { places = k.places; seen = k.seen; count_is = length-changed without_first lanes.queues lane ∙ k.count_is })
knows-all lanes hosts count (Done lane ∷ calls) k =
    knows-all (freed_at lane lanes) hosts count calls (record { places = k.places; seen = k.seen; count_is = length-changed freed lanes.queues lane ∙ k.count_is })

pub hosts-turn : HostsTakeTurns
hosts-turn count calls host =
    let k = knows-all (no_hosts count) [] count calls (record { places = λ other. refl; seen = refl; count_is = length-replicate count empty_queue }) in
    ap (option_map (λ (place : ℕ). place % length (after calls (no_hosts count)).queues)) (k.places host)
    ∙ ap (λ (n : ℕ). option_map (λ (place : ℕ). place % n) (place_among (hosts_after [] calls) host)) k.count_is

-- ---- a host keeps its lane

record Has (lanes : Lanes) (host : List ℕ) (place count : ℕ) : Type 0 where
  place_is : lanes.places host ≡ Some place
  count_is : length lanes.queues ≡ count

has-put : (lanes : Lanes) (host other : List ℕ) (number place count : ℕ) → Has lanes host place count → Has (put_for other number lanes) host place count
has-put lanes host other number place count h = record {
  place_is = elim (cases_Bool (bytes_eq other host)) [
    | inl is ↦ rw is (ap (λ (p : Option ℕ). Some (unwrap_or p lanes.seen)) (ap lanes.places ((bytes_eq-Decides other host).0 is) ∙ h.place_is))
    | inr isnt ↦ rw isnt h.place_is
  ];
  count_is = length-changed (with_last number) lanes.queues (place_for lanes other % length lanes.queues) ∙ h.count_is;
}

has-all : (lanes : Lanes) (host : List ℕ) (place count : ℕ) (calls : List Call) → Has lanes host place count → Has (after calls lanes) host place count
has-all lanes host place count [] h = h
has-all lanes host place count (Put other number ∷ calls) h = has-all (put_for other number lanes) host place count calls (has-put lanes host other number place count h)
has-all lanes host place count (Next lane ∷ calls) h =
    has-all (taken_from lane lanes) host place count calls (record { place_is = h.place_is; count_is = length-changed without_first lanes.queues lane ∙ h.count_is })
has-all lanes host place count (Done lane ∷ calls) h =
    has-all (freed_at lane lanes) host place count calls (record { place_is = h.place_is; count_is = length-changed freed lanes.queues lane ∙ h.count_is })

lane-is : (p : Option ℕ) (count lane : ℕ) → option_map (λ (place : ℕ). place % count) p ≡ Some lane → (place : ℕ) × (p ≡ Some place)
lane-is None count lane e = absurd (cc)
lane-is (Some place) count lane e = (place, refl)

pub hosts-keep : HostsKeepLanes
hosts-keep lanes calls host lane e =
    let p = lane-is (lanes.places host) (length lanes.queues) lane e in
    let h = has-all lanes host p.0 (length lanes.queues) calls (record { place_is = p.1; count_is = refl }) in
    ap (option_map (λ (place : ℕ). place % length (after calls lanes).queues)) (h.place_is ∙ sym p.1)
    ∙ ap (λ (n : ℕ). option_map (λ (place : ℕ). place % n) (lanes.places host)) h.count_is ∙ e
