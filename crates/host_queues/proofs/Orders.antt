-- What is put into a lane is handed out of it in that order.
use Rattle.std.proofs.Common.{◌≡◌, ◌∙◌, ℕ, zero, suc, ◌%◌, ◌<◌, nat_eq, Bool, true, false, List, [], ◌∷◌, ◌++◌, length, Option, Some, refl, sym, ap, subst, inl, inr, arith, append_assoc, append-nil}
use Rattle.std.specs.Prelude.{bytes_eq, if◌then◌else◌, option_map, option_and_then, option_to_list, replicate, slice_get}
use Rattle.std.specs.Option.{option_map_or}
use Rattle.std.proofs.Math.ListN.{length-replicate}
use Rattle.std.proofs.lemmas.Slice.Eq.{bytes_eq-Decides}
use Rattle.std.proofs.lemmas.Bool.{cases_Bool}
use Rattle.std.proofs.lemmas.Bool.Decides.{nat_tests}
use Rattle.host_queues.specs.Lanes.{Queue, Lanes, empty_queue, no_hosts, lane_of, place_for, put_for, with_last, first, without_first, freed, taken_from, freed_at, changed_at}
use Rattle.host_queues.specs.Laws.{Call, Put, Next, Done, after, put_by, handed_by, all_by, waiting_in, is_lane, LanesKeepOrder}
use Rattle.host_queues.proofs.Changes.{length-changed, get-some, get-changed, get-other}

abbrev waiting : Option Queue → List ℕ
waiting queue = option_map_or (λ (q : Queue). q.waiting) queue []

-- what was handed out of one queue and what is left of it
handed-first : (is_out : Bool) (numbers : List ℕ)
    → numbers ≡ option_to_list (first (record { waiting = numbers; is_out = is_out })) ++ (without_first (record { waiting = numbers; is_out = is_out })).waiting
handed-first true numbers = refl
handed-first false [] = refl
handed-first false (number ∷ more) = refl

-- the lane of a host is the one into which its number was put
pub lane-put : (lanes : Lanes) (host : List ℕ) (number : ℕ) → lane_of (put_for host number lanes) host ≡ Some (place_for lanes host % length lanes.queues)
lane-put lanes host number =
    let own : bytes_eq host host ≡ true = (bytes_eq-Decides host host).1 refl in
    rw own (ap (λ (n : ℕ). Some (place_for lanes host % n)) (length-changed (with_last number) lanes.queues (place_for lanes host % length lanes.queues)))

put-one : (lanes : Lanes) (lane : ℕ) (host : List ℕ) (number : ℕ) → lane < length lanes.queues
    → waiting_in lane lanes ++ put_by (Put host number) lane lanes ≡ waiting_in lane (put_for host number lanes)
put-one lanes lane host number within =
    let at = place_for lanes host % length lanes.queues in
    let put : put_by (Put host number) lane lanes ≡ (if nat_eq lane at then number ∷ [] else []) = ap (λ (l : Option ℕ). if is_lane lane l then number ∷ [] else []) (lane-put lanes host number) in
    elim (cases_Bool (nat_eq lane at)) [
      | inl is ↦
          let same : lane ≡ at = grind (arith, nat_tests, is) in
          let queue = get-some lanes.queues lane within in
          let changed : slice_get (changed_at at (with_last number) lanes.queues) lane ≡ Some (with_last number queue.0) =
          ap (λ (k : ℕ). slice_get (changed_at k (with_last number) lanes.queues) lane) (sym same) ∙ get-changed (with_last number) lanes.queues lane ∙ ap (option_map (with_last number)) queue.1 in
          ap (λ (ns : List ℕ). waiting_in lane lanes ++ ns) (put ∙ rw is refl) ∙ ap (λ (q : Option Queue). waiting q ++ number ∷ []) queue.1 ∙ sym (ap waiting changed)
      | inr isnt ↦
          ap (λ (ns : List ℕ). waiting_in lane lanes ++ ns) (put ∙ rw isnt refl) ∙ append-nil (waiting_in lane lanes) ∙ sym (ap waiting (get-other (with_last number) lanes.queues at lane isnt))
    ]

next-one : (lanes : Lanes) (lane other : ℕ) → lane < length lanes.queues
    → waiting_in lane lanes ≡ handed_by (Next other) lane lanes ++ waiting_in lane (taken_from other lanes)
next-one lanes lane other within =
    elim (cases_Bool (nat_eq lane other)) [
      | inl is ↦
          let same : lane ≡ other = grind (arith, nat_tests, is) in
          let queue = get-some lanes.queues lane within in
          let left : slice_get (changed_at other without_first lanes.queues) lane ≡ Some (without_first queue.0) =
          ap (λ (k : ℕ). slice_get (changed_at k without_first lanes.queues) lane) (sym same) ∙ get-changed without_first lanes.queues lane ∙ ap (option_map without_first) queue.1 in
          let out : handed_by (Next other) lane lanes ≡ option_to_list (first queue.0) = rw is (ap (λ (q : Option Queue). option_to_list (option_and_then first q)) queue.1) in
          ap waiting queue.1 ∙ handed-first queue.0.is_out queue.0.waiting ∙ sym (ap (λ (ns : List ℕ). ns ++ waiting_in lane (taken_from other lanes)) out ∙ ap (λ (q : Option Queue). option_to_list (first queue.0) ++ waiting q) left)
      | inr isnt ↦ rw isnt (sym (ap waiting (get-other without_first lanes.queues other lane isnt)))
    ]

done-one : (lanes : Lanes) (lane other : ℕ) → lane < length lanes.queues → waiting_in lane lanes ≡ waiting_in lane (freed_at other lanes)
done-one lanes lane other within =
    elim (cases_Bool (nat_eq lane other)) [
      | inl is ↦
          let same : lane ≡ other = grind (arith, nat_tests, is) in
          let queue = get-some lanes.queues lane within in
          ap waiting queue.1 ∙ sym (ap waiting (ap (λ (k : ℕ). slice_get (changed_at k freed lanes.queues) lane) (sym same) ∙ get-changed freed lanes.queues lane ∙ ap (option_map freed) queue.1))
      | inr isnt ↦ sym (ap waiting (get-other freed lanes.queues other lane isnt))
    ]

all-order : (lanes : Lanes) (lane : ℕ) (calls : List Call) → lane < length lanes.queues
    → waiting_in lane lanes ++ all_by put_by calls lane lanes ≡ all_by handed_by calls lane lanes ++ waiting_in lane (after calls lanes)
all-order lanes lane [] within = append-nil (waiting_in lane lanes)
all-order lanes lane (Put host number ∷ calls) within =
    let next = put_for host number lanes in
    sym (append_assoc (waiting_in lane lanes) (put_by (Put host number) lane lanes) (all_by put_by calls lane next))
    ∙ ap (λ (ns : List ℕ). ns ++ all_by put_by calls lane next) (put-one lanes lane host number within)
    ∙ all-order next lane calls (subst (λ n. lane < n) (sym (length-changed (with_last number) lanes.queues (place_for lanes host % length lanes.queues))) within)
all-order lanes lane (Next other ∷ calls) within =
    let next = taken_from other lanes in
    ap (λ (ns : List ℕ). ns ++ all_by put_by calls lane next) (next-one lanes lane other within)
    ∙ append_assoc (handed_by (Next other) lane lanes) (waiting_in lane next) (all_by put_by calls lane next)
    ∙ ap (λ (ns : List ℕ). handed_by (Next other) lane lanes ++ ns) (all-order next lane calls (subst (λ n. lane < n) (sym (length-changed without_first lanes.queues other)) within))
    ∙ sym (append_assoc (handed_by (Next other) lane lanes) (all_by handed_by calls lane next) (waiting_in lane (after calls next)))
all-order lanes lane (Done other ∷ calls) within =
    let next = freed_at other lanes in
    ap (λ (ns : List ℕ). ns ++ all_by put_by calls lane next) (done-one lanes lane other within)
    ∙ all-order next lane calls (subst (λ n. lane < n) (sym (length-changed freed lanes.queues other)) within)

empty-waits : (count lane : ℕ) → waiting_in lane (no_hosts count) ≡ []
empty-waits count lane = none count lane
  where
    none : (count lane : ℕ) → waiting (slice_get (replicate count empty_queue) lane) ≡ []
    none zero lane = refl
    none (suc n) zero = refl
    none (suc n) (suc m) = none n m

pub lanes-order : LanesKeepOrder
lanes-order count lane calls within =
    ap (λ (ns : List ℕ). ns ++ all_by put_by calls lane (no_hosts count)) (sym (empty-waits count lane))
    ∙ all-order (no_hosts count) lane calls (subst (λ n. lane < n) (sym (length-replicate count empty_queue)) within)
