-- While a number of a lane is out, none is handed out of it.
use Rattle.std.proofs.Common.{◌≡◌, ◌∙◌, ℕ, ◌%◌, nat_eq, Bool, true, false, List, [], ◌∷◌, ◌++◌, length, Option, Some, None, refl, sym, ap, inl, inr, arith}
use Rattle.std.specs.Prelude.{if◌then◌else◌, not, option_map, option_and_then, option_to_list, slice_get}
use Rattle.std.specs.Option.{option_map_or}
use Rattle.std.specs.List.{list_all}
use Rattle.std.proofs.lemmas.Bool.{cases_Bool}
use Rattle.std.proofs.lemmas.Bool.Decides.{nat_tests}
use Rattle.host_queues.specs.Lanes.{Queue, Lanes, place_for, put_for, with_last, first, first_of, without_first, freed, taken_from, freed_at, changed_at}
use Rattle.host_queues.specs.Laws.{Call, Put, Next, Done, handed_by, all_by, frees, OneIsOut}
use Rattle.host_queues.proofs.Changes.{get-changed, get-other}

-- whether a number is out of a queue, if it is there
abbrev is_out : Option Queue → Bool
is_out queue = option_map_or (λ (q : Queue). q.is_out) queue false

none-first : (queue : Option Queue) → is_out queue ≡ true → option_and_then first queue ≡ None
none-first None out = refl
none-first (Some q) out = rw out refl

-- a change that leaves a number out in each queue leaves one out in this one
stays : (f : Queue → Queue) (queue : Option Queue) → ((q : Queue) → q.is_out ≡ true → (f q).is_out ≡ true) → is_out queue ≡ true → is_out (option_map f queue) ≡ true
stays f None keeps out = out
stays f (Some q) keeps out = keeps q out

changed-stays : (f : Queue → Queue) (queues : List Queue) (n lane : ℕ) → ((q : Queue) → q.is_out ≡ true → (f q).is_out ≡ true) → is_out (slice_get queues lane) ≡ true
    → is_out (slice_get (changed_at n f queues) lane) ≡ true
changed-stays f queues n lane keeps out =
    elim (cases_Bool (nat_eq lane n)) [
      | inl is ↦
          let same : lane ≡ n = grind (arith, nat_tests, is) in
          ap (λ (k : ℕ). is_out (slice_get (changed_at k f queues) lane)) (sym same) ∙ ap is_out (get-changed f queues lane) ∙ stays f (slice_get queues lane) keeps out
      | inr isnt ↦ ap is_out (get-other f queues n lane isnt) ∙ out
    ]

kept-out : (q : Queue) → q.is_out ≡ true → (without_first q).is_out ≡ true
kept-out q out = rw out refl

none-handed : (lanes : Lanes) (lane : ℕ) (calls : List Call) → is_out (slice_get lanes.queues lane) ≡ true → list_all (λ call. not (frees lane call)) calls ≡ true
    → all_by handed_by calls lane lanes ≡ []
none-handed lanes lane [] out kept = refl
none-handed lanes lane (Put host number ∷ calls) out kept =
    none-handed (put_for host number lanes) lane calls
    (changed-stays (with_last number) lanes.queues (place_for lanes host % length lanes.queues) lane (λ q is. is) out) kept
none-handed lanes lane (Next other ∷ calls) out kept =
    ap (λ (ns : List ℕ). ns ++ all_by handed_by calls lane (taken_from other lanes)) (none-next (nat_eq lane other))
    ∙ none-handed (taken_from other lanes) lane calls (changed-stays without_first lanes.queues other lane kept-out out) kept
  where
    none-next : (b : Bool) → (if b then option_to_list (first_of lanes lane) else []) ≡ []
    none-next true = ap option_to_list (none-first (slice_get lanes.queues lane) out)
    none-next false = refl
none-handed lanes lane (Done other ∷ calls) out kept =
    elim (cases_Bool (nat_eq lane other)) [
      | inl is ↦ absurd (let none : false ≡ true = rw is at kept in cc)
      | inr isnt ↦ none-handed (freed_at other lanes) lane calls (ap is_out (get-other freed lanes.queues other lane isnt) ∙ out) (rw isnt at kept)
    ]

-- a number that is handed out is out then
handed-out : (queue : Option Queue) (number : ℕ) → option_and_then first queue ≡ Some number → is_out (option_map without_first queue) ≡ true
handed-out None number e = cc
handed-out (Some q) number e = one q.is_out q.waiting e
  where
    one : (b : Bool) (numbers : List ℕ) → first (record { waiting = numbers; is_out = b }) ≡ Some number → (without_first (record { waiting = numbers; is_out = b })).is_out ≡ true
    one true numbers e = refl
    one false [] e = cc
    one false (n ∷ numbers) e = refl

pub one-out : OneIsOut
one-out lanes lane number calls e kept =
    none-handed (taken_from lane lanes) lane calls (ap is_out (get-changed without_first lanes.queues lane) ∙ handed-out (slice_get lanes.queues lane) number e) kept
