-- Boards at their beginning, one source after another.
use Rattle.std.proofs.Common.{◌≡◌, ◌∙◌, ℕ, zero, suc, ◌+◌, ◌<◌, ◌≤◌, List, [], ◌∷◌, ◌++◌, length, map, drop, get_or, Option, Some, None, refl, sym, ap, subst, arith, append_assoc, length-append}
use Rattle.std.specs.Prelude.{replicate, reverse}
use Rattle.std.specs.List.{flat_map}
use Rattle.std.proofs.Math.Seq.{drop-cons}
use Rattle.std.proofs.lemmas.List.{append-nil, length-map, length-reverse, reverse-append, reverse-reverse}
use Rattle.acq_base.specs.Plan.{names_of}
use Rattle.acq_base.specs.declared.installed.Old.{Old}
use Rattle.acq_base.specs.declared.plan.Source.{Source}
use Rattle.acq_base.specs.declared.plan.Target.{Target}
use Rattle.board_model.specs.Boards.{first_board, first_release, first_slots, no_verdict, put_ask, put_releases}
use Rattle.board_model.specs.Keys.{keys_from, keys_in, places_from}
use Rattle.board_model.specs.Slots.{Setup, Slot, Asking, ask_of}
use Rattle.board_model.specs.declared.key.Key.{Key}
use Rattle.update_model.specs.declared.log.Asked.{Asked}
use Rattle.update_model.specs.declared.settled.Verdict2.{Verdict2}
use Rattle.host_queues.specs.Lanes.{Lanes, no_hosts}

length-places : (n place : ℕ) (targets : List Target) → length (places_from n place targets) ≡ length targets
length-places n place [] = refl
length-places n place (target ∷ targets) = ap suc (length-places n (suc place) targets)

pub keys-more : (all : List Key) (n : ℕ) (source : Source) (rest : List Source) (total : List Key) → all ++ keys_from n (source ∷ rest) ≡ total
    → (all ++ keys_in n source) ++ keys_from (suc n) rest ≡ total
keys-more all n source rest total e = append_assoc all (keys_in n source) (keys_from (suc n) rest) ∙ e

pub slots-more : (config : Setup) (begun : List Slot) (source : Source) (rest : List Source) (old : Old) (olds : List Old) (total : List Slot)
    → begun ++ first_slots config (source ∷ rest) (old ∷ olds) ≡ total
    → (begun ++ Asking old (first_release config source) ∷ []) ++ first_slots config rest olds ≡ total
slots-more config begun source rest old olds total e = append_assoc begun (Asking old (first_release config source) ∷ []) (first_slots config rest olds) ∙ e

pub length-more : (all : List Key) (n : ℕ) (source : Source) → length (all ++ keys_in n source) ≡ length all + length source.targets + 1
length-more all n source =
    let both = length-append all (keys_in n source) in
    let lists = length-places n 1 source.targets in
    omega (arith, both, lists)

pub releases-more : (config : Setup) (number next : ℕ) (source : Source) (rest : List Source) (lanes : Lanes) → next ≡ number + length source.targets + 1
    → put_releases config next rest (put_ask number (ask_of (Some (first_release config source))) lanes) ≡ put_releases config number (source ∷ rest) lanes
releases-more config number next source rest lanes e =
    ap (λ (n : ℕ). put_releases config n rest (put_ask number (ask_of (Some (first_release config source))) lanes)) e

pub reverse-last : {A : Type 0} (xs : List A) (x : A) → reverse (xs ++ x ∷ []) ≡ x ∷ reverse xs
reverse-last xs x = reverse-append xs (x ∷ [])

-- as many items as names
pub keys-count : (n : ℕ) (sources : List Source) → length (keys_from n sources) ≡ length (flat_map names_of sources)
keys-count n [] = refl
keys-count n (source ∷ sources) =
    let keys = length-append (keys_in n source) (keys_from (suc n) sources) in
    let names = length-append (names_of source) (flat_map names_of sources) in
    let lists = length-places n 1 source.targets in
    let named = length-map source.targets (λ (target : Target). target.name.0) in
    let rest = keys-count (suc n) sources in
    omega (arith, keys, names, lists, named, rest)

pub few-sources : (n : ℕ) (sources : List Source) → length sources ≤ length (keys_from n sources)
few-sources n [] = omega arith
few-sources n (source ∷ sources) =
    let both = length-append (keys_in n source) (keys_from (suc n) sources) in
    let rest = few-sources (suc n) sources in
    omega (arith, both, rest)

-- ---- the items of one source

places-next : (n at list : ℕ) (targets : List Target) → list < length targets
    → places_from n at (drop list targets) ≡ (record { source = n; place = at }) ∷ places_from n (suc at) (drop (suc list) targets)
places-next n at list [] within = absurd (grind (arith, within))
places-next n at zero (target ∷ targets) within = refl
places-next n at (suc list) (target ∷ targets) within = places-next n at list targets (omega (arith, within))

pub places-none : (n at list : ℕ) (targets : List Target) → length targets ≡ list → places_from n at (drop list targets) ≡ []
places-none n at zero [] e = refl
places-none n at (suc list) [] e = refl
places-none n at zero (target ∷ targets) e = absurd (grind (arith, e))
places-none n at (suc list) (target ∷ targets) e = places-none n at list targets (omega (arith, e))

-- one turn of the loop over the lists
pub places-more : (n at list next after : ℕ) (all new : List Key) (targets : List Target) (total : List Key) → list < length targets
    → next ≡ at + 1 → after ≡ list + 1 → new ≡ all ++ (record { source = n; place = at }) ∷ []
    → all ++ places_from n at (drop list targets) ≡ total → new ++ places_from n next (drop after targets) ≡ total
places-more n at list next after all new targets total within a l k e =
    let a1 : next ≡ suc at = omega (arith, a) in
    let l1 : after ≡ suc list = omega (arith, l) in
    let key : Key = record { source = n; place = at } in
    ap (λ (x : ℕ). new ++ places_from n x (drop after targets)) a1
    ∙ ap (λ (x : ℕ). new ++ places_from n (suc at) (drop x targets)) l1
    ∙ ap (λ (x : List Key). x ++ places_from n (suc at) (drop (suc list) targets)) k
    ∙ append_assoc all (key ∷ []) (places_from n (suc at) (drop (suc list) targets))
    ∙ ap (λ (x : List Key). all ++ x) (sym (places-next n at list targets within))
    ∙ e

-- ---- one turn of the loop over the sources

pub record HasBegun (config : Setup) (sources : List Source) (olds : List Old) (lanes : Lanes)
    (i : ℕ) (left : List Old) (keys : List Key) (slots : List Slot) (now : Lanes) : Type 0 where
  pub numbered : keys ++ keys_from i (drop i sources) ≡ keys_from 0 sources
  pub placed : length slots ≡ i
  pub paired : length left + i ≡ length sources
  pub stand : slots ++ first_slots config (drop i sources) (reverse left) ≡ first_slots config sources olds
  pub wait : put_releases config (length keys) (drop i sources) now ≡ put_releases config 0 sources lanes

pub begun-none : (config : Setup) (sources : List Source) (olds left : List Old) (lanes now : Lanes) (keys : List Key) (slots : List Slot)
    → length olds ≡ length sources → left ≡ reverse olds → keys ≡ [] → slots ≡ [] → now ≡ lanes
    → HasBegun config sources olds lanes 0 left keys slots now
begun-none config sources olds left lanes now keys slots each l k s n = record {
  numbered = ap (λ (x : List Key). x ++ keys_from 0 sources) k;
  placed = ap length s;
  paired = let same : length left ≡ length olds = ap length l ∙ length-reverse olds in omega (arith, same, each);
  stand = ap (λ (x : List Slot). x ++ first_slots config sources (reverse left)) s ∙ ap (first_slots config sources) (ap reverse l ∙ reverse-reverse olds);
  wait = ap (λ (x : List Key). put_releases config (length x) sources now) k ∙ ap (λ (x : Lanes). put_releases config 0 sources x) n;
}

pub begun-more : (config : Setup) (sources : List Source) (olds : List Old) (lanes : Lanes) (i j : ℕ) (left rest : List Old) (keys more : List Key)
    (slots new : List Slot) (now next : Lanes) (source : Source) (old : Old)
    → i < length sources → source ≡ get_or sources i source → j ≡ i + 1 → left ≡ rest ++ old ∷ []
    → more ≡ keys ++ keys_in (length slots) source → new ≡ slots ++ Asking old (first_release config source) ∷ []
    → next ≡ put_ask (length keys) (ask_of (Some (first_release config source))) now
    → HasBegun config sources olds lanes i left keys slots now → HasBegun config sources olds lanes j rest more new next
begun-more config sources olds lanes i j left rest keys more slots new now next source old within is step l k s n h =
    let j1 : j ≡ suc i = omega (arith, step) in
    let split : drop i sources ≡ source ∷ drop (suc i) sources = drop-cons sources i source within ∙ ap (λ (x : Source). x ∷ drop (suc i) sources) (sym is) in
    let k1 : more ≡ keys ++ keys_in i source = k ∙ ap (λ (x : ℕ). keys ++ keys_in x source) h.placed in
    let long : length more ≡ length keys + length source.targets + 1 = ap length k1 ∙ length-more keys i source in
    let fewer : length left ≡ length rest + 1 = ap length l ∙ length-append rest (old ∷ []) in
    let longer : length new ≡ length slots + 1 = ap length s ∙ length-append slots (Asking old (first_release config source) ∷ []) in
    subst (λ (x : ℕ). HasBegun config sources olds lanes x rest more new next) (sym j1) (record {
      numbered = ap (λ (x : List Key). x ++ keys_from (suc i) (drop (suc i) sources)) k1
          ∙ keys-more keys i source (drop (suc i) sources) (keys_from 0 sources) (ap (λ (x : List Source). keys ++ keys_from i x) (sym split) ∙ h.numbered);
      placed = omega (arith, longer, h.placed);
      paired = omega (arith, fewer, h.paired);
      stand = ap (λ (x : List Slot). x ++ first_slots config (drop (suc i) sources) (reverse rest)) s
          ∙ slots-more config slots source (drop (suc i) sources) old (reverse rest) (first_slots config sources olds)
          (ap (λ (x : List Source). slots ++ first_slots config x (old ∷ reverse rest)) (sym split)
          ∙ ap (λ (x : List Old). slots ++ first_slots config (drop i sources) x) (sym (ap reverse l ∙ reverse-last rest old))
          ∙ h.stand);
      wait = ap (λ (x : Lanes). put_releases config (length more) (drop (suc i) sources) x) n
          ∙ releases-more config (length keys) (length more) source (drop (suc i) sources) now long
          ∙ ap (λ (x : List Source). put_releases config (length keys) x now) (sym split)
          ∙ h.wait;
    })

pub all-begun : (config : Setup) (sources : List Source) (olds : List Old) (lanes : Lanes) (i : ℕ) (left : List Old) (keys : List Key) (slots : List Slot) (now : Lanes)
    → length sources ≡ i → HasBegun config sources olds lanes i left keys slots now
    → (keys ≡ keys_from 0 sources) × (slots ≡ first_slots config sources olds) × (now ≡ put_releases config 0 sources lanes)
all-begun config sources olds lanes i left keys slots now e h =
    let none : drop i sources ≡ [] = drop-all i sources (omega (arith, e)) in (
      sym (append-nil keys) ∙ ap (λ (x : List Source). keys ++ keys_from i x) (sym none) ∙ h.numbered,
      sym (append-nil slots) ∙ ap (λ (x : List Source). slots ++ first_slots config x (reverse left)) (sym none) ∙ h.stand,
      ap (λ (x : List Source). put_releases config (length keys) x now) (sym none) ∙ h.wait,
    )
  where
    drop-all : {A : Type 0} (i : ℕ) (xs : List A) → length xs ≤ i → drop i xs ≡ []
    drop-all zero [] past = refl
    drop-all (suc i) [] past = refl
    drop-all zero (x ∷ xs) past = absurd (grind (arith, past))
    drop-all (suc i) (x ∷ xs) past = drop-all i xs (omega (arith, past))

pub map-constant : {A B : Type 0} (xs : List A) (z : B) → replicate (length xs) z ≡ map (λ x. z) xs
map-constant [] z = refl
map-constant (x ∷ xs) z = ap (λ zs. z ∷ zs) (map-constant xs z)

pub length-first : (config : Setup) (sources : List Source) (olds : List Old) → length olds ≡ length sources → length (first_slots config sources olds) ≡ length sources
length-first config [] olds e = refl
length-first config (source ∷ sources) [] e = absurd (omega (arith, e))
length-first config (source ∷ sources) (old ∷ olds) e = ap suc (length-first config sources olds (omega (arith, e)))

-- the board with which a run begins, field by field
pub first-whole : (config : Setup) (olds : List Old) (count : ℕ) (slots : List Slot) (lanes : Lanes) (out : List (Option ℕ)) (asks : List Asked) (settled : List ℕ) (verdicts : List Verdict2)
    → slots ≡ first_slots config config.sources olds → lanes ≡ put_releases config 0 config.sources (no_hosts count) → out ≡ replicate count None
    → asks ≡ [] → settled ≡ [] → verdicts ≡ replicate (length config.sources) no_verdict
    → record { config = config; slots = slots; lanes = lanes; out = out; asks = asks; settled = settled; verdicts = verdicts } ≡ first_board config olds count
first-whole config olds count slots lanes out asks settled verdicts s l o a t v =
    let b = first_board config olds count in
    ap (λ (x : List Slot). record { config = config; slots = x; lanes = lanes; out = out; asks = asks; settled = settled; verdicts = verdicts }) s
    ∙ ap (λ (x : Lanes). record b { lanes = x; out = out; asks = asks; settled = settled; verdicts = verdicts }) l
    ∙ ap (λ (x : List (Option ℕ)). record b { out = x; asks = asks; settled = settled; verdicts = verdicts }) o
    ∙ ap (λ (x : List Asked). record b { asks = x; settled = settled; verdicts = verdicts }) a
    ∙ ap (λ (x : List ℕ). record b { settled = x; verdicts = verdicts }) t
    ∙ ap (λ (x : List Verdict2). record b { verdicts = x }) (v ∙ map-constant config.sources no_verdict)
