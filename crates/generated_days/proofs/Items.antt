-- What each item of a source heard, over a mirror: one answer for each position of its route.
use Rattle.std.proofs.Common.{◌≡◌, ◌≢◌, ◌<◌, ◌∙◌, ℕ, zero, suc, ◌+◌, Bool, true, false, List, [], ◌∷◌, length, map, AllPairs, Option, Some, None, refl, sym, ap, subst, arith, inl, inr, ◌⊎◌}
use Rattle.std.specs.Prelude.{if◌then◌else◌, option_map, option_and_then, slice_get, filter_map}
use Rattle.std.specs.List.{cons_option, sum_by, AllByRecursion as Each}
use Rattle.std.proofs.lemmas.Bool.Decides.{nat_tests}
use Rattle.std.proofs.lemmas.List.Sums.{sum_by-cons}
use Rattle.std.proofs.lemmas.Bool.{cases_order}
use Rattle.acq_base.specs.Mirror.{MirrorMap, answer_at}
use Rattle.acq_base.specs.Plan.{names_of}
use Rattle.acq_base.specs.declared.installed.Old.{Old}
use Rattle.acq_base.specs.declared.plan.Source.{Source}
use Rattle.acq_base.specs.declared.plan.Target.{Target}
use Rattle.acq_base.specs.declared.sum.Sum.{Sum}
use Rattle.acq_base.specs.declared.uri.ListName.{ListName}
use Rattle.board_model.specs.Agreeing.{Agrees, part_at, part_of}
use Rattle.board_model.specs.Changes.{IsInstalled}
use Rattle.board_model.specs.Ends.{ListEnd, ListEndsInRoute, walk_for}
use Rattle.board_model.specs.Keys.{name_at, named, places_from, same_key}
use Rattle.board_model.specs.Runs.{Note}
use Rattle.board_model.specs.Slots.{Setup}
use Rattle.board_model.specs.Stands.{AreAsked, history_of, of_key, lane_answers}
use Rattle.board_model.specs.declared.key.Key.{Key}
use Rattle.release_file.specs.Release.{listed_sum}
use Rattle.release_file.specs.declared.release.Release.{Release}
use Rattle.update_model.specs.Outcomes.{Directory, PartFiles}
use Rattle.update_model.specs.Points.{Over, run, start}
use Rattle.update_model.specs.Trails.{IsFaultOr, answered}
use Rattle.update_model.specs.Walks.{Walk, target_walk}
use Rattle.update_model.specs.Wanted.{want}
use Rattle.update_model.specs.declared.end.End.{End}
use Rattle.update_model.specs.declared.wanted.Wanted.{Wanted}
use Rattle.board_model.proofs.Making.{get-name}
use Rattle.generated_days.specs.Asks.{asks_along, asks_for_list}
use Rattle.generated_days.proofs.Along.{counts-walk}
use Rattle.generated_days.proofs.Answers.{NoFault, Said}
use Rattle.generated_days.proofs.Keys.{heard_by}
use Rattle.generated_days.proofs.Quiet.{quiet-key}

-- ---- the notes of one item

pub said-by : (mirror : MirrorMap) (parts : PartFiles) (sources : List Source) (key : Key) (part : List ℕ) (notes : List Note) → part_at parts sources key ≡ part → Agrees mirror parts sources notes
    → Each (Said mirror part) (of_key key notes)
said-by mirror parts sources key part [] is h = tt
said-by mirror parts sources key part (note ∷ notes) is h = one (same_key note.key key) refl (said-by mirror parts sources key part notes is h.1)
  where
    here : same_key note.key key ≡ true → Said mirror part note
    here same =
        let source : note.key.source ≡ key.source = grind (arith, nat_tests, same) in
        let place : note.key.place ≡ key.place = grind (arith, nat_tests, same) in
        let part_is : part_at parts sources note.key ≡ part =
        ap (λ (s : ℕ). part_at parts sources (record { source = s; place = note.key.place })) source
        ∙ ap (λ (p : ℕ). part_at parts sources (record { source = key.source; place = p })) place ∙ is in
        subst (λ (x : List ℕ). IsFaultOr note.told.closed (answered x note.ask (answer_at mirror note.ask.uri))) part_is h.0

    one : (c : Bool) → same_key note.key key ≡ c → Each (Said mirror part) (of_key key notes) → Each (Said mirror part) (if c then note ∷ of_key key notes else of_key key notes)
    one true same rest = (here same, rest)
    one false same rest = rest

pub item-heard : (mirror : MirrorMap) (parts : PartFiles) (config : Setup) (n place : ℕ) (walk : Walk) (part : List ℕ) (notes : List Note) (end : End)
    → part_at parts config.sources (record { source = n; place = place }) ≡ part → Agrees mirror parts config.sources notes → Each (λ note. NoFault note.told.closed) notes
    → AreAsked config.settings.retries (start config.settings.retries walk) (history_of n notes place)
    → run config.settings.retries (start config.settings.retries walk) (lane_answers (history_of n notes place)) ≡ Over end
    → length (history_of n notes place) ≡ asks_along mirror part walk
item-heard mirror parts config n place walk part notes end is agrees quiet asks over =
    counts-walk mirror part config.settings.retries walk (history_of n notes place) end asks over
    (said-by mirror parts config.sources (record { source = n; place = place }) part notes is agrees)
    (quiet-key (record { source = n; place = place }) notes quiet)

-- ---- the place of a list

before-apart : (source : Source) (j k : ℕ) (a b : Target) → AllPairs (λ x y. x ≢ y) (names_of source) → slice_get source.targets j ≡ Some a → slice_get source.targets k ≡ Some b
    → j < k → a.name.0 ≡ b.name.0 → ⊥
before-apart source j k a b distinct first second low same =
    let one = get-name source.targets j a a.name.0 first in
    let two = get-name source.targets k b a.name.0 second in
    distinct (suc j) (suc k) a.name.0 (omega (arith, low)) (omega (arith, two.0)) (one.1 ∙ same ∙ sym two.1)

-- no two targets share a name
once-named : (source : Source) (j k : ℕ) (a b : Target) → AllPairs (λ x y. x ≢ y) (names_of source) → slice_get source.targets j ≡ Some a → slice_get source.targets k ≡ Some b
    → a.name.0 ≡ b.name.0 → j ≡ k
once-named source j k a b distinct first second same = by (cases_order j k)
  where
    by : (j ≡ k) ⊎ ((j < k) ⊎ (k < j)) → j ≡ k
    by (inl is) = is
    by (inr (inl low)) = absurd (before-apart source j k a b distinct first second low same)
    by (inr (inr high)) = absurd (before-apart source k j b a distinct second first high (sym same))

place-is : (source : Source) (place k : ℕ) (name : ListName) (t : Target) → AllPairs (λ x y. x ≢ y) (names_of source) → name_at source place ≡ Some name → slice_get source.targets k ≡ Some t → name ≡ t.name
    → place ≡ suc k
place-is source zero k name t distinct stands there same = absurd (cc)
place-is source (suc j) k name t distinct stands there same = one (slice_get source.targets j) refl stands
  where
    one : (o : Option Target) → slice_get source.targets j ≡ o → option_map (λ (target : Target). target.name) o ≡ Some name → suc j ≡ suc k
    one None is e = absurd (cc)
    one (Some u) is e =
        let names : u.name ≡ name = cc in
        let alike : u.name.0 ≡ t.name.0 = ap (λ (l : ListName). l.0) (names ∙ same) in
        ap suc (once-named source j k u t distinct is there alike)

-- ---- the lists of a source

pub from-first : {X : Type 0} (xs : List X) (i : ℕ) → slice_get xs i ≡ slice_get xs (0 + i)
from-first xs i = ap (slice_get xs) (same i)
  where
    same : (i : ℕ) → i ≡ 0 + i
    same i = omega arith

module _
    (mirror : MirrorMap) (dir : Directory) (parts : PartFiles) (config : Setup) (n : ℕ) (source : Source) (old : Old) (notes : List Note)
    (source_is : slice_get config.sources n ≡ Some source) (installed : IsInstalled source old dir) (sizes : (name : List ℕ) → config.sizes name ≡ length (parts name))
    (agrees : Agrees mirror parts config.sources notes) (quiet : Each (λ note. NoFault note.told.closed) notes) (distinct : AllPairs (λ x y. x ≢ y) (names_of source)) where
  -- the walk of a list, beside what the directory has
  same-walk : (w : Wanted) → named old.lists w.name.0 ≡ dir w.name.0 → walk_for config old w ≡ target_walk (dir w.name.0) (length (parts w.name.0)) w
  same-walk w is =
      ap (λ (i : Option (List ℕ)). target_walk i (config.sizes w.name.0) w) is ∙ ap (λ (size : ℕ). target_walk (dir w.name.0) size w) (sizes w.name.0)

  part-of-list : (place : ℕ) (name : ListName) → name_at source place ≡ Some name → part_at parts config.sources (record { source = n; place = place }) ≡ parts name.0
  part-of-list place name is =
      ap (λ (s : Option Source). part_of parts (option_and_then (λ source. name_at source place) s)) source_is ∙ ap (part_of parts) is

  one-list : (l : ListEnd) (k : ℕ) (t : Target) → slice_get source.targets k ≡ Some t → l.wanted.name ≡ t.name → ListEndsInRoute config n old (history_of n notes) l → name_at source l.place ≡ Some l.wanted.name
      → length (history_of n notes (suc k)) ≡ asks_for_list mirror dir parts l.wanted
  one-list l k t there same route stands =
      let place : l.place ≡ suc k = place-is source l.place k l.wanted.name t distinct stands there same in
      let lies : named old.lists t.name.0 ≡ dir t.name.0 = each-get source.targets k t there installed.lists in
      let lies_there : named old.lists l.wanted.name.0 ≡ dir l.wanted.name.0 = subst (λ (x : ListName). named old.lists x.0 ≡ dir x.0) (sym same) lies in
      ap (λ (p : ℕ). length (history_of n notes p)) (sym place)
      ∙ item-heard mirror parts config n l.place (walk_for config old l.wanted) (parts l.wanted.name.0) notes l.end (part-of-list l.place l.wanted.name stands) agrees quiet route.asks route.ends
      ∙ ap (asks_along mirror (parts l.wanted.name.0)) (same-walk l.wanted lies_there)
    where
      each-get : (targets : List Target) (k : ℕ) (t : Target) → slice_get targets k ≡ Some t → Each (λ target. named old.lists target.name.0 ≡ dir target.name.0) targets → named old.lists t.name.0 ≡ dir t.name.0
      each-get [] k t e h = absurd (cc)
      each-get (x ∷ xs) zero t e h = let same : x ≡ t = cc in subst (λ (y : Target). named old.lists y.name.0 ≡ dir y.name.0) same h.0
      each-get (x ∷ xs) (suc k) t e h = each-get xs k t e h.1

  -- the lists from a place on: those that the Release names have heard one answer for each position, and the others none
  pub lists-heard : (release : Release) (k : ℕ) (targets : List Target) (lists : List ListEnd)
      → ((i : ℕ) → slice_get targets i ≡ slice_get source.targets (k + i))
      → ((j : ℕ) (t : Target) → slice_get source.targets j ≡ Some t → listed_sum release t.path ≡ None → history_of n notes (suc j) ≡ [])
      → map (λ (l : ListEnd). l.wanted) lists ≡ filter_map (λ target. option_map (want source release config.settings target) (listed_sum release target.path)) targets
      → Each (ListEndsInRoute config n old (history_of n notes)) lists → Each (λ l. name_at source l.place ≡ Some l.wanted.name) lists
      → heard_by (places_from n (suc k) targets) notes ≡ sum_by (asks_for_list mirror dir parts) (filter_map (λ target. option_map (want source release config.settings target) (listed_sum release target.path)) targets)
  lists-heard release k [] lists at others are routes places = refl
  lists-heard release k (t ∷ ts) lists at others are routes places =
      one (listed_sum release t.path) refl lists are routes places (λ ls are routes places. lists-heard release (suc k) ts ls next others are routes places)
    where
      here : slice_get source.targets k ≡ Some t
      here = subst (λ (i : ℕ). slice_get source.targets i ≡ Some t) (omega arith) (sym (at 0))

      next : (i : ℕ) → slice_get ts i ≡ slice_get source.targets (suc k + i)
      next i = subst (λ (j : ℕ). slice_get ts i ≡ slice_get source.targets j) (omega arith) (at (suc i))

      rest : List Wanted
      rest = filter_map (λ target. option_map (want source release config.settings target) (listed_sum release target.path)) ts

      sum-up : (a b c d : ℕ) → a ≡ c → b ≡ d → a + b ≡ c + d
      sum-up a b c d same other = omega (arith, same, other)

      none-up : (a b d : ℕ) → a ≡ 0 → b ≡ d → a + b ≡ d
      none-up a b d none other = omega (arith, none, other)

      one : (o : Option Sum) → listed_sum release t.path ≡ o → (ls : List ListEnd) → map (λ (l : ListEnd). l.wanted) ls ≡ cons_option (option_map (want source release config.settings t) o) rest
          → Each (ListEndsInRoute config n old (history_of n notes)) ls → Each (λ l. name_at source l.place ≡ Some l.wanted.name) ls
          → ((ls : List ListEnd) → map (λ (l : ListEnd). l.wanted) ls ≡ rest → Each (ListEndsInRoute config n old (history_of n notes)) ls → Each (λ l. name_at source l.place ≡ Some l.wanted.name) ls
          → heard_by (places_from n (suc (suc k)) ts) notes ≡ sum_by (asks_for_list mirror dir parts) rest)
          → length (history_of n notes (suc k)) + heard_by (places_from n (suc (suc k)) ts) notes ≡ sum_by (asks_for_list mirror dir parts) (cons_option (option_map (want source release config.settings t) o) rest)
      one None e ls are routes places later =
          let none : length (history_of n notes (suc k)) ≡ 0 = ap (λ (ns : List Note). length ns) (others k t here e) in
          none-up _ _ _ none (later ls are routes places)
      one (Some sum) e [] are routes places later = absurd (cc)
      one (Some sum) e (l ∷ ls) are routes places later =
          let first : l.wanted ≡ want source release config.settings t sum = cc in
          let others_are : map (λ (l : ListEnd). l.wanted) ls ≡ rest = cc in
          let count = one-list l k t here (ap (λ (w : Wanted). w.name) first) routes.0 places.0 ∙ ap (asks_for_list mirror dir parts) first in
          sum-up _ _ _ _ count (later ls others_are routes.1 places.1)
          ∙ sym (sum_by-cons (asks_for_list mirror dir parts) (want source release config.settings t sum) rest)

  -- where it may not be installed, no list has heard anything
  pub lists-unheard : (k : ℕ) (targets : List Target) → ((i : ℕ) → slice_get targets i ≡ slice_get source.targets (k + i))
      → ((j : ℕ) (t : Target) → slice_get source.targets j ≡ Some t → history_of n notes (suc j) ≡ []) → heard_by (places_from n (suc k) targets) notes ≡ 0
  lists-unheard k [] at others = refl
  lists-unheard k (t ∷ ts) at others =
      let here : slice_get source.targets k ≡ Some t = subst (λ (i : ℕ). slice_get source.targets i ≡ Some t) (omega arith) (sym (at 0)) in
      let none : length (history_of n notes (suc k)) ≡ 0 = ap (λ (ns : List Note). length ns) (others k t here) in
      let rest = lists-unheard (suc k) ts (λ i. subst (λ (j : ℕ). slice_get ts i ≡ slice_get source.targets j) (omega arith) (at (suc i))) others in
      omega (arith, none, rest)
