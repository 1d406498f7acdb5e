-- A sound plan has a directory that is next: each source's files by name, and other names as they go or stay.
use Rattle.std.proofs.Common.{◌≡◌, ◌≢◌, inl, inr, ℕ, zero, suc, ◌<◌, Bool, true, false, if◌then◌else◌, List, [], ◌∷◌, ◌++◌, length, map, AllPairs, Contains, Option, Some, None, option_map, option_and_then, filter_map, Ok, Err, refl, sym, ap, ◌∙◌, subst, length-append, arith}
use Rattle.std.specs.List.{list_any, slice_index_or, cons_option, AllByRecursion as Each}
use Rattle.std.specs.Str.{bytes_eq}
use Rattle.std.proofs.lemmas.Bool.{cases_Bool}
use Rattle.std.proofs.lemmas.List.{get_or_append_left}
use Rattle.std.proofs.lemmas.List.Elements.{Contains-append_left, Contains-append_right}
use Rattle.std.proofs.lemmas.Slice.Eq.{bytes_eq-Decides}
use Rattle.acq_base.specs.Mirror.{MirrorMap}
use Rattle.acq_base.specs.Plan.{names_of}
use Rattle.acq_base.specs.Sum.{sum_of}
use Rattle.acq_base.specs.declared.plan.Source.{Source}
use Rattle.acq_base.specs.declared.plan.Target.{Target}
use Rattle.acq_base.specs.declared.settings.Settings.{Settings}
use Rattle.acq_base.specs.declared.sum.Sum.{Sum}
use Rattle.release_file.specs.Release.{listed_sum}
use Rattle.release_file.specs.declared.release.Release.{Release}
use Rattle.update_model.specs.Carried.{all_names, NextIsThere}
use Rattle.update_model.specs.Laws.{file_of, IsFileOf}
use Rattle.update_model.specs.Next.{HasWholeSet, OutcomeLeaves, cleans}
use Rattle.update_model.specs.Outcomes.{AdmittedRelease, Outcome, Directory, PartFiles, obtained, new_set}
use Rattle.update_model.specs.Wanted.{want}
use Rattle.update_model.specs.declared.wanted.Wanted.{Wanted}
use Rattle.update_model.proofs.Carried.{each-from, apart, behind-distinct, names-in}
use Rattle.update_model.proofs.Sources.{sets-fit}

-- ---- names

abbrev has_name : List (List ℕ) → List ℕ → Bool
has_name names name = list_any (λ n. bytes_eq n name) names

has : (names : List (List ℕ)) (name : List ℕ) → Contains names name → has_name names name ≡ true
has [] name c = absurd (omega (arith, c.1))
has (n ∷ ns) name c = at c.0 c.1 c.2 (λ d. has ns name d)
  where
    at : (k : ℕ) → k < length (n ∷ ns) → slice_index_or (n ∷ ns) k name ≡ name → (Contains ns name → has_name ns name ≡ true) → has_name (n ∷ ns) name ≡ true
    at zero below is more = let same : bytes_eq n name ≡ true = (bytes_eq-Decides n name).1 is in rw same refl
    at (suc k) below is more =
        let rest : has_name ns name ≡ true = more (k, omega (arith, below), is) in
        elim (cases_Bool (bytes_eq n name)) [ inl same ↦ rw same refl | inr other ↦ rw other rest ]

has-not : (names : List (List ℕ)) (name : List ℕ) → (Contains names name → ⊥) → has_name names name ≡ false
has-not [] name none = refl
has-not (n ∷ ns) name none =
    let other : bytes_eq n name ≡ false =
    elim (cases_Bool (bytes_eq n name)) [ inl same ↦ absurd (none (0, omega arith, (bytes_eq-Decides n name).0 same)) | inr isnt ↦ isnt ] in
    rw other (has-not ns name (λ c. none (suc c.0, omega (arith, c.1), c.2)))

-- ---- one source's files by name

abbrev lists_at : (Target → Option (List ℕ)) → List Target → Directory
lists_at file [] name = None
lists_at file (t ∷ ts) name = if bytes_eq t.name.0 name then file t else lists_at file ts name

abbrev set_at : (Target → Option (List ℕ)) → Source → List ℕ → Directory
set_at file source bytes name = if bytes_eq source.release_name.0 name then Some bytes else lists_at file source.targets name

lists-are : (file : Target → Option (List ℕ)) (targets : List Target) → AllPairs (λ a b. a ≢ b) (map (λ t. t.name.0) targets)
    → Each (λ t. lists_at file targets t.name.0 ≡ file t) targets
lists-are file [] distinct = tt
lists-are file (t ∷ ts) distinct =
    let itself : bytes_eq t.name.0 t.name.0 ≡ true = (bytes_eq-Decides t.name.0 t.name.0).1 refl in
    let one : lists_at file (t ∷ ts) t.name.0 ≡ file t = rw itself refl in
    (one, behind ts (λ c. apart (t.name.0 ∷ []) (map (λ t. t.name.0) ts) distinct t.name.0 (0, omega arith, refl) c) (lists-are file ts (behind-distinct (t.name.0 ∷ []) (map (λ t. t.name.0) ts) distinct)))
  where
    behind : (us : List Target) → (Contains (map (λ u. u.name.0) us) t.name.0 → ⊥) → Each (λ u. lists_at file ts u.name.0 ≡ file u) us → Each (λ u. lists_at file (t ∷ ts) u.name.0 ≡ file u) us
    behind [] far h = tt
    behind (u ∷ us) far h =
        let other : bytes_eq t.name.0 u.name.0 ≡ false =
        elim (cases_Bool (bytes_eq t.name.0 u.name.0)) [
          | inl same ↦ absurd (far (0, omega arith, sym ((bytes_eq-Decides t.name.0 u.name.0).0 same)))
          | inr isnt ↦ isnt
        ] in
        let here : lists_at file (t ∷ ts) u.name.0 ≡ file u = rw other h.0 in
        (here, behind us (λ c. far (suc c.0, omega (arith, c.1), c.2)) h.1)

pub front-distinct : (xs ys : List (List ℕ)) → AllPairs (λ a b. a ≢ b) (xs ++ ys) → AllPairs (λ a b. a ≢ b) xs
front-distinct xs ys h = λ i j d before below same.
    let count = length-append xs ys in
    let first : slice_index_or (xs ++ ys) i d ≡ slice_index_or xs i d = get_or_append_left xs ys d i (omega (arith, before, below)) in
    let second : slice_index_or (xs ++ ys) j d ≡ slice_index_or xs j d = get_or_append_left xs ys d j below in
    h i j d before (omega (arith, count, below)) (first ∙ same ∙ sym second)

names-distinct : (sources : List Source) (source : Source) → AllPairs (λ a b. a ≢ b) (all_names sources) → Contains sources source → AllPairs (λ a b. a ≢ b) (names_of source)
names-distinct [] source distinct c = absurd (omega (arith, c.1))
names-distinct (s ∷ sources) source distinct c =
    at c.0 c.1 c.2 (λ d. names-distinct sources source (behind-distinct (names_of s) (all_names sources) distinct) d)
  where
    at : (k : ℕ) → k < length (s ∷ sources) → slice_index_or (s ∷ sources) k source ≡ source → (Contains sources source → AllPairs (λ a b. a ≢ b) (names_of source)) → AllPairs (λ a b. a ≢ b) (names_of source)
    at zero below is more = subst (λ x. AllPairs (λ a b. a ≢ b) (names_of x)) is (front-distinct (names_of s) (all_names sources) distinct)
    at (suc k) below is more = more (k, omega (arith, below), is)

contains-mapped : {X Y : Type 0} (f : X → Y) (xs : List X) → Each (λ x. Contains (map f xs) (f x)) xs
contains-mapped f [] = tt
contains-mapped f (x ∷ xs) = ((0, omega arith, refl), more xs (contains-mapped f xs))
  where
    more : (ys : List _) → Each (λ y. Contains (map f xs) (f y)) ys → Each (λ y. Contains (map f (x ∷ xs)) (f y)) ys
    more [] h = tt
    more (y ∷ ys) h = ((suc h.0.0, omega (arith, h.0.1), h.0.2), more ys h.1)

-- the source's names: its Release's, and then each list's
set-is : (file : Target → Option (List ℕ)) (source : Source) (bytes : List ℕ) → AllPairs (λ a b. a ≢ b) (names_of source)
    → (set_at file source bytes source.release_name.0 ≡ Some bytes) × Each (λ t. set_at file source bytes t.name.0 ≡ file t) source.targets
set-is file source bytes distinct =
    let itself : bytes_eq source.release_name.0 source.release_name.0 ≡ true = (bytes_eq-Decides source.release_name.0 source.release_name.0).1 refl in
    let names : List (List ℕ) = map (λ t. t.name.0) source.targets in
    let first : set_at file source bytes source.release_name.0 ≡ Some bytes = rw itself refl in
    (first, behind source.targets (contains-mapped (λ t. t.name.0) source.targets) (lists-are file source.targets (behind-distinct (source.release_name.0 ∷ []) names distinct)))
  where
    behind : (us : List Target) → Each (λ u. Contains (map (λ t. t.name.0) source.targets) u.name.0) us → Each (λ u. lists_at file source.targets u.name.0 ≡ file u) us
        → Each (λ u. set_at file source bytes u.name.0 ≡ file u) us
    behind [] c h = tt
    behind (u ∷ us) c h =
        let other : bytes_eq source.release_name.0 u.name.0 ≡ false =
        elim (cases_Bool (bytes_eq source.release_name.0 u.name.0)) [
          | inl same ↦ absurd (apart (source.release_name.0 ∷ []) (map (λ t. t.name.0) source.targets) distinct u.name.0 (0, omega arith, (bytes_eq-Decides source.release_name.0 u.name.0).0 same) c.0)
          | inr isnt ↦ isnt
        ] in
        let here : set_at file source bytes u.name.0 ≡ file u = rw other h.0 in
        (here, behind us c.1 h.1)

-- ---- the files of a new set

file-sum : (sum : Sum) (o : Option (List ℕ)) → IsFileOf sum o → option_map sum_of o ≡ Some sum
file-sum sum None h = absurd h
file-sum sum (Some bytes) h = ap (λ x. Some x) h

abbrev file_for : MirrorMap → Directory → PartFiles → Source → Release → Settings → Target → Option (List ℕ)
file_for world dir parts source release settings t =
    option_and_then (λ sum. file_of (dir t.name.0) (obtained world dir parts (want source release settings t sum))) (listed_sum release t.path)

each-listed : (world : MirrorMap) (dir : Directory) (parts : PartFiles) (source : Source) (release : Release) (settings : Settings) (targets : List Target)
    → Each (λ w. IsFileOf w.sum (file_of (dir w.name.0) (obtained world dir parts w))) (filter_map (λ t. option_map (want source release settings t) (listed_sum release t.path)) targets)
    → Each (λ t. option_map sum_of (file_for world dir parts source release settings t) ≡ listed_sum release t.path) targets
each-listed world dir parts source release settings [] h = tt
each-listed world dir parts source release settings (t ∷ ts) h = at (listed_sum release t.path) h (λ more. each-listed world dir parts source release settings ts more)
  where
    rest : List Wanted
    rest = filter_map (λ u. option_map (want source release settings u) (listed_sum release u.path)) ts

    at : (o : Option Sum) → Each (λ w. IsFileOf w.sum (file_of (dir w.name.0) (obtained world dir parts w))) (cons_option (option_map (want source release settings t) o) rest)
        → (Each (λ w. IsFileOf w.sum (file_of (dir w.name.0) (obtained world dir parts w))) rest → Each (λ u. option_map sum_of (file_for world dir parts source release settings u) ≡ listed_sum release u.path) ts)
        → (option_map sum_of (option_and_then (λ sum. file_of (dir t.name.0) (obtained world dir parts (want source release settings t sum))) o) ≡ o)
        × Each (λ u. option_map sum_of (file_for world dir parts source release settings u) ≡ listed_sum release u.path) ts
    at None h more = (refl, more h)
    at (Some sum) h more = (file-sum sum (file_of (dir t.name.0) (obtained world dir parts (want source release settings t sum))) h.0, more h.1)

-- ---- the whole directory

abbrev value_of : MirrorMap → Directory → PartFiles → Settings → Outcome → Source → Directory
value_of world dir parts settings (Ok set) source = set_at (file_for world dir parts source set.release settings) source set.bytes
value_of world dir parts settings (Err why) source = dir

abbrev after_of : (Source → Directory) → Directory → List Source → Directory
after_of value others [] name = others name
after_of value others (s ∷ ss) name = if has_name (names_of s) name then value s name else after_of value others ss name

is-value : (value : Source → Directory) (others : Directory) (sources : List Source) (source : Source) (name : List ℕ)
    → AllPairs (λ a b. a ≢ b) (all_names sources) → Contains sources source → Contains (names_of source) name → after_of value others sources name ≡ value source name
is-value value others [] source name distinct c n = absurd (omega (arith, c.1))
is-value value others (s ∷ sources) source name distinct c n =
    at c.0 c.1 c.2 (λ d. is-value value others sources source name (behind-distinct (names_of s) (all_names sources) distinct) d n)
  where
    at : (k : ℕ) → k < length (s ∷ sources) → slice_index_or (s ∷ sources) k source ≡ source → (Contains sources source → after_of value others sources name ≡ value source name)
        → after_of value others (s ∷ sources) name ≡ value source name
    at zero below is more =
        let here : has_name (names_of s) name ≡ true = has (names_of s) name (subst (λ x. Contains (names_of x) name) (sym is) n) in
        rw here (ap (λ x. value x name) is)
    at (suc k) below is more =
        let there : Contains sources source = (k, omega (arith, below), is) in
        let none : has_name (names_of s) name ≡ false =
        has-not (names_of s) name (λ d. apart (names_of s) (all_names sources) distinct name d (names-in sources source name there n)) in
        rw none (more there)

is-other : (value : Source → Directory) (others : Directory) (sources : List Source) (name : List ℕ) → (Contains (all_names sources) name → ⊥) → after_of value others sources name ≡ others name
is-other value others [] name none = refl
is-other value others (s ∷ sources) name none =
    let away : has_name (names_of s) name ≡ false = has-not (names_of s) name (λ c. none (Contains-append_left (names_of s) (all_names sources) name c)) in
    rw away (is-other value others sources name (λ c. none (Contains-append_right (names_of s) (all_names sources) name c)))

-- files under a source's names make its set
makes-set : (after : Directory) (source : Source) (set : AdmittedRelease) (file : Target → Option (List ℕ))
    → AllPairs (λ a b. a ≢ b) (names_of source)
    → ((name : List ℕ) → Contains (names_of source) name → after name ≡ set_at file source set.bytes name)
    → Each (λ t. option_map sum_of (file t) ≡ listed_sum set.release t.path) source.targets → HasWholeSet after source set
makes-set after source set file distinct is sums =
    let made = set-is file source set.bytes distinct in record {
      release_file = is source.release_name.0 (0, omega arith, refl) ∙ made.0;
      lists = each source.targets (contains-mapped (λ t. t.name.0) source.targets) made.1 sums;
    }
  where
    each : (ts : List Target) → Each (λ t. Contains (map (λ u. u.name.0) source.targets) t.name.0) ts → Each (λ t. set_at file source set.bytes t.name.0 ≡ file t) ts
        → Each (λ t. option_map sum_of (file t) ≡ listed_sum set.release t.path) ts → Each (λ t. option_map sum_of (after t.name.0) ≡ listed_sum set.release t.path) ts
    each [] c h k = tt
    each (t ∷ ts) c h k = (ap (option_map sum_of) (is t.name.0 (suc c.0.0, omega (arith, c.0.1), c.0.2) ∙ h.0) ∙ k.0, each ts c.1 h.1 k.1)

pub next-there : NextIsThere
next-there world dir parts plan settings change now sound =
    let set_of : Source → Outcome = λ source. new_set world dir parts source settings change now in
    let value : Source → Directory = λ source. value_of world dir parts settings (set_of source) source in
    let others : Directory = λ name. if cleans settings (map set_of plan.sources) then None else dir name in
    let after : Directory = after_of value others plan.sources in (
      after,
      record {
        sources = each-from (λ source. OutcomeLeaves (set_of source) source dir after) plan.sources (λ source c.
            left source (set_of source) refl (names-distinct plan.sources source sound.distinct c) after (λ name n. is-value value others plan.sources source name sound.distinct c n));
        others = λ name none. is-other value others plan.sources name none;
      },
    )
  where
    left : (source : Source) (o : Outcome) → new_set world dir parts source settings change now ≡ o → AllPairs (λ a b. a ≢ b) (names_of source) → (after : Directory)
        → ((name : List ℕ) → Contains (names_of source) name → after name ≡ value_of world dir parts settings o source name)
        → OutcomeLeaves o source dir after
    left source (Err why) e distinct after is = each-from (λ name. after name ≡ dir name) (names_of source) is
    left source (Ok set) e distinct after is =
        makes-set after source set (file_for world dir parts source set.release settings) distinct is
        (each-listed world dir parts source set.release settings source.targets (sets-fit world dir parts source settings change now set e))
