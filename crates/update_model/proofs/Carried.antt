-- The deeds of a run lead to what is next.
use Rattle.std.proofs.Common.{◌≡◌, ◌≢◌, ◌⊎◌, inl, inr, ℕ, zero, suc, ◌+◌, ◌<◌, Bool, true, false, ◌&&◌, if◌then◌else◌, List, [], ◌∷◌, ◌++◌, length, map, AllPairs, Contains, Some, None, option_map, filter_map, Ok, Err, refl, sym, ap, ◌∙◌, subst, arith, length-append}
use Rattle.std.specs.List.{list_all, slice_index_or, cons_option, AllByRecursion as Each}
use Rattle.std.proofs.lemmas.Bool.{cases_Bool}
use Rattle.std.specs.Str.{bytes_eq}
use Rattle.std.proofs.lemmas.Slice.Eq.{bytes_eq-Decides}
use Rattle.std.proofs.lemmas.List.{get_or-append-add, get_or_append_left}
use Rattle.std.proofs.lemmas.List.Elements.{Contains-append_cases, Contains-append_left, Contains-append_right}
use Rattle.acq_base.specs.Plan.{names_of}
use Rattle.acq_base.specs.Sum.{sum_of}
use Rattle.acq_base.specs.declared.plan.Source.{Source}
use Rattle.acq_base.specs.declared.plan.Target.{Target}
use Rattle.release_file.specs.Release.{listed_sum}
use Rattle.release_file.specs.declared.release.Release.{Release}
use Rattle.update_model.specs.Carried.{StaysBeside, Carried, sources_of, all_names, DeedsLeadToNext}
use Rattle.update_model.specs.Next.{HasWholeSet, Keeps, OutcomeLeaves, Deed, Installs, deed_of, has_whole_set, clean_up, cleans, lets_clean_up}
use Rattle.update_model.specs.Outcomes.{AdmittedRelease, Outcome, Directory, new_set}
use Rattle.update_model.proofs.Nexts.{sets-found, tests-hold}

-- ---- lists

pub each-from : {X : Type 0} (P : X → Type 0) (xs : List X) → ((x : X) → Contains xs x → P x) → Each P xs
each-from P [] h = tt
each-from P (x ∷ xs) h = (h x (0, omega arith, refl), each-from P xs (λ y c. h y (suc c.0, omega (arith, c.1), c.2)))

pub each-at : {X : Type 0} (P : X → Type 0) (xs : List X) (x : X) → Each P xs → Contains xs x → P x
each-at P [] x h c = absurd (omega (arith, c.1))
each-at P (y ∷ ys) x h c = at c.0 c.1 c.2 (λ d. each-at P ys x h.1 d)
  where
    at : (k : ℕ) → k < length (y ∷ ys) → slice_index_or (y ∷ ys) k x ≡ x → (Contains ys x → P x) → P x
    at zero below is more = subst P is h.0
    at (suc k) below is more = more (k, omega (arith, below), is)

-- in two lists that have no name twice together no name stands in both
pub apart : (xs ys : List (List ℕ)) → AllPairs (λ a b. a ≢ b) (xs ++ ys) → (name : List ℕ) → Contains xs name → Contains ys name → ⊥
apart xs ys h name a b =
    let count = length-append xs ys in
    let first : slice_index_or (xs ++ ys) a.0 name ≡ name = get_or_append_left xs ys name a.0 a.1 ∙ a.2 in
    let second : slice_index_or (xs ++ ys) (length xs + b.0) name ≡ name = get_or-append-add xs ys b.0 name ∙ b.2 in
    h a.0 (length xs + b.0) name (omega (arith, a.1)) (omega (arith, count, b.1)) (first ∙ sym second)

pub behind-distinct : (xs ys : List (List ℕ)) → AllPairs (λ a b. a ≢ b) (xs ++ ys) → AllPairs (λ a b. a ≢ b) ys
behind-distinct xs ys h = λ i j d before below same.
    let count = length-append xs ys in
    let first : slice_index_or (xs ++ ys) (length xs + i) d ≡ slice_index_or ys i d = get_or-append-add xs ys i d in
    let second : slice_index_or (xs ++ ys) (length xs + j) d ≡ slice_index_or ys j d = get_or-append-add xs ys j d in
    h (length xs + i) (length xs + j) d (omega (arith, before)) (omega (arith, count, below)) (first ∙ same ∙ sym second)

-- ---- what lies under a source's names in two directories that have the same there

listed-moved : (a b : Directory) (release : Release) (targets : List Target) → Each (λ name. b name ≡ a name) (map (λ t. t.name.0) targets)
    → Each (λ t. option_map sum_of (a t.name.0) ≡ listed_sum release t.path) targets → Each (λ t. option_map sum_of (b t.name.0) ≡ listed_sum release t.path) targets
listed-moved a b release [] same h = tt
listed-moved a b release (t ∷ targets) same h = (ap (option_map sum_of) same.0 ∙ h.0, listed-moved a b release targets same.1 h.1)

holds-moved : (a b : Directory) (source : Source) (set : AdmittedRelease) → Keeps source a b → HasWholeSet a source set → HasWholeSet b source set
holds-moved a b source set same h = record { release_file = same.0 ∙ h.release_file; lists = listed-moved a b set.release source.targets same.1 h.lists }

keeps-both : (names : List (List ℕ)) (a b c : Directory) → Each (λ name. b name ≡ a name) names → Each (λ name. c name ≡ b name) names → Each (λ name. c name ≡ a name) names
keeps-both [] a b c h k = tt
keeps-both (name ∷ names) a b c h k = (k.0 ∙ h.0, keeps-both names a b c h.1 k.1)

leaves-moved : (o : Outcome) (source : Source) (dir a b : Directory) → Keeps source a b → OutcomeLeaves o source dir a → OutcomeLeaves o source dir b
leaves-moved (Ok set) source dir a b same h = holds-moved a b source set same h
leaves-moved (Err why) source dir a b same h = keeps-both (names_of source) dir a b h same

-- ---- the sources' deeds

-- former files are kept by others than the source whose names alone may change
others-keep : (dir before between : Directory) (order : List (Source × Outcome))
    → ((name : List ℕ) → Contains (all_names (sources_of order)) name → between name ≡ before name)
    → Each (λ t. Keeps t.0 dir before) order → Each (λ t. Keeps t.0 dir between) order
others-keep dir before between [] same kept = tt
others-keep dir before between (t ∷ order) same kept = (
  keeps-both (names_of t.0) dir before between kept.0
      (each-from (λ name. between name ≡ before name) (names_of t.0) (λ name c. same name (Contains-append_left (names_of t.0) (all_names (sources_of order)) name c))),
  others-keep dir before between order (λ name c. same name (Contains-append_right (names_of t.0) (all_names (sources_of order)) name c)) kept.1,
)

abbrev IsSettledIn : Directory → Directory → Source × Outcome → Type 0
IsSettledIn dir after s = OutcomeLeaves s.1 s.0 dir after

abbrev source_deeds : Directory → List (Source × Outcome) → List Deed
source_deeds dir order = filter_map (deed_of dir) order

-- what the deeds of other sources leave
abbrev Rest : Directory → List (Source × Outcome) → Directory → Type 0
Rest dir order after = (between : Directory) → Each (λ t. Keeps t.0 dir between) order → Carried (source_deeds dir order) between after
    → Each (IsSettledIn dir after) order × StaysBeside (all_names (sources_of order)) between after

-- one source, in front of others whose names are other ones
one-more : (dir : Directory) (source : Source) (o : Outcome) (order : List (Source × Outcome)) (before after : Directory)
    → ((name : List ℕ) → Contains (names_of source) name → Contains (all_names (sources_of order)) name → ⊥)
    → Keeps source dir before → Each (λ t. Keeps t.0 dir before) order
    → Carried (cons_option (deed_of dir (source, o)) (source_deeds dir order)) before after → Rest dir order after
    → (OutcomeLeaves o source dir after × Each (IsSettledIn dir after) order) × StaysBeside (names_of source ++ all_names (sources_of order)) before after
one-more dir source o order before after far here kept carried more = at o carried
  where
    rest : List (List ℕ)
    rest = all_names (sources_of order)

    stays : (between : Directory) → StaysBeside rest between after → Keeps source between after
    stays between beside = each-from (λ name. after name ≡ between name) (names_of source) (λ name c. beside name (far name c))

    both : (between : Directory) → StaysBeside (names_of source) before between → StaysBeside rest between after → StaysBeside (names_of source ++ rest) before after
    both between first second = λ name none.
        second name (λ c. none (Contains-append_right (names_of source) rest name c)) ∙ first name (λ c. none (Contains-append_left (names_of source) rest name c))

    unchanged : (o : Outcome) → OutcomeLeaves o source dir before → Carried (source_deeds dir order) before after
        → (OutcomeLeaves o source dir after × Each (IsSettledIn dir after) order) × StaysBeside (names_of source ++ rest) before after
    unchanged o left c =
        let m = more before kept c in
        ((leaves-moved o source dir before after (stays before m.1) left, m.0), both before (λ name none. refl) m.1)

    look : (set : AdmittedRelease) (b : Bool) → has_whole_set dir source set ≡ b → Carried (cons_option (if b then None else Some (Installs source set)) (source_deeds dir order)) before after
        → (HasWholeSet after source set × Each (IsSettledIn dir after) order) × StaysBeside (names_of source ++ rest) before after
    look set true e c = unchanged (Ok set) (holds-moved dir before source set here ((sets-found dir source set).0 e)) c
    look set false e c =
        let m = more c.0 (others-keep dir before c.0 order (λ name there. c.1.1 name (λ mine. far name mine there)) kept) c.2 in
        ((holds-moved c.0 after source set (stays c.0 m.1) c.1.0, m.0), both c.0 c.1.1 m.1)

    at : (o : Outcome) → Carried (cons_option (deed_of dir (source, o)) (source_deeds dir order)) before after
        → (OutcomeLeaves o source dir after × Each (IsSettledIn dir after) order) × StaysBeside (names_of source ++ rest) before after
    at (Err why) c = unchanged (Err why) here c
    at (Ok set) c = look set (has_whole_set dir source set) refl c

installs : (dir : Directory) (order : List (Source × Outcome)) (before after : Directory)
    → AllPairs (λ a b. a ≢ b) (all_names (sources_of order))
    → Each (λ s. Keeps s.0 dir before) order
    → Carried (source_deeds dir order) before after
    → Each (IsSettledIn dir after) order × StaysBeside (all_names (sources_of order)) before after
installs dir [] before after distinct same carried = (tt, λ name none. carried name)
installs dir (s ∷ order) before after distinct same carried =
    one-more dir s.0 s.1 order before after (apart (names_of s.0) (all_names (sources_of order)) distinct) same.0 same.1 carried
    (λ between kept c. installs dir order between after (behind-distinct (names_of s.0) (all_names (sources_of order)) distinct) kept c)

-- ---- the clean-up

carried-split : (xs ys : List Deed) (a c : Directory) → Carried (xs ++ ys) a c → (b : Directory) × Carried xs a b × Carried ys b c
carried-split [] ys a c h = (a, (λ name. refl), h)
carried-split (d ∷ xs) ys a c h = let r = carried-split xs ys h.0 c h.2 in (r.0, (h.0, h.1, r.1), r.2)

-- names that aren't loose stay, and loose ones go where they may
record CleansSo (b : Bool) (loose : List (List ℕ)) (before after : Directory) : Type 0 where
  stay : (name : List ℕ) → (Contains loose name → ⊥) → after name ≡ before name
  go : b ≡ true → (name : List ℕ) → Contains loose name → after name ≡ None
  same : b ≡ false → (name : List ℕ) → after name ≡ before name

cleans-so : (b : Bool) (loose : List (List ℕ)) (before after : Directory) → Carried (clean_up b loose) before after → CleansSo b loose before after
cleans-so false loose before after h = record { stay = λ name none. h name; go = λ e. absurd cc; same = λ e name. h name }
cleans-so true [] before after h = record { stay = λ name none. h name; go = λ e name c. absurd (omega (arith, c.1)); same = λ e. absurd cc }
cleans-so true (n ∷ ns) before after h = record {
  stay = λ name none. h.2 name ∙ h.1.1 name none;
  go = λ e name c. h.2 name ∙ h.1.0 name c;
  same = λ e. absurd cc;
}

-- ---- the plan's sources in any order

pub each-mapped : {X Y : Type 0} (f : X → Y) (P : Y → Type 0) (xs : List X) → Each (λ x. P (f x)) xs → Each P (map f xs)
each-mapped f P [] h = tt
each-mapped f P (x ∷ xs) h = (h.0, each-mapped f P xs h.1)

pub each-unmapped : {X Y : Type 0} (f : X → Y) (P : Y → Type 0) (xs : List X) → Each P (map f xs) → Each (λ x. P (f x)) xs
each-unmapped f P [] h = tt
each-unmapped f P (x ∷ xs) h = (h.0, each-unmapped f P xs h.1)

-- a fact on outcomes is one on what the mirror has
by-mirror : (set_of : Source → Outcome) (P : Outcome → Source → Type 0) (order : List (Source × Outcome))
    → Each (λ s. s.1 ≡ set_of s.0) order → Each (λ s. P s.1 s.0) order → Each (λ s. P (set_of s.0) s.0) order
by-mirror set_of P [] e h = tt
by-mirror set_of P (s ∷ order) e h = (subst (λ o. P o s.0) e.0 h.0, by-mirror set_of P order e.1 h.1)

from-mirror : (set_of : Source → Outcome) (P : Outcome → Source → Type 0) (order : List (Source × Outcome))
    → Each (λ s. s.1 ≡ set_of s.0) order → Each (λ s. P (set_of s.0) s.0) order → Each (λ s. P s.1 s.0) order
from-mirror set_of P [] e h = tt
from-mirror set_of P (s ∷ order) e h = (subst (λ o. P o s.0) (sym e.0) h.0, from-mirror set_of P order e.1 h.1)

pub same-bools : (a b : Bool) → (a ≡ true → b ≡ true) → (b ≡ true → a ≡ true) → a ≡ b
same-bools true true f g = refl
same-bools true false f g = sym (f refl)
same-bools false true f g = g refl
same-bools false false f g = refl

-- a name of one of these sources, and the source that has it
pub names-in : (sources : List Source) (source : Source) (name : List ℕ) → Contains sources source → Contains (names_of source) name → Contains (all_names sources) name
names-in [] source name c n = absurd (omega (arith, c.1))
names-in (s ∷ sources) source name c n = at c.0 c.1 c.2 (λ d. names-in sources source name d n)
  where
    at : (k : ℕ) → k < length (s ∷ sources) → slice_index_or (s ∷ sources) k source ≡ source → (Contains sources source → Contains (all_names sources) name)
        → Contains (names_of s ++ all_names sources) name
    at zero below is more = Contains-append_left (names_of s) (all_names sources) name (subst (λ x. Contains (names_of x) name) (sym is) n)
    at (suc k) below is more = Contains-append_right (names_of s) (all_names sources) name (more (k, omega (arith, below), is))

source-with : (sources : List Source) (name : List ℕ) → Contains (all_names sources) name → (source : Source) × Contains sources source × Contains (names_of source) name
source-with [] name c = absurd (omega (arith, c.1))
source-with (s ∷ sources) name c = split (Contains-append_cases (names_of s) (all_names sources) name c) (λ d. source-with sources name d)
  where
    split : Contains (names_of s) name ⊎ Contains (all_names sources) name
        → (Contains (all_names sources) name → (source : Source) × Contains sources source × Contains (names_of source) name)
        → (source : Source) × Contains (s ∷ sources) source × Contains (names_of source) name
    split (inl here) more = (s, (0, omega arith, refl), here)
    split (inr there) more = let r = more there in (r.0, (suc r.1.0, omega (arith, r.1.1), r.1.2), r.2)

is-loose : (loose : List (List ℕ)) (name : List ℕ) → Contains loose name ⊎ (Contains loose name → ⊥)
is-loose [] name = inr (λ c. omega (arith, c.1))
is-loose (n ∷ ns) name =
    elim (cases_Bool (bytes_eq n name)) [
      | inl same ↦ inl (0, omega arith, (bytes_eq-Decides n name).0 same)
      | inr other ↦ elim (is-loose ns name) [
        | inl there ↦ inl (suc there.0, omega (arith, there.1), there.2)
        | inr none ↦ inr (λ c. at c.0 c.1 c.2 none other)
      ]
    ]
  where
    at : (k : ℕ) → k < length (n ∷ ns) → slice_index_or (n ∷ ns) k name ≡ name → (Contains ns name → ⊥) → bytes_eq n name ≡ false → ⊥
    at zero below is none other = let same = (bytes_eq-Decides n name).1 is in cc
    at (suc k) below is none other = none (k, omega (arith, below), is)

pub deeds-lead : DeedsLeadToNext
deeds-lead world dir parts plan settings change now order loose after settled ok carried =
    let set_of : Source → Outcome = λ source. new_set world dir parts source settings change now in
    let well : Outcome → Type 0 = λ o. lets_clean_up o ≡ true in
    let s = carried-split (source_deeds dir order) (clean_up (cleans settings (map (λ (x : Source × Outcome). x.1) order)) loose) dir after carried in
    let m : Directory = s.0 in
    let kept : Each (λ (x : Source × Outcome). Keeps x.0 dir dir) order = each-from (λ (x : Source × Outcome). Keeps x.0 dir dir) order (λ x c. each-from (λ name. dir name ≡ dir name) (names_of x.0) (λ name d. refl)) in
    let i = installs dir order dir m settled.distinct kept s.1 in
    let c = cleans-so (cleans settings (map (λ (x : Source × Outcome). x.1) order)) loose m after s.2 in
    let left : Each (λ source. OutcomeLeaves (set_of source) source dir m) (sources_of order) =
    each-mapped (λ (x : Source × Outcome). x.0) (λ source. OutcomeLeaves (set_of source) source dir m) order (by-mirror set_of (λ o source. OutcomeLeaves o source dir m) order settled.outcomes i.0) in
    let wells : list_all lets_clean_up (map (λ (x : Source × Outcome). x.1) order) ≡ list_all lets_clean_up (map set_of plan.sources) =
    same-bools _ _
    (λ h.
    let one : Each well (map (λ (x : Source × Outcome). x.1) order) = (tests-hold lets_clean_up well (λ o. ((λ x. x), (λ x. x))) (map (λ (x : Source × Outcome). x.1) order)).0 h in
    let two : Each (λ (x : Source × Outcome). well (set_of x.0)) order = by-mirror set_of (λ o source. well o) order settled.outcomes (each-unmapped (λ (x : Source × Outcome). x.1) well order one) in
    let three : Each (λ source. well (set_of source)) (sources_of order) = each-mapped (λ (x : Source × Outcome). x.0) (λ source. well (set_of source)) order two in
    let four : Each (λ source. well (set_of source)) plan.sources = each-from (λ source. well (set_of source)) plan.sources (λ source d. each-at (λ x. well (set_of x)) (sources_of order) source three ((settled.sources source).0 d)) in
    (tests-hold lets_clean_up well (λ o. ((λ x. x), (λ x. x))) (map set_of plan.sources)).1 (each-mapped set_of well plan.sources four))
    (λ h.
    let four : Each (λ source. well (set_of source)) plan.sources =
    each-unmapped set_of well plan.sources ((tests-hold lets_clean_up well (λ o. ((λ x. x), (λ x. x))) (map set_of plan.sources)).0 h) in
    let three : Each (λ source. well (set_of source)) (sources_of order) =
    each-from (λ source. well (set_of source)) (sources_of order) (λ source d. each-at (λ x. well (set_of x)) plan.sources source four ((settled.sources source).1 d)) in
    let two : Each (λ (x : Source × Outcome). well (set_of x.0)) order = each-unmapped (λ (x : Source × Outcome). x.0) (λ source. well (set_of source)) order three in
    let one : Each (λ (x : Source × Outcome). well x.1) order = from-mirror set_of (λ o source. well o) order settled.outcomes two in
    (tests-hold lets_clean_up well (λ o. ((λ x. x), (λ x. x))) (map (λ (x : Source × Outcome). x.1) order)).1 (each-mapped (λ (x : Source × Outcome). x.1) well order one))
    in
    let tests : cleans settings (map (λ (x : Source × Outcome). x.1) order) ≡ cleans settings (map set_of plan.sources) = ap (λ b. settings.cleanup && b) wells in
    record {
      sources = each-from (λ source. OutcomeLeaves (set_of source) source dir after) plan.sources (λ source d.
          leaves-moved (set_of source) source dir m after
          (each-from (λ name. after name ≡ m name) (names_of source) (λ name n. c.stay name (λ l. ok.apart name l (names-in plan.sources source name d n))))
          (each-at (λ x. OutcomeLeaves (set_of x) x dir m) (sources_of order) source left ((settled.sources source).0 d)));
      others = λ name none.
          let former : m name ≡ dir name =
          i.1 name (λ d. let at = source-with (sources_of order) name d in none (names-in plan.sources at.0 name ((settled.sources at.0).1 at.1) at.2)) in
          ends (cleans settings (map (λ (x : Source × Outcome). x.1) order)) c tests former (ok.all name none);
    }
  where
    ends : {name : List ℕ} {m : Directory} {goes : Bool} (b : Bool) → CleansSo b loose m after → b ≡ goes → m name ≡ dir name → ((Contains loose name → ⊥) → dir name ≡ None)
        → after name ≡ (if goes then None else dir name)
    ends {name} {m} {goes} true c e former all =
        elim (is-loose loose name) [
          | inl there ↦ c.go refl name there ∙ ap (λ b. if b then None else dir name) e
          | inr none ↦ c.stay name none ∙ former ∙ all none ∙ ap (λ b. if b then None else dir name) e
        ]
    ends {name} {m} {goes} false c e former all = c.same refl name ∙ former ∙ ap (λ b. if b then None else dir name) e
