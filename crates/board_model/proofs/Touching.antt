-- Which names the changes of a settled source touch.
use Rattle.std.proofs.Common.{◌≡◌, ◌≢◌, ◌<◌, ◌∙◌, inl, inr, ℕ, zero, suc, ◌+◌, Bool, true, false, List, [], ◌∷◌, ◌++◌, Contains, AllPairs, length, map, Option, Some, None, refl, sym, ap, subst, arith}
use Rattle.std.specs.Prelude.{slice_get, Result, Ok, Err}
use Rattle.std.specs.List.{slice_index_or, cons_option}
use Rattle.std.proofs.lemmas.List.Elements.{Contains-append_cases}
use Rattle.acq_base.specs.Plan.{names_of}
use Rattle.acq_base.specs.declared.installed.Old.{Old}
use Rattle.acq_base.specs.declared.plan.Source.{Source}
use Rattle.acq_base.specs.declared.plan.Target.{Target}
use Rattle.acq_base.specs.declared.sum.Sum.{Sum}
use Rattle.acq_base.specs.declared.uri.ListName.{ListName}
use Rattle.acq_base.proofs.Lists.{first-or-rest}
use Rattle.release_file.specs.Release.{listed_sum}
use Rattle.release_file.specs.declared.release.Release.{Release}
use Rattle.update_model.specs.Outcomes.{AdmittedRelease, Staying, all_had}
use Rattle.update_model.specs.declared.ask.Body.{Body}
use Rattle.update_model.specs.declared.end.End.{End}
use Rattle.update_model.specs.declared.end.End.TheVariants.{Got, Stands, Ended}
use Rattle.update_model.specs.declared.settled.Settled.{Settled}
use Rattle.board_model.specs.Changes.{touched}
use Rattle.board_model.specs.Runs.{Note}
use Rattle.board_model.specs.SetLaws.{TouchedAreApart, TouchedAreOwn}
use Rattle.board_model.specs.Settling.{drop_of, drops_of, end_in, ends_in, put_of, puts_of, set_there, settled_in, settled_lists, staying_verdict, unchanged}
use Rattle.board_model.specs.Slots.{Setup, Standing, Slot, Asking, Listing, Refused, SettledSlot}
use Rattle.board_model.specs.Stands.{History, IsOpen, ListStands, ListsStand}
use Rattle.board_model.proofs.Making.{IsDropOf, IsPutOf, drop-of, get-name, list-at, none-in, not-release, put-of, same-place}

-- ---- the touched names

name-in : (targets : List Target) (k : ℕ) (target : Target) (name : List ℕ) → slice_get targets k ≡ Some target → target.name.0 ≡ name → Contains (map (λ (t : Target). t.name.0) targets) name
name-in targets k target name there is = let at = get-name targets k target name there in (k, at.0, at.1 ∙ is)

further : (source : Source) (name : List ℕ) → Contains (map (λ (t : Target). t.name.0) source.targets) name → Contains (names_of source) name
further source name c = let below = c.1 in (suc c.0, omega (arith, below), c.2)

pub touched-own : TouchedAreOwn
touched-own source slot settled is name c = one slot is
  where
    none : touched source settled ≡ [] → Contains (names_of source) name
    none e = absurd (none-in name (subst (λ (ns : List (List ℕ)). Contains ns name) e c))

    put : (set : AdmittedRelease) (lists : List (Option Standing)) → set_there source set lists false ≡ settled → Contains (names_of source) name
    put set lists s = elim (first-or-rest source.release_name.0 _ name (subst (λ (x : Settled). Contains (touched source x) name) (sym s) c)) [
      | inl here ↦ (0, omega arith, here)
      | inr rest ↦ elim (Contains-append_cases (map (λ (put : ListName × Body). put.0.0) (puts_of source.targets lists)) (map (λ (name : ListName). name.0) (drops_of set.release source.targets)) name rest) [
        | inl puts ↦ let p = put-of source.targets lists name puts in further source name (name-in source.targets p.k p.target name p.there p.named_so)
        | inr drops ↦ let d = drop-of set.release source.targets name drops in further source name (name-in source.targets d.k d.target name d.there d.named_so)
      ]
    ]

    listing : (set : AdmittedRelease) (there : Bool) (lists : List (Option Standing)) (had_all : Result (Unit {0}) Staying) → settled_lists source set there lists had_all ≡ settled → Contains (names_of source) name
    listing set there lists (Err why) s = none (ap (touched source) (sym s))
    listing set true lists (Ok u) s = none (ap (touched source) (sym s))
    listing set false lists (Ok u) s = put set lists s

    one : (slot : Slot) → settled_in source slot ≡ Some settled → Contains (names_of source) name
    one (Asking old release) e = absurd (cc)
    one (Listing set there lists) e =
        let is : settled_lists source set there lists (all_had (ends_in lists)) ≡ settled = cc in
        listing set there lists (all_had (ends_in lists)) is
    one (Refused why) e = none (ap (λ (o : Option Settled). touched source (or_settled o)) (sym e))
      where
        or_settled : Option Settled → Settled
        or_settled None = settled
        or_settled (Some x) = x
    one SettledSlot e = absurd (cc)

-- ---- no name is touched twice

abbrev AreApart : List (List ℕ) → Type 0
AreApart [] = Unit {0}
AreApart (x ∷ xs) = (Contains xs x → ⊥) × AreApart xs

same-get : (xs : List (List ℕ)) (i : ℕ) (d e : List ℕ) → i < length xs → slice_index_or xs i d ≡ slice_index_or xs i e
same-get [] i d e below = absurd (omega (arith, below))
same-get (x ∷ xs) zero d e below = refl
same-get (x ∷ xs) (suc i) d e below = same-get xs i d e (omega (arith, below))

apart-pairs : (xs : List (List ℕ)) → AreApart xs → AllPairs (λ a b. a ≢ b) xs
apart-pairs [] h i j d less below same = omega (arith, below)
apart-pairs (x ∷ xs) h zero zero d less below same = omega (arith, less)
apart-pairs (x ∷ xs) h zero (suc j) d less below same =
    let there : j < length xs = omega (arith, below) in
    h.0 (j, there, same-get xs j x d there ∙ sym same)
apart-pairs (x ∷ xs) h (suc i) zero d less below same = omega (arith, less)
apart-pairs (x ∷ xs) h (suc i) (suc j) d less below same = apart-pairs xs h.1 i j d (omega (arith, less)) (omega (arith, below)) same

apart-both : (xs ys : List (List ℕ)) → AreApart xs → AreApart ys → ((x : List ℕ) → Contains xs x → Contains ys x → ⊥) → AreApart (xs ++ ys)
apart-both [] ys h k across = k
apart-both (x ∷ xs) ys h k across = (
  (λ c. elim (Contains-append_cases xs ys x c) [
    | inl own ↦ h.0 own
    | inr other ↦ across x (0, omega arith, refl) other
  ]),
  apart-both xs ys h.1 k (λ y a b. let below = a.1 in across y (suc a.0, omega (arith, below), a.2) b),
)

abbrev target_names : List Target → List (List ℕ)
target_names targets = map (λ (t : Target). t.name.0) targets

tail-pairs : (x : List ℕ) (xs : List (List ℕ)) → AllPairs (λ a b. a ≢ b) (x ∷ xs) → AllPairs (λ a b. a ≢ b) xs
tail-pairs x xs h i j d less below same = h (suc i) (suc j) d (omega (arith, less)) (omega (arith, below)) same

-- the first name is no later target's
first-alone : (t : Target) (targets : List Target) (k : ℕ) (other : Target) → AllPairs (λ a b. a ≢ b) (target_names (t ∷ targets)) → slice_get targets k ≡ Some other → other.name.0 ≢ t.name.0
first-alone t targets k other h there same =
    let at = get-name targets k other [] there in
    let fits = at.0 in
    h 0 (suc k) [] (omega arith) (omega (arith, fits)) (sym same ∙ sym at.1)

puts-apart : (targets : List Target) (lists : List (Option Standing)) → AllPairs (λ a b. a ≢ b) (target_names targets) → AreApart (map (λ put. put.0.0) (puts_of targets lists))
puts-apart [] lists h = tt
puts-apart (t ∷ targets) [] h = tt
puts-apart (t ∷ targets) (list ∷ lists) h = one (end_in list) (puts-apart targets lists (tail-pairs t.name.0 (target_names targets) h))
  where
    one : (o : Option End) → AreApart (map (λ (put : ListName × Body). put.0.0) (puts_of targets lists)) → AreApart (map (λ (put : ListName × Body). put.0.0) (put_of t o ++ puts_of targets lists))
    one None rest = rest
    one (Some Stands) rest = rest
    one (Some (Ended cause)) rest = rest
    one (Some (Got body)) rest = ((λ c. let p = put-of targets lists t.name.0 c in first-alone t targets p.k p.target h p.there p.named_so), rest)

drops-apart : (release : Release) (targets : List Target) → AllPairs (λ a b. a ≢ b) (target_names targets) → AreApart (map (λ name. name.0) (drops_of release targets))
drops-apart release [] h = tt
drops-apart release (t ∷ targets) h = one (listed_sum release t.path) (drops-apart release targets (tail-pairs t.name.0 (target_names targets) h))
  where
    one : (o : Option Sum) → AreApart (map (λ (name : ListName). name.0) (drops_of release targets)) → AreApart (map (λ (name : ListName). name.0) (cons_option (drop_of t o) (drops_of release targets)))
    one (Some sum) rest = rest
    one None rest = ((λ c. let d = drop-of release targets t.name.0 c in first-alone t targets d.k d.target h d.there d.named_so), rest)

-- no list is put and dropped
put-or-drop : (config : Setup) (n : ℕ) (source : Source) (old : Old) (release : Release) (lists : List (Option Standing)) (history : History) (name : List ℕ) → AllPairs (λ a b. a ≢ b) (names_of source)
    → ListsStand config n source old release 1 source.targets lists history → IsPutOf source.targets lists name → IsDropOf release source.targets name → ⊥
put-or-drop config n source old release lists history name distinct h p d =
    let place : p.k ≡ d.k = same-place source p.k d.k p.target d.target distinct p.there d.there (p.named_so ∙ sym d.named_so) in
    let both : Some p.target ≡ Some d.target = sym p.there ∙ ap (slice_get source.targets) place ∙ d.there in
    let same : p.target ≡ d.target = cc in
    let none : listed_sum release p.target.path ≡ None = ap (λ (t : Target). listed_sum release t.path) same ∙ d.none in
    let found = list-at config n source old release 1 source.targets lists history p.k p.target h p.there in
    let list_both : Some found.0 ≡ Some p.list = sym found.1 ∙ p.list_is in
    let list_same : found.0 ≡ p.list = cc in
    one p.target (history (1 + p.k)) p.body found.0 found.2 (ap end_in list_same ∙ p.got) none
  where
    one : (target : Target) (heard : List Note) (body : Body) (list : Option Standing) → ListStands config n source old release target heard list → end_in list ≡ Some (Got body) → listed_sum release target.path ≡ None → ⊥
    one target heard body None h got none = absurd (cc)
    one target heard body (Some item) h got none = let sums : Some h.0 ≡ None = sym h.1 ∙ none in absurd (cc)

pub touched-apart : TouchedAreApart
touched-apart config n source old slot history settled open_slot is planned = one slot open_slot is
  where
    nothing : touched source settled ≡ [] → AllPairs (λ a b. a ≢ b) (touched source settled)
    nothing none = subst (λ (ns : List (List ℕ)). AllPairs (λ a b. a ≢ b) ns) (sym none) (apart-pairs [] tt)

    targets_apart : AllPairs (λ a b. a ≢ b) (target_names source.targets)
    targets_apart = tail-pairs source.release_name.0 (target_names source.targets) planned.distinct

    put : (set : AdmittedRelease) (lists : List (Option Standing)) → ListsStand config n source old set.release 1 source.targets lists history → AreApart (touched source (set_there source set lists false))
    put set lists h = (
      (λ c. elim (Contains-append_cases (map (λ (put : ListName × Body). put.0.0) (puts_of source.targets lists)) (map (λ (name : ListName). name.0) (drops_of set.release source.targets)) source.release_name.0 c) [
        | inl puts ↦ let p = put-of source.targets lists source.release_name.0 puts in not-release source p.k p.target planned.distinct p.there (sym p.named_so)
        | inr drops ↦ let d = drop-of set.release source.targets source.release_name.0 drops in not-release source d.k d.target planned.distinct d.there (sym d.named_so)
      ]),
      apart-both (map (λ (put : ListName × Body). put.0.0) (puts_of source.targets lists)) (map (λ (name : ListName). name.0) (drops_of set.release source.targets))
          (puts-apart source.targets lists targets_apart) (drops-apart set.release source.targets targets_apart)
          (λ name a b. put-or-drop config n source old set.release lists history name planned.distinct h (put-of source.targets lists name a) (drop-of set.release source.targets name b)),
    )

    listing : (set : AdmittedRelease) (there : Bool) (lists : List (Option Standing)) (had_all : Result (Unit {0}) Staying) → ListsStand config n source old set.release 1 source.targets lists history
        → settled_lists source set there lists had_all ≡ settled → AllPairs (λ a b. a ≢ b) (touched source settled)
    listing set there lists (Err why) h s = nothing (ap (touched source) (sym s))
    listing set true lists (Ok u) h s = nothing (ap (touched source) (sym s))
    listing set false lists (Ok u) h s = subst (λ (x : Settled). AllPairs (λ a b. a ≢ b) (touched source x)) s (apart-pairs (touched source (set_there source set lists false)) (put set lists h))

    one : (slot : Slot) → IsOpen config n source old slot history → settled_in source slot ≡ Some settled → AllPairs (λ a b. a ≢ b) (touched source settled)
    one (Asking kept release) h e = absurd (cc)
    one (Listing set there lists) h e =
        let came : settled_lists source set there lists (all_had (ends_in lists)) ≡ settled = cc in
        listing set there lists (all_had (ends_in lists)) h.2 came
    one (Refused why) h e =
        let came : unchanged (staying_verdict why) ≡ settled = cc in
        nothing (ap (touched source) (sym came))
    one SettledSlot h e = absurd h
