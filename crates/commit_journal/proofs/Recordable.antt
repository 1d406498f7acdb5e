-- Changes that may be recorded are read again from their record.
use Rattle.std.proofs.Common.{◌≡◌, ◌≢◌, refl, sym, ap, ◌∙◌, subst, arith, ℕ, suc, ◌<◌, ◌≤◌, ◌^◌, nat_eq, nat_lt, Bool, true, false, List, [], ◌∷◌, ◌++◌, length, Ok, length-append}
use Rattle.std.proofs.lemmas.Bool.Decides.{nat_tests}
use Rattle.std.proofs.lemmas.Str.{is_utf8-from_IsUtf8}
use Rattle.std.specs.List.{list_any}
use Rattle.acq_outside.specs.Disk.{IsName}
use Rattle.journal_model.specs.Names.{lock, journal, partial, stays_inside}
use Rattle.journal_model.specs.Reading.{clashes, is_name_of, is_allowed, most_long, steps_of_body}
use Rattle.journal_model.specs.Spelling.{body_of, all_steps, AreAllowed, AreShort}
use Rattle.journal_model.proofs.Again.{new_again}
use Rattle.journal_model.specs.declared.step.Step.{Step}
use Rattle.journal_model.specs.declared.step.Step.TheVariants as steps
use Rattle.journal_model.proofs.Twice.{other_name}
use Rattle.commit_journal.specs.declared.changing.Change.{Change}
use Rattle.commit_journal.specs.declared.changing.Change.TheVariants.{Put, Drop}
use Rattle.commit_journal.specs.Changes.{step_of, steps_of, steps_in, all_changes, touched_one, changed_names, IsNone, AreApart, AllAllowed, CanRecord}

-- groups one after another
pub steps_append : (a b : List Change) → steps_of (a ++ b) ≡ steps_of a ++ steps_of b
steps_append [] b = refl
steps_append (c ∷ a) b = ap (λ (l : List Step). step_of c ∷ l) (steps_append a b)

pub all_in : (groups : List (List Change)) → all_steps (steps_in groups) ≡ steps_of (all_changes groups)
all_in [] = refl
all_in (group ∷ groups) = ap (λ (l : List Step). steps_of group ++ l) (all_in groups) ∙ sym (steps_append group (all_changes groups))

pub steps_long : (changes : List Change) → length (steps_of changes) ≡ length changes
steps_long [] = refl
steps_long (c ∷ changes) = ap suc (steps_long changes)

pub groups_long : (groups : List (List Change)) → length (steps_in groups) ≡ length groups
groups_long [] = refl
groups_long (g ∷ groups) = ap suc (groups_long groups)

short_groups : (groups : List (List Change)) → length (all_changes groups) < 2 ^ 32 → AreShort (steps_in groups)
short_groups [] few = tt
short_groups (g ∷ groups) few = (omega (arith, steps_long g, length-append g (all_changes groups)), short_groups groups (omega (arith, length-append g (all_changes groups))))

name_fits : (put : Bool) (name : List ℕ) → IsName name → length name ≤ most_long put → name ≢ lock → name ≢ journal → stays_inside put name ≡ true → is_name_of put name ≡ true
name_fits put name named short not_lock not_journal stays =
    let some : nat_eq (length name) 0 ≡ false = grind (arith, nat_tests, named.nonempty) in
    let few : nat_lt (most_long put) (length name) ≡ false = grind (arith, nat_tests) in
    rw (some, few, is_utf8-from_IsUtf8 name named.text, other_name name lock not_lock, other_name name journal not_journal, stays) refl

-- names that stand apart don't clash
abbrev Clears : Step → Step → Type 0
Clears a b = clashes a b ≡ false

abbrev AllClear : Step → List Step → Type 0
AllClear step [] = Unit {0}
AllClear step (other ∷ others) = Clears step other × AllClear step others

none_any : (step : Step) (before : List Step) → AllClear step before → list_any (clashes step) before ≡ false
none_any step [] clear = refl
none_any step (other ∷ others) clear = rw (clear.0, none_any step others clear.1) refl

-- no name of the first is one of the second's
abbrev pub Away : List (List ℕ) → List (List ℕ) → Type 0
Away [] names = Unit {0}
Away (name ∷ rest) names = IsNone name names × Away rest names

clear_pair : (a b : Change) → Away (touched_one b) (touched_one a) → Clears (step_of a) (step_of b)
clear_pair (Put a x) (Put b y) away = rw (other_name a.0 b.0 away.0.0, other_name a.0 (partial b.0) away.1.0.0, other_name (partial a.0) b.0 away.0.1.0) refl
clear_pair (Put a x) (Drop b) away = rw (other_name a.0 b away.0.0, other_name (partial a.0) b away.0.1.0) refl
clear_pair (Drop a) (Put b y) away = rw (other_name a b.0 away.0.0, other_name a (partial b.0) away.1.0.0) refl
clear_pair (Drop a) (Drop b) away = other_name a b away.0.0

pub none_parts : (name : List ℕ) (a b : List (List ℕ)) → IsNone name (a ++ b) → IsNone name a × IsNone name b
none_parts name [] b none = (tt, none)
none_parts name (x ∷ a) b none = let rest = none_parts name a b none.1 in ((none.0, rest.0), rest.1)

pub away_parts : (names a b : List (List ℕ)) → Away names (a ++ b) → Away names a × Away names b
away_parts [] a b away = (tt, tt)
away_parts (name ∷ names) a b away =
    let here = none_parts name a b away.0 in
    let rest = away_parts names a b away.1 in
    ((here.0, rest.0), (here.1, rest.1))

-- the changes before a step, and those that come
abbrev AwayFrom : List Change → List Change → Type 0
AwayFrom [] coming = Unit {0}
AwayFrom (c ∷ before) coming = Away (touched_one c) (changed_names coming) × AwayFrom before coming

clear_before : (change : Change) (before rest : List Change) → AwayFrom before (change ∷ rest) → AllClear (step_of change) (steps_of before)
clear_before change [] rest away = tt
clear_before change (c ∷ before) rest away = (clear_pair change c (away_parts (touched_one c) (touched_one change) (changed_names rest) away.0).0, clear_before change before rest away.1)

pub away_first : (change : Change) (rest : List Change) → AreApart (touched_one change ++ changed_names rest) → Away (touched_one change) (changed_names rest) × AreApart (changed_names rest)
away_first (Put name content) rest apart = ((apart.0.1, (apart.1.0, tt)), apart.1.1)
away_first (Drop name) rest apart = ((apart.0, tt), apart.1)

away_later : (before : List Change) (change : Change) (rest : List Change) → AwayFrom before (change ∷ rest) → AwayFrom before rest
away_later [] change rest away = tt
away_later (c ∷ before) change rest away = ((away_parts (touched_one c) (touched_one change) (changed_names rest) away.0).1, away_later before change rest away.1)

away_push : (before : List Change) (change : Change) (rest : List Change) → AwayFrom before rest → Away (touched_one change) (changed_names rest) → AwayFrom (before ++ change ∷ []) rest
away_push [] change rest away own = (own, tt)
away_push (c ∷ before) change rest away own = (away.0, away_push before change rest away.1 own)

fits_put : (name : List ℕ) (before : List Step) → is_name_of true name ≡ true → AllClear (steps.Put name) before → is_allowed before true name ≡ true
fits_put name before fits clear = rw (fits, none_any (steps.Put name) before clear) refl

fits_drop : (name : List ℕ) (before : List Step) → is_name_of false name ≡ true → AllClear (steps.Drop name) before → is_allowed before false name ≡ true
fits_drop name before fits clear = rw (fits, none_any (steps.Drop name) before clear) refl

are_allowed : (changes before : List Change) → AllAllowed changes → AwayFrom before changes → AreApart (changed_names changes) → AreAllowed (steps_of before) (steps_of changes)
are_allowed [] before allowed away apart = tt
are_allowed (Put name content ∷ changes) before allowed away apart =
    let first = away_first (Put name content) changes apart in (
      fits_put name.0 (steps_of before) (name_fits true name.0 allowed.0.put.named allowed.0.put.short allowed.0.put.not_lock allowed.0.put.not_journal allowed.0.file) (clear_before (Put name content) before changes away),
      subst (λ (l : List Step). AreAllowed l (steps_of changes)) (steps_append before (Put name content ∷ []))
          (are_allowed changes (before ++ Put name content ∷ []) allowed.1 (away_push before (Put name content) changes (away_later before (Put name content) changes away) first.0) first.1),
    )
are_allowed (Drop name ∷ changes) before allowed away apart =
    let first = away_first (Drop name) changes apart in (
      fits_drop name (steps_of before) (name_fits false name allowed.0.named allowed.0.named.short allowed.0.not_lock allowed.0.not_journal allowed.0.inside) (clear_before (Drop name) before changes away),
      subst (λ (l : List Step). AreAllowed l (steps_of changes)) (steps_append before (Drop name ∷ []))
          (are_allowed changes (before ++ Drop name ∷ []) allowed.1 (away_push before (Drop name) changes (away_later before (Drop name) changes away) first.0) first.1),
    )

pub all_allowed : (groups : List (List Change)) → CanRecord groups → AreAllowed [] (all_steps (steps_in groups))
all_allowed groups can = subst (λ (l : List Step). AreAllowed [] l) (sym (all_in groups)) (are_allowed (all_changes groups) [] can.allowed tt can.apart)

pub all_short : (groups : List (List Change)) → CanRecord groups → AreShort (steps_in groups)
all_short groups can = short_groups groups can.short

pub all_few : (groups : List (List Change)) → CanRecord groups → length (steps_in groups) < 2 ^ 32
all_few groups can = omega (arith, groups_long groups, can.few)

pub read_again : (groups : List (List Change)) → CanRecord groups → steps_of_body (body_of (steps_in groups)) ≡ Ok (all_steps (steps_in groups))
read_again groups can = new_again (steps_in groups) (all_few groups can) (all_short groups can) (all_allowed groups can)
