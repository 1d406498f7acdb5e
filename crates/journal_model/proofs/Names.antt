-- A name is changed twice just where it is in the set of the names that are changed.
use Rattle.std.proofs.Common.{◌≡◌, refl, sym, ap, ◌∙◌, ℕ, Bool, true, false, ◌||◌, if◌then◌else◌, List, [], ◌∷◌, drop}
use Rattle.std.specs.List.{list_any}
use Rattle.std.specs.Ordering.{nat_cmp}
use Rattle.std.specs.Cmp.Lexicographic.{slice_cmp}
use Rattle.std.specs.BTreeSet.{BTreeSet, Updates}
use Rattle.std.proofs.lemmas.Map.Text.{is_eq-slice_cmp}
use Rattle.std.proofs.lemmas.Slice.Eq.{bytes_eq-Decides}
use Rattle.acq_outside.specs.Disk.{same_name}
use Rattle.journal_model.specs.Names.{partial}
use Rattle.journal_model.specs.Reading.{clashes, step_named}
use Rattle.journal_model.specs.Seen.{touches, has, HasNames}
use Rattle.journal_model.specs.declared.step.Step.{Step}
use Rattle.journal_model.specs.declared.step.Step.TheVariants.{Put, Drop}

-- one name more
in_turn : (a b : List ℕ) → same_name a b ≡ same_name b a
in_turn a b = by (same_name a b) (same_name b a) refl refl
  where
    by : (s t : Bool) → same_name a b ≡ s → same_name b a ≡ t → s ≡ t
    by true true is back = refl
    by true false is back = let yes : same_name b a ≡ true = (bytes_eq-Decides b a).1 (sym ((bytes_eq-Decides a b).0 is)) in cc
    by false true is back = let yes : same_name a b ≡ true = (bytes_eq-Decides a b).1 (sym ((bytes_eq-Decides b a).0 back)) in cc
    by false false is back = refl

either : (a b : Bool) → (if a then true else b) ≡ (b || a)
either true true = refl
either true false = refl
either false true = refl
either false false = refl

pub more : (before after : BTreeSet (List ℕ)) (name : List ℕ) → Updates (slice_cmp nat_cmp) before after name true → (other : List ℕ) → has after other ≡ (has before other || same_name other name)
more before after name updates other =
    updates.0 other ∙ ap (λ (b : Bool). if b then true else has before other) (is_eq-slice_cmp name other ∙ in_turn name other) ∙ either (same_name other name) (has before other)

-- A clash.
same_partial : (a b : List ℕ) → same_name (partial a) (partial b) ≡ same_name a b
same_partial a b = by (same_name (partial a) (partial b)) (same_name a b) refl refl
  where
    by : (s t : Bool) → same_name (partial a) (partial b) ≡ s → same_name a b ≡ t → s ≡ t
    by true true is own = refl
    by true false is own = let yes : same_name a b ≡ true = (bytes_eq-Decides a b).1 (ap (drop 8) ((bytes_eq-Decides (partial a) (partial b)).0 is)) in cc
    by false true is own = let yes : same_name (partial a) (partial b) ≡ true = (bytes_eq-Decides (partial a) (partial b)).1 (ap partial ((bytes_eq-Decides a b).0 own)) in cc
    by false false is own = refl

three : (a b c : Bool) → (a || (b || c)) ≡ ((a || b) || (c || a))
three true b c = refl
three false true c = refl
three false false true = refl
three false false false = refl

one_clash : (name : List ℕ) (step : Step) → clashes (Put name) step ≡ (touches name step || touches (partial name) step)
one_clash name (Put list) =
    three (same_name name list) (same_name name (partial list)) (same_name (partial name) list)
    ∙ ap (λ (b : Bool). (same_name name list || same_name name (partial list)) || (same_name (partial name) list || b)) (sym (same_partial name list))
one_clash name (Drop list) = refl

both_ways : (a b c d : Bool) → ((a || b) || (c || d)) ≡ ((a || c) || (b || d))
both_ways true b c d = refl
both_ways false true true d = refl
both_ways false true false d = refl
both_ways false false true d = refl
both_ways false false false d = refl

any_clash : (name : List ℕ) (steps : List Step) → list_any (clashes (Put name)) steps ≡ (list_any (touches name) steps || list_any (touches (partial name)) steps)
any_clash name [] = refl
any_clash name (step ∷ steps) =
    ap (λ (b : Bool). b || list_any (clashes (Put name)) steps) (one_clash name step)
    ∙ ap (λ (b : Bool). (touches name step || touches (partial name) step) || b) (any_clash name steps)
    ∙ both_ways (touches name step) (touches (partial name) step) (list_any (touches name) steps) (list_any (touches (partial name)) steps)

pub put_clash : (name : List ℕ) (steps : List Step) (names : BTreeSet (List ℕ)) → HasNames names steps → (has names name || has names (partial name)) ≡ list_any (clashes (Put name)) steps
put_clash name steps names are = ap (λ (b : Bool). b || has names (partial name)) (are name) ∙ ap (λ (b : Bool). list_any (touches name) steps || b) (are (partial name)) ∙ sym (any_clash name steps)

drop_one : (name : List ℕ) (step : Step) → clashes (Drop name) step ≡ touches name step
drop_one name (Put list) = refl
drop_one name (Drop list) = refl

any_drop : (name : List ℕ) (steps : List Step) → list_any (clashes (Drop name)) steps ≡ list_any (touches name) steps
any_drop name [] = refl
any_drop name (step ∷ steps) = ap (λ (b : Bool). b || list_any (clashes (Drop name)) steps) (drop_one name step) ∙ ap (λ (b : Bool). touches name step || b) (any_drop name steps)

pub drop_clash : (name : List ℕ) (steps : List Step) (names : BTreeSet (List ℕ)) → HasNames names steps → has names name ≡ list_any (clashes (Drop name)) steps
drop_clash name steps names are = are name ∙ sym (any_drop name steps)

-- what the lookups of a step's names tell
pub found_clash : (put found : Bool) (name own : List ℕ) (steps rows : List Step) (names : BTreeSet (List ℕ)) → HasNames names rows → rows ≡ steps → own ≡ name → found ≡ has names own → found ≡ true → true ≡ list_any (clashes (step_named put name)) steps
found_clash true found name own steps rows names are same is looked here =
    let there : has names name ≡ true = ap (has names) (sym is) ∙ sym looked ∙ here in
    sym (ap (λ (b : Bool). b || has names (partial name)) there) ∙ put_clash name rows names are ∙ ap (λ (l : List Step). list_any (clashes (Put name)) l) same
found_clash false found name own steps rows names are same is looked here =
    let there : has names name ≡ true = ap (has names) (sym is) ∙ sym looked ∙ here in
    sym there ∙ drop_clash name rows names are ∙ ap (λ (l : List Step). list_any (clashes (Drop name)) l) same

pub last_clash : (put first found : Bool) (name own aside : List ℕ) (steps rows : List Step) (names : BTreeSet (List ℕ)) → put ≡ true → HasNames names rows → rows ≡ steps → own ≡ name → first ≡ has names own → first ≡ false → aside ≡ partial name → found ≡ has names aside
    → found ≡ list_any (clashes (step_named put name)) steps
last_clash false first found name own aside steps rows names is_put are same is looked absent_own at seen = absurd cc
last_clash true first found name own aside steps rows names is_put are same is looked absent_own at seen =
    let absent : has names name ≡ false = ap (has names) (sym is) ∙ sym looked ∙ absent_own in
    seen ∙ ap (has names) at ∙ sym (ap (λ (b : Bool). b || has names (partial name)) absent) ∙ put_clash name rows names are ∙ ap (λ (l : List Step). list_any (clashes (Put name)) l) same
