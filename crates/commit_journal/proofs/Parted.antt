-- A list of changes in parts.
use Rattle.std.proofs.Common.{◌≡◌, refl, sym, ap, ◌∙◌, subst, arith, ℕ, zero, suc, ◌+◌, ◌<◌, List, [], ◌∷◌, ◌++◌, length, get_or, take, drop, append_assoc, add-one}
use Rattle.std.proofs.lemmas.List.{append-nil}
use Rattle.commit_journal.specs.declared.changing.Change.{Change}
use Rattle.commit_journal.specs.Changes.{touched_one, changed_names, all_changes, IsNone, AreApart, AllAllowed}
use Rattle.commit_journal.proofs.Recordable.{Away, none_parts, away_parts}

pub touched_joined : (a b : List Change) → changed_names (a ++ b) ≡ changed_names a ++ changed_names b
touched_joined [] b = refl
touched_joined (c ∷ a) b = ap (λ (l : List (List ℕ)). touched_one c ++ l) (touched_joined a b) ∙ sym (append_assoc (touched_one c) (changed_names a) (changed_names b))

pub none_split : (a b : List Change) (name : List ℕ) → IsNone name (changed_names (a ++ b)) → IsNone name (changed_names a) × IsNone name (changed_names b)
none_split a b name none = none_parts name (changed_names a) (changed_names b) (subst (λ (l : List (List ℕ)). IsNone name l) (touched_joined a b) none)

apart_parts : (a b : List (List ℕ)) → AreApart (a ++ b) → AreApart a × (AreApart b × Away a b)
apart_parts [] b apart = (tt, (apart, tt))
apart_parts (x ∷ a) b apart =
    let here = none_parts x a b apart.0 in
    let rest = apart_parts a b apart.1 in
    ((here.0, rest.0), (rest.1.0, (here.1, rest.1.1)))

pub apart_split : (a b : List Change) → AreApart (changed_names (a ++ b)) → AreApart (changed_names a) × (AreApart (changed_names b) × Away (changed_names a) (changed_names b))
apart_split a b apart = apart_parts (changed_names a) (changed_names b) (subst (λ (l : List (List ℕ)). AreApart l) (touched_joined a b) apart)

none_of_first : (a : List (List ℕ)) (y : List ℕ) (b : List (List ℕ)) → Away a (y ∷ b) → IsNone y a
none_of_first [] y b away = tt
none_of_first (x ∷ a) y b away = ((λ same. away.0.0 (sym same)), none_of_first a y b away.1)

pub away_rest : (a : List (List ℕ)) (y : List ℕ) (b : List (List ℕ)) → Away a (y ∷ b) → Away a b
away_rest [] y b away = tt
away_rest (x ∷ a) y b away = (away.0.1, away_rest a y b away.1)

pub away_turned : (a b : List (List ℕ)) → Away a b → Away b a
away_turned a [] away = tt
away_turned a (y ∷ b) away = (none_of_first a y b away, away_turned a b (away_rest a y b away))

pub allowed_parts : (a b : List Change) → AllAllowed (a ++ b) → AllAllowed a × AllAllowed b
allowed_parts [] b allowed = (tt, allowed)
allowed_parts (c ∷ a) b allowed = let rest = allowed_parts a b allowed.1 in ((allowed.0, rest.0), rest.1)

-- the turn of a loop
pub split_at : {A : Type 0} (xs : List A) (i : ℕ) (d : A) → i < length xs → xs ≡ take i xs ++ (get_or xs i d ∷ drop (suc i) xs)
split_at [] i d below = absurd (omega arith)
split_at (x ∷ xs) zero d below = refl
split_at (x ∷ xs) (suc i) d below = ap (λ l. x ∷ l) (split_at xs i d (omega arith))

take_more : {A : Type 0} (xs : List A) (i : ℕ) (d : A) → i < length xs → take (suc i) xs ≡ take i xs ++ get_or xs i d ∷ []
take_more [] i d below = absurd (omega arith)
take_more (x ∷ xs) zero d below = refl
take_more (x ∷ xs) (suc i) d below = ap (λ l. x ∷ l) (take_more xs i d (omega arith))

pub take_next : {A : Type 0} (xs : List A) (i : ℕ) (x : A) → i < length xs → x ≡ get_or xs i x → take i xs ++ x ∷ [] ≡ take (i + 1) xs
take_next xs i x below is = ap (λ y. take i xs ++ y ∷ []) is ∙ sym (take_more xs i x below) ∙ ap (λ (k : ℕ). take k xs) (sym (add-one i))

-- a change's place in its group
pub change_at : (changes : List Change) (i : ℕ) (change : Change) → i < length changes → change ≡ get_or changes i change → changes ≡ take i changes ++ (change ∷ [] ++ drop (suc i) changes)
change_at changes i change below is = split_at changes i change below ∙ ap (λ (c : Change). take i changes ++ (c ∷ drop (suc i) changes)) (sym is)

-- and a group's among all
all_joined : (a b : List (List Change)) → all_changes (a ++ b) ≡ all_changes a ++ all_changes b
all_joined [] b = refl
all_joined (g ∷ a) b = ap (λ (l : List Change). g ++ l) (all_joined a b) ∙ sym (append_assoc g (all_changes a) (all_changes b))

pub group_at : (groups : List (List Change)) (i : ℕ) (group : List Change) → i < length groups → group ≡ get_or groups i group → all_changes groups ≡ all_changes (take i groups) ++ (group ++ all_changes (drop (suc i) groups))
group_at groups i group below is = ap all_changes (split_at groups i group below) ∙ all_joined (take i groups) (get_or groups i group ∷ drop (suc i) groups) ∙ ap (λ (g : List Change). all_changes (take i groups) ++ (g ++ all_changes (drop (suc i) groups))) (sym is)

pub group_next : (groups : List (List Change)) (i : ℕ) (group : List Change) → i < length groups → group ≡ get_or groups i group → all_changes (take i groups) ++ group ≡ all_changes (take (i + 1) groups)
group_next groups i group below is =
    ap (λ (l : List Change). all_changes (take i groups) ++ l) (sym (append-nil group)) ∙ sym (all_joined (take i groups) (group ∷ [])) ∙ ap all_changes (take_next groups i group below is)

pub away_split : (names : List (List ℕ)) (a b : List Change) → Away names (changed_names (a ++ b)) → Away names (changed_names a)
away_split names a b away = (away_parts names (changed_names a) (changed_names b) (subst (λ (l : List (List ℕ)). Away names l) (touched_joined a b) away)).0
