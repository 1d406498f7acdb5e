-- What a record may have can be written, turn by turn.
use Rattle.std.proofs.Common.{◌≡◌, sym, ap, ◌∙◌, arith, ℕ, zero, suc, ◌+◌, ◌<◌, ◌≤◌, ◌^◌, true, false, List, [], ◌∷◌, ◌++◌, length, get_or, take, append_assoc, add-one}
use Rattle.std.proofs.lemmas.List.{take_all, append-nil}
use Rattle.journal_model.specs.Reading.{is_allowed}
use Rattle.journal_model.specs.Spelling.{step_bytes, steps_bytes, group_bytes, groups_bytes, all_steps, AreAllowed, AreShort}
use Rattle.journal_model.specs.Writing.{IsShortStep, AreShortSteps, AreShortGroups}
use Rattle.journal_model.proofs.Fine.{allowed_short}
use Rattle.journal_model.specs.declared.step.Step.{Step}
use Rattle.journal_model.specs.declared.step.Step.TheVariants.{Put, Drop}

short_name : (before : List Step) (put : _) (name : List ℕ) → is_allowed before put name ≡ true → length name < 2 ^ 16
short_name before put name allowed = omega (arith, allowed_short before put name allowed)

short_steps : (steps before : List Step) → AreAllowed before steps → AreShortSteps steps
short_steps [] before allowed = tt
short_steps (Put name ∷ steps) before allowed = (short_name before true name allowed.0, short_steps steps (before ++ Put name ∷ []) allowed.1)
short_steps (Drop name ∷ steps) before allowed = (short_name before false name allowed.0, short_steps steps (before ++ Drop name ∷ []) allowed.1)

parts : (a b : List Step) → AreShortSteps (a ++ b) → AreShortSteps a × AreShortSteps b
parts [] b short = (tt, short)
parts (s ∷ a) b short = let rest = parts a b short.1 in ((short.0, rest.0), rest.1)

grouped : (groups : List (List Step)) → AreShort groups → AreShortSteps (all_steps groups) → AreShortGroups groups
grouped [] few short = tt
grouped (group ∷ groups) few short = let each = parts group (all_steps groups) short in ((few.0, each.0), grouped groups few.1 each.1)

pub short_groups : (groups : List (List Step)) → AreShort groups → AreAllowed [] (all_steps groups) → AreShortGroups groups
short_groups groups few allowed = grouped groups few (short_steps (all_steps groups) [] allowed)

pub short_at : (steps : List Step) (i : ℕ) (d : Step) → AreShortSteps steps → i < length steps → IsShortStep (get_or steps i d)
short_at [] i d short below = absurd (omega arith)
short_at (s ∷ steps) zero d short below = short.0
short_at (s ∷ steps) (suc i) d short below = short_at steps i d short.1 (omega arith)

pub group_short : (groups : List (List Step)) (i : ℕ) (d : List Step) → AreShortGroups groups → i < length groups → (length (get_or groups i d) < 2 ^ 32) × AreShortSteps (get_or groups i d)
group_short [] i d short below = absurd (omega arith)
group_short (g ∷ groups) zero d short below = short.0
group_short (g ∷ groups) (suc i) d short below = group_short groups i d short.1 (omega arith)

-- one more
more_steps : (steps : List Step) (i : ℕ) (d : Step) → i < length steps → steps_bytes (take (suc i) steps) ≡ steps_bytes (take i steps) ++ step_bytes (get_or steps i d)
more_steps [] i d below = absurd (omega arith)
more_steps (s ∷ steps) zero d below = append-nil (step_bytes s)
more_steps (s ∷ steps) (suc i) d below = ap (λ (l : List ℕ). step_bytes s ++ l) (more_steps steps i d (omega arith)) ∙ sym (append_assoc (step_bytes s) (steps_bytes (take i steps)) (step_bytes (get_or steps i d)))

more_groups : (groups : List (List Step)) (i : ℕ) (d : List Step) → i < length groups → groups_bytes (take (suc i) groups) ≡ groups_bytes (take i groups) ++ group_bytes (get_or groups i d)
more_groups [] i d below = absurd (omega arith)
more_groups (g ∷ groups) zero d below = append-nil (group_bytes g)
more_groups (g ∷ groups) (suc i) d below = ap (λ (l : List ℕ). group_bytes g ++ l) (more_groups groups i d (omega arith)) ∙ sym (append_assoc (group_bytes g) (groups_bytes (take i groups)) (group_bytes (get_or groups i d)))

pub step_turn : (steps : List Step) (i : ℕ) (step : Step) (first mid new : List ℕ) → i < length steps → step ≡ get_or steps i step → mid ≡ first ++ steps_bytes (take i steps) → new ≡ mid ++ step_bytes step → new ≡ first ++ steps_bytes (take (i + 1) steps)
step_turn steps i step first mid new below is so_far next =
    next ∙ ap (λ (l : List ℕ). l ++ step_bytes step) so_far ∙ append_assoc first (steps_bytes (take i steps)) (step_bytes step)
    ∙ ap (λ (s : Step). first ++ (steps_bytes (take i steps) ++ step_bytes s)) is ∙ ap (λ (l : List ℕ). first ++ l) (sym (more_steps steps i step below)) ∙ ap (λ (k : ℕ). first ++ steps_bytes (take k steps)) (sym (add-one i))

pub group_turn : (groups : List (List Step)) (i : ℕ) (group : List Step) (first mid new : List ℕ) → i < length groups → group ≡ get_or groups i group → mid ≡ first ++ groups_bytes (take i groups) → new ≡ mid ++ group_bytes group → new ≡ first ++ groups_bytes (take (i + 1) groups)
group_turn groups i group first mid new below is so_far next =
    next ∙ ap (λ (l : List ℕ). l ++ group_bytes group) so_far ∙ append_assoc first (groups_bytes (take i groups)) (group_bytes group)
    ∙ ap (λ (g : List Step). first ++ (groups_bytes (take i groups) ++ group_bytes g)) is ∙ ap (λ (l : List ℕ). first ++ l) (sym (more_groups groups i group below)) ∙ ap (λ (k : ℕ). first ++ groups_bytes (take k groups)) (sym (add-one i))

pub steps_end : (steps : List Step) (i : ℕ) (first now : List ℕ) → length steps ≤ i → now ≡ first ++ steps_bytes (take i steps) → now ≡ first ++ steps_bytes steps
steps_end steps i first now end so_far = so_far ∙ ap (λ (l : List Step). first ++ steps_bytes l) (take_all i steps end)

pub groups_end : (groups : List (List Step)) (i : ℕ) (first now : List ℕ) → length groups ≤ i → now ≡ first ++ groups_bytes (take i groups) → now ≡ first ++ groups_bytes groups
groups_end groups i first now end so_far = so_far ∙ ap (λ (l : List (List Step)). first ++ groups_bytes l) (take_all i groups end)
