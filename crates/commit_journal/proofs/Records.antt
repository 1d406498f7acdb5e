-- The steps of a record, one turn of a loop after another.
use Rattle.std.proofs.Common.{◌≡◌, refl, sym, ap, ◌∙◌, ℕ, ◌+◌, ◌<◌, List, [], ◌∷◌, ◌++◌, length, get_or, take, append_assoc}
use Rattle.journal_model.specs.Spelling.{all_steps}
use Rattle.journal_model.specs.declared.step.Step.{Step}
use Rattle.commit_journal.specs.declared.changing.Change.{Change}
use Rattle.commit_journal.specs.Changes.{step_of, steps_of, steps_in, all_changes}
use Rattle.commit_journal.proofs.Recordable.{steps_append, all_in}
use Rattle.commit_journal.proofs.Parted.{take_next, group_next}

pub add_turn : (changes : List Change) (i : ℕ) (change : Change) (step : Step) (first mid new : List Step) → i < length changes → change ≡ get_or changes i change → mid ≡ first ++ steps_of (take i changes) → step ≡ step_of change → new ≡ mid ++ step ∷ []
    → new ≡ first ++ steps_of (take (i + 1) changes)
add_turn changes i change step first mid new below is so_far made next =
    next ∙ ap (λ (l : List Step). l ++ step ∷ []) so_far ∙ append_assoc first (steps_of (take i changes)) (step ∷ [])
    ∙ ap (λ (s : Step). first ++ (steps_of (take i changes) ++ s ∷ [])) made
    ∙ ap (λ (l : List Step). first ++ l) (sym (steps_append (take i changes) (change ∷ [])) ∙ ap steps_of (take_next changes i change below is))

steps_in_push : (groups : List (List Change)) (group : List Change) → steps_in (groups ++ group ∷ []) ≡ steps_in groups ++ steps_of group ∷ []
steps_in_push [] group = refl
steps_in_push (g ∷ groups) group = ap (λ (l : List (List Step)). steps_of g ∷ l) (steps_in_push groups group)

pub record_turn : (groups : List (List Change)) (i : ℕ) (group slice : List Change) (steps : List Step) (mid new : List (List Step)) → i < length groups → group ≡ get_or groups i group → slice ≡ group → mid ≡ steps_in (take i groups) → steps ≡ steps_of slice
    → new ≡ mid ++ steps ∷ [] → new ≡ steps_in (take (i + 1) groups)
record_turn groups i group slice steps mid new below is same so_far made next =
    next ∙ ap (λ (l : List (List Step)). l ++ steps ∷ []) so_far ∙ ap (λ (s : List Step). steps_in (take i groups) ++ s ∷ []) (made ∙ ap steps_of same)
    ∙ sym (steps_in_push (take i groups) group) ∙ ap steps_in (take_next groups i group below is)

pub all_turn : (groups : List (List Change)) (i : ℕ) (group slice : List Change) (mid new : List Step) → i < length groups → group ≡ get_or groups i group → slice ≡ group → mid ≡ all_steps (steps_in (take i groups)) → new ≡ mid ++ steps_of slice
    → new ≡ all_steps (steps_in (take (i + 1) groups))
all_turn groups i group slice mid new below is same so_far next =
    next ∙ ap (λ (l : List Step). l ++ steps_of slice) (so_far ∙ all_in (take i groups)) ∙ ap (λ (l : List Change). steps_of (all_changes (take i groups)) ++ steps_of l) same
    ∙ sym (steps_append (all_changes (take i groups)) group) ∙ ap steps_of (group_next groups i group below is) ∙ sym (all_in (take (i + 1) groups))
