-- The steps of a record, one turn of a loop after another.
use Rattle.std.proofs.Common.{◌≡◌, inl, inr, ℕ, zero, suc, ◌+◌, ◌<◌, ◌≤◌, List, [], ◌∷◌, ◌++◌, length, get_or, take, refl, sym, ◌∙◌, ap, subst, arith, Result, OnOk, add-one}
use Rattle.std.proofs.lemmas.List.{take_all}
use Rattle.acq_outside.specs.Disk.{Files, IsName}
use Rattle.acq_outside.specs.Crash.{State, AllSound, Goes}
use Rattle.acq_outside.specs.States.{IsNow, Since, From}
use Rattle.journal_model.specs.Names.{partial}
use Rattle.journal_model.specs.Reading.{journal_state_of}
use Rattle.journal_model.specs.Steps.{after_step, after_steps, IsIn, IsNamedStep}
use Rattle.journal_model.proofs.Twice.{carried_push}
use Rattle.journal_model.proofs.Fine.{open_fine}
use Rattle.journal_model.proofs.Literals.{partial_named}
use Rattle.journal_model.specs.declared.step.Step.{Step}
use Rattle.journal_model.specs.declared.step.JournalState.{JournalState}
use Rattle.journal_model.specs.declared.step.JournalState.TheVariants.{Open, Damaged, Shut}
use Rattle.commit_journal.specs.Opening.{Recovers}
use Rattle.commit_journal.specs.Opening.{KeepsFilesBut}
use Rattle.commit_journal.specs.Phases.{IsCarrying, IsOfCommit, AllNamed, NamesSteps, call_of}
use Rattle.commit_journal.proofs.Recovers.{onwards}
use Rattle.commit_journal.proofs.Carries.{carry_goes}
use Rattle.commit_journal.proofs.Others.{call_leaves, others_on, owns_step}

pub named_at : (steps : List Step) (i : ℕ) (d : Step) → AllNamed steps → i < length steps → IsNamedStep (get_or steps i d)
named_at [] i d are below = absurd (omega arith)
named_at (s ∷ steps) zero d are below = are.0
named_at (s ∷ steps) (suc i) d are below = named_at steps i d are.1 (omega arith)

in_at : (steps : List Step) (i : ℕ) (d : Step) → i < length steps → IsIn (get_or steps i d) steps
in_at [] i d below = absurd (omega arith)
in_at (s ∷ steps) zero d below = inl refl
in_at (s ∷ steps) (suc i) d below = inr (in_at steps i d (omega arith))

more_at : (steps : List Step) (i : ℕ) (d : Step) → i < length steps → take (suc i) steps ≡ take i steps ++ get_or steps i d ∷ []
more_at [] i d below = absurd (omega arith)
more_at (s ∷ steps) zero d below = refl
more_at (s ∷ steps) (suc i) d below = ap (λ (l : List Step). s ∷ l) (more_at steps i d (omega arith))

-- one turn
pub turn : {T E : Type 0} (steps : List Step) (i : ℕ) (step : Step) (old mid new : List State) (result : Result T E) → AllSound mid → i < length steps → step ≡ get_or steps i step
    → Since old mid (From Recovers old) → IsNow (IsCarrying steps (take i steps)) mid → Goes (call_of step) mid new result
    → Since old new (From Recovers old) × OnOk result (IsNow (IsCarrying steps (take (i + 1) steps)) new)
turn steps i step old mid new result sound below is moments stands goes =
    let here : IsIn step steps = subst (λ (u : Step). IsIn u steps) (sym is) (in_at steps i step below) in
    let next = carry_goes steps (take i steps) step mid new result here sound stands goes in
    let more : take i steps ++ step ∷ [] ≡ take (i + 1) steps = ap (λ (u : Step). take i steps ++ u ∷ []) is ∙ sym (more_at steps i step below) ∙ ap (λ (k : ℕ). take k steps) (sym (add-one i)) in
    (onwards old mid new moments next.0, subst (λ (l : List Step). OnOk result (IsNow (IsCarrying steps l) new)) more next.1)

pub all_done : (steps : List Step) (i : ℕ) (new : List State) → length steps ≤ i → IsNow (IsCarrying steps (take i steps)) new → IsNow (IsCarrying steps steps) new
all_done steps i new end stands = subst (λ (l : List Step). IsNow (IsCarrying steps l) new) (take_all i steps end) stands

-- a Put's names
pub put_named : (name list : List ℕ) → name ≡ partial list → IsName list → length list ≤ 247 → IsName name
put_named name list is named short = subst (λ (n : List ℕ). IsName n) (sym is) (partial_named list named short)

-- a record's names
all_named : (steps : List Step) → ((step : Step) → IsIn step steps → IsNamedStep step) → AllNamed steps
all_named [] named = tt
all_named (s ∷ steps) named = (named s (inl refl), all_named steps (λ step is. named step (inr is)))

pub gate_named : (bytes : List ℕ) (gate : JournalState) → gate ≡ journal_state_of bytes → NamesSteps gate
gate_named bytes (Open steps) is = all_named steps (open_fine bytes steps (sym is)).named
gate_named bytes (Damaged at) is = tt
gate_named bytes Shut is = tt

-- what reads give, turn by turn
pub told_turn : (steps : List Step) (i : ℕ) (step : Step) (first mid new : Files) → i < length steps → step ≡ get_or steps i step → mid ≡ after_steps first (take i steps) → new ≡ after_step mid step → new ≡ after_steps first (take (i + 1) steps)
told_turn steps i step first mid new below is so_far next =
    next ∙ ap (λ (f : Files). after_step f step) so_far ∙ sym (carried_push first (take i steps) step)
    ∙ ap (λ (l : List Step). after_steps first l) (ap (λ (u : Step). take i steps ++ u ∷ []) is ∙ sym (more_at steps i step below) ∙ ap (λ (k : ℕ). take k steps) (sym (add-one i)))

pub told_done : (steps : List Step) (i : ℕ) (first new : Files) → length steps ≤ i → new ≡ after_steps first (take i steps) → new ≡ after_steps first steps
told_done steps i first new end so_far = so_far ∙ ap (λ (l : List Step). after_steps first l) (take_all i steps end)

-- the others' files, turn by turn
pub step_leaves : {T E : Type 0} (steps : List Step) (i : ℕ) (step : Step) (old mid new : List State) (result : Result T E) → AllSound mid → i < length steps → step ≡ get_or steps i step
    → KeepsFilesBut (IsOfCommit steps) old mid → Goes (call_of step) mid new result → KeepsFilesBut (IsOfCommit steps) old new
step_leaves steps i step old mid new result sound below is so_far goes =
    let here : IsIn step steps = subst (λ (u : Step). IsIn u steps) (sym is) (in_at steps i step below) in
    others_on (IsOfCommit steps) old mid new so_far (call_leaves (IsOfCommit steps) (call_of step) mid new result (owns_step steps step here) sound goes)
