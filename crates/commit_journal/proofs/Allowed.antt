-- Changes whose steps a record may have may be recorded.
use Rattle.std.proofs.Common.{◌≡◌, inl, inr, refl, sym, subst, ℕ, ◌<◌, ◌^◌, Bool, true, false, List, [], ◌∷◌, ◌++◌, length, append_assoc, append-nil}
use Rattle.journal_model.specs.Names.{partial}
use Rattle.journal_model.specs.Reading.{is_name_of, is_allowed, clashes, step_named}
use Rattle.journal_model.specs.Spelling.{all_steps, AreAllowed}
use Rattle.journal_model.proofs.Fine.{AreFine, IsFit, fit_name, fine_push, none_fine}
use Rattle.journal_model.proofs.Twice.{ChangeDifferentNames, partial_other}
use Rattle.journal_model.specs.Steps.{IsIn, Touches}
use Rattle.journal_model.specs.declared.step.Step.{Step}
use Rattle.journal_model.specs.declared.step.Step.TheVariants as steps
use Rattle.std.specs.List.{list_any}
use Rattle.std.specs.Prelude.{not}
use Rattle.std.proofs.lemmas.Bool.{and_parts}
use Rattle.commit_journal.specs.declared.changing.Change.{Change}
use Rattle.commit_journal.specs.declared.changing.Change.TheVariants.{Put, Drop}
use Rattle.commit_journal.specs.Changes.{steps_of, steps_in, all_changes, changed_names, IsNone, AreApart, AllAllowed, CanRecord}
use Rattle.commit_journal.proofs.Recordable.{all_in}

-- their names are those that a record may have
fits : (put : Bool) (before : List Step) (name : List ℕ) → is_allowed before put name ≡ true → IsFit put name
fits put before name allowed = fit_name put name (and_parts (is_name_of put name) (not (list_any (clashes (step_named put name)) before)) allowed).0

each_allowed : (changes : List Change) (before : List Step) → AreAllowed before (steps_of changes) → AllAllowed changes
each_allowed [] before allowed = tt
each_allowed (Put name content ∷ changes) before allowed =
    let fit = fits true before name.0 allowed.0 in
    (record { put = record { named = fit.named; short = fit.short; not_lock = fit.not_lock; not_journal = fit.other }; file = fit.stays }, each_allowed changes (before ++ steps.Put name.0 ∷ []) allowed.1)
each_allowed (Drop name ∷ changes) before allowed =
    let fit = fits false before name allowed.0 in
    (record { named = fit.named; inside = fit.stays; not_lock = fit.not_lock; not_journal = fit.other }, each_allowed changes (before ++ steps.Drop name ∷ []) allowed.1)

-- and no two are one
pub all_fine : (more before : List Step) → AreFine before → AreAllowed before more → AreFine (before ++ more)
all_fine [] before fine allowed = subst AreFine (sym (append-nil before)) fine
all_fine (steps.Put name ∷ more) before fine allowed =
    subst AreFine (append_assoc before (steps.Put name ∷ []) more) (all_fine more (before ++ steps.Put name ∷ []) (fine_push before true name fine allowed.0) allowed.1)
all_fine (steps.Drop name ∷ more) before fine allowed =
    subst AreFine (append_assoc before (steps.Drop name ∷ []) more) (all_fine more (before ++ steps.Drop name ∷ []) (fine_push before false name fine allowed.0) allowed.1)

none_of : (name : List ℕ) (changes : List Change) → ((other : Step) → IsIn other (steps_of changes) → Touches other name → ⊥) → IsNone name (changed_names changes)
none_of name [] no_touch = tt
none_of name (Put other content ∷ changes) no_touch =
    ((λ is. no_touch (steps.Put other.0) (inl refl) (inl (sym is))), ((λ is. no_touch (steps.Put other.0) (inl refl) (inr (sym is))), none_of name changes (λ step is. no_touch step (inr is))))
none_of name (Drop other ∷ changes) no_touch = ((λ is. no_touch (steps.Drop other) (inl refl) (sym is)), none_of name changes (λ step is. no_touch step (inr is)))

touched_apart : (changes : List Change) → ChangeDifferentNames (steps_of changes) → AreApart (changed_names changes)
touched_apart [] apart = tt
touched_apart (Put name content ∷ changes) apart = (
  ((λ is. partial_other name.0 (sym is)), none_of name.0 changes (λ other is touch. apart.0 other name.0 is (inl refl) touch)),
  (none_of (partial name.0) changes (λ other is touch. apart.0 other (partial name.0) is (inr refl) touch), touched_apart changes apart.1),
)
touched_apart (Drop name ∷ changes) apart = (none_of name changes (λ other is touch. apart.0 other name is refl touch), touched_apart changes apart.1)

pub recordable : (groups : List (List Change)) → length groups < 2 ^ 32 → length (all_changes groups) < 2 ^ 32 → AreAllowed [] (all_steps (steps_in groups)) → CanRecord groups
recordable groups few short allowed =
    let own : AreAllowed [] (steps_of (all_changes groups)) = subst (λ (l : List Step). AreAllowed [] l) (all_in groups) allowed in
    record { few = few; short = short; allowed = each_allowed (all_changes groups) [] own; apart = touched_apart (all_changes groups) (all_fine (steps_of (all_changes groups)) [] none_fine own).apart }
