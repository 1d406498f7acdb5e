-- What a commit moves or removes is no file's once its steps are carried out.
use Rattle.std.proofs.Common.{◌≡◌, ◌≢◌, ◌∙◌, inl, inr, refl, sym, ap, subst, ℕ, Bool, IsTrue, List, [], ◌∷◌, Option, Some, None, Result, Ok, Err}
use Rattle.std.specs.Prelude.{OnOk}
use Rattle.acq_outside.specs.Crash.{State, IsShown}
use Rattle.acq_outside.specs.Disk.{Files}
use Rattle.acq_outside.specs.States.{IsNow}
use Rattle.acq_outside.proofs.FileMaps.{with_file-other}
use Rattle.journal_model.specs.Names.{journal, partial}
use Rattle.journal_model.specs.Spelling.{all_steps}
use Rattle.journal_model.specs.Steps.{after_step, after_steps, moved_at, with_at, IsIn, Touches}
use Rattle.journal_model.specs.declared.step.Step.{Step}
use Rattle.journal_model.specs.declared.step.Step.TheVariants as steps
use Rattle.journal_model.proofs.Twice.{ChangeDifferentNames, carried_at, partial_other, with_other, with_same}
use Rattle.journal_model.proofs.Views.{partial_not_journal}
use Rattle.commit_journal.specs.Changes.{AllAllowed, CanRecord, all_changes, steps_in, steps_of}
use Rattle.commit_journal.specs.Commits.{AreGone, ReadsAllGone}
use Rattle.commit_journal.specs.Phases.{shut_files}
use Rattle.commit_journal.specs.declared.changing.Change.{Change}
use Rattle.commit_journal.specs.declared.changing.Change.TheVariants.{Put, Drop}
use Rattle.journal_model.proofs.Fine.{none_fine}
use Rattle.commit_journal.proofs.Allowed.{all_fine}
use Rattle.commit_journal.proofs.Recordable.{all_allowed, all_in}

-- a step behind which a name has no file, among those that are carried out
one_gone : (files : Files) (all : List Step) (step : Step) (name : List ℕ) → ChangeDifferentNames all → IsIn step all → Touches step name → name ≢ journal → after_step files step name ≡ None → shut_files (after_steps files all) name ≡ None
one_gone files all step name apart is touch other none = with_file-other (after_steps files all) journal _ name other ∙ (carried_at all files step name apart is touch ∙ none)

-- a list's file on its way is moved to its name, where it was there
moved_gone : (files : Files) (name : List ℕ) → after_step files (steps.Put name) (partial name) ≡ None
moved_gone files name = by (files (partial name)) refl
  where
    by : (x : Option (List ℕ)) → files (partial name) ≡ x → moved_at files (partial name) name x (partial name) ≡ None
    by None is = is
    by (Some bytes) is = with_other (with_at files (partial name) None) name (Some bytes) (partial name) (partial_other name) ∙ with_same files (partial name) None (partial name) refl

all_gone : (files : Files) (all : List Step) (changes : List Change) → ChangeDifferentNames all → AllAllowed changes → ((step : Step) → IsIn step (steps_of changes) → IsIn step all)
    → AreGone changes (shut_files (after_steps files all))
all_gone files all [] apart allowed among = tt
all_gone files all (Put name content ∷ changes) apart allowed among = (
  one_gone files all (steps.Put name.0) (partial name.0) apart (among (steps.Put name.0) (inl refl)) (inr refl) (partial_not_journal name.0) (moved_gone files name.0),
  all_gone files all changes apart allowed.1 (λ step is. among step (inr is)),
)
all_gone files all (Drop name ∷ changes) apart allowed among =
    (one_gone files all (steps.Drop name) name apart (among (steps.Drop name) (inl refl)) refl allowed.0.not_journal (with_same files name None name refl), all_gone files all changes apart allowed.1 (λ step is. among step (inr is)))

pub carried_gone : (groups : List (List Change)) (files : Files) → CanRecord groups → AreGone (all_changes groups) (shut_files (after_steps files (all_steps (steps_in groups))))
carried_gone groups files can =
    all_gone files (all_steps (steps_in groups)) (all_changes groups) (all_fine (all_steps (steps_in groups)) [] none_fine (all_allowed groups can)).apart can.allowed
    (λ step is. subst (λ (l : List Step). IsIn step l) (sym (all_in groups)) is)

-- as reads give it, where the disk tells
pub none_left : {T E : Type 0} (groups : List (List Change)) (before after : Bool) (old files : Files) (now : List State) (result : Result T E) (slice : List Step) → IsShown after files now → CanRecord groups → slice ≡ all_steps (steps_in groups)
    → after ≡ before → (IsTrue before → OnOk result (files ≡ shut_files (after_steps old slice))) → OnOk result (IsNow (ReadsAllGone groups) now)
none_left groups before after old files now (Err e) slice shown can steps same told = tt
none_left groups before after old files [] (Ok x) slice shown can steps same told = tt
none_left groups before after old files (s ∷ past) (Ok x) slice shown can steps same told =
    let here : files ≡ shut_files (after_steps old (all_steps (steps_in groups))) = told (sym same ∙ shown.0) ∙ ap (λ (l : List Step). shut_files (after_steps old l)) steps in
    subst (AreGone (all_changes groups)) (sym here ∙ shown.1) (carried_gone groups old can)
