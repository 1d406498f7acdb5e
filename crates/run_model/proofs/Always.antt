-- What a run tells of a source, and what lies under the names of the source.
use Rattle.std.proofs.Common.{◌≡◌, ◌∙◌, inl, inr, refl, sym, ap, subst, ℕ, Bool, true, false, List, map, Option, Ok, Err}
use Rattle.std.specs.Prelude.{if◌then◌else◌, slice_get}
use Rattle.acq_base.specs.declared.installed.Old.{Old}
use Rattle.acq_base.specs.declared.plan.Source.{Source}
use Rattle.board_model.specs.Ends.{ListEnd, verdict_for}
use Rattle.board_model.specs.RunLaws.{HasSet}
use Rattle.board_model.specs.Settling.{held_of}
use Rattle.board_model.specs.Slots.{is_there}
use Rattle.board_model.proofs.Agreement.{same-verdict}
use Rattle.list_commits.specs.Made.{after_all}
use Rattle.update_model.specs.Laws.{SetsAreAdmissible}
use Rattle.update_model.specs.Next.{Keeps, OutcomeLeaves}
use Rattle.update_model.specs.Outcomes.{AdmittedRelease, Outcome, Older, Kept}
use Rattle.update_model.specs.Releases.{IsAdmissible, installed_release}
use Rattle.update_model.specs.declared.settled.Held.{Held}
use Rattle.update_model.specs.declared.settled.Verdict2.{Verdict2}
use Rattle.update_model.specs.declared.settled.Verdict2.TheVariants as verdicts
use Rattle.update_model.specs.declared.settled.Verdict2.TheVariants.{Installed, Hit}
use Rattle.run_model.specs.Coming.{HasOutcome, outcome_at}
use Rattle.run_model.specs.Groups.{commits_of}
use Rattle.run_model.specs.Laws.{RunsHoldAsTold, RunsKeepOthers}
use Rattle.run_model.proofs.Finishing.{Finished, runs_leave_outcomes}

-- a verdict with a set is that of an outcome with one
pub set_of : (source : Source) (old : Old) (came_to : Outcome) (verdict : Verdict2) (held : Held) → verdict ≡ verdict_for source old came_to → HasSet verdict held
    → (set : AdmittedRelease) × (held ≡ held_of source set) × (came_to ≡ Ok set)
set_of source old (Ok set) verdict held is has = (set, one (is_there source old set) is has, refl)
  where
    one : (c : Bool) → verdict ≡ (if c then Hit (held_of source set) else Installed (held_of source set)) → HasSet verdict held → held ≡ held_of source set
    one true is (inl e) = let both : Hit (held_of source set) ≡ Installed held = sym is ∙ e in absurd (cc)
    one true is (inr e) = let both : Hit (held_of source set) ≡ Hit held = sym is ∙ e in cc
    one false is (inl e) = let both : Installed (held_of source set) ≡ Installed held = sym is ∙ e in cc
    one false is (inr e) = let both : Installed (held_of source set) ≡ Hit held = sym is ∙ e in absurd (cc)
set_of source old (Err (Older date)) verdict held is (inl e) = let both : verdicts.Older date ≡ Installed held = sym is ∙ e in absurd (cc)
set_of source old (Err (Older date)) verdict held is (inr e) = let both : verdicts.Older date ≡ Hit held = sym is ∙ e in absurd (cc)
set_of source old (Err (Kept cause)) verdict held is (inl e) = let both : verdicts.Kept cause ≡ Installed held = sym is ∙ e in absurd (cc)
set_of source old (Err (Kept cause)) verdict held is (inr e) = let both : verdicts.Kept cause ≡ Hit held = sym is ∙ e in absurd (cc)

-- and that of an outcome with a set has one
pub has_set : (source : Source) (old : Old) (set : AdmittedRelease) (verdict : Verdict2) → verdict ≡ verdict_for source old (Ok set) → HasSet verdict (held_of source set)
has_set source old set verdict is = one (is_there source old set) is
  where
    one : (c : Bool) → verdict ≡ (if c then Hit (held_of source set) else Installed (held_of source set)) → HasSet verdict (held_of source set)
    one true is = inr is
    one false is = inl is

pub runs_hold_as_told : Finished → SetsAreAdmissible → RunsHoldAsTold
runs_hold_as_told laws sets together begun lists log commits n source verdict held begins run is told has =
    let left = runs_leave_outcomes laws together begun lists log commits run n source begins is in
    let came : HasOutcome begun run.heard n source left.came_to = left.came in
    let same : verdict ≡ came.verdict = same-verdict (slice_get log.verdicts n) verdict came.verdict told left.told in
    let set = set_of source came.former (outcome_at begun.config came.former came.comes.end came.comes.lists) verdict held (same ∙ came.comes.is) has in
    let from = (sets came.comes.end (map (λ (l : ListEnd). l.end) came.comes.lists) came.former.release begun.config.settings begun.config.change begun.config.now set.0).0 set.2 in
    record {
      set = set.0;
      told = set.1;
      holds = subst (λ (o : Outcome). OutcomeLeaves o source lists (after_all (commits_of commits) lists)) (sym came.is ∙ set.2) left.leaves;
      reads = from.1;
      admissible = subst (λ (o : Option (List ℕ)). IsAdmissible (set.0).release (installed_release o) begun.config.settings.dates begun.config.change begun.config.now)
          (begins.over.installed n source came.former came.stands).release from.2;
    }

pub runs_keep_others : Finished → RunsKeepOthers
runs_keep_others laws together begun lists log commits n source verdict begins run is told never =
    let left = runs_leave_outcomes laws together begun lists log commits run n source begins is in
    let came : HasOutcome begun run.heard n source left.came_to = left.came in
    let same : verdict ≡ came.verdict = same-verdict (slice_get log.verdicts n) verdict came.verdict told left.told in
    one left.came_to left.leaves came.former (same ∙ came.comes.is ∙ ap (verdict_for source came.former) came.is)
  where
    one : (o : Outcome) → OutcomeLeaves o source lists (after_all (commits_of commits) lists) → (old : Old) → verdict ≡ verdict_for source old o → Keeps source lists (after_all (commits_of commits) lists)
    one (Ok set) leaves old is = absurd (never (held_of source set) (has_set source old set verdict is))
    one (Err why) leaves old is = leaves
