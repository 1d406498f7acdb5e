-- What the sources of a run come to, and which lists they have then.
use Rattle.std.specs.Prelude.{◌≡◌, ◌⊎◌, ℕ, List, ◌++◌, map, slice_get, Some, Ok}
use Rattle.acq_base.specs.Mirror.{MirrorMap}
use Rattle.acq_base.specs.declared.installed.Old.{Old}
use Rattle.acq_base.specs.declared.plan.Source.{Source}
use Rattle.acq_outside.specs.Disk.{Files}
use Rattle.acq_outside.specs.Crash.{State, IsImage}
use Rattle.board_model.specs.Agreeing.{Agrees, NoneIsDead}
use Rattle.board_model.specs.Ends.{ComesTo, ListEnd, verdict_for}
use Rattle.board_model.specs.RunLaws.{IsSourceAt}
use Rattle.board_model.specs.Runs.{Note}
use Rattle.board_model.specs.Settling.{held_of}
use Rattle.board_model.specs.Slots.{Setup}
use Rattle.board_model.specs.Stands.{history_of}
use Rattle.journal_model.specs.Reopen.{reopened}
use Rattle.release_file.specs.Release.{release_of}
use Rattle.update_model.specs.Next.{HasWholeSet, Keeps, OutcomeLeaves}
use Rattle.update_model.specs.Outcomes.{AdmittedRelease, Outcome, new_set, outcome}
use Rattle.update_model.specs.Releases.{IsAdmissible, installed_release}
use Rattle.update_model.specs.declared.end.End.{End}
use Rattle.update_model.specs.declared.log.RunLog.{RunLog}
use Rattle.update_model.specs.declared.settled.Held.{Held}
use Rattle.update_model.specs.declared.settled.Verdict2.{Verdict2}
use Rattle.run_model.specs.Begun.{RunInput}

-- by the end of its Release and those of its lists
abbrev pub outcome_at : Setup → Old → End → List ListEnd → Outcome
outcome_at config old end lists = outcome end (map (λ l. l.end) lists) old.release config.settings config.change config.now

-- All items of a source had ended in routes when the first of what the run heard had been heard, and this is what their
-- ends come to.
pub record HasOutcome (begun : RunInput) (heard : List Note) (n : ℕ) (source : Source) (came_to : Outcome) : Type 0 where
  pub former : Old
  pub stands : IsSourceAt begun.config begun.olds n source former
  pub notes : List Note
  pub later : List Note
  pub so_far : heard ≡ notes ++ later
  pub verdict : Verdict2
  pub comes : ComesTo begun.config n source former (history_of n notes) verdict
  pub is : outcome_at begun.config former comes.end comes.lists ≡ came_to

-- the set that a source came to is under its names, whole
pub record HasNewSet (begun : RunInput) (heard : List Note) (n : ℕ) (source : Source) (after : Files) : Type 0 where
  pub set : AdmittedRelease
  pub came : HasOutcome begun heard n source (Ok set)
  pub holds : HasWholeSet after source set

-- each source has what it had under its names, or the new set, whole
abbrev pub SourcesAreWhole : RunInput → List Note → Files → Files → Type 0
SourcesAreWhole begun heard lists after =
    (n : ℕ) (source : Source) → slice_get begun.config.sources n ≡ Some source → Keeps source lists after ⊎ HasNewSet begun heard n source after

-- and whatever a crash leaves is opened again as such lists
pub record ReopensToWholeSets (begun : RunInput) (heard : List Note) (lists image : Files) : Type 0 where
  pub after : Files
  pub is : reopened image ≡ Some after
  pub sources : SourcesAreWhole begun heard lists after

abbrev pub CrashLeavesWholeSets : RunInput → List Note → Files → State → Type 0
CrashLeavesWholeSets begun heard lists s = (image : Files) → IsImage s image → ReopensToWholeSets begun heard lists image

-- A source's outcome, by all that was heard, is told in the log, and left under its names: the new set, or what was there.
pub record LogsAndLeavesOutcome (begun : RunInput) (heard : List Note) (n : ℕ) (source : Source) (log : RunLog) (lists after : Files) : Type 0 where
  pub came_to : Outcome
  pub came : HasOutcome begun heard n source came_to
  pub all : came.notes ≡ heard
  pub told : slice_get log.verdicts n ≡ Some came.verdict
  pub leaves : OutcomeLeaves came_to source lists after

-- Under a source's names is just what is told of it: a Release of this sum and date that may be installed beside the former
-- one, and each list that this names, of the sum that it lists, and no other.
pub record HasSetAsLogged (begun : RunInput) (source : Source) (held : Held) (lists after : Files) : Type 0 where
  pub set : AdmittedRelease
  pub told : held ≡ held_of source set
  pub holds : HasWholeSet after source set
  pub reads : release_of set.bytes ≡ Ok set.release
  pub admissible : IsAdmissible set.release (installed_release (lists source.release_name.0)) begun.config.settings.dates begun.config.change begun.config.now

-- what a mirror has for a source beside what the run begins with
abbrev pub mirrored : MirrorMap → RunInput → Files → Source → Outcome
mirrored mirror begun lists source = new_set mirror lists begun.parts source begun.config.settings begun.config.change begun.config.now

-- each answer that a run heard was the mirror's, or a fault, and none of its asks was given up
pub record HeardMirrorFully (mirror : MirrorMap) (begun : RunInput) (heard : List Note) : Type 0 where
  pub agrees : Agrees mirror begun.parts begun.config.sources heard
  pub lives : NoneIsDead begun.config.settings.retries heard

-- what the mirror has for a source is told in the log, and left under its names: the new set, or what was there
pub record LeavesMirrored (mirror : MirrorMap) (begun : RunInput) (n : ℕ) (source : Source) (log : RunLog) (lists after : Files) : Type 0 where
  pub former : Old
  pub stands : IsSourceAt begun.config begun.olds n source former
  pub told : slice_get log.verdicts n ≡ Some (verdict_for source former (mirrored mirror begun lists source))
  pub leaves : OutcomeLeaves (mirrored mirror begun lists source) source lists after

-- the mirror's set is told of a source, and lies under its names
pub record HasMirrorsSet (mirror : MirrorMap) (begun : RunInput) (source : Source) (held : Held) (lists after : Files) : Type 0 where
  pub set : AdmittedRelease
  pub is : mirrored mirror begun lists source ≡ Ok set
  pub told : held ≡ held_of source set
  pub holds : HasWholeSet after source set
