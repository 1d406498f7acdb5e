-- A run between two of its steps: its board, the disk and the methods.
use Rattle.std.specs.Prelude.{◌≡◌, ◌≤◌, ℕ, All, List, length, Option}
use Rattle.std.specs.List.{flat_map, AllByRecursion as Each}
use Rattle.acq_base.specs.Mirror.{MirrorMap}
use Rattle.acq_base.specs.Plan.{IsPlanned, names_of}
use Rattle.acq_base.specs.declared.installed.Old.{Old}
use Rattle.acq_base.specs.declared.plan.Source.{Source}
use Rattle.acq_outside.specs.Crash.{State, reads}
use Rattle.acq_outside.specs.States.{IsNow, IsTold}
use Rattle.board_bounds.specs.Fetching.{LeadSoundly}
use Rattle.board_model.specs.Agreeing.{IsMirrors}
use Rattle.board_model.specs.Boards.{Board}
use Rattle.board_model.specs.NameLaws.{AreNamedApart}
use Rattle.board_model.specs.ReadAnew.{StandsOn}
use Rattle.board_model.specs.Reached.{Reached}
use Rattle.board_model.specs.Runs.{Note}
use Rattle.board_model.specs.Slots.{Setup}
use Rattle.board_model.specs.Uses.{wanted_part}
use Rattle.lists_dir.specs.Installed.{installed_of}
use Rattle.update_model.specs.Outcomes.{PartFiles}
use Rattle.update_model.specs.declared.ask.Body.TheVariants.{Bytes, Staged}
use Rattle.update_model.specs.declared.ask.Closed.{Closed}
use Rattle.update_model.specs.declared.ask.Closed.TheVariants.{Served, Not}
use Rattle.run_jobs.specs.Coupling.{HasWantedParts}
use Rattle.run_jobs.specs.Counting.{FaultsRise}
use Rattle.run_jobs.specs.Mirrors.{ForMirror}

-- What a run was begun with: the board's configuration, what was installed, the lists on their way, and the methods' mirrors
-- and counts of faults.
pub record RunStart : Type 0 where
  pub config : Setup
  pub olds : List Old
  pub parts : PartFiles
  pub mirrors : List (Option MirrorMap)
  pub counts : List ℕ

-- the plan is sound, and the sizes are those of the lists on their way
pub record IsSoundBegun (begun : RunStart) : Type 0 where
  pub planned : All IsPlanned begun.config.sources
  pub apart : AreNamedApart begun.config
  pub few : length (flat_map names_of begun.config.sources) ≤ 4096
  pub sizes : (name : List ℕ) → begun.config.sizes name ≡ length (begun.parts name)

-- a list's file on its way is known where the disk tells, and any other answer anyhow
abbrev pub IsKnownOver : List State → Closed → Type 0
IsKnownOver now (Served (Staged sum)) = IsTold now
IsKnownOver now (Served (Bytes bytes)) = Unit {0}
IsKnownOver now (Not end) = Unit {0}

-- each answer that is known is the mirror's to what was asked, or a fault
abbrev pub AgreesWhereKnown : List State → MirrorMap → PartFiles → List Source → List Note → Type 0
AgreesWhereKnown now mirror parts sources notes = Each (λ note. IsKnownOver now note.told.closed → IsMirrors mirror parts sources note) notes

-- A run has heard these notes: calls have led to the board, beside what was installed, which is what the run began with where the
-- disk tells, and each answer that is known is the mirror's, where all methods tell one, or a fault.
pub record RunHasHeard (begun : RunStart) (notes : List Note) (b : Board) (now : List State) : Type 0 where
  pub config : b.config ≡ begun.config
  pub olds : List Old
  pub same : IsTold now → olds ≡ begun.olds
  pub reached : Reached begun.config olds notes b
  pub sound : LeadSoundly notes
  pub answers : ForMirror begun.mirrors (λ mirror. AgreesWhereKnown now mirror begun.parts begun.config.sources notes)

-- The methods have counted up to here, and the faults that the board has heard are those that they counted.
pub record HasCounted (begun : RunStart) (counts : List ℕ) (b : Board) : Type 0 where
  pub sized : length counts ≡ length begun.counts
  pub faults : FaultsRise begun.counts counts b.asks

-- A run between two of its steps: what the board wants of the lists on their way is there, and where the disk tells, it has of
-- each source whose Release is asked for what the board knows as installed.
pub record IsUnderWay (begun : RunStart) (notes : List Note) (b : Board) (now : List State) : Type 0 where
  pub heard : RunHasHeard begun notes b now
  pub uses : HasWantedParts (wanted_part b) begun.parts now
  pub lists : IsNow (λ s. StandsOn (installed_of (reads s)) b) now

-- nothing else of a board has changed than what its items have heard
pub record SameBoard (before after : Board) : Type 0 where
  pub config : after.config ≡ before.config
  pub settled : after.settled ≡ before.settled
  pub verdicts : after.verdicts ≡ before.verdicts
