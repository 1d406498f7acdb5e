-- What finished runs come to.
use Rattle.std.specs.Prelude.{◌≡◌, ◌⊎◌, ℕ, true, List, length, slice_get, Some, Ok}
use Rattle.acq_base.specs.Mirror.{MirrorMap}
use Rattle.acq_base.specs.Plan.{IsPlanned}
use Rattle.acq_base.specs.declared.installed.Old.{Old}
use Rattle.acq_base.specs.declared.plan.Source.{Source}
use Rattle.update_model.specs.Faults.{IsSetOf}
use Rattle.update_model.specs.Laws.{ListEnd as RouteEnd}
use Rattle.update_model.specs.Next.{OutcomeLeaves}
use Rattle.update_model.specs.Outcomes.{AdmittedRelease, Directory, Outcome, PartFiles, new_set}
use Rattle.update_model.specs.declared.end.End.{End}
use Rattle.update_model.specs.declared.settled.Held.{Held}
use Rattle.update_model.specs.declared.settled.Settled.{Settled}
use Rattle.update_model.specs.declared.settled.Verdict2.{Verdict2}
use Rattle.update_model.specs.declared.settled.Verdict2.TheVariants.{Installed, Hit}
use Rattle.board_model.specs.Agreeing.{Agrees, NoneIsDead}
use Rattle.board_model.specs.Boards.{Board, first_ready, is_finished, log_of, settled_of}
use Rattle.board_model.specs.Changes.{AreMade, IsInstalled}
use Rattle.board_model.specs.Ends.{ComesTo, verdict_for}
use Rattle.board_model.specs.Reached.{Reached}
use Rattle.board_model.specs.Runs.{Note}
use Rattle.board_model.specs.Settling.{held_of}
use Rattle.board_model.specs.Slots.{Setup}
use Rattle.board_model.specs.Stands.{history_of}

-- a source of the plan, with what is installed of it
pub record IsSourceAt (config : Setup) (olds : List Old) (n : ℕ) (source : Source) (old : Old) : Type 0 where
  pub source_is : slice_get config.sources n ≡ Some source
  pub old_is : slice_get olds n ≡ Some old

-- a directory and partial files are those with which a run begins
pub record IsBegunOver (config : Setup) (olds : List Old) (dir : Directory) (parts : PartFiles) : Type 0 where
  pub installed : (n : ℕ) (source : Source) (old : Old) → IsSourceAt config olds n source old → IsInstalled source old dir
  pub sizes : (name : List ℕ) → config.sizes name ≡ length (parts name)

-- what the log of a finished board tells of a source is what its items' routes come to
abbrev pub FinishedBoardsTell : Type 0
FinishedBoardsTell =
    (config : Setup) (olds : List Old) (notes : List Note) (b : Board) (n : ℕ) (source : Source) (old : Old)
    → Reached config olds notes b → is_finished b ≡ true → IsSourceAt config olds n source old
    → (verdict : Verdict2) × (slice_get (log_of b).verdicts n ≡ Some verdict) × ComesTo config n source old (history_of n notes) verdict

-- and where all that was heard was a mirror's, and no ask was given up, what the mirror has
abbrev pub FinishedBoardsTellMirrors : Type 0
FinishedBoardsTellMirrors =
    (config : Setup) (olds : List Old) (notes : List Note) (b : Board) (mirror : MirrorMap) (dir : Directory) (parts : PartFiles) (n : ℕ) (source : Source) (old : Old)
    → Reached config olds notes b → is_finished b ≡ true → IsSourceAt config olds n source old → IsBegunOver config olds dir parts
    → Agrees mirror parts config.sources notes → NoneIsDead config.settings.retries notes
    → slice_get (log_of b).verdicts n ≡ Some (verdict_for source old (new_set mirror dir parts source config.settings config.change config.now))

-- so two finished runs that agree with one mirror tell the same, in whatever order and over however many lanes they went
abbrev pub FinishedRunsAgree : Type 0
FinishedRunsAgree =
    (config : Setup) (olds : List Old) (notes notes' : List Note) (b b' : Board) (mirror : MirrorMap) (dir : Directory) (parts : PartFiles)
    → Reached config olds notes b → is_finished b ≡ true → Agrees mirror parts config.sources notes → NoneIsDead config.settings.retries notes
    → Reached config olds notes' b' → is_finished b' ≡ true → Agrees mirror parts config.sources notes' → NoneIsDead config.settings.retries notes'
    → IsBegunOver config olds dir parts
    → (n : ℕ) (source : Source) (old : Old) → IsSourceAt config olds n source old → slice_get (log_of b).verdicts n ≡ slice_get (log_of b').verdicts n

-- a source that is ready is settled with the verdict of an outcome, and its changes leave that under its names
abbrev pub ReadySourcesLeaveOutcomes : Type 0
ReadySourcesLeaveOutcomes =
    (config : Setup) (olds : List Old) (notes : List Note) (b : Board) (n : ℕ) (source : Source) (old : Old) (settled : Settled) (before after : Directory)
    → Reached config olds notes b → first_ready b.slots ≡ Some n → settled_of b n ≡ Some settled → IsSourceAt config olds n source old
    → IsPlanned source → IsInstalled source old before → AreMade source settled before after
    → (outcome : Outcome) × (settled.verdict ≡ verdict_for source old outcome) × OutcomeLeaves outcome source before after

-- ---- whatever is answered

-- a source has this set, new or as it was
abbrev pub HasSet : Verdict2 → Held → Type 0
HasSet verdict held = (verdict ≡ Installed held) ⊎ (verdict ≡ Hit held)

-- whatever was answered, the set that is told of a source is that of an admissible Release, with each list as this one names it
abbrev pub ToldSetsAreListed : Type 0
ToldSetsAreListed =
    (config : Setup) (olds : List Old) (notes : List Note) (b : Board) (dir : Directory) (parts : PartFiles) (n : ℕ) (source : Source) (old : Old) (verdict : Verdict2) (held : Held)
    → Reached config olds notes b → is_finished b ≡ true → IsSourceAt config olds n source old → IsBegunOver config olds dir parts
    → slice_get (log_of b).verdicts n ≡ Some verdict → HasSet verdict held
    → (set : AdmittedRelease) × (held ≡ held_of source set)
    × ((end : End) × ((lists : List RouteEnd) × IsSetOf dir source config.settings config.change config.now end lists set))

-- and where each answer that is no fault was a mirror's, it is the mirror's, whichever asks were given up
abbrev pub ToldSetsAreMirrors : Type 0
ToldSetsAreMirrors =
    (config : Setup) (olds : List Old) (notes : List Note) (b : Board) (mirror : MirrorMap) (dir : Directory) (parts : PartFiles) (n : ℕ) (source : Source) (old : Old) (verdict : Verdict2) (held : Held)
    → Reached config olds notes b → is_finished b ≡ true → IsSourceAt config olds n source old → IsBegunOver config olds dir parts
    → Agrees mirror parts config.sources notes
    → slice_get (log_of b).verdicts n ≡ Some verdict → HasSet verdict held
    → (set : AdmittedRelease) × (held ≡ held_of source set) × (new_set mirror dir parts source config.settings config.change config.now ≡ Ok set)
