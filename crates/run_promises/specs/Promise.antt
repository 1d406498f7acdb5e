-- What a run promises, in the words of those who keep lists.
use Rattle.std.specs.Prelude.{◌≡◌, ◌≤◌, ◌⊎◌, ◌==◌, ◌&&◌, ◌+◌, ℕ, Bool, true, false, List, [], ◌∷◌, slice_get, Some, Ok}
use Rattle.std.specs.List.{AllByRecursion as Each}
use Rattle.acq_base.specs.Mirror.{MirrorMap}
use Rattle.acq_base.specs.Uri.{same_uri}
use Rattle.acq_base.specs.declared.fetch.NotServed.TheVariants.{Moved, Absent, TooBig, Garbled, Fault}
use Rattle.acq_base.specs.declared.plan.Source.{Source}
use Rattle.acq_base.specs.declared.uri.Uri.{Uri}
use Rattle.acq_outside.specs.Count.{Rose}
use Rattle.acq_outside.specs.Crash.{State, IsImage, reads}
use Rattle.acq_outside.specs.Disk.{Files}
use Rattle.acq_outside.specs.States.{From, Since, ToldAs}
use Rattle.board_model.specs.Jobs.{one_if}
use Rattle.board_model.specs.RunLaws.{HasSet}
use Rattle.board_model.specs.Runs.{Note}
use Rattle.journal_model.specs.Reopen.{ReopensAsAt, installed_now, reopened}
use Rattle.journal_model.specs.Rest.{IsAtRest, IsSynced}
use Rattle.list_commits.specs.Loose.{NoneIsLoose}
use Rattle.release_file.specs.Release.{release_of}
use Rattle.run_jobs.specs.Mirrors.{ForMirror}
use Rattle.run_model.specs.Begun.{RunInput}
use Rattle.run_model.specs.Coming.{HasSetAsLogged, LeavesMirrored, mirrored}
use Rattle.run_model.specs.Runs.{cleans_up, installed_by}
use Rattle.update_engine.specs.Run.{Engine, HasOpenedJournal, IsConfiguredBy, IsLogOfBoard, IsReadFromDisk, IsTaken, KeepsAside, KeepsMethods, LogIsTrue, Run, SurvivesCrash}
use Rattle.update_model.specs.Next.{HasWholeSet, IsNext, Keeps}
use Rattle.update_model.specs.Outcomes.{AdmittedRelease}
use Rattle.update_model.specs.Releases.{IsAdmissible, installed_release}
use Rattle.update_model.specs.declared.log.Asked.{Asked}
use Rattle.update_model.specs.declared.log.Heard.{Heard}
use Rattle.update_model.specs.declared.log.Heard.TheVariants.{Served, Not}
use Rattle.update_model.specs.declared.log.RunLog.{RunLog}
use Rattle.update_model.specs.declared.settled.Held.{Held}
use Rattle.update_model.specs.declared.settled.Verdict2.{Verdict2}

-- the disk tells and was synced
abbrev pub WasSynced : Engine → Type 0
WasSynced before = ToldAs IsSynced before.trace

-- with what a run begins that reads these lists
pub record ReadsLists (run : Run) (entry : List State) (begun : RunInput) : Type 0 where
  pub opened : List State
  pub opens : HasOpenedJournal entry opened
  pub of_run : IsConfiguredBy run begun
  pub read : IsReadFromDisk entry opened begun

-- ---- a stop at any moment

-- the Release of these bytes, which may be installed beside the former one
pub record MayBeInstalled (run : Run) (former : Files) (source : Source) (set : AdmittedRelease) : Type 0 where
  pub reads : release_of set.bytes ≡ Ok set.release
  pub admissible : IsAdmissible set.release (installed_release (former source.release_name.0)) run.settings.dates run.change run.moment

-- under a source's names lies a new set, whole
pub record HasNew (IsNew : Source → AdmittedRelease → Type 0) (source : Source) (lists : Files) : Type 0 where
  pub set : AdmittedRelease
  pub is_new : IsNew source set
  pub holds : HasWholeSet lists source set

-- It is opened again as lists in which each source has what it had, or a new set, whole.
pub record HasSets (run : Run) (IsNew : Source → AdmittedRelease → Type 0) (former image : Files) : Type 0 where
  pub lists : Files
  pub is : reopened image ≡ Some lists
  pub sources : Each (λ source. Keeps source former lists ⊎ HasNew IsNew source lists) run.plan.sources

-- so it is, whatever a crash leaves
abbrev pub StopLeavesWholeSets : Run → (Source → AdmittedRelease → Type 0) → Files → State → Type 0
StopLeavesWholeSets run IsNew former s = (image : Files) → IsImage s image → HasSets run IsNew former image

-- Up to one moment a crash leaves what it left at entry, and at each moment since then it leaves such lists.
pub record StopsWith (run : Run) (IsNew : Source → AdmittedRelease → Type 0) (entry opened now : List State) : Type 0 where
  pub until : Since entry opened (From ReopensAsAt entry)
  pub since : Since opened now (StopLeavesWholeSets run IsNew (installed_now entry))

-- with sets that may be installed
abbrev pub StopKeepsSets : Run → Engine → Engine → Type 0
StopKeepsSets run before after =
    (opened : List State) × StopsWith run (MayBeInstalled run (installed_now before.trace)) before.trace opened after.trace

abbrev pub RunsStopWithSets : Type 0
RunsStopWithSets = (run : Run) (before after : Engine) → SurvivesCrash run before after → WasSynced before → StopKeepsSets run before after

-- the set that a mirror's answers define, with the lists on their way that stood there at that moment
pub record IsServed (run : Run) (mirror : MirrorMap) (entry opened : List State) (source : Source) (set : AdmittedRelease) : Type 0 where
  pub begun : RunInput
  pub reads : ReadsLists run entry begun
  pub same : reads.opened ≡ opened
  pub is : mirrored mirror begun (installed_now entry) source ≡ Ok set

-- over one mirror that all methods tell, with its sets
abbrev pub StopsOverMirror : Run → Engine → Engine → Type 0
StopsOverMirror run before after = ForMirror before.mirrors (λ mirror.
    (opened : List State) × StopsWith run (IsServed run mirror before.trace opened) before.trace opened after.trace)

abbrev pub RunsStopAsServed : Type 0
RunsStopAsServed = (run : Run) (before after : Engine) → SurvivesCrash run before after → WasSynced before → StopsOverMirror run before after

-- ---- what a log tells

-- What lies beside the lists and the journal stays since the journal was open, each list on its way as it was or as an answer
-- left it, but for those of sources that are told as installed; and where names of no source go, none of them is left,
-- neither a list nor one on its way.
pub record FolderMatchesLog (run : Run) (begun : RunInput) (opened now : List State) (log : RunLog) : Type 0 where
  pub heard : List Note
  pub tells : IsLogOfBoard begun heard log
  pub aside : KeepsAside run.plan.sources (IsTaken run.plan.sources (installed_by log) (cleans_up run.settings log.verdicts)) heard opened now
  pub gone : cleans_up run.settings log.verdicts ≡ true → ToldAs (λ s. NoneIsLoose run.plan.sources (reads s)) now

-- The disk is at rest, and reads give, as whatever a crash leaves does, these lists: a source that is told to have a set has
-- just that under its names, and each other one its former files.
pub record ListsMatchLog (run : Run) (entry now : List State) (log : RunLog) : Type 0 where
  pub begun : RunInput
  pub reads : ReadsLists run entry begun
  pub lists : Files
  pub rests : ToldAs (IsAtRest lists) now
  pub holds : (n : ℕ) (source : Source) (verdict : Verdict2) (held : Held) → slice_get run.plan.sources n ≡ Some source → slice_get log.verdicts n ≡ Some verdict
      → HasSet verdict held → HasSetAsLogged begun source held (installed_now entry) lists
  pub keeps : (n : ℕ) (source : Source) (verdict : Verdict2) → slice_get run.plan.sources n ≡ Some source → slice_get log.verdicts n ≡ Some verdict
      → ((held : Held) → HasSet verdict held → ⊥) → Keeps source (installed_now entry) lists
  pub folder : FolderMatchesLog run begun reads.opened now log

abbrev pub RunsEndAsTold : Type 0
RunsEndAsTold =
    (run : Run) (before after : Engine) (log : RunLog) → LogIsTrue run before after log → WasSynced before → ListsMatchLog run before.trace after.trace log

-- ---- over a mirror

-- some count rose
abbrev pub SomeRose : List ℕ → List ℕ → Type 0
SomeRose (before ∷ befores) (after ∷ afters) = Rose before after ⊎ SomeRose befores afters
SomeRose befores afters = ⊥

-- a fault of a method
abbrev pub is_fault : Heard → Bool
is_fault (Served sum) = false
is_fault (Not (Moved place)) = false
is_fault (Not (Absent status)) = false
is_fault (Not TooBig) = false
is_fault (Not (Garbled at)) = false
is_fault (Not (Fault before after)) = true

-- how many faults these entries tell of a source at a URI
abbrev pub faults_told_of : ℕ → Uri → List Asked → ℕ
faults_told_of source uri [] = 0
faults_told_of source uri (asked ∷ asks) = one_if (asked.source == source && (same_uri asked.uri uri && is_fault asked.heard)) + faults_told_of source uri asks

-- no more of any than are asked again
abbrev pub NoneIsGivenUp : ℕ → List Asked → Type 0
NoneIsGivenUp retries asks = (source : ℕ) (uri : Uri) → faults_told_of source uri asks ≤ retries

-- The disk is at rest with the lists that are next over those that stood at entry: of each source the set that the mirror's
-- answers define, or what it had, with the lists on their way that stood there once the journal was open. The log tells that.
pub record ListsMatchMirror (run : Run) (mirror : MirrorMap) (entry now : List State) (log : RunLog) : Type 0 where
  pub begun : RunInput
  pub reads : ReadsLists run entry begun
  pub lists : Files
  pub rests : ToldAs (IsAtRest lists) now
  pub next : IsNext mirror (installed_now entry) begun.parts run.plan run.settings run.change run.moment lists
  pub told : (n : ℕ) (source : Source) → slice_get run.plan.sources n ≡ Some source → LeavesMirrored mirror begun n source log (installed_now entry) lists

-- Where no fetch was given up the lists end so, and none was where no method failed.
pub record EndsAsServed (run : Run) (mirror : MirrorMap) (before after : Engine) (log : RunLog) : Type 0 where
  pub lists : NoneIsGivenUp run.settings.retries log.asks → ListsMatchMirror run mirror before.trace after.trace log
  pub quiet : SomeRose before.faults after.faults ⊎ NoneIsGivenUp run.settings.retries log.asks

-- over one mirror that all methods tell, and a disk that tells and was synced
abbrev pub EndsOverMirror : Run → Engine → Engine → RunLog → Type 0
EndsOverMirror run before after log = ForMirror before.mirrors (λ mirror. WasSynced before → EndsAsServed run mirror before after log)

-- a run that answers a log does
abbrev pub RunsEndAsServed : Type 0
RunsEndAsServed = (run : Run) (before after : Engine) (log : RunLog) → KeepsMethods before after → LogIsTrue run before after log → EndsOverMirror run before after log
