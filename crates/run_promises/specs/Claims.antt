-- What the log of a run shows of each source, and what holds of a source that a mirror serves whole.
use Rattle.std.specs.Prelude.{◌≡◌, ◌⊎◌, ◌≤◌, ℕ, suc, ◌+◌, ◌*◌, Any, Contains, List, [], length, slice_get, Some, None, Ok}
use Rattle.std.specs.List.{AllByRecursion as Each}
use Rattle.acq_base.specs.Mirror.{MirrorMap}
use Rattle.acq_base.specs.declared.installed.Old.{Old}
use Rattle.acq_base.specs.declared.plan.Source.{Source}
use Rattle.acq_base.specs.declared.plan.Target.{Target}
use Rattle.acq_outside.specs.Crash.{State, IsImage, IsSound, after}
use Rattle.acq_outside.specs.Disk.{Files}
use Rattle.acq_outside.specs.States.{From, IsLeftWithin, Since, ToldAs}
use Rattle.acq_outside.specs.declared.change.DiskCall.{DiskCall}
use Rattle.board_bounds.specs.Sources.{asks_of, release_heard, trails_of}
use Rattle.board_model.specs.CauseLaws.{IsLast, IsShown, ending_of}
use Rattle.board_model.specs.Ends.{ComesTo}
use Rattle.board_model.specs.Keys.{keys_from}
use Rattle.board_model.specs.RunLaws.{HasSet, IsSourceAt}
use Rattle.board_model.specs.Runs.{Note}
use Rattle.board_model.specs.Settling.{held_of}
use Rattle.board_model.specs.Stands.{entries_of, history_of}
use Rattle.commit_journal.specs.Opening.{damage_of}
use Rattle.journal_model.specs.Reopen.{CrashLeaves, ReopensAsAt, installed_now}
use Rattle.run_jobs.specs.Mirrors.{ForMirror}
use Rattle.run_model.specs.Asked.{IsListed}
use Rattle.run_model.specs.Begun.{RunInput}
use Rattle.run_promises.specs.Promise.{HasNew, HasSets, MayBeInstalled, NoneIsGivenUp, ReadsLists, StopLeavesWholeSets, WasSynced}
use Rattle.update_engine.specs.Run.{Engine, IsConfiguredBy, LogIsTrue, Run, StopsForMemory, SurvivesCrash}
use Rattle.update_model.specs.Laws.{IsFileOf}
use Rattle.update_model.specs.Next.{Keeps}
use Rattle.update_model.specs.Obtained.{reached_files}
use Rattle.update_model.specs.Outcomes.{AdmittedRelease, PartFiles, new_set}
use Rattle.update_model.specs.Releases.{obtain_release, release_end}
use Rattle.update_model.specs.Wanted.{wanted_of}
use Rattle.update_model.specs.declared.ask.Body.TheVariants.{Bytes}
use Rattle.update_model.specs.declared.end.End.TheVariants.{Got}
use Rattle.update_model.specs.declared.log.RunLog.{RunLog}
use Rattle.update_model.specs.declared.settled.Held.{Held}
use Rattle.update_model.specs.declared.settled.Verdict2.{Verdict2}

-- ---- one source

-- Its items have ended in routes, whose entries are those of the log, and the verdict that is told is that of their ends,
-- which the last answers show. Of its lists just those were asked for that its Release names. The log has few entries of it:
-- one trail for InRelease, one for Release, and for each list four and one more for each patch; a trail has at most 11 places,
-- each asked once and again after as many faults as are retried.
pub record ShowsSource (begun : RunInput) (heard : List Note) (log : RunLog) (n : ℕ) (source : Source) (old : Old) : Type 0 where
  pub verdict : Verdict2
  pub told : slice_get log.verdicts n ≡ Some verdict
  pub comes : ComesTo begun.config n source old (history_of n heard) verdict
  pub release_shown : (note : Note) × IsLast note (history_of n heard 0) × (comes.end ≡ release_end (ending_of note.told))
  pub lists_shown : Each (IsShown (history_of n heard)) comes.lists
  pub others : (k : ℕ) (target : Target) → slice_get source.targets k ≡ Some target → (history_of n heard (suc k) ≡ []) ⊎ IsListed begun.config old source target (history_of n heard 0)
  pub few : length (asks_of n log.asks)
      ≤ 11 * (begun.config.settings.retries + 1) * (2 + trails_of begun.config source old (release_heard begun.config source old (history_of n heard 0)) (history_of n heard) 1 source.targets)

-- ---- a run

-- The log is what items of the plan heard, and no other entry is there; and it shows each source, beside what was installed of
-- it when the run began, as a disk that tells and was synced gives it.
pub record ShowsRun (run : Run) (before : Engine) (log : RunLog) : Type 0 where
  pub begun : RunInput
  pub of_run : IsConfiguredBy run begun
  pub each : length begun.olds ≡ length run.plan.sources
  pub reads : WasSynced before → ReadsLists run before.trace begun
  pub heard : List Note
  pub entries : log.asks ≡ entries_of heard
  pub items : Each (λ note. Contains (keys_from 0 run.plan.sources) note.key) heard
  pub sources : (n : ℕ) (source : Source) (old : Old) → IsSourceAt begun.config begun.olds n source old → ShowsSource begun heard log n source old

-- so does each log that a run answers
abbrev pub LogsShowRuns : Type 0
LogsShowRuns = (run : Run) (before after : Engine) (log : RunLog) → LogIsTrue run before after log → ShowsRun run before log

-- ---- a source that is served whole

-- A mirror serves as InRelease or Release one that may be installed beside the former, and of each list that this names as
-- wanted bytes of the listed sum at one of the list's URIs.
pub record Serves (run : Run) (mirror : MirrorMap) (former : Files) (source : Source) : Type 0 where
  pub set : AdmittedRelease
  pub reached : obtain_release mirror source ≡ Got (Bytes set.bytes)
  pub may : MayBeInstalled run former source set
  pub lists : Each (λ w. Any (IsFileOf w.sum) (reached_files mirror w)) (wanted_of source set.release run.settings)

-- it has a new set for the source, whatever lists are on their way
abbrev pub ServedSourcesHaveSets : Type 0
ServedSourcesHaveSets =
    (run : Run) (mirror : MirrorMap) (former : Files) (parts : PartFiles) (source : Source) (serves : Serves run mirror former source)
    → new_set mirror former parts source run.settings run.change run.moment ≡ Ok serves.set

-- the log tells this set of the source, new or as it was
pub record TellsSet (log : RunLog) (n : ℕ) (held : Held) : Type 0 where
  pub verdict : Verdict2
  pub told : slice_get log.verdicts n ≡ Some verdict
  pub has : HasSet verdict held

-- of each source that is served whole it tells the served set
abbrev pub TellsServed : Run → MirrorMap → Files → RunLog → Type 0
TellsServed run mirror former log = (n : ℕ) (source : Source) → slice_get run.plan.sources n ≡ Some source → (serves : Serves run mirror former source) → TellsSet log n (held_of source serves.set)

-- over one mirror that all methods tell, and a disk that tells and was synced, where no fetch was given up
abbrev pub TellsServedOverMirror : Run → Engine → RunLog → Type 0
TellsServedOverMirror run before log = ForMirror before.mirrors (λ mirror.
    WasSynced before → NoneIsGivenUp run.settings.retries log.asks → TellsServed run mirror (installed_now before.trace) log)

-- a run that answers a log does
abbrev pub RunsTellServed : Type 0
RunsTellServed = (run : Run) (before after : Engine) (log : RunLog) → LogIsTrue run before after log → TellsServedOverMirror run before log

-- ---- a stop at any moment

-- whatever a crash leaves, its journal is not damaged
abbrev pub LeavesUndamaged : State → Type 0
LeavesUndamaged s = (image : Files) → IsImage s image → damage_of image ≡ None

-- Up to one moment a crash leaves what it left at entry, and at each moment since then a journal that is not damaged. So one
-- that is was found so by the call.
abbrev pub StopsUndamaged : Engine → Engine → Type 0
StopsUndamaged before after = (opened : List State) × Since before.trace opened (From ReopensAsAt before.trace) × Since opened after.trace LeavesUndamaged

-- so it is, whatever a run answers
abbrev pub RunsStopUndamaged : Type 0
RunsStopUndamaged = (run : Run) (before after : Engine) → SurvivesCrash run before after → WasSynced before → StopsUndamaged before after

-- Whatever a crash leaves is opened again as the same lists, in which each source has what it had, or a new set, whole.
pub record LeavesSameLists (run : Run) (former : Files) (s : State) : Type 0 where
  pub lists : Files
  pub leaves : CrashLeaves lists s
  pub sources : Each (λ source. Keeps source former lists ⊎ HasNew (MayBeInstalled run former) source lists) run.plan.sources

-- So it is once memory has run out; before the journal was open a crash leaves what it left at entry.
abbrev pub StopsOnSameLists : Run → Engine → Engine → Type 0
StopsOnSameLists run before after = Since before.trace after.trace (From ReopensAsAt before.trace) ⊎ ToldAs (LeavesSameLists run (installed_now before.trace)) after.trace

abbrev pub RunsStopOnSameLists : Type 0
RunsStopOnSameLists = (run : Run) (before after : Engine) → StopsForMemory run before.mirrors before.trace after.trace → WasSynced before → StopsOnSameLists run before after

-- a stop in the midst of a call of the disk leaves each source a whole set, where one before the call and one behind it do
abbrev pub StopsWithinCalls : Type 0
StopsWithinCalls =
    (run : Run) (former : Files) (s : State) (call : DiskCall) (image : Files) → IsSound s
    → StopLeavesWholeSets run (MayBeInstalled run former) former s → StopLeavesWholeSets run (MayBeInstalled run former) former (after s call)
    → IsLeftWithin s call image → HasSets run (MayBeInstalled run former) former image
